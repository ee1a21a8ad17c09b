use Rattle.std.proofs.lemmas.Result.{err_from_is_err_and}
use Rattle.std.proofs.Common.{Err, refl, ap, length-append, ◌+◌, ◌≡◌, ◌<◌, arith, length, sym, subst, ◌∙◌, ◌++◌, ◌∷◌, [], List, ℕ, append_assoc}
use Rattle.cedarwood.specs.WatchedDevice.{device_of, has_failed}
use Rattle.cedar_cli.specs.Command.{bad_line_of, order_of}
use Rattle.cedar_cli.specs.Reports.{Continues}
use Rattle.cedar_cli.specs.Script.{LineMayLackMemory, Obeys, Disobeys, Advances, Stops}
use Rattle.cedar_cli.specs.View.{view_of}
use Rattle.cedar_cli.specs.declared.script.ScriptError.TheVariants.{Memory}
use Rattle.cedar_cli.proofs.BlockCounts.{no_blocks, within_more}
use Rattle.cedar_cli.proofs.Bytes.{line_done, line_left, may_stop, not_begun, that_fault}
use Rattle.cedar_cli.proofs.Runs.{short_line}
use Rattle.cedar_cli.proofs.Newlines.{long_line_stop, open_append, taken_on_ok, stopped_on_err}
use Rattle.cedar_cli.proofs.Faults.{fault_on, memory_fault, memory_no_limit, no_success, ok_no_fault, writers_unfailed}
use Rattle.cedarwood.proofs.GeneralLemmas.{on_ok}
use Rattle.cedar_cli.proofs.script.end_line.Goals as goal

pub returns-then-is_empty : goal.returns-then-is_empty
returns-then-is_empty g c =
    let slots = g.row.SLOTS in
    let line = c.args.line.now.items in
    let piece = c.args.piece.now in
    let before = c.args.trie.now in
    let after = c.answer_with_room.new.trie in
    let old = view_of g.L.Layout.kind before in
    let new = view_of g.L.Layout.kind after in
    let held = g.W.Write.contents (device_of c.args.writer.now) in
    let holds = g.W.Write.contents (device_of c.answer_with_room.new.writer) in
    let answered = c.answer_with_room.ensures in
    let len : length line ≡ c.args.line.now.len = omega (arith, c.args.line.now.ok.0) in
    let none : line ≡ [] = short_line line c.args.line.now.len len (sym c.is_empty.ensures ∙ c.if-is_empty.true) in
    record {
      empty = on_ok c.answer_with_room.result none;
      kept = (c.requires.room.0, answered.kept);
      ok = rw none (taken_on_ok c.answer_with_room.result old new held holds piece c.requires.open_piece answered.answer.ok);
      err = rw none (stopped_on_err slots after c.answer_with_room.result old new held holds piece c.requires.open_piece answered.memory answered.answer.err);
      faults = answered.faults;
      limit = answered.limit;
      blocks = within_more (length piece) (length line + length piece) before after (omega arith) answered.blocks;
      max_trial = answered.max_trial;
      told = rw none answered.told;
    }

pub returns-in_default : goal.returns-in_default
returns-in_default g c =
    let line = c.args.line.now.items in
    let piece = c.args.piece.now in
    let d = c.args.trie.now in
    let room = c.requires.room.0 in
    let full = c.in_default.ensures.full in
    let long : 8192 < length (line ++ piece) = omega (arith, room, full, c.args.line.now.ok.0, length-append line piece) in
    record {
      empty = tt;
      kept = ((let grown = c.extend_from_slice.ensures.capacity in omega (arith, room, grown)), c.requires.room.1);
      ok = tt;
      err = not_begun g.row.SLOTS d Memory (view_of g.L.Layout.kind d) (g.W.Write.contents (device_of c.args.writer.now)) (line ++ (piece ++ 10 ∷ []))
          (λ rest. long_line_stop g.row.SLOTS d line piece rest c.requires.«open» c.requires.open_piece long);
      faults = memory_fault (has_failed c.args.writer.now);
      limit = λ same. memory_no_limit same;
      blocks = no_blocks (length line + length piece) d;
      max_trial = refl;
      told = tt;
    }

pub returns-in_err-answer_with_room : goal.returns-in_err-answer_with_room
returns-in_err-answer_with_room g c =
    let slots = g.row.SLOTS in
    let fault = c.in_err-answer_with_room.field-0.0 in
    let before = c.args.trie.now in
    let after = c.answer_with_room-2.new.trie in
    let old = view_of g.L.Layout.kind before in
    let new = view_of g.L.Layout.kind after in
    let held = g.W.Write.contents (device_of c.args.writer.now) in
    let holds = g.W.Write.contents (device_of c.answer_with_room-2.new.writer) in
    let line = c.args.line.now.items in
    let piece = c.args.piece.now in
    let whole : c.as_slice.result.now ≡ line ++ piece = c.as_slice.ensures.value ∙ c.in-Ok.ensures.items in
    let left : Disobeys fault (order_of (line ++ piece)) old new held holds = subst (λ (l : List ℕ). Disobeys fault (order_of l) old new held holds) whole c.in_err-answer_with_room.ensures.answer.err in
    let p = err_from_is_err_and c.from_residual.result c.from_residual.ensures.1 in
    let is : c.from_residual.result ≡ Err fault = cc (p.1, p.2) in
    let was : c.answer_with_room-2.result ≡ Err fault = cc (c.in_err-answer_with_room.was) in
    let same : c.answer_with_room-2.result ≡ c.from_residual.result = was ∙ sym is in
    let may : c.answer_with_room-2.result ≡ Err Memory → LineMayLackMemory slots (line ++ piece) after =
    λ starved. subst (λ (l : List ℕ). LineMayLackMemory slots l after) whole (c.answer_with_room-2.ensures.memory starved) in
    record {
      empty = no_success _ c.from_residual.result p.0 p.1;
      kept = ((let room = c.requires.room.0 in let grown = c.extend_from_slice.ensures.capacity in omega (arith, room, grown)), c.answer_with_room-2.ensures.kept);
      ok = no_success _ c.from_residual.result p.0 p.1;
      err = that_fault _ c.from_residual.result fault is (subst (Stops slots after fault old new held holds) (append_assoc line piece (10 ∷ []))
          (line_left slots after fault old new held holds (line ++ piece) (open_append line piece c.requires.«open» c.requires.open_piece)
          (λ lines. may_stop slots after (line ++ piece) lines c.answer_with_room-2.result fault was may) left));
      faults = fault_on (has_failed c.args.writer.now) (has_failed c.answer_with_room-2.new.writer) c.answer_with_room-2.result c.from_residual.result same c.answer_with_room-2.ensures.faults;
      limit = λ full. c.answer_with_room-2.ensures.limit (same ∙ full);
      blocks = within_more (length c.as_slice.result.now) (length line + length piece) before after (let equal = ap length whole in omega (arith, equal, length-append line piece)) c.answer_with_room-2.ensures.blocks;
      max_trial = c.answer_with_room-2.ensures.max_trial;
      told = no_success _ c.from_residual.result p.0 p.1;
    }

pub returns : goal.returns
returns g c = record {
  empty = c.clear.ensures.items;
  kept = (
    (let room = c.requires.room.0 in let grown = c.extend_from_slice.ensures.capacity in let kept = c.clear.ensures.capacity in omega (arith, room, grown, kept)),
    c.answer_with_room-2.ensures.kept,
  );
  ok = let old = view_of g.L.Layout.kind c.args.trie.now in
      let new = view_of g.L.Layout.kind c.answer_with_room-2.new.trie in
      let held = g.W.Write.contents (device_of c.args.writer.now) in
      let holds = g.W.Write.contents (device_of c.answer_with_room-2.new.writer) in
      let line = c.args.line.now.items in
      let piece = c.args.piece.now in
      let whole : c.as_slice.result.now ≡ line ++ piece = c.as_slice.ensures.value ∙ c.in-Ok.ensures.items in
      let answered : Obeys (order_of (line ++ piece)) old new held holds = subst (λ (l : List ℕ). Obeys (order_of l) old new held holds) whole c.in_ok-answer_with_room.ensures.answer.ok in
      subst (λ (text : List ℕ). Advances old new held holds text []) (append_assoc line piece (10 ∷ []))
      (line_done old new held holds (line ++ piece) (open_append line piece c.requires.«open» c.requires.open_piece) answered);
  err = tt;
  faults = writers_unfailed (has_failed c.args.writer.now) (has_failed c.answer_with_room-2.new.writer) c.in_ok-answer_with_room.ensures.faults.unfailed;
  limit = λ same. ok_no_fault _ _ same;
  blocks = let line = c.args.line.now.items in
      let piece = c.args.piece.now in
      let whole : c.as_slice.result.now ≡ line ++ piece = c.as_slice.ensures.value ∙ c.in-Ok.ensures.items in
      within_more (length c.as_slice.result.now) (length line + length piece) c.args.trie.now c.answer_with_room-2.new.trie (let same = ap length whole in omega (arith, same, length-append line piece)) c.answer_with_room-2.ensures.blocks;
  max_trial = c.answer_with_room-2.ensures.max_trial;
  told = let whole : c.as_slice.result.now ≡ c.args.line.now.items ++ c.args.piece.now = c.as_slice.ensures.value ∙ c.in-Ok.ensures.items in
      subst (λ (l : List ℕ). Continues (g.B.LineReports.told c.args.reports.now) (g.B.LineReports.told c.answer_with_room-2.new.reports) (bad_line_of l ∷ [])) whole c.in_ok-answer_with_room.ensures.told;
}
