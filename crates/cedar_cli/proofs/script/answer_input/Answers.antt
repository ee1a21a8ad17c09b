use Rattle.std.proofs.lemmas.Result.{err_from_is_err_and}
use Rattle.cedar_cli.specs.declared.script.ScriptError.TheVariants.{Read, Write, Memory, SlotLimit}
use Rattle.std.proofs.Common.{rules, Err, refl, ◌||◌, arith, sym, subst, ◌∙◌, ◌≡◌, ◌<◌, ℕ, List, [], ◌∷◌, ◌++◌, length, length-append, ◌≤◌, take, inl, inr}
use Rattle.std.specs.Prelude.{◌⊎◌}
use Rattle.std.specs.Io.KnownBytes.{Consumes, IsAtEnd}
use Rattle.cedarwood.specs.WatchedDevice.{device_of, has_failed}
use Rattle.cedar_cli.specs.Blocks.{GrowsWithin}
use Rattle.cedar_cli.specs.Command.{bad_line_of, order_of}
use Rattle.cedar_cli.specs.Reports.{Continues, reasons_of}
use Rattle.cedar_cli.specs.Lines.{lines_of, HasNoNewline}
use Rattle.cedar_cli.specs.Script.{LineMayLackMemory, Obeys, Disobeys, Finishes, Advances, Stops, EndsEarly}
use Rattle.cedarwood.proofs.GrowthLemmas.{grows_none}
use Rattle.cedar_cli.specs.View.{view_of}
use Rattle.cedar_cli.proofs.BlockCounts.{no_blocks, chunk_taken, chunk_left, last_blocks, so_far_blocks, came_blocks}
use Rattle.cedar_cli.proofs.Bytes.{may_stop, read_stop, unfailed_call, failed_call, bytes_on, Advances-append, Advances-kept, Stops-append, that_fault}
use Rattle.cedar_cli.proofs.Runs.{ended_first, Consumes-append, Consumes-none, Consumes-kept, end_found, whole_came, of_script, ended_early, Stops-from_advances, all_finished, last_finished, last_left, of_known, long_line, short_line}
use Rattle.cedar_cli.proofs.Faults.{failed_flush, fresh_no_fault, memory_no_limit, memory_no_read, memory_no_write, read_no_write, read_no_memory, read_no_limit, ok_no_fault, no_success, still_failed, unflushed}
use Rattle.cedar_cli.proofs.Told.{all_told, last_told, tells_none, tells_on}
use Rattle.cedar_cli.proofs.script.answer_input.Goals as goal
use Rattle.cedar_cli.proofs.script.answer_input.Goals.{else-loop-turn-test, then-loop-turn-test+in-Ok-read+then-count-eq0}
use Rattle.cedar_cli.proofs.script.answer_input.Goals.{then-not-is_empty+in_ok-answer_with_room, else-not-is_empty}

pub take_bytes-requires : goal.take_bytes-requires
take_bytes-requires g c = (search (rules, c.requires-raw), (c.loop-turn.invariant.3, c.loop-turn.invariant.9))

pub loop-turn-init : goal.loop-turn-init
loop-turn-init g c =
    rw c.in-Ok.ensures.empty (
      [],
      Consumes-none (g.R.Read.remaining (device_of c.args.reader.now)),
      omega arith,
      tt,
      bytes_on (view_of g.L.Layout.kind c.args.trie.now) (g.W.Write.contents (device_of c.args.writer.now)) [],
      refl,
      unflushed (has_failed c.args.writer.now) c.args.flushes.now.failed c.requires.fresh,
      refl,
      (0, omega arith, grows_none c.args.trie.now),
      c.in-Ok.ensures.room,
      tells_none (g.B.LineReports.told c.args.reports.now) [],
    )

pub loop-turn-preserved : goal.loop-turn-preserved
loop-turn-preserved g c =
    let before = c.loop-turn.invariant in
    let old = view_of g.L.Layout.kind c.args.trie.now in
    let mid = view_of g.L.Layout.kind c.loop-turn.trie in
    let new = view_of g.L.Layout.kind c.take_bytes.new.trie in
    let first = g.W.Write.contents (device_of c.args.writer.now) in
    let held = g.W.Write.contents (device_of c.flush_answers.new.writer) in
    let holds = g.W.Write.contents (device_of c.take_bytes.new.writer) in
    let more = take c.in-Ok-read.count c.read.new.buf in
    let so_far : Advances old mid first held before.0 c.loop-turn.line.items =
    Advances-kept old mid first (g.W.Write.contents (device_of c.loop-turn.writer)) held before.0 c.loop-turn.line.items before.4 c.flush_answers.ensures.bytes in
    let step : Advances mid new held holds (c.loop-turn.line.items ++ more) c.take_bytes.new.line.items = c.in_ok-take_bytes.ensures.ok in (
      before.0 ++ more,
      Consumes-append (g.R.Read.remaining (device_of c.args.reader.now)) (g.R.Read.remaining (device_of c.loop-turn.reader)) (g.R.Read.remaining (device_of c.read.new.self)) before.0 more before.1 c.in-Ok-read.ensures.bytes.0,
      (let count : c.in-Ok-read.count ≡ length more = c.in-Ok-read.ensures.bound.1 in let some = c.if-count-eq0.false in let turns : c.loop-turn.turn ≤ length before.0 = before.2 in omega (arith, length-append before.0 more)),
      c.in_ok-take_bytes.ensures.still_open,
      Advances-append old mid new first held holds before.0 c.loop-turn.line.items more c.take_bytes.new.line.items so_far step,
      unfailed_call (has_failed c.loop-turn.reader) (has_failed c.read.new.self) c.in-Ok-read.ensures.failed ∙ before.5,
      c.in_ok-take_bytes.ensures.faults.unfailed ∙ c.flush_answers.ensures.told (has_failed c.args.writer.now) before.6,
      c.take_bytes.ensures.max_trial ∙ before.7,
      chunk_taken before.0 more c.loop-turn.line.items c.take_bytes.new.line.items c.args.trie.now c.loop-turn.trie c.take_bytes.new.trie before.8 c.in_ok-take_bytes.ensures.blocks_taken,
      c.take_bytes.ensures.kept,
      tells_on (g.B.LineReports.told c.args.reports.now) (g.B.LineReports.told c.loop-turn.reports) (g.B.LineReports.told c.take_bytes.new.reports) before.0 c.loop-turn.line.items more c.take_bytes.new.line.items before.10 c.in_ok-take_bytes.ensures.told,
    )

pub returns-in_default-read : goal.returns-in_default-read
returns-in_default-read g c = record {
  ok = tt;
  err = let before = c.loop-turn.invariant in
      let old = view_of g.L.Layout.kind c.args.trie.now in
      let new = view_of g.L.Layout.kind c.loop-turn.trie in
      let first = g.W.Write.contents (device_of c.args.writer.now) in
      let held = g.W.Write.contents (device_of c.flush_answers.new.writer) in
      ended_early g.row.SLOTS c.loop-turn.trie Read old new first held (g.R.Read.remaining (device_of c.args.reader.now)) (g.R.Read.remaining (device_of c.loop-turn.reader)) before.0 before.1
      (Stops-from_advances g.row.SLOTS c.loop-turn.trie Read old new first held before.0 c.loop-turn.line.items (read_stop g.row.SLOTS c.loop-turn.trie)
      (Advances-kept old new first (g.W.Write.contents (device_of c.loop-turn.writer)) held before.0 c.loop-turn.line.items before.4 c.flush_answers.ensures.bytes));
  read = λ _.
      let before = c.loop-turn.invariant in
      let start = g.R.Read.remaining (device_of c.args.reader.now) in
      let old = view_of g.L.Layout.kind c.args.trie.now in
      let new = view_of g.L.Layout.kind c.loop-turn.trie in
      let first = g.W.Write.contents (device_of c.args.writer.now) in
      let held = g.W.Write.contents (device_of c.flush_answers.new.writer) in
      let P : List ℕ → Type 0 = λ input. (came : List ℕ) × (line : List ℕ) × Consumes start (g.R.Read.remaining (device_of c.read.new.self)) came × HasNoNewline line
      × Advances old new first held came line in
      of_known P start (λ _. (
        before.0,
        c.loop-turn.line.items,
        Consumes-kept start (g.R.Read.remaining (device_of c.loop-turn.reader)) (g.R.Read.remaining (device_of c.read.new.self)) before.0 before.1 c.in_default-read.ensures.bytes,
        before.3,
        Advances-kept old new first (g.W.Write.contents (device_of c.loop-turn.writer)) held before.0 c.loop-turn.line.items before.4 c.flush_answers.ensures.bytes,
      ));
  read_cause = λ _. failed_call (has_failed c.loop-turn.reader) (has_failed c.read.new.self) c.in_default-read.ensures.failed;
  write_cause = λ same. read_no_write same;
  flush_cause = λ is.
      let before = c.loop-turn.invariant in
      let first = has_failed c.args.writer.now in
      failed_flush first c.flush_answers.result.failed (has_failed c.flush_answers.new.writer) (c.flush_answers.ensures.told first before.6) is;
  unfailed = tt;
  limit = λ same. read_no_limit same;
  blocks = let before = c.loop-turn.invariant in
      came_blocks (g.R.Read.remaining (device_of c.args.reader.now)) (g.R.Read.remaining (device_of c.loop-turn.reader)) before.0 c.args.trie.now c.loop-turn.trie before.1
      (so_far_blocks before.0 c.loop-turn.line.items c.args.trie.now c.loop-turn.trie before.8);
  starved = λ same. read_no_memory same;
  full = λ same. read_no_limit same;
  max_trial = let before = c.loop-turn.invariant in before.7;
  told = tt;
}

pub returns-in_err-take_bytes : goal.returns-in_err-take_bytes
returns-in_err-take_bytes g c = record {
  ok = let p = err_from_is_err_and c.from_residual.result c.from_residual.ensures.1 in
      no_success _ c.from_residual.result p.0 p.1;
  err = let before = c.loop-turn.invariant in
      let old = view_of g.L.Layout.kind c.args.trie.now in
      let mid = view_of g.L.Layout.kind c.loop-turn.trie in
      let new = view_of g.L.Layout.kind c.take_bytes.new.trie in
      let fault = c.in_err-take_bytes.field-0.0 in
      let first = g.W.Write.contents (device_of c.args.writer.now) in
      let held = g.W.Write.contents (device_of c.flush_answers.new.writer) in
      let holds = g.W.Write.contents (device_of c.take_bytes.new.writer) in
      let more = take c.in-Ok-read.count c.read.new.buf in
      let so_far : Advances old mid first held before.0 c.loop-turn.line.items =
      Advances-kept old mid first (g.W.Write.contents (device_of c.loop-turn.writer)) held before.0 c.loop-turn.line.items before.4 c.flush_answers.ensures.bytes in
      let step : Stops g.row.SLOTS c.take_bytes.new.trie fault mid new held holds (c.loop-turn.line.items ++ more) = c.in_err-take_bytes.ensures.err in
      let p = err_from_is_err_and c.from_residual.result c.from_residual.ensures.1 in
      let is : c.from_residual.result ≡ Err fault = cc (p.1, p.2) in
      that_fault _ c.from_residual.result fault is
      (ended_early g.row.SLOTS c.take_bytes.new.trie fault old new first holds (g.R.Read.remaining (device_of c.args.reader.now)) (g.R.Read.remaining (device_of c.read.new.self)) (before.0 ++ more)
      (Consumes-append (g.R.Read.remaining (device_of c.args.reader.now)) (g.R.Read.remaining (device_of c.loop-turn.reader)) (g.R.Read.remaining (device_of c.read.new.self)) before.0 more before.1 c.in-Ok-read.ensures.bytes.0)
      (Stops-append g.row.SLOTS c.take_bytes.new.trie fault old mid new first held holds before.0 c.loop-turn.line.items more so_far step));
  read = λ is.
      let p = err_from_is_err_and c.from_residual.result c.from_residual.ensures.1 in
      let was : c.take_bytes.result ≡ Err Read = cc (p.1, p.2, c.in_err-take_bytes.was, is) in absurd (c.take_bytes.ensures.faults.never_read was);
  read_cause = λ is.
      let p = err_from_is_err_and c.from_residual.result c.from_residual.ensures.1 in
      let was : c.take_bytes.result ≡ Err Read = cc (p.1, p.2, c.in_err-take_bytes.was, is) in absurd (c.take_bytes.ensures.faults.never_read was);
  write_cause = λ is.
      let p = err_from_is_err_and c.from_residual.result c.from_residual.ensures.1 in
      let was : c.take_bytes.result ≡ Err Write = cc (p.1, p.2, c.in_err-take_bytes.was, is) in c.take_bytes.ensures.faults.cause was;
  flush_cause = λ is.
      let before = c.loop-turn.invariant in
      let first = has_failed c.args.writer.now in
      let flushed = failed_flush first c.flush_answers.result.failed (has_failed c.flush_answers.new.writer) (c.flush_answers.ensures.told first before.6) is in
      still_failed (has_failed c.flush_answers.new.writer) (has_failed c.take_bytes.new.writer) c.take_bytes.result flushed c.take_bytes.ensures.faults;
  unfailed = let p = err_from_is_err_and c.from_residual.result c.from_residual.ensures.1 in
      no_success _ c.from_residual.result p.0 p.1;
  limit = λ is.
      let p = err_from_is_err_and c.from_residual.result c.from_residual.ensures.1 in
      let was : c.take_bytes.result ≡ Err SlotLimit = cc (p.1, p.2, c.in_err-take_bytes.was, is) in c.take_bytes.ensures.limit was;
  blocks = let before = c.loop-turn.invariant in
      let more = take c.in-Ok-read.count c.read.new.buf in
      let start = g.R.Read.remaining (device_of c.args.reader.now) in
      let rest = g.R.Read.remaining (device_of c.read.new.self) in
      came_blocks start rest (before.0 ++ more) c.args.trie.now c.take_bytes.new.trie
      (Consumes-append start (g.R.Read.remaining (device_of c.loop-turn.reader)) rest before.0 more before.1 c.in-Ok-read.ensures.bytes.0)
      (chunk_left before.0 more c.loop-turn.line.items c.args.trie.now c.loop-turn.trie c.take_bytes.new.trie before.8 c.in_err-take_bytes.ensures.blocks_left);
  starved = λ is.
      let before = c.loop-turn.invariant in
      let p = err_from_is_err_and c.from_residual.result c.from_residual.ensures.1 in
      let was : c.take_bytes.result ≡ Err Memory = cc (p.1, p.2, c.in_err-take_bytes.was, is) in (
        unfailed_call (has_failed c.loop-turn.reader) (has_failed c.read.new.self) c.in-Ok-read.ensures.failed ∙ before.5,
        c.take_bytes.ensures.faults.starved was ∙ c.flush_answers.ensures.told (has_failed c.args.writer.now) before.6,
      );
  full = λ is.
      let before = c.loop-turn.invariant in
      let p = err_from_is_err_and c.from_residual.result c.from_residual.ensures.1 in
      let was : c.take_bytes.result ≡ Err SlotLimit = cc (p.1, p.2, c.in_err-take_bytes.was, is) in (
        unfailed_call (has_failed c.loop-turn.reader) (has_failed c.read.new.self) c.in-Ok-read.ensures.failed ∙ before.5,
        c.take_bytes.ensures.faults.full was ∙ c.flush_answers.ensures.told (has_failed c.args.writer.now) before.6,
      );
  max_trial = let before = c.loop-turn.invariant in c.take_bytes.ensures.max_trial ∙ before.7;
  told = let p = err_from_is_err_and c.from_residual.result c.from_residual.ensures.1 in
      no_success _ c.from_residual.result p.0 p.1;
}

pub returns-in_err-answer_with_room : goal.returns-in_err-answer_with_room
returns-in_err-answer_with_room g c = record {
  ok = let p = err_from_is_err_and c.from_residual-in_err-answer_with_room.result c.from_residual-in_err-answer_with_room.ensures.1 in
      no_success _ c.from_residual-in_err-answer_with_room.result p.0 p.1;
  err = let before = c.loop-turn.invariant in
      let old = view_of g.L.Layout.kind c.args.trie.now in
      let mid = view_of g.L.Layout.kind c.loop-turn.trie in
      let new = view_of g.L.Layout.kind c.answer_with_room.new.trie in
      let fault = c.in_err-answer_with_room.field-0.0 in
      let first = g.W.Write.contents (device_of c.args.writer.now) in
      let held = g.W.Write.contents (device_of c.loop-turn-test.writer) in
      let holds = g.W.Write.contents (device_of c.answer_with_room.new.writer) in
      let line = c.loop-turn.line.items in
      let len : length line ≡ c.loop-turn.line.len = omega (arith, c.loop-turn.line.ok.0) in
      let start = g.R.Read.remaining (device_of c.args.reader.now) in
      let rest = g.R.Read.remaining (device_of c.loop-turn.reader) in
      let over : IsAtEnd rest ⊎ (9223372036854775808 ≤ length before.0) =
      elim c.loop-turn-test.branch [
        | else-loop-turn-test w ↦ inr (let many : 9223372036854775808 ≤ c.loop-turn.turn = w.loop-turn-test.false in let so_far : c.loop-turn.turn ≤ length before.0 = before.2 in omega arith)
        | then-loop-turn-test+in-Ok-read+then-count-eq0 w ↦
            let room : 0 < length w.read.new.buf = search rules in
            let none : w.in-Ok-read.count ≡ 0 = w.if-count-eq0.true in
            inl (end_found rest (g.R.Read.remaining (device_of w.read.new.self)) (subst (λ (n : ℕ). Consumes rest (g.R.Read.remaining (device_of w.read.new.self)) (take n w.read.new.buf)) none w.in-Ok-read.ensures.bytes.0) (w.in-Ok-read.ensures.bytes.1 none room))
      ] in
      let so_far : Advances old mid first held before.0 line =
      elim c.loop-turn-test.branch [
        | else-loop-turn-test w ↦ rw w.writer-is before.4
        | then-loop-turn-test+in-Ok-read+then-count-eq0 w ↦ rw w.writer-is (Advances-kept old mid first (g.W.Write.contents (device_of c.loop-turn.writer)) (g.W.Write.contents (device_of w.flush_answers.new.writer)) before.0 line before.4 w.flush_answers.ensures.bytes)
      ] in
      let long : 0 < length line = long_line line c.loop-turn.line.len len (sym c.is_empty.ensures ∙ c.if-not-is_empty.true) in
      let left : Disobeys fault (order_of line) mid new held holds = subst (λ (l : List ℕ). Disobeys fault (order_of l) mid new held holds) c.as_slice.ensures.value c.in_err-answer_with_room.ensures.answer.err in
      let p = err_from_is_err_and c.from_residual-in_err-answer_with_room.result c.from_residual-in_err-answer_with_room.ensures.1 in
      let is : c.from_residual-in_err-answer_with_room.result ≡ Err fault = cc (p.1, p.2) in
      let was : c.answer_with_room.result ≡ Err fault = cc (c.in_err-answer_with_room.was) in
      let wants : c.answer_with_room.result ≡ Err Memory → LineMayLackMemory g.row.SLOTS line c.answer_with_room.new.trie =
      λ starved. subst (λ (l : List ℕ). LineMayLackMemory g.row.SLOTS l c.answer_with_room.new.trie) c.as_slice.ensures.value (c.answer_with_room.ensures.memory starved) in
      let may = λ (lines : List (List ℕ)). may_stop g.row.SLOTS c.answer_with_room.new.trie line lines c.answer_with_room.result fault was wants in
      that_fault _ c.from_residual-in_err-answer_with_room.result fault is
      (of_script start (whole_came start rest before.0 before.1 over)
      (λ input same few. subst (EndsEarly g.row.SLOTS c.answer_with_room.new.trie fault old new first holds) (sym (same few))
      (last_left g.row.SLOTS c.answer_with_room.new.trie fault old mid new first held holds before.0 line before.3 long may so_far left)));
  read = λ is.
      let p = err_from_is_err_and c.from_residual-in_err-answer_with_room.result c.from_residual-in_err-answer_with_room.ensures.1 in
      let was : c.answer_with_room.result ≡ Err Read = cc (p.1, p.2, c.in_err-answer_with_room.was, is) in absurd (c.answer_with_room.ensures.faults.never_read was);
  read_cause = λ is.
      let p = err_from_is_err_and c.from_residual-in_err-answer_with_room.result c.from_residual-in_err-answer_with_room.ensures.1 in
      let was : c.answer_with_room.result ≡ Err Read = cc (p.1, p.2, c.in_err-answer_with_room.was, is) in absurd (c.answer_with_room.ensures.faults.never_read was);
  write_cause = λ is.
      let p = err_from_is_err_and c.from_residual-in_err-answer_with_room.result c.from_residual-in_err-answer_with_room.ensures.1 in
      let was : c.answer_with_room.result ≡ Err Write = cc (p.1, p.2, c.in_err-answer_with_room.was, is) in c.answer_with_room.ensures.faults.cause was;
  flush_cause = λ is.
      let before = c.loop-turn.invariant in
      let first = has_failed c.args.writer.now in
      let flushed : has_failed c.loop-turn-test.writer ≡ (c.loop-turn-test.flushes.failed || first) =
      elim c.loop-turn-test.branch [
        | else-loop-turn-test w ↦ rw (w.writer-is, w.flushes-is) before.6
        | then-loop-turn-test+in-Ok-read+then-count-eq0 w ↦ rw (w.writer-is, w.flushes-is) (w.flush_answers.ensures.told first before.6)
      ] in
      still_failed (has_failed c.loop-turn-test.writer) (has_failed c.answer_with_room.new.writer) c.answer_with_room.result
      (failed_flush first c.loop-turn-test.flushes.failed (has_failed c.loop-turn-test.writer) flushed is) c.answer_with_room.ensures.faults;
  unfailed = let p = err_from_is_err_and c.from_residual-in_err-answer_with_room.result c.from_residual-in_err-answer_with_room.ensures.1 in
      no_success _ c.from_residual-in_err-answer_with_room.result p.0 p.1;
  limit = λ is.
      let p = err_from_is_err_and c.from_residual-in_err-answer_with_room.result c.from_residual-in_err-answer_with_room.ensures.1 in
      let was : c.answer_with_room.result ≡ Err SlotLimit = cc (p.1, p.2, c.in_err-answer_with_room.was, is) in c.answer_with_room.ensures.limit was;
  blocks = let before = c.loop-turn.invariant in
      let line = c.loop-turn.line.items in
      let answered = subst (λ (l : List ℕ). GrowsWithin (length l) c.loop-turn.trie c.answer_with_room.new.trie) c.as_slice.ensures.value c.answer_with_room.ensures.blocks in
      came_blocks (g.R.Read.remaining (device_of c.args.reader.now)) (g.R.Read.remaining (device_of c.loop-turn.reader)) before.0 c.args.trie.now c.answer_with_room.new.trie before.1
      (last_blocks before.0 line c.args.trie.now c.loop-turn.trie c.answer_with_room.new.trie before.8 answered);
  starved = λ is.
      let before = c.loop-turn.invariant in
      let first = has_failed c.args.writer.now in
      let p = err_from_is_err_and c.from_residual-in_err-answer_with_room.result c.from_residual-in_err-answer_with_room.ensures.1 in
      let was : c.answer_with_room.result ≡ Err Memory = cc (p.1, p.2, c.in_err-answer_with_room.was, is) in
      let read : has_failed c.loop-turn-test.reader ≡ has_failed c.args.reader.now =
      elim c.loop-turn-test.branch [
        | else-loop-turn-test w ↦ rw w.reader-is before.5
        | then-loop-turn-test+in-Ok-read+then-count-eq0 w ↦ rw w.reader-is (unfailed_call (has_failed c.loop-turn.reader) (has_failed w.read.new.self) w.in-Ok-read.ensures.failed ∙ before.5)
      ] in
      let flushed : has_failed c.loop-turn-test.writer ≡ (c.loop-turn-test.flushes.failed || first) =
      elim c.loop-turn-test.branch [
        | else-loop-turn-test w ↦ rw (w.writer-is, w.flushes-is) before.6
        | then-loop-turn-test+in-Ok-read+then-count-eq0 w ↦ rw (w.writer-is, w.flushes-is) (w.flush_answers.ensures.told first before.6)
      ] in (read, c.answer_with_room.ensures.faults.starved was ∙ flushed);
  full = λ is.
      let before = c.loop-turn.invariant in
      let first = has_failed c.args.writer.now in
      let p = err_from_is_err_and c.from_residual-in_err-answer_with_room.result c.from_residual-in_err-answer_with_room.ensures.1 in
      let was : c.answer_with_room.result ≡ Err SlotLimit = cc (p.1, p.2, c.in_err-answer_with_room.was, is) in
      let read : has_failed c.loop-turn-test.reader ≡ has_failed c.args.reader.now =
      elim c.loop-turn-test.branch [
        | else-loop-turn-test w ↦ rw w.reader-is before.5
        | then-loop-turn-test+in-Ok-read+then-count-eq0 w ↦ rw w.reader-is (unfailed_call (has_failed c.loop-turn.reader) (has_failed w.read.new.self) w.in-Ok-read.ensures.failed ∙ before.5)
      ] in
      let flushed : has_failed c.loop-turn-test.writer ≡ (c.loop-turn-test.flushes.failed || first) =
      elim c.loop-turn-test.branch [
        | else-loop-turn-test w ↦ rw (w.writer-is, w.flushes-is) before.6
        | then-loop-turn-test+in-Ok-read+then-count-eq0 w ↦ rw (w.writer-is, w.flushes-is) (w.flush_answers.ensures.told first before.6)
      ] in (read, c.answer_with_room.ensures.faults.full was ∙ flushed);
  max_trial = let before = c.loop-turn.invariant in c.answer_with_room.ensures.max_trial ∙ before.7;
  told = let p = err_from_is_err_and c.from_residual-in_err-answer_with_room.result c.from_residual-in_err-answer_with_room.ensures.1 in
      no_success _ c.from_residual-in_err-answer_with_room.result p.0 p.1;
}

pub returns : goal.returns
returns g c = record {
  ok = let before = c.loop-turn.invariant in
      let old = view_of g.L.Layout.kind c.args.trie.now in
      let mid = view_of g.L.Layout.kind c.loop-turn.trie in
      let first = g.W.Write.contents (device_of c.args.writer.now) in
      let held = g.W.Write.contents (device_of c.loop-turn-test.writer) in
      let line = c.loop-turn.line.items in
      let len : length line ≡ c.loop-turn.line.len = omega (arith, c.loop-turn.line.ok.0) in
      let start = g.R.Read.remaining (device_of c.args.reader.now) in
      let rest = g.R.Read.remaining (device_of c.loop-turn.reader) in
      let new = view_of g.L.Layout.kind c.if-not-is_empty.trie in
      let holds = g.W.Write.contents (device_of c.if-not-is_empty.writer) in
      let over : IsAtEnd rest ⊎ (9223372036854775808 ≤ length before.0) =
      elim c.loop-turn-test.branch [
        | else-loop-turn-test w ↦ inr (let many : 9223372036854775808 ≤ c.loop-turn.turn = w.loop-turn-test.false in let so_far : c.loop-turn.turn ≤ length before.0 = before.2 in omega arith)
        | then-loop-turn-test+in-Ok-read+then-count-eq0 w ↦
            let room : 0 < length w.read.new.buf = search rules in
            let none : w.in-Ok-read.count ≡ 0 = w.if-count-eq0.true in
            inl (end_found rest (g.R.Read.remaining (device_of w.read.new.self)) (subst (λ (n : ℕ). Consumes rest (g.R.Read.remaining (device_of w.read.new.self)) (take n w.read.new.buf)) none w.in-Ok-read.ensures.bytes.0) (w.in-Ok-read.ensures.bytes.1 none room))
      ] in
      let so_far : Advances old mid first held before.0 line =
      elim c.loop-turn-test.branch [
        | else-loop-turn-test w ↦ rw w.writer-is before.4
        | then-loop-turn-test+in-Ok-read+then-count-eq0 w ↦ rw w.writer-is (Advances-kept old mid first (g.W.Write.contents (device_of c.loop-turn.writer)) (g.W.Write.contents (device_of w.flush_answers.new.writer)) before.0 line before.4 w.flush_answers.ensures.bytes)
      ] in
      let all : Finishes old new first holds (lines_of before.0) =
      elim c.if-not-is_empty.branch [
        | then-not-is_empty+in_ok-answer_with_room w ↦ let long : 0 < length line = long_line line c.loop-turn.line.len len (sym c.is_empty.ensures ∙ w.if-not-is_empty.true) in
            let answered : Obeys (order_of line) mid (view_of g.L.Layout.kind w.answer_with_room.new.trie) held (g.W.Write.contents (device_of w.answer_with_room.new.writer)) =
            subst (λ (l : List ℕ). Obeys (order_of l) mid (view_of g.L.Layout.kind w.answer_with_room.new.trie) held (g.W.Write.contents (device_of w.answer_with_room.new.writer))) w.as_slice.ensures.value w.in_ok-answer_with_room.ensures.answer.ok in
            rw (w.trie-is, w.writer-is) (last_finished old mid (view_of g.L.Layout.kind w.answer_with_room.new.trie) first held (g.W.Write.contents (device_of w.answer_with_room.new.writer)) before.0 line before.3 long so_far answered)
        | else-not-is_empty w ↦ let short : line ≡ [] = short_line line c.loop-turn.line.len len (sym c.is_empty.ensures ∙ w.if-not-is_empty.false) in
            rw (w.trie-is, w.writer-is) (all_finished old mid first held before.0 line so_far short)
      ] in
      of_script start (whole_came start rest before.0 before.1 over)
      (λ input same few. subst (λ (script : List ℕ). Finishes old new first holds (lines_of script)) (sym (same few)) all);
  err = tt;
  read = λ same. ok_no_fault _ _ same;
  read_cause = λ same. ok_no_fault _ _ same;
  write_cause = λ same. ok_no_fault _ _ same;
  flush_cause = λ is.
      let before = c.loop-turn.invariant in
      let first = has_failed c.args.writer.now in
      let flushed : has_failed c.loop-turn-test.writer ≡ (c.loop-turn-test.flushes.failed || first) =
      elim c.loop-turn-test.branch [
        | else-loop-turn-test w ↦ rw (w.writer-is, w.flushes-is) before.6
        | then-loop-turn-test+in-Ok-read+then-count-eq0 w ↦ rw (w.writer-is, w.flushes-is) (w.flush_answers.ensures.told first before.6)
      ] in
      let answered : has_failed c.if-not-is_empty.writer ≡ (c.loop-turn-test.flushes.failed || first) =
      elim c.if-not-is_empty.branch [
        | then-not-is_empty+in_ok-answer_with_room w ↦ rw w.writer-is (w.in_ok-answer_with_room.ensures.faults.unfailed ∙ flushed)
        | else-not-is_empty w ↦ rw w.writer-is flushed
      ] in failed_flush first c.loop-turn-test.flushes.failed (has_failed c.if-not-is_empty.writer) answered is;
  unfailed = let before = c.loop-turn.invariant in
      let first = has_failed c.args.writer.now in
      let read : has_failed c.loop-turn-test.reader ≡ has_failed c.args.reader.now =
      elim c.loop-turn-test.branch [
        | else-loop-turn-test w ↦ rw w.reader-is before.5
        | then-loop-turn-test+in-Ok-read+then-count-eq0 w ↦ rw w.reader-is (unfailed_call (has_failed c.loop-turn.reader) (has_failed w.read.new.self) w.in-Ok-read.ensures.failed ∙ before.5)
      ] in
      let flushed : has_failed c.loop-turn-test.writer ≡ (c.loop-turn-test.flushes.failed || first) =
      elim c.loop-turn-test.branch [
        | else-loop-turn-test w ↦ rw (w.writer-is, w.flushes-is) before.6
        | then-loop-turn-test+in-Ok-read+then-count-eq0 w ↦ rw (w.writer-is, w.flushes-is) (w.flush_answers.ensures.told first before.6)
      ] in
      let answered : has_failed c.if-not-is_empty.writer ≡ (c.loop-turn-test.flushes.failed || first) =
      elim c.if-not-is_empty.branch [
        | then-not-is_empty+in_ok-answer_with_room w ↦ rw w.writer-is (w.in_ok-answer_with_room.ensures.faults.unfailed ∙ flushed)
        | else-not-is_empty w ↦ rw w.writer-is flushed
      ] in (read, answered);
  limit = λ same. ok_no_fault _ _ same;
  blocks = let before = c.loop-turn.invariant in
      let line = c.loop-turn.line.items in
      let start = g.R.Read.remaining (device_of c.args.reader.now) in
      let rest = g.R.Read.remaining (device_of c.loop-turn.reader) in
      elim c.if-not-is_empty.branch [
        | then-not-is_empty+in_ok-answer_with_room w ↦
            let answered = subst (λ (l : List ℕ). GrowsWithin (length l) c.loop-turn.trie w.answer_with_room.new.trie) w.as_slice.ensures.value w.answer_with_room.ensures.blocks in
            rw w.trie-is (came_blocks start rest before.0 c.args.trie.now w.answer_with_room.new.trie before.1
            (last_blocks before.0 line c.args.trie.now c.loop-turn.trie w.answer_with_room.new.trie before.8 answered))
        | else-not-is_empty w ↦ rw w.trie-is (came_blocks start rest before.0 c.args.trie.now c.loop-turn.trie before.1 (so_far_blocks before.0 line c.args.trie.now c.loop-turn.trie before.8))
      ];
  starved = λ same. ok_no_fault _ _ same;
  full = λ same. ok_no_fault _ _ same;
  max_trial = let before = c.loop-turn.invariant in
      elim c.if-not-is_empty.branch [
        | then-not-is_empty+in_ok-answer_with_room w ↦ rw w.trie-is (w.answer_with_room.ensures.max_trial ∙ before.7)
        | else-not-is_empty w ↦ rw w.trie-is before.7
      ];
  told = let before = c.loop-turn.invariant in
      let first = g.B.LineReports.told c.args.reports.now in
      let mid = g.B.LineReports.told c.loop-turn.reports in
      let line = c.loop-turn.line.items in
      let len : length line ≡ c.loop-turn.line.len = omega (arith, c.loop-turn.line.ok.0) in
      let start = g.R.Read.remaining (device_of c.args.reader.now) in
      let rest = g.R.Read.remaining (device_of c.loop-turn.reader) in
      let last = g.B.LineReports.told c.if-not-is_empty.reports in
      let over : IsAtEnd rest ⊎ (9223372036854775808 ≤ length before.0) =
      elim c.loop-turn-test.branch [
        | else-loop-turn-test w ↦ inr (let many : 9223372036854775808 ≤ c.loop-turn.turn = w.loop-turn-test.false in let so_far : c.loop-turn.turn ≤ length before.0 = before.2 in omega arith)
        | then-loop-turn-test+in-Ok-read+then-count-eq0 w ↦
            let room : 0 < length w.read.new.buf = search rules in
            let none : w.in-Ok-read.count ≡ 0 = w.if-count-eq0.true in
            inl (end_found rest (g.R.Read.remaining (device_of w.read.new.self)) (subst (λ (n : ℕ). Consumes rest (g.R.Read.remaining (device_of w.read.new.self)) (take n w.read.new.buf)) none w.in-Ok-read.ensures.bytes.0) (w.in-Ok-read.ensures.bytes.1 none room))
      ] in
      let all : Continues first last (reasons_of (lines_of before.0)) =
      elim c.if-not-is_empty.branch [
        | then-not-is_empty+in_ok-answer_with_room w ↦ let long : 0 < length line = long_line line c.loop-turn.line.len len (sym c.is_empty.ensures ∙ w.if-not-is_empty.true) in
            let told : Continues mid (g.B.LineReports.told w.answer_with_room.new.reports) (bad_line_of line ∷ []) =
            subst (λ (l : List ℕ). Continues mid (g.B.LineReports.told w.answer_with_room.new.reports) (bad_line_of l ∷ [])) w.as_slice.ensures.value w.in_ok-answer_with_room.ensures.told in
            rw w.reports-is (last_told first mid (g.B.LineReports.told w.answer_with_room.new.reports) before.0 line before.3 long before.10 told)
        | else-not-is_empty w ↦ let short : line ≡ [] = short_line line c.loop-turn.line.len len (sym c.is_empty.ensures ∙ w.if-not-is_empty.false) in
            rw w.reports-is (all_told first mid before.0 line before.10 short)
      ] in
      of_script start (whole_came start rest before.0 before.1 over)
      (λ input same few. subst (λ (script : List ℕ). Continues first last (reasons_of (lines_of script))) (sym (same few)) all);
}

pub returns-in_default : goal.returns-in_default
returns-in_default g c =
    let d = c.args.trie.now in
    let remaining = g.R.Read.remaining (device_of c.args.reader.now) in
    record {
      ok = tt;
      err = ended_first g.row.SLOTS d Memory (view_of g.L.Layout.kind d) (g.W.Write.contents (device_of c.args.writer.now)) remaining;
      read = λ same. absurd (memory_no_read same);
      read_cause = λ same. absurd (memory_no_read same);
      write_cause = λ same. memory_no_write same;
      flush_cause = λ is. fresh_no_fault c.args.flushes.now.failed c.requires.fresh is;
      unfailed = tt;
      limit = λ same. memory_no_limit same;
      blocks = of_known (λ input. GrowsWithin (length input) d d) remaining (λ input. no_blocks (length input) d);
      starved = λ _. (refl, unflushed (has_failed c.args.writer.now) c.args.flushes.now.failed c.requires.fresh);
      full = λ _. (refl, unflushed (has_failed c.args.writer.now) c.args.flushes.now.failed c.requires.fresh);
      max_trial = refl;
      told = tt;
    }
