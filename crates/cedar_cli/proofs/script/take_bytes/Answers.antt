use Rattle.std.proofs.lemmas.Result.{err_from_is_err_and}
use Rattle.cedar_cli.specs.declared.script.ScriptError.TheVariants.{Memory, SlotLimit}
use Rattle.std.proofs.Common.{◌≡◌, Err, rules, refl, ◌∙◌, sym, ◌++◌, ◌∷◌, [], take, drop, length, length-append, arith, ◌-◌, ◌+◌, ◌<◌}
use Rattle.cedarwood.specs.WatchedDevice.{device_of, has_failed}
use Rattle.cedar_cli.specs.View.{view_of}
use Rattle.cedar_cli.proofs.BlockCounts.{none_before, further_line, stopped_line, rest_begun, rest_lost}
use Rattle.device_lines.proofs.Bytes.{on_err}
use Rattle.cedar_cli.proofs.Bytes.{that_fault}
use Rattle.cedar_cli.proofs.Newlines.{open_append, open_none, open_at, gone_further, line_taken, line_stopped, none_taken, rest_left, rest_taken}
use Rattle.cedar_cli.proofs.Faults.{fault_after, fault_on, memory_fault, memory_no_limit, no_success, ok_no_fault, writers_unfailed}
use Rattle.cedar_cli.proofs.Told.{line_told, rest_told, told_none}
use Rattle.cedar_cli.proofs.script.take_bytes.Goals as goal

pub end_line-requires : goal.end_line-requires
end_line-requires g c = (search rules, (c.loop-at.invariant.2, (open_at c.loop-at.rest.now c.in-Some.at (sym c.in-Some.ensures.first), c.loop-at.invariant.7)))

pub loop-at-init : goal.loop-at-init
loop-at-init g c = (
  [],
  refl,
  c.requires.«open»,
  none_taken (view_of g.L.Layout.kind c.args.trie.now) (g.W.Write.contents (device_of c.args.writer.now)) c.args.line.now.items,
  refl,
  refl,
  none_before c.args.line.now.items c.args.trie.now,
  c.requires.room,
  told_none (g.B.LineReports.told c.args.reports.now) c.args.line.now.items,
)

pub returns-in-Ok : goal.returns-in-Ok
returns-in-Ok g c = record {
  still_open = let before = c.loop-at.invariant in
      let rest = c.loop-at.rest.now in
      rw c.in-Ok.ensures.items (open_append c.loop-at.line.items rest before.2 (open_none rest (sym c.in_default.ensures.first)));
  kept = let room = c.loop-at.invariant.7 in
      let grown = c.extend_from_slice.ensures.capacity in
      ((let enough = room.0 in omega (arith, enough, grown)), room.1);
  ok = let before = c.loop-at.invariant in
      rw c.in-Ok.ensures.items
      (rest_taken (view_of g.L.Layout.kind c.args.trie.now) (view_of g.L.Layout.kind c.loop-at.trie) (g.W.Write.contents (device_of c.args.writer.now)) (g.W.Write.contents (device_of c.loop-at.writer))
      c.args.line.now.items before.0 c.loop-at.line.items c.loop-at.rest.now c.args.bytes.now before.3 before.1);
  err = tt;
  faults = writers_unfailed (has_failed c.args.writer.now) (has_failed c.loop-at.writer) c.loop-at.invariant.4;
  limit = λ same. ok_no_fault _ _ same;
  blocks_taken = let before = c.loop-at.invariant in
      rest_begun before.0 c.loop-at.rest.now c.args.line.now.items c.loop-at.line.items _ c.args.bytes.now c.args.trie.now c.loop-at.trie before.6 before.1 c.in-Ok.ensures.items;
  blocks_left = tt;
  max_trial = c.loop-at.invariant.5;
  told = let before = c.loop-at.invariant in
      rw c.in-Ok.ensures.items
      (rest_told (g.B.LineReports.told c.args.reports.now) (g.B.LineReports.told c.loop-at.reports) c.args.line.now.items before.0 c.loop-at.line.items c.loop-at.rest.now c.args.bytes.now before.8 before.1);
}

pub loop-at-preserved : goal.loop-at-preserved
loop-at-preserved g c =
    let before = c.loop-at.invariant in
    let rest = c.loop-at.rest.now in
    let at = c.in-Some.at in (
      before.0 ++ (take at rest ++ 10 ∷ []),
      gone_further c.args.bytes.now before.0 rest at before.1 (sym c.in-Some.ensures.first),
      rw c.in_ok-end_line.ensures.empty tt,
      line_taken (view_of g.L.Layout.kind c.args.trie.now) (view_of g.L.Layout.kind c.loop-at.trie) (view_of g.L.Layout.kind c.end_line.new.trie) (g.W.Write.contents (device_of c.args.writer.now)) (g.W.Write.contents (device_of c.loop-at.writer)) (g.W.Write.contents (device_of c.end_line.new.writer))
          c.args.line.now.items before.0 c.loop-at.line.items (take at rest) c.end_line.new.line.items before.3 c.in_ok-end_line.ensures.ok c.in_ok-end_line.ensures.empty,
      c.in_ok-end_line.ensures.faults.unfailed ∙ before.4,
      c.end_line.ensures.max_trial ∙ before.5,
      further_line before.0 (take at rest) c.args.line.now.items c.loop-at.line.items c.end_line.new.line.items c.args.trie.now c.loop-at.trie c.end_line.new.trie before.6 c.end_line.ensures.blocks c.in_ok-end_line.ensures.empty,
      c.end_line.ensures.kept,
      line_told (g.B.LineReports.told c.args.reports.now) (g.B.LineReports.told c.loop-at.reports) (g.B.LineReports.told c.end_line.new.reports) c.args.line.now.items before.0 c.loop-at.line.items (take at rest) c.end_line.new.line.items
          (open_append c.loop-at.line.items (take at rest) before.2 (open_at rest at (sym c.in-Some.ensures.first))) before.8 c.in_ok-end_line.ensures.told c.in_ok-end_line.ensures.empty,
    )

pub returns-in_err-end_line : goal.returns-in_err-end_line
returns-in_err-end_line g c = record {
  still_open = let p = err_from_is_err_and c.from_residual.result c.from_residual.ensures.1 in
      no_success _ c.from_residual.result p.0 p.1;
  kept = c.end_line.ensures.kept;
  ok = let p = err_from_is_err_and c.from_residual.result c.from_residual.ensures.1 in
      no_success _ c.from_residual.result p.0 p.1;
  err = let before = c.loop-at.invariant in
      let rest = c.loop-at.rest.now in
      let at = c.in-Some.at in
      let fault = c.in_err-end_line.field-0.0 in
      let p = err_from_is_err_and c.from_residual.result c.from_residual.ensures.1 in
      let is : c.from_residual.result ≡ Err fault = cc (p.1, p.2) in
      that_fault _ c.from_residual.result fault is
      (line_stopped g.row.SLOTS c.end_line.new.trie fault (view_of g.L.Layout.kind c.args.trie.now) (view_of g.L.Layout.kind c.loop-at.trie) (view_of g.L.Layout.kind c.end_line.new.trie) (g.W.Write.contents (device_of c.args.writer.now)) (g.W.Write.contents (device_of c.loop-at.writer)) (g.W.Write.contents (device_of c.end_line.new.writer))
      c.args.line.now.items before.0 c.loop-at.line.items (take at rest) (take (length rest - (at + 1)) (drop (at + 1) rest)) c.args.bytes.now before.3 c.in_err-end_line.ensures.err
      (gone_further c.args.bytes.now before.0 rest at before.1 (sym c.in-Some.ensures.first)));
  faults = let p = err_from_is_err_and c.from_residual.result c.from_residual.ensures.1 in
      let same : c.end_line.result ≡ c.from_residual.result = cc (p.1, p.2, c.in_err-end_line.was) in
      fault_on (has_failed c.args.writer.now) (has_failed c.end_line.new.writer) c.end_line.result c.from_residual.result same
      (fault_after (has_failed c.args.writer.now) (has_failed c.loop-at.writer) (has_failed c.end_line.new.writer) c.end_line.result c.loop-at.invariant.4 c.end_line.ensures.faults);
  limit = λ is.
      let p = err_from_is_err_and c.from_residual.result c.from_residual.ensures.1 in
      let was : c.end_line.result ≡ Err SlotLimit = cc (p.1, p.2, c.in_err-end_line.was, is) in c.end_line.ensures.limit was;
  blocks_taken = let p = err_from_is_err_and c.from_residual.result c.from_residual.ensures.1 in
      no_success _ c.from_residual.result p.0 p.1;
  blocks_left = let before = c.loop-at.invariant in
      let rest = c.loop-at.rest.now in
      let at = c.in-Some.at in
      on_err c.from_residual.result
      (stopped_line before.0 (take at rest) (take (length rest - (at + 1)) (drop (at + 1) rest)) c.args.line.now.items c.loop-at.line.items c.args.bytes.now c.args.trie.now c.loop-at.trie c.end_line.new.trie before.6 c.end_line.ensures.blocks
      (gone_further c.args.bytes.now before.0 rest at before.1 (sym c.in-Some.ensures.first)));
  max_trial = c.end_line.ensures.max_trial ∙ c.loop-at.invariant.5;
  told = let p = err_from_is_err_and c.from_residual.result c.from_residual.ensures.1 in
      no_success _ c.from_residual.result p.0 p.1;
}

pub returns-in-Err : goal.returns-in-Err
returns-in-Err g c = record {
  still_open = tt;
  kept = let room = c.loop-at.invariant.7 in
      let grown = c.extend_from_slice.ensures.capacity in
      ((let enough = room.0 in omega (arith, enough, grown)), room.1);
  ok = tt;
  err = let before = c.loop-at.invariant in
      let line = c.loop-at.line.items in
      let rest = c.loop-at.rest.now in
      let room = before.7.0 in
      let full = c.in-Err.ensures.full in
      let long : 8192 < length (line ++ rest) = omega (arith, room, full, c.loop-at.line.ok.0, length-append line rest) in
      rest_left g.row.SLOTS c.loop-at.trie (view_of g.L.Layout.kind c.args.trie.now) (view_of g.L.Layout.kind c.loop-at.trie) (g.W.Write.contents (device_of c.args.writer.now)) (g.W.Write.contents (device_of c.loop-at.writer))
      c.args.line.now.items before.0 line rest c.args.bytes.now before.3 before.1
      (open_append line rest before.2 (open_none rest (sym c.in_default.ensures.first))) long;
  faults = fault_after (has_failed c.args.writer.now) (has_failed c.loop-at.writer) (has_failed c.loop-at.writer) (Err Memory) c.loop-at.invariant.4 (memory_fault (has_failed c.loop-at.writer));
  limit = λ same. memory_no_limit same;
  blocks_taken = tt;
  blocks_left = let before = c.loop-at.invariant in
      rest_lost before.0 c.loop-at.rest.now c.args.line.now.items c.loop-at.line.items c.args.bytes.now c.args.trie.now c.loop-at.trie before.6 before.1;
  max_trial = c.loop-at.invariant.5;
  told = tt;
}
