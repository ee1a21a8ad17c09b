use Rattle.std.proofs.Common.{◌+◌, drop, subst, arith, length-drop}
use Rattle.cedar_journal.specs.Files.{IsFoundThere}
use Rattle.cedar_journal.proofs.Headers.{named_front, named_long}
use Rattle.cedar_journal.proofs.Nexts.{all_records, damaged_there, longer_front, next_there, only_end}
use Rattle.cedar_journal.proofs.records.end_of.Goals as goal

pub slice_bounds-next_of-count : goal.slice_bounds-next_of-count
slice_bounds-next_of-count c = omega (arith, named_long c.args.bytes.now c.args.format c.requires)

pub slice_bounds-next_of-start : goal.slice_bounds-next_of-start
slice_bounds-next_of-start c = omega (arith, named_long c.args.bytes.now c.args.format c.requires)

pub loop-next-init : goal.loop-next-init
loop-next-init c = record {
  some = omega arith;
  within = named_long c.args.bytes.now c.args.format c.requires;
  front = named_front c.args.bytes.now c.args.format c.requires;
  next = next_there c.args.format c.args.bytes.now 13 c.next_of-next.result c.next_of-next.ensures;
}

pub loop-next-preserved : goal.loop-next-preserved
loop-next-preserved c =
    let before = c.loop-next.invariant in
    let f = c.args.format in
    let bytes = c.args.bytes.now in
    let end = c.loop-next.end in
    let n = c.in-Record.size in
    let found = subst (IsFoundThere f (drop end bytes)) c.in-Record.is before.next in
    let fits = found.1 in
    let size = length-drop end bytes in
    record {
      some = omega (arith, before.some);
      within = omega (arith, before.within, fits, size);
      front = longer_front bytes f end before.within before.front n (found.2, found.3);
      next = next_there f bytes (end + n) c.next_of-next-in-Record.result c.next_of-next-in-Record.ensures;
    }

pub returns-in_default-next : goal.returns-in_default-next
returns-in_default-next c =
    let before = c.loop-next.invariant in
    let f = c.args.format in
    let bytes = c.args.bytes.now in
    let end = c.loop-next.end in
    record {
      ok = all_records bytes f end before.within before.front c.requires before.some (only_end f (drop end bytes) c.loop-next.next before.next c.in_default.not-Record c.in_default-next.not-Damaged);
      err = tt;
    }

pub returns-in-Damaged-clause-err : goal.returns-in-Damaged-clause-err
returns-in-Damaged-clause-err c =
    let before = c.loop-next.invariant in
    let f = c.args.format in
    let bytes = c.args.bytes.now in
    let end = c.loop-next.end in
    damaged_there bytes f end before.within before.front (subst (IsFoundThere f (drop end bytes)) c.in-Damaged.is before.next)
