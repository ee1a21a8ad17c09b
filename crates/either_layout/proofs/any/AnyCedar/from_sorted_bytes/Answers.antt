use Rattle.std.proofs.Common.{[], ap, sym}
use Rattle.cedarwood.specs.Sorted.{entries_of}
use Rattle.cedarwood.specs.SortedInput.{fault_from}
use Rattle.either_layout.proofs.EitherLemmas.{no_fault, same_fault}
use Rattle.either_layout.specs.Layouts.{layout_for}
use Rattle.either_layout.proofs.any.AnyCedar.from_sorted_bytes.Goals as goal

pub returns-in-Ok-clause-faulty : goal.returns-in-Ok-clause-faulty
returns-in-Ok-clause-faulty c = no_fault (fault_from 0 [] (entries_of c.args.pairs.now)) c.in-Ok.cedar _ c.in-Ok.ensures.built.faulty

pub returns-in-Ok-clause-made : goal.returns-in-Ok-clause-made
returns-in-Ok-clause-made c = c.in-Ok.ensures.built.sorted

pub returns-in-Err-clause-faulty : goal.returns-in-Err-clause-faulty
returns-in-Err-clause-faulty c = same_fault (fault_from 0 [] (entries_of c.args.pairs.now)) c.in-Err.error c.in-Err.ensures.built.faulty

pub returns-in-Err-clause-refused : goal.returns-in-Err-clause-refused
returns-in-Err-clause-refused c = c.in-Err.ensures.built.refused

pub returns-in-Ok-from_sorted_bytes_with-clause-faulty : goal.returns-in-Ok-from_sorted_bytes_with-clause-faulty
returns-in-Ok-from_sorted_bytes_with-clause-faulty c =
    no_fault (fault_from 0 [] (entries_of c.args.pairs.now)) c.in-Ok-from_sorted_bytes_with.cedar _ c.in-Ok-from_sorted_bytes_with.ensures.built.faulty

pub returns-in-Ok-from_sorted_bytes_with-clause-made : goal.returns-in-Ok-from_sorted_bytes_with-clause-made
returns-in-Ok-from_sorted_bytes_with-clause-made c = c.in-Ok-from_sorted_bytes_with.ensures.built.sorted

pub returns-in-Err-from_sorted_bytes_with-clause-faulty : goal.returns-in-Err-from_sorted_bytes_with-clause-faulty
returns-in-Err-from_sorted_bytes_with-clause-faulty c =
    same_fault (fault_from 0 [] (entries_of c.args.pairs.now)) c.in-Err-from_sorted_bytes_with.error c.in-Err-from_sorted_bytes_with.ensures.built.faulty

pub returns-in-Err-from_sorted_bytes_with-clause-refused : goal.returns-in-Err-from_sorted_bytes_with-clause-refused
returns-in-Err-from_sorted_bytes_with-clause-refused c = c.in-Err-from_sorted_bytes_with.ensures.built.refused

pub returns-in-Ok-clause-layout : goal.returns-in-Ok-clause-layout
returns-in-Ok-clause-layout c = ap layout_for (sym c.if-is_reduced.true)

pub returns-in-Ok-from_sorted_bytes_with-clause-layout : goal.returns-in-Ok-from_sorted_bytes_with-clause-layout
returns-in-Ok-from_sorted_bytes_with-clause-layout c = ap layout_for (sym c.if-is_reduced.false)
