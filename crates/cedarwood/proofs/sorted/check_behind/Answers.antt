use Rattle.std.proofs.Common.{◌≡◌, ◌<◌, rules, length, subst, None}
use Rattle.std.specs.Cmp.Lexicographic.{slice_cmp}
use Rattle.std.specs.Ordering.{nat_cmp}
use Rattle.std.specs.declared.cmp.Ordering.TheVariants.{Less}
use Rattle.cedarwood.specs.Fault.{IsInRange}
use Rattle.cedarwood.specs.SortedInput.{fault_behind, HasNoNul}
use Rattle.cedarwood.proofs.SortedInputLemmas.{faultless, no_fault_behind}
use Rattle.cedarwood.proofs.sorted.check_behind.Goals as goal

pub returns-then-goes_behind-clause-faulty : goal.returns-then-goes_behind-clause-faulty
returns-then-goes_behind-clause-faulty g c =
    let before = c.args.before.now in
    let key = c.as_slice-key.result.now in
    let value = c.args.pair.now.1 in
    let less : slice_cmp nat_cmp before key ≡ Less = search rules in
    let clean : HasNoNul key = search rules in
    let some : 0 < length key = search rules in
    let range : IsInRange value = search rules in
    let fine = no_fault_behind c.args.index before key value less clean some range in
    faultless (fault_behind c.args.index before (g.K.AsSlice.items c.args.pair.now.0) value) _
    (subst (λ k. fault_behind c.args.index before k value ≡ None) c.as_slice-key.ensures fine)
