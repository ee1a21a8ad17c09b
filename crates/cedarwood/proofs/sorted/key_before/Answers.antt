use Rattle.std.proofs.Common.{◌<◌, ◌≤◌, ◌-◌, ◌∙◌, [], List, ap, arith, length, subst, sym}
use Rattle.cedar_tree.specs.Queries.{Entry}
use Rattle.cedar_bulk.specs.Sorted.{entries_by}
use Rattle.cedarwood.proofs.SortedInputLemmas.{as_many, entry_there, key_at_index}
use Rattle.cedarwood.proofs.sorted.key_before.Goals as goal

pub returns : goal.returns
returns g c =
    let items = g.K.AsSlice.items in
    let es : List Entry = entries_by items c.args.pairs.now in
    let i = c.args.index in
    let pair = c.index-pairs-index.result in
    let e : Entry = (items pair.0, pair.1) in
    let inside : i - 1 < length c.args.pairs.now = omega (arith, c.requires, c.if-index-eq0.false) in
    let there = entry_there items c.args.pairs.now (i - 1) pair inside c.index-pairs-index.is in
    c.as_slice.ensures ∙ ap (λ pair. items pair.0) (sym c.index-pairs-index.is) ∙ ap (λ (x : Entry). x.0) (sym there)
    ∙ key_at_index [] es i e c.if-index-eq0.false (subst (λ n. i ≤ n) (sym (as_many items c.args.pairs.now)) c.requires)
