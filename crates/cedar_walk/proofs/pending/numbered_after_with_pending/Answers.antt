use Rattle.std.proofs.Common.{◌++◌, rules, subst, sym}
use Rattle.cedar_table.specs.Table.Views.{fields}
use Rattle.cedar_walk.specs.Visits.{ComesToNumber, GoesToNumber, path_to}
use Rattle.cedar_walk.specs.Pending.{IsPending}
use Rattle.cedar_walk.specs.declared.visits.Numbered.{Numbered}
use Rattle.std.specs.Prelude.{IfSome}
use Rattle.cedar_walk.proofs.WalkLemmas.NextNumber.{deep_not_root}
use Rattle.cedar_walk.proofs.pending.numbered_after_with_pending.Goals as goal

pub label_after_number-label-requires : goal.label_after_number-label-requires
label_after_number-label-requires g c =
    let held = c.requires.below in
    (search rules, (c.requires.well_formed, (held.0 ++ path_to (fields c.args.table.now) c.args.depth c.args.node, held.1.1, held.1.0, held.1.2)))

pub place_with_pending-requires : goal.place_with_pending-requires
place_with_pending-requires g c = (search rules, record { well_formed = c.requires.well_formed; below = (c.requires.below.0, c.requires.below.1.0); first = c.label_after_number-label.ensures; kept = c.requires.kept })

pub keep_sibling-requires : goal.keep_sibling-requires
keep_sibling-requires g c =
    let start = c.requires.below.0 in
    let on = c.in_ok-place.ensures in
    (search rules, record { well_formed = c.requires.well_formed; at = (start, (on.leads.comes start c.requires.below.1.0).below); deep = on.leads.deep; label = on.leads.last; kept = on.kept })

pub numbered_from_with_pending-requires : goal.numbered_from_with_pending-requires
numbered_from_with_pending-requires g c =
    let T = fields c.args.table.now in
    let start = c.requires.below.0 in
    let place = c.in_ok-place.place in
    let on = c.in_ok-place.ensures in
    let comes = on.leads.comes start c.requires.below.1.0 in
    (search rules, record { well_formed = c.requires.well_formed; below = (start, comes.below); not_root = deep_not_root _ T c.requires.well_formed start place.depth place.slot comes.below on.leads.deep; kept = c.keep_sibling.ensures })

pub returns-clause-found : goal.returns-clause-found
returns-clause-found g c = λ start at.
    let T = fields c.args.table.now in
    let comes = c.in_ok-place.ensures.leads.comes start at in
    subst (λ left. ComesToNumber T start left c.numbered_from_with_pending.result) (sym comes.entries) (c.numbered_from_with_pending.ensures.found start comes.below)

pub returns-clause-kept : goal.returns-clause-kept
returns-clause-kept g c = c.numbered_from_with_pending.ensures.kept

pub returns-in_err-place-clause-found : goal.returns-in_err-place-clause-found
returns-in_err-place-clause-found g c = subst (GoesToNumber (fields c.args.table.now) c.args.depth c.args.node) (sym c.from_residual.ensures) c.in_err-place.ensures

pub returns-in_err-place-clause-kept : goal.returns-in_err-place-clause-kept
returns-in_err-place-clause-kept g c = subst (λ o. IfSome o (λ (next : Numbered). IsPending (fields c.args.table.now) c.place_with_pending.new.siblings next.depth next.slot)) (sym c.from_residual.ensures) tt
