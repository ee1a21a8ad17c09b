use Rattle.std.proofs.Common.{◌++◌, ap, rules, subst, sym}
use Rattle.cedar_model.specs.Walks.{visited_entries}
use Rattle.cedar_table.specs.Table.Views.{fields}
use Rattle.cedar_walk.specs.Visits.{ComesToNumber, GoesToNumber, path_to}
use Rattle.cedar_walk.proofs.WalkLemmas.NextNumber.{deep_not_root}
use Rattle.cedar_walk.proofs.visits.numbered_after.Goals as goal

pub label_after_number-label-requires : goal.label_after_number-label-requires
label_after_number-label-requires g c =
    let held = c.requires.below in
    (search rules, (c.requires.well_formed, (held.0 ++ path_to (fields c.args.table.now) c.args.depth c.args.node, held.1.1, held.1.0, held.1.2)))

pub place_after-requires : goal.place_after-requires
place_after-requires g c = (search rules, (c.requires.well_formed, ((c.requires.below.0, c.requires.below.1.0), c.label_after_number-label.ensures)))

pub numbered_from-requires : goal.numbered_from-requires
numbered_from-requires g c =
    let T = fields c.args.table.now in
    let start = c.requires.below.0 in
    let place = c.in_ok-place.place in
    let comes = c.in_ok-place.ensures start c.requires.below.1.0 in
    (search rules, record { well_formed = c.requires.well_formed; below = (start, comes.below); not_root = deep_not_root _ T c.requires.well_formed start place.depth place.slot comes.below comes.deep.0 })

pub returns : goal.returns
returns g c = λ start at.
    let T = fields c.args.table.now in
    let comes = c.in_ok-place.ensures start at in
    subst (λ left. ComesToNumber T start left c.numbered_from.result) (sym (ap visited_entries comes.visits)) (c.numbered_from.ensures start comes.below)

pub returns-in_err-place : goal.returns-in_err-place
returns-in_err-place g c =
    subst (GoesToNumber (fields c.args.table.now) c.args.depth c.args.node) (sym c.from_residual.ensures) (λ start at. ap visited_entries (c.in_err-place.ensures start at))
