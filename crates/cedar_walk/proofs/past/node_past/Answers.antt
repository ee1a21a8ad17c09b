use Rattle.std.proofs.Common.{◌++◌, Option, ℤ, rules, subst, sym}
use Rattle.cedar_table.specs.Table.Views.{fields}
use Rattle.cedar_walk.specs.Visits.{ComesTo, left_after, path_to, SkipsToNode}
use Rattle.cedar_walk.proofs.WalkLemmas.NextNode.{node_inside, node_stands}
use Rattle.cedar_walk.proofs.past.node_past.Goals as goal

pub number_of-requires : goal.number_of-requires
number_of-requires g c =
    let T = fields c.args.table.now in
    let k = c.requires.well_formed in
    let place = c.in_ok-place.place in
    let w = c.requires.below.0 ++ path_to T place.depth place.slot in
    let comes = c.in_ok-place.ensures c.requires.below.0 c.requires.below.1 in
    (search rules, (node_inside _ T k w place.slot comes.below, (_, node_stands _ T k w place.slot comes.below)))

pub returns : goal.returns
returns g c = λ start at.
    let T = fields c.args.table.now in
    let place = c.in_ok-place.place in
    let comes = c.in_ok-place.ensures start at in
    let is = c.number_of.ensures _ (node_stands _ T c.requires.well_formed (start ++ path_to T place.depth place.slot) place.slot comes.below) in
    subst (λ (o : Option ℤ). ComesTo T start (left_after T start c.args.depth c.args.node) (path_to T c.args.depth c.args.node) (record { slot = place.slot; depth = place.depth; label = place.label; number = o })) (sym is) comes

pub returns-in_err-place : goal.returns-in_err-place
returns-in_err-place g c = subst (SkipsToNode (fields c.args.table.now) c.args.depth c.args.node) (sym c.from_residual.ensures) c.in_err-place.ensures
