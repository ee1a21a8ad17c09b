use Rattle.std.proofs.Common.{◌≡◌, ◌≤◌, ◌++◌, arith, rules, subst, sym, MatchOption, []}
use Rattle.cedar_table.specs.Table.Views.{fields}
use Rattle.cedar_model.specs.Table.TableFields.{size_of}
use Rattle.cedar_walk.specs.declared.visits.Place.{Place}
use Rattle.cedar_walk.specs.Visits.{ComesTo, path_to, visited_at}
use Rattle.cedar_walk.proofs.WalkLemmas.NextNode.{first_there, none_below, short_way}
use Rattle.cedar_walk.proofs.WalkLemmas.NextNumber.{comes_first}
use Rattle.cedar_walk.proofs.visits.place_after.Goals as goal

pub overflow_add-depth : goal.overflow_add-depth
overflow_add-depth g c =
    let T = c.args.table.now in
    let short : c.args.depth ≤ size_of (fields T) = short_way _ (fields T) c.requires.well_formed c.requires.below.0 c.args.depth c.args.node c.requires.below.1 in
    omega (arith, short, T.shaped.blocks.active_in, T.shaped.blocks.fits)

pub child_under-requires : goal.child_under-requires
child_under-requires g c =
    let T = fields c.args.table.now in
    let start = c.requires.below.0 in
    let path = start ++ path_to T c.args.depth c.args.node in
    (search rules, record { well_formed = c.requires.well_formed; at = (path, c.requires.below.1, first_there _ (c.requires.first path c.requires.below.1) c.if-label-ne0.true) })

pub returns-then-label-ne0 : goal.returns-then-label-ne0
returns-then-label-ne0 g c = λ start at.
    let T = fields c.args.table.now in
    let path = start ++ path_to T c.args.depth c.args.node in
    comes_first _ T c.requires.well_formed start c.args.depth c.args.node c.args.label c.child_under.result at (c.requires.first path at) c.if-label-ne0.true c.child_under.ensures.slot c.child_under.ensures.depth c.child_under.ensures.label

pub returns : goal.returns
returns g c = λ start at.
    let T = fields c.args.table.now in
    let path = start ++ path_to T c.args.depth c.args.node in
    let none_there = none_below _ T c.requires.well_formed start c.args.depth c.args.node c.args.label (c.requires.first path at) (search rules) in
    subst (λ left. MatchOption c.next_after.result (left ≡ []) (λ (place : Place). ComesTo T start left (path_to T c.args.depth c.args.node) (visited_at T start place))) (sym none_there) (c.next_after.ensures start at)
