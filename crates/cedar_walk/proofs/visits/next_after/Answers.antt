use Rattle.std.proofs.Common.{◌-◌, ◌++◌, arith, rules}
use Rattle.cedar_model.specs.Meaning.Family.{below}
use Rattle.cedar_table.specs.Table.Views.{cells, fields}
use Rattle.cedar_walk.specs.Visits.{owner_of, path_to, visited_at}
use Rattle.cedar_walk.proofs.WalkLemmas.NextNode.{at_last, climbed_all, climbed_none, climbed_on, comes_right, first_is, parent_below, sibling_there, stepped}
use Rattle.cedar_walk.proofs.WalkLemmas.NextNumber.{number_there}
use Rattle.cedar_walk.proofs.visits.next_after.Goals as goal

pub loop-steps-init : goal.loop-steps-init
loop-steps-init g c = λ start at. climbed_none (fields c.args.table.now) start c.args.depth c.args.node at

pub next_sibling-label-requires : goal.next_sibling-label-requires
next_sibling-label-requires g c =
    let T = fields c.args.table.now in
    let n = c.loop-steps.steps in
    let s = c.loop-steps.slot in
    let start = c.requires.below.0 in (search rules, record { well_formed = c.requires.well_formed; at = (start ++ path_to T (n - 1) (owner_of (cells c.args.table.now) s), below (cells c.args.table.now) (owner_of (cells c.args.table.now) s) s, at_last _ T c.requires.well_formed start c.args.depth c.args.node n s (c.loop-steps.invariant start c.requires.below.1) c.loop-steps-test.true) })

pub parent-parent-requires : goal.parent-parent-requires
parent-parent-requires g c =
    let T = fields c.args.table.now in
    let n = c.loop-steps.steps in
    let s = c.loop-steps.slot in
    let start = c.requires.below.0 in (search rules, record { well_formed = c.requires.well_formed; at = (start ++ path_to T (n - 1) (owner_of (cells c.args.table.now) s), below (cells c.args.table.now) (owner_of (cells c.args.table.now) s) s, at_last _ T c.requires.well_formed start c.args.depth c.args.node n s (c.loop-steps.invariant start c.requires.below.1) c.loop-steps-test.true) })

pub child_under-requires : goal.child_under-requires
child_under-requires g c =
    let T = fields c.args.table.now in
    let k = c.requires.well_formed in
    let n = c.loop-steps.steps in
    let s = c.loop-steps.slot in
    let p = c.parent-parent.result in
    let l = c.next_sibling-label.result in
    let start = c.requires.below.0 in
    let climb = c.loop-steps.invariant start c.requires.below.1 in
    let on = stepped _ T k start c.args.depth c.args.node n s climb c.loop-steps-test.true in
    let first = first_is _ T k start c.args.depth c.args.node n s climb c.loop-steps-test.true p l c.parent-parent.ensures.check c.next_sibling-label.ensures in (search rules, record { well_formed = k; at = (start ++ path_to T (n - 1) p, parent_below _ T k start (n - 1) s p on.below c.parent-parent.ensures.check, sibling_there _ T k start c.args.depth c.args.node (n - 1) s p l on c.parent-parent.ensures.check first c.if-label-ne0.true) })

pub returns-then-label-ne0 : goal.returns-then-label-ne0
returns-then-label-ne0 g c = λ start at.
    let T = fields c.args.table.now in
    let k = c.requires.well_formed in
    let n = c.loop-steps.steps in
    let s = c.loop-steps.slot in
    let p = c.parent-parent.result in
    let l = c.next_sibling-label.result in
    let climb = c.loop-steps.invariant start at in
    let on = stepped _ T k start c.args.depth c.args.node n s climb c.loop-steps-test.true in
    let first = first_is _ T k start c.args.depth c.args.node n s climb c.loop-steps-test.true p l c.parent-parent.ensures.check c.next_sibling-label.ensures in
    let above = parent_below _ T k start (n - 1) s p on.below c.parent-parent.ensures.check in
    let there = sibling_there _ T k start c.args.depth c.args.node (n - 1) s p l on c.parent-parent.ensures.check first c.if-label-ne0.true in
    comes_right _ T k start c.args.depth c.args.node (n - 1) s p l on c.parent-parent.ensures.check first (visited_at T start c.child_under.result) c.if-label-ne0.true c.child_under.ensures.slot
    (omega (arith, c.child_under.ensures.depth, c.loop-steps-test.true)) c.child_under.ensures.label
    (number_there _ T k start (n - 1) p l c.child_under.result.slot c.child_under.result.depth above there c.child_under.ensures.slot (omega (arith, c.child_under.ensures.depth, c.loop-steps-test.true)))

pub loop-steps-preserved : goal.loop-steps-preserved
loop-steps-preserved g c = λ start at.
    let T = fields c.args.table.now in
    let k = c.requires.well_formed in
    let n = c.loop-steps.steps in
    let s = c.loop-steps.slot in
    let p = c.parent-parent.result in
    let l = c.next_sibling-label.result in
    let climb = c.loop-steps.invariant start at in
    let on = stepped _ T k start c.args.depth c.args.node n s climb c.loop-steps-test.true in
    let first = first_is _ T k start c.args.depth c.args.node n s climb c.loop-steps-test.true p l c.parent-parent.ensures.check c.next_sibling-label.ensures in
    climbed_on _ T k start c.args.depth c.args.node (n - 1) s p l on c.parent-parent.ensures.check first (search rules)

pub returns : goal.returns
returns g c = λ start at. climbed_all (fields c.args.table.now) start c.args.depth c.args.node c.loop-steps.steps c.loop-steps.slot (c.loop-steps.invariant start at) c.loop-steps-test.false
