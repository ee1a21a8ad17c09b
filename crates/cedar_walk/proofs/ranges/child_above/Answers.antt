use Rattle.std.proofs.Common.{◌<◌, ◌≤◌, arith, inl, inr, rules}
use Rattle.cedar_model.specs.Queries.{node_at}
use Rattle.cedar_model.specs.Tree.{Forest, IsSoundBelow}
use Rattle.cedar_model.proofs.OrderLemmas.{sound_node_at}
use Rattle.cedar_model.specs.Meaning.Family.{below}
use Rattle.cedar_model.specs.Meaning.WellFormed.{tree_of}
use Rattle.cedar_model.specs.Table.TableFields.{size_of}
use Rattle.cedar_model.proofs.MeaningLemmas.SearchStep.{never_nothing}
use Rattle.cedar_table.specs.Table.Views.{cells, fields}
use Rattle.cedar_walk.proofs.WalkLemmas.NextNode.{child_inside, node_inside, node_stands}
use Rattle.cedar_walk.proofs.WalkLemmas.Ranges.{fewer_left, sibling_on}
use Rattle.cedar_walk.proofs.WalkLemmas.Since.{above_label}
use Rattle.cedar_model.proofs.EntryLemmas.Keys.{label_bounds}
use Rattle.cedar_walk.proofs.ranges.child_above.Goals as goal

pub slot_below-requires : goal.slot_below-requires
slot_below-requires g c =
    let T = fields c.args.table.now in
    let w = c.requires.at.0 in
    let at = c.requires.at.1 in
    (search rules, (node_inside _ T c.requires.well_formed w c.args.node at, never_nothing (size_of T) (cells c.args.table.now) c.args.node _ (node_stands _ T c.requires.well_formed w c.args.node at)))

pub sibling-next-requires : goal.sibling-next-requires
sibling-next-requires g c =
    let T = c.args.table.now in
    let k = c.requires.well_formed in
    let w = c.requires.at.0 in
    let at = c.requires.at.1 in
    let f : Forest = (node_at (tree_of (fields T)) w).children in
    let has = above_label f c.args.label c.loop-next.next (sound_node_at (tree_of (fields T)) w k.sound) (c.loop-next.invariant w at) c.loop-next-test.true in
    let inside : below (cells T) c.args.node c.loop-next.next < size_of (fields T) = child_inside _ (fields T) k w c.args.node c.loop-next.next at has in
    (search rules, omega (arith, inside, c.slot_below.ensures, T.shaped.blocks.active_in))

pub loop-next-smaller : goal.loop-next-smaller
loop-next-smaller g c =
    let T = fields c.args.table.now in
    let k = c.requires.well_formed in
    let w = c.requires.at.0 in
    let at = c.requires.at.1 in
    let f : Forest = (node_at (tree_of T) w).children in
    let sound : IsSoundBelow (node_at (tree_of T) w).children = sound_node_at (tree_of T) w k.sound in
    let has = above_label f c.args.label c.loop-next.next sound (c.loop-next.invariant w at) c.loop-next-test.true in
    let most : c.loop-next.next ≤ c.args.label = omega (arith, c.if-next-label.false) in
    let on = sibling_on _ T k c.requires.ordered w c.args.node c.args.label c.loop-next.next c.slot_below.result c.sibling-next.result at (c.loop-next.invariant w at) c.loop-next-test.true most c.slot_below.ensures c.sibling-next.ensures in
    let byte : c.sibling-next.result < 256 = omega (arith, c.sibling-next.type_inv) in
    fewer_left c.loop-next.next c.sibling-next.result c.loop-next-test.true (label_bounds f c.loop-next.next sound has).1 byte on.1

pub loop-next-preserved : goal.loop-next-preserved
loop-next-preserved g c = λ w at.
    let T = fields c.args.table.now in
    let most : c.loop-next.next ≤ c.args.label = omega (arith, c.if-next-label.false) in
    (sibling_on _ T c.requires.well_formed c.requires.ordered w c.args.node c.args.label c.loop-next.next c.slot_below.result c.sibling-next.result at (c.loop-next.invariant w at) c.loop-next-test.true most c.slot_below.ensures c.sibling-next.ensures).0

pub returns-then-next-label-clause-first : goal.returns-then-next-label-clause-first
returns-then-next-label-clause-first g c = c.loop-next.invariant

pub returns-then-next-label-clause-above : goal.returns-then-next-label-clause-above
returns-then-next-label-clause-above g c = inr c.if-next-label.true

pub returns-clause-first : goal.returns-clause-first
returns-clause-first g c = c.loop-next.invariant

pub returns-clause-above : goal.returns-clause-above
returns-clause-above g c = inl c.loop-next-test.false
