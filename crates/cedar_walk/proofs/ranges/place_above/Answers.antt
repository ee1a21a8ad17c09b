use Rattle.std.proofs.Common.{◌<◌, ◌≤◌, [], arith, inl, inr, rules}
use Rattle.cedar_model.proofs.OrderLemmas.{sound_node_at}
use Rattle.cedar_model.specs.Meaning.WellFormed.{tree_of}
use Rattle.cedar_model.specs.Table.TableFields.{size_of}
use Rattle.cedar_table.specs.Table.Views.{fields}
use Rattle.cedar_walk.specs.Visits.{path_to}
use Rattle.cedar_walk.proofs.WalkLemmas.NextNode.{short_way}
use Rattle.cedar_walk.proofs.WalkLemmas.Ranges.{begins_above, begins_after, none_above}
use Rattle.cedar_walk.proofs.WalkLemmas.Since.{above_label}
use Rattle.cedar_walk.proofs.ranges.place_above.Goals as goal

pub overflow_add-depth : goal.overflow_add-depth
overflow_add-depth g c =
    let T = c.args.table.now in
    let short : c.args.depth ≤ size_of (fields T) = short_way _ (fields T) c.requires.well_formed [] c.args.depth c.args.node c.requires.below in
    omega (arith, short, T.shaped.blocks.active_in, T.shaped.blocks.fits)

pub child_under-requires : goal.child_under-requires
child_under-requires g c =
    let T = fields c.args.table.now in
    let k = c.requires.well_formed in
    let path = path_to T c.args.depth c.args.node in
    let first = c.child_above-next.ensures.first path c.requires.below in
    (search rules, record { well_formed = k; at = (path, c.requires.below, above_label _ c.args.label c.child_above-next.result (sound_node_at (tree_of T) path k.sound) first c.if-next-ne0.true) })

pub returns-then-next-ne0 : goal.returns-then-next-ne0
returns-then-next-ne0 g c =
    let T = fields c.args.table.now in
    let path = path_to T c.args.depth c.args.node in
    let higher : c.args.label < c.child_above-next.result = elim c.child_above-next.ensures.above [ inl none ↦ absurd (c.if-next-ne0.true none) | inr above ↦ above ] in
    begins_above _ T c.requires.well_formed c.requires.ordered c.args.depth c.args.node c.args.label c.child_above-next.result c.child_under.result c.requires.below (c.child_above-next.ensures.first path c.requires.below) c.if-next-ne0.true higher c.child_under.ensures.slot c.child_under.ensures.depth

pub returns : goal.returns
returns g c =
    let T = fields c.args.table.now in
    let k = c.requires.well_formed in
    let path = path_to T c.args.depth c.args.node in
    let gone = none_above _ T k c.requires.ordered c.args.depth c.args.node c.args.label c.child_above-next.result (c.child_above-next.ensures.first path c.requires.below) (search rules) in
    begins_after _ T k c.requires.ordered c.args.depth c.args.node c.args.label c.next_after.result gone (c.next_after.ensures [] c.requires.below)
