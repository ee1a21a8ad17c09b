use Rattle.std.proofs.Common.{◌<◌, ◌∙◌, arith, rules, sym, ap, subst, bit_xor, refl}
use Rattle.cedar_model.specs.Meaning.Family.{Node}
use Rattle.cedar_model.specs.Edits.{without_leaf}
use Rattle.cedar_model.specs.Meaning.StandsFor.{HoldsTree}
use Rattle.cedar_model.specs.Edit.Steps.{root_of}
use Rattle.cedar_model.specs.Edit.Trims.{LosesLeaf}
use Rattle.cedar_table.specs.Table.Views.{cells, fields}
use Rattle.cedar_model.specs.Table.TableFields.{size_of}
use Rattle.cedar_model.proofs.MeaningLemmas.NodeAtPath.{at_node}
use Rattle.cedar_model.proofs.UpdateLemmas.LeftBare.{left_bare}
use Rattle.cedar_model.proofs.MeaningLemmas.TreeOf.{in_use}
use Rattle.cedar_model.proofs.MeaningLemmas.NumberSlots.{removed_marks}
use Rattle.cedar_model.proofs.UpdateLemmas.BareTrimmed.{above, bare_node, has_owner, label_read, label_small, loses_leaf, node_inside}
use Rattle.cedar_edit.proofs.keys.erase.remove_bare.Goals as goal

pub owner-owner-requires : goal.owner-owner-requires
owner-owner-requires g c =
    let n = c.requires.node.1 in
    (search rules, (c.requires.node_in, has_owner (cells c.args.table.now) n.path c.args.node (λ z. omega (arith, z, c.requires.not_root)) n.at))

pub returns-clause-inside : goal.returns-clause-inside
returns-clause-inside g c =
    let T = fields c.args.table.now in
    let n = c.requires.node.1 in
    let up = above (cells c.args.table.now) n.path c.args.node c.owner-owner.result _ n.holds.root n.at c.owner-owner.ensures refl in
    node_inside (size_of T) (cells c.args.table.now) (in_use T) (omega (arith, c.requires.node_in)) up.path c.owner-owner.result up.at

pub base_of-requires : goal.base_of-requires
base_of-requires g c =
    let T = fields c.args.table.now in
    let n = c.requires.node.1 in
    let up = above (cells c.args.table.now) n.path c.args.node c.owner-owner.result _ n.holds.root n.at c.owner-owner.ensures refl in
    (search rules, node_inside (size_of T) (cells c.args.table.now) (in_use T) (omega (arith, c.requires.node_in)) up.path c.owner-owner.result up.at)

pub overflow_cast-label : goal.overflow_cast-label
overflow_cast-label g c =
    let T = fields c.args.table.now in
    let n = c.requires.node.1 in
    let up = above (cells c.args.table.now) n.path c.args.node c.owner-owner.result _ n.holds.root n.at c.owner-owner.ensures refl in
    let small = label_small (size_of T) (cells c.args.table.now) c.requires.node.0 up.path c.owner-owner.result c.args.node n.holds up.at c.owner-owner.ensures in
    let fits : bit_xor c.base_of.result c.args.node < 256 = subst (λ b. bit_xor b c.args.node < 256) (sym c.base_of.ensures) small in
    omega arith

pub has_one_label-is_last-requires : goal.has_one_label-is_last-requires
has_one_label-is_last-requires g c =
    let T = fields c.args.table.now in
    let n = c.requires.node.1 in
    let up = above (cells c.args.table.now) n.path c.args.node c.owner-owner.result _ n.holds.root n.at c.owner-owner.ensures refl in
    (search rules, (node_inside (size_of T) (cells c.args.table.now) (in_use T) (omega (arith, c.requires.node_in)) up.path c.owner-owner.result up.at, c.requires.node_in))

pub remove_label-requires : goal.remove_label-requires
remove_label-requires g c =
    let T = fields c.args.table.now in
    let n = c.requires.node.1 in
    let label = label_read (cells c.args.table.now) c.base_of.result c.owner-owner.result c.args.node c.base_of.ensures in
    let up = above (cells c.args.table.now) n.path c.args.node c.owner-owner.result _ n.holds.root n.at c.owner-owner.ensures label in
    let inside : c.owner-owner.result < size_of T = node_inside (size_of T) (cells c.args.table.now) (in_use T) (omega (arith, c.requires.node_in)) up.path c.owner-owner.result up.at in
    let bare : Node (size_of T) (cells c.args.table.now) c.args.node _ _ = bare_node (size_of T) (cells c.args.table.now) c.args.node _ (at_node (size_of T) (cells c.args.table.now) c.requires.node.0 n.path c.args.node n.holds n.at) c.requires.node.2 in (search rules, record { sound = c.requires.sound; node_in = inside; node = (c.requires.node.0, record { holds = n.holds; ascending = n.ascending; path = up.path; at = up.at }); positive = omega (arith, up.not_zero); owned = ap (cells c.args.table.now).check up.slot ∙ c.owner-owner.ensures; bare = subst (λ s. Node (size_of T) (cells c.args.table.now) s _ _) (sym up.slot) bare })

pub returns-clause-tree : goal.returns-clause-tree
returns-clause-tree g c = λ f w h at.
    let T = fields c.args.table.now in
    let label = label_read (cells c.args.table.now) c.base_of.result c.owner-owner.result c.args.node c.base_of.ensures in
    let size = c.remove_label.ensures.frame.size in
    subst (λ m. LosesLeaf m (cells c.remove_label.new.table) f w c.owner-owner.result) (sym size)
    (loses_leaf (size_of T) (cells c.args.table.now) (cells c.remove_label.new.table) f w c.args.node c.owner-owner.result _ h at c.owner-owner.ensures label c.remove_label.ensures.removed
    (λ v there. subst (λ m. HoldsTree m (cells c.remove_label.new.table) (without_leaf (root_of f) v (bit_xor c.base_of.result c.args.node)).children) size (c.remove_label.ensures.tree f v h there)))

pub returns-clause-marks : goal.returns-clause-marks
returns-clause-marks g c =
    let T = fields c.args.table.now in
    let n = c.requires.node.1 in
    let label = label_read (cells c.args.table.now) c.base_of.result c.owner-owner.result c.args.node c.base_of.ensures in
    let up = above (cells c.args.table.now) n.path c.args.node c.owner-owner.result _ n.holds.root n.at c.owner-owner.ensures label in
    let bare : Node (size_of T) (cells c.args.table.now) c.args.node _ _ = bare_node (size_of T) (cells c.args.table.now) c.args.node _ (at_node (size_of T) (cells c.args.table.now) c.requires.node.0 n.path c.args.node n.holds n.at) c.requires.node.2 in
    removed_marks (size_of T) (cells c.args.table.now) (cells c.remove_label.new.table) c.requires.node.0 up.path c.owner-owner.result _ n.holds up.at c.remove_label.ensures.removed (subst (λ s. Node (size_of T) (cells c.args.table.now) s _ _) (sym up.slot) bare)

pub returns-clause-bare : goal.returns-clause-bare
returns-clause-bare g c = λ f w h at.
    let T = fields c.args.table.now in
    let n = c.requires.node.1 in
    let label = label_read (cells c.args.table.now) c.base_of.result c.owner-owner.result c.args.node c.base_of.ensures in
    let up = above (cells c.args.table.now) n.path c.args.node c.owner-owner.result _ n.holds.root n.at c.owner-owner.ensures label in
    let size = c.remove_label.ensures.frame.size in
    let one = c.has_one_label-is_last.ensures in
    let next = ap (cells c.args.table.now).sibling up.slot in
    left_bare (size_of T) (cells c.args.table.now) (cells c.remove_label.new.table) c.requires.node.0 f up.path w c.owner-owner.result _ n.holds up.at (subst (λ m. HoldsTree m (cells c.remove_label.new.table) f) size h) at c.remove_label.ensures.removed
    c.has_one_label-is_last.result (λ yes. let both = one.0 yes in (both.0, next ∙ both.1)) (λ both. one.1 (both.0, sym next ∙ both.1))
