use Rattle.std.proofs.Common.{◌≡◌, ◌⊎◌, ◌<◌, ◌∙◌, ap, arith, get_or, inl, inr, rules, subst, sym, take}
use Rattle.cedar_model.specs.Tree.{Tree, number_at}
use Rattle.cedar_model.specs.Edits.{HasPath}
use Rattle.cedar_model.specs.Queries.{node_at}
use Rattle.std.specs.Prelude.{pos}
use Rattle.cedar_model.specs.Meaning.Family.{below}
use Rattle.cedar_table.specs.Table.Views.{cells, fields}
use Rattle.cedar_model.specs.Table.TableFields.{size_of}
use Rattle.cedar_model.specs.Meaning.WellFormed.{tree_of}
use Rattle.cedar_model.proofs.MeaningLemmas.NodeAtPath.{at_node, at_path}
use Rattle.cedar_model.proofs.MeaningLemmas.KeyPath.{key_ends, key_goes_on, key_gone, key_leaves, slot_within, tree_root}
use Rattle.cedar_model.proofs.MeaningLemmas.SearchStep.{never_nothing}
use Rattle.cedar_table.proofs.table.Table.node_of.Goals as goal
use Rattle.cedar_table.proofs.table.Table.node_of.Goals.{then-label-eq0-via-then-label-eq0, then-label-eq0-via-else-label-eq0+then-not-is_owned_by}

pub slot_below-slot-requires : goal.slot_below-slot-requires
slot_below-slot-requires g c =
    let T = fields c.args.self.now in
    let i = c.loop-label.invariant in
    let st = at_node (size_of T) (cells c.args.self.now) (tree_of T).children (take c.loop-label.label-index c.args.key.now) c.loop-label.node c.requires.stands i.at in
    (search rules, (i.inside, never_nothing (size_of T) (cells c.args.self.now) c.loop-label.node _ st))

pub is_owned_by-requires : goal.is_owned_by-requires
is_owned_by-requires g c =
    let T = fields c.args.self.now in
    let i = c.loop-label.invariant in
    let small : get_or c.args.key.now c.loop-label.label-index 0 < 256 = omega (arith, c.type_inv.label) in
    let inside = slot_within (size_of T) (cells c.args.self.now) (tree_of T).children (take c.loop-label.label-index c.args.key.now) c.loop-label.node c.requires.stands i.at (get_or c.args.key.now c.loop-label.label-index 0) (omega (arith, i.inside)) (omega arith) small in
    (search rules, (subst (λ s. s < size_of T) (sym c.slot_below-slot.ensures) inside, i.inside))

pub returns-then-label-eq0 : goal.returns-then-label-eq0
returns-then-label-eq0 g c =
    let T = fields c.args.self.now in
    let i = c.loop-label.invariant in
    let k = c.args.key.now in
    let n = c.loop-label.label-index in
    let s = c.loop-label.node in
    let leaves = key_leaves (size_of T) (cells c.args.self.now) (tree_of T).children k n s c.requires.stands i.at c.loop-label-test.true in
    let gone = key_gone (size_of T) (cells c.args.self.now) (tree_of T).children k n s c.requires.stands i.at c.loop-label-test.true in
    let off : (get_or k n 0 ≡ 0) ⊎ ((cells c.args.self.now).check (below (cells c.args.self.now) s (get_or k n 0)) ≡ pos s → ⊥) = elim c.then-label-eq0.branch [
      | then-label-eq0-via-then-label-eq0 w ↦ inl w.if-label-eq0.true
      | then-label-eq0-via-else-label-eq0+then-not-is_owned_by w ↦ inr (λ o. let yes = w.is_owned_by.ensures.1 (ap (cells c.args.self.now).check c.slot_below-slot.ensures ∙ o) in cc)
    ] in
    (ap (λ (t : Tree). number_at t k) (tree_root _ T c.requires) ∙ leaves off, ap (λ (t : Tree). node_at t k) (tree_root _ T c.requires) ∙ gone off)

pub loop-label-preserved : goal.loop-label-preserved
loop-label-preserved g c =
    let T = fields c.args.self.now in
    let i = c.loop-label.invariant in
    let small : get_or c.args.key.now c.loop-label.label-index 0 < 256 = omega (arith, c.type_inv.key c.loop-label.label-index) in
    let inside = slot_within (size_of T) (cells c.args.self.now) (tree_of T).children (take c.loop-label.label-index c.args.key.now) c.loop-label.node c.requires.stands i.at (get_or c.args.key.now c.loop-label.label-index 0) (omega (arith, i.inside)) (omega arith) small in
    record {
      inside = subst (λ s. s < size_of T) (sym c.slot_below-slot.ensures) inside;
      at = key_goes_on (size_of T) (cells c.args.self.now) (tree_of T).children c.args.key.now c.loop-label.label-index c.loop-label.node c.requires.stands i.at c.loop-label-test.true c.if-label-eq0.false c.slot_below-slot.result c.slot_below-slot.ensures (c.is_owned_by.ensures.0 c.if-not-is_owned_by.false);
    }

pub returns : goal.returns
returns g c =
    let T = fields c.args.self.now in
    let i = c.loop-label.invariant in
    let at = key_ends (size_of T) (cells c.args.self.now) (tree_of T).children c.args.key.now c.loop-label.label-index c.loop-label.node c.requires.stands i.at c.loop-label-test.false in
    (i.inside, subst (λ (t : Tree). HasPath t c.args.key.now) (sym (tree_root _ T c.requires)) (at_path (size_of T) (cells c.args.self.now) (tree_of T).children c.args.key.now c.loop-label.node c.requires.stands at), at)
