use Rattle.std.proofs.Common.{◌≤◌, rules, ◌<◌, arith, inl, inr, refl, subst, sym}
use Rattle.std.specs.Prelude.{bit_xor}
use Rattle.cedar_model.specs.Table.Cells.{Held}
use Rattle.cedar_model.specs.Relocation.Renaming.{Rebased}
use Rattle.cedar_table.specs.Table.Views.{cells, fields}
use Rattle.cedar_model.specs.Table.TableFields.{size_of}
use Rattle.cedar_model.proofs.EditLemmas.AtPath.{held_node}
use Rattle.cedar_model.proofs.UpdateLemmas.BlocksMade.{found_blocks, growth_framed, growth_nothing, made_framed, made_larger, made_nothing, refuses_still, slots_of_same}
use Rattle.cedar_model.proofs.EditLemmas.FirstBase.{held_still, leaf_based, LeafBased}
use Rattle.cedar_model.proofs.MeaningLemmas.ExclusiveOr.{xor_within}
use Rattle.cedar_model.specs.Edit.Steps.{MayAddBlock}
use Rattle.cedar_edit.proofs.LeafLemmas.{found_below, kept_based, leaf_alone, still_alone}
use Rattle.cedar_edit.proofs.StepLemmas.{refused_step}
use Rattle.cedar_edit.proofs.keys.step.first_base.Goals as goal

pub returns-in_err-slot-clause-step : goal.returns-in_err-slot-clause-step
returns-in_err-slot-clause-step g c =
    let T = fields c.args.table.now in
    let T₁ = fields c.find_place.new.self in
    let same = slots_of_same T T₁ c.in_err-slot.ensures.unchanged in
    refused_step _ T T₁ c.from_residual.result c.in_err-slot.field-0.0 c.from_residual.ensures.1 (refuses_still T.places T₁.places _ _ same c.in_err-slot.ensures.refused.1) same (growth_nothing T T₁ c.in_err-slot.ensures.unchanged)

pub set_base-requires : goal.set_base-requires
set_base-requires g c =
    let n = c.requires.node in
    let found = found_blocks _ (fields c.args.table.now) (fields c.find_place.new.self) _ c.in_ok-slot.ensures.made in
    let more : size_of (fields c.args.table.now) ≤ size_of (fields c.find_place.new.self) = made_larger found.0 (fields c.args.table.now) (fields c.find_place.new.self) found.2 in
    let held : Held (cells c.find_place.new.self) c.args.node = held_still (cells c.args.table.now) (cells c.find_place.new.self) c.args.node c.in_ok-slot.ensures.held (held_node (cells c.args.table.now) n.1.path c.args.node n.1.at) in
    let inside : bit_xor c.in_ok-slot.slot c.from.result < size_of (fields c.find_place.new.self) = subst (λ l. bit_xor c.in_ok-slot.slot l < size_of (fields c.find_place.new.self)) (sym c.from.ensures) (xor_within (size_of (fields c.find_place.new.self)) c.in_ok-slot.slot c.args.label (omega arith) c.in_ok-slot.ensures.found.in_use (omega (arith, c.ranges.label.fits))) in
    (search rules, (c.in_ok-slot.ensures.sound, (omega (arith, c.requires.node_in, more), (inside, (held, c.requires.not_root)))))

pub based : (g : _) (c : goal.After-set_base g) → LeafBased (size_of (fields c.args.table.now)) (size_of (fields c.set_base.new.self)) (cells c.args.table.now) (cells c.set_base.new.self) c.args.node c.args.label
based g c =
    let n = c.requires.node in
    let size = size_of (fields c.args.table.now) in
    let size' = size_of (fields c.find_place.new.self) in
    let T = cells c.args.table.now in
    let T₁ = cells c.find_place.new.self in
    let T₂ = cells c.set_base.new.self in
    let found = found_blocks _ (fields c.args.table.now) (fields c.find_place.new.self) _ c.in_ok-slot.ensures.made in
    let more : size_of (fields c.args.table.now) ≤ size_of (fields c.find_place.new.self) = made_larger found.0 (fields c.args.table.now) (fields c.find_place.new.self) found.2 in
    subst (λ s. LeafBased size s T T₂ c.args.node c.args.label) (sym c.set_base.ensures.frame.size)
    (leaf_based size size' T T₁ T₂ n.0 n.1.path c.args.node c.in_ok-slot.slot c.args.label n.1.holds n.1.at c.requires.not_root c.requires.leaf more (omega arith) (omega (arith, c.ranges.label.fits))
    c.in_ok-slot.ensures.held c.in_ok-slot.ensures.found (subst (λ l. Rebased T₁ T₂ c.args.node (bit_xor c.in_ok-slot.slot l)) c.from.ensures c.set_base.ensures.rebased))

pub returns-clause-placed : goal.returns-clause-placed
returns-clause-placed g c =
    let k = based g c in
    let found = found_blocks _ (fields c.args.table.now) (fields c.find_place.new.self) _ c.in_ok-slot.ensures.made in
    let more : size_of (fields c.args.table.now) ≤ size_of (fields c.find_place.new.self) = made_larger found.0 (fields c.args.table.now) (fields c.find_place.new.self) found.2 in
    record {
      inside = omega (arith, c.requires.node_in, more, c.set_base.ensures.frame.size);
      at = k.at;
      root = λ z. z;
      based = λ z. k.in_range;
      free = k.free;
      marks = k.marks;
    }

pub returns-clause-tree : goal.returns-clause-tree
returns-clause-tree g c = (based g c).tree

pub returns-clause-step : goal.returns-clause-step
returns-clause-step g c =
    let found : MayAddBlock (fields c.args.table.now) (fields c.find_place.new.self) = record {
      blocks = found_blocks _ (fields c.args.table.now) (fields c.find_place.new.self) _ c.in_ok-slot.ensures.made;
      root_check = (c.in_ok-slot.ensures.held.other 0 (inl refl)).check;
      settings = c.in_ok-slot.ensures.settings;
    } in
    record { refused = tt; unchanged = tt; growth = growth_framed _ _ _ found c.set_base.ensures.frame (c.set_base.ensures.rebased.check 0) }

pub returns-clause-made : goal.returns-clause-made
returns-clause-made g c = elim c.in_ok-slot.ensures.made [
  | inl e ↦ inl (tt, made_framed 0 (fields c.args.table.now) (fields c.find_place.new.self) (fields c.set_base.new.self) (made_nothing (fields c.args.table.now) (fields c.find_place.new.self) e) c.set_base.ensures.frame)
  | inr n ↦ inr n.0
]

pub returns-clause-slot : goal.returns-clause-slot
returns-clause-slot g c =
    found_below (cells c.find_place.new.self) (cells c.set_base.new.self) c.args.node c.in_ok-slot.slot c.args.label
    (subst (λ l. Rebased (cells c.find_place.new.self) (cells c.set_base.new.self) c.args.node (bit_xor c.in_ok-slot.slot l)) c.from.ensures c.set_base.ensures.rebased)

pub returns-clause-alone : goal.returns-clause-alone
returns-clause-alone g c =
    let n = c.requires.node in
    still_alone (cells c.args.table.now) (cells c.find_place.new.self) (cells c.set_base.new.self) c.args.node _ c.in_ok-slot.ensures.held c.set_base.ensures.rebased
    (leaf_alone (size_of (fields c.args.table.now)) (cells c.args.table.now) (fields c.args.table.now).ordered n.0 c.args.node n.1 c.requires.not_root c.requires.leaf)

pub returns-clause-keeps : goal.returns-clause-keeps
returns-clause-keeps g c = kept_based (cells c.args.table.now) (cells c.find_place.new.self) (cells c.set_base.new.self) c.args.node _ c.in_ok-slot.ensures.held c.set_base.ensures.rebased
