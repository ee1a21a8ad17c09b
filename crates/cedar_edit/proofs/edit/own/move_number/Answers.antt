use Rattle.std.proofs.Common.{◌≡◌, ◌≤◌, ◌∙◌, ◌<◌, arith, inl, inr, refl, rules, subst, sym, of_z, to_z, w32, FitsSigned, None, Some}
use Rattle.std.specs.Prelude.{ℕ, List}
use Rattle.std.proofs.lemmas.Int.{to_z-of_z}
use Rattle.cedar_model.specs.Tree.{Forest}
use Rattle.cedar_model.specs.Edits.{edit_at}
use Rattle.cedar_model.specs.Table.Cells.{Held}
use Rattle.cedar_model.specs.Edit.NodeEdits.{IsAt, IsNodeOf, SetsNumber}
use Rattle.cedar_model.specs.Meaning.Family.{InRange}
use Rattle.cedar_model.specs.Meaning.Marks.{KeepsOtherMarks}
use Rattle.cedar_model.specs.Meaning.StandsFor.{HoldsTree}
use Rattle.cedar_table.specs.Table.Views.{cells, fields}
use Rattle.cedar_model.specs.Table.TableFields.{size_of}
use Rattle.cedar_model.proofs.EditLemmas.AtPath.{held_node}
use Rattle.cedar_model.proofs.UpdateLemmas.BlocksMade.{found_blocks, growth_framed, growth_nothing, made_framed, made_larger, made_nothing, refuses_still, slots_of_same}
use Rattle.cedar_model.proofs.EditLemmas.FirstBase.{held_still}
use Rattle.cedar_model.proofs.EditLemmas.NumberMovesOut.{others_back, own_node, paths_back, slot_free, tree_back}
use Rattle.cedar_model.specs.Edit.Steps.{MayAddBlock}
use Rattle.cedar_model.proofs.UpdateLemmas.Frame.{frame_then}
use Rattle.cedar_edit.proofs.StepLemmas.{refused_step}
use Rattle.cedar_edit.proofs.edit.own.move_number.Goals as goal

pub returns-in_err-slot-clause-step : goal.returns-in_err-slot-clause-step
returns-in_err-slot-clause-step g c =
    let T = fields c.args.table.now in
    let T₁ = fields c.find_place.new.self in
    let same = slots_of_same T T₁ c.in_err-slot.ensures.unchanged in
    refused_step _ T T₁ c.from_residual.result c.in_err-slot.field-0.0 c.from_residual.ensures.1 (refuses_still T.places T₁.places _ _ same c.in_err-slot.ensures.refused.1) same (growth_nothing T T₁ c.in_err-slot.ensures.unchanged)

pub set_base-requires : goal.set_base-requires
set_base-requires g c =
    let n = c.requires.node in
    let found = found_blocks _ (fields c.args.table.now) (fields c.find_place.new.self) _ c.in_ok-slot.ensures.made in
    let more : size_of (fields c.args.table.now) ≤ size_of (fields c.find_place.new.self) = made_larger found.0 (fields c.args.table.now) (fields c.find_place.new.self) found.2 in
    let held : Held (cells c.find_place.new.self) c.args.node = held_still (cells c.args.table.now) (cells c.find_place.new.self) c.args.node c.in_ok-slot.ensures.held (held_node (cells c.args.table.now) n.1.path c.args.node n.1.at) in
    (search rules, (c.in_ok-slot.ensures.sound, (omega (arith, c.requires.node_in, more), (c.in_ok-slot.ensures.found.in_use, (held, c.requires.not_root)))))

pub set_number-requires : goal.set_number-requires
set_number-requires g c =
    let n = c.requires.node in
    let T = cells c.args.table.now in
    let found = found_blocks _ (fields c.args.table.now) (fields c.find_place.new.self) _ c.in_ok-slot.ensures.made in
    let more : size_of (fields c.args.table.now) ≤ size_of (fields c.find_place.new.self) = made_larger found.0 (fields c.args.table.now) (fields c.find_place.new.self) found.2 in
    let same : size_of (fields c.set_base.new.self) ≡ size_of (fields c.find_place.new.self) = c.set_base.ensures.frame.size in
    let place = c.in_ok-slot.ensures.found in
    let set = c.set_base.ensures.rebased in
    let ordered = c.set_base.ensures.frame.settings.ordered ∙ c.in_ok-slot.ensures.settings.ordered in
    let node = own_node (size_of (fields c.args.table.now)) (size_of (fields c.find_place.new.self)) T (cells c.find_place.new.self) (cells c.set_base.new.self) n.0 n.1.path c.args.node c.in_ok-slot.slot c.args.value n.1.holds n.1.at c.requires.not_root c.requires.own more c.in_ok-slot.ensures.held place set
    (fields c.args.table.now).ordered (fields c.set_base.new.self).ordered ordered n.1.ascending in
    let free = slot_free (size_of (fields c.args.table.now)) (size_of (fields c.find_place.new.self)) T (cells c.find_place.new.self) (cells c.set_base.new.self) n.0 n.1.path c.args.node c.in_ok-slot.slot c.args.value n.1.holds n.1.at c.requires.not_root c.requires.own more c.in_ok-slot.ensures.held place set in
    let based : InRange (size_of (fields c.set_base.new.self)) ((cells c.set_base.new.self).stored c.args.node) = subst (λ st. InRange (size_of (fields c.set_base.new.self)) st) (sym set.set) (place.not_first, subst (λ m. c.in_ok-slot.slot < m) (sym same) place.in_use) in
    let here : (f : Forest) × IsNodeOf (size_of (fields c.set_base.new.self)) (cells c.set_base.new.self) (fields c.set_base.new.self).ordered f c.args.node =
    (_, subst (λ m. IsNodeOf m (cells c.set_base.new.self) (fields c.set_base.new.self).ordered (edit_at n.1.path (λ _. None) (λ x. x) n.0) c.args.node) (sym same) node) in
    (search rules, record { sound = c.set_base.ensures.sound; node_in = omega (arith, c.requires.node_in, more, same); not_root = omega (arith, c.requires.not_root); node = here; based = based; place = inr free })

-- the tree and all paths are as they were
same_tree : (g : _) (c : goal.After-set_number g) → ((f : Forest) → HoldsTree (size_of (fields c.args.table.now)) (cells c.args.table.now) f → HoldsTree (size_of (fields c.set_number.new.table)) (cells c.set_number.new.table) f)
    × ((w : List ℕ) (s : ℕ) → IsAt (cells c.args.table.now) w s → IsAt (cells c.set_number.new.table) w s)
    × KeepsOtherMarks (cells c.args.table.now) (cells c.set_number.new.table) c.args.node
same_tree g c =
    let n = c.requires.node in
    let T = cells c.args.table.now in
    let found = found_blocks _ (fields c.args.table.now) (fields c.find_place.new.self) _ c.in_ok-slot.ensures.made in
    let more : size_of (fields c.args.table.now) ≤ size_of (fields c.find_place.new.self) = made_larger found.0 (fields c.args.table.now) (fields c.find_place.new.self) found.2 in
    let size' : ℕ = size_of (fields c.find_place.new.self) in
    let same : size_of (fields c.set_base.new.self) ≡ size' = c.set_base.ensures.frame.size in
    let place = c.in_ok-slot.ensures.found in
    let set = c.set_base.ensures.rebased in
    let fits : FitsSigned w32 c.args.value = search rules in
    let value : to_z w32 (of_z w32 c.args.value) ≡ c.args.value = to_z-of_z w32 c.args.value fits in
    let sets : SetsNumber size' (cells c.set_base.new.self) (cells c.set_number.new.table) c.args.node c.args.value =
    subst (λ m. SetsNumber m (cells c.set_base.new.self) (cells c.set_number.new.table) c.args.node c.args.value) same (subst (λ z. SetsNumber (size_of (fields c.set_base.new.self)) (cells c.set_base.new.self) (cells c.set_number.new.table) c.args.node z) value c.set_number.ensures.set) in
    let tree = λ (e : Forest) (u : List ℕ) (k : HoldsTree size' (cells c.set_base.new.self) e) (on : IsAt (cells c.set_base.new.self) u c.args.node).
    subst (λ z. HoldsTree (size_of (fields c.set_number.new.table)) (cells c.set_number.new.table) (edit_at u (λ _. Some z) (λ x. x) e)) value (c.set_number.ensures.tree e u (subst (λ m. HoldsTree m (cells c.set_base.new.self) e) (sym same) k) on) in (
      tree_back (size_of (fields c.args.table.now)) size' T (cells c.find_place.new.self) (cells c.set_base.new.self) n.0 n.1.path c.args.node c.in_ok-slot.slot c.args.value n.1.holds n.1.at c.requires.not_root c.requires.own more c.in_ok-slot.ensures.held place set
          (size_of (fields c.set_number.new.table)) (cells c.set_number.new.table) sets tree,
      paths_back (size_of (fields c.args.table.now)) size' T (cells c.find_place.new.self) (cells c.set_base.new.self) n.0 n.1.path c.args.node c.in_ok-slot.slot c.args.value n.1.holds n.1.at c.requires.not_root c.requires.own more c.in_ok-slot.ensures.held place set
          (size_of (fields c.set_number.new.table)) (cells c.set_number.new.table) sets tree,
      others_back (size_of (fields c.args.table.now)) size' T (cells c.find_place.new.self) (cells c.set_base.new.self) n.0 n.1.path c.args.node c.in_ok-slot.slot c.args.value n.1.holds n.1.at c.requires.not_root c.requires.own more c.in_ok-slot.ensures.held place set
          (size_of (fields c.set_number.new.table)) (cells c.set_number.new.table) sets tree,
    )

pub returns-clause-tree : goal.returns-clause-tree
returns-clause-tree g c = (same_tree g c).0

pub returns-clause-at : goal.returns-clause-at
returns-clause-at g c = (same_tree g c).1

pub returns-clause-step : goal.returns-clause-step
returns-clause-step g c =
    let found : MayAddBlock (fields c.args.table.now) (fields c.find_place.new.self) = record {
      blocks = found_blocks _ (fields c.args.table.now) (fields c.find_place.new.self) _ c.in_ok-slot.ensures.made;
      root_check = (c.in_ok-slot.ensures.held.other 0 (inl refl)).check;
      settings = c.in_ok-slot.ensures.settings;
    } in
    record { refused = tt; unchanged = tt; growth = growth_framed _ _ _ (growth_framed _ _ _ found c.set_base.ensures.frame (c.set_base.ensures.rebased.check 0)) c.set_number.ensures.frame c.set_number.ensures.root_check }

pub returns-clause-others : goal.returns-clause-others
returns-clause-others g c = (same_tree g c).2

pub returns-clause-made : goal.returns-clause-made
returns-clause-made g c =
    let T = fields c.args.table.now in
    let T₁ = fields c.find_place.new.self in
    let T₂ = fields c.set_base.new.self in
    let T₃ = fields c.set_number.new.table in
    elim c.in_ok-slot.ensures.made [
      | inl e ↦ inl (made_framed 0 T T₁ T₃ (made_nothing T T₁ e) (frame_then T₁ T₂ T₃ c.set_base.ensures.frame c.set_number.ensures.frame))
      | inr n ↦ inr n.0
    ]
