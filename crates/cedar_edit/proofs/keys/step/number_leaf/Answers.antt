use Rattle.std.proofs.Common.{rules, ◌≡◌, ◌∙◌, arith, inl, inr, of_z, Some, subst, sym, to_z, true, w32, FitsSigned}
use Rattle.std.proofs.lemmas.Int.{to_z-of_z}
use Rattle.cedar_model.specs.Edits.{edit_at}
use Rattle.cedar_model.specs.Meaning.StandsFor.{HoldsTree}
use Rattle.cedar_model.specs.Edit.NodeEdits.{IsNodeOf}
use Rattle.cedar_model.specs.Meaning.Family.{below}
use Rattle.cedar_table.specs.Table.Views.{cells, fields}
use Rattle.cedar_model.specs.Table.TableFields.{size_of}
use Rattle.cedar_model.proofs.UpdateLemmas.BlocksMade.{growth_framed, made_framed}
use Rattle.cedar_model.proofs.UpdateLemmas.MarksAfterPut.{kept_then_put, slot_put}
use Rattle.cedar_model.specs.Edit.Packing.{MakesIfFull}
use Rattle.cedar_edit.proofs.LeafLemmas.{leaf_alone, single_taken}
use Rattle.cedar_edit.proofs.StepLemmas.{refused_step}
use Rattle.cedar_edit.proofs.keys.step.number_leaf.Goals as goal

pub returns-in_err-slot-clause-step : goal.returns-in_err-slot-clause-step
returns-in_err-slot-clause-step g c =
    let step = c.in_err-slot.ensures.step in
    refused_step _ _ _ c.from_residual.result c.in_err-slot.field-0.0 c.from_residual.ensures.1 step.refused step.unchanged step.growth

pub returns-in_err-slot-clause-absent : goal.returns-in_err-slot-clause-absent
returns-in_err-slot-clause-absent g c =
    let n = c.requires.node in
    leaf_alone (size_of (fields c.args.table.now)) (cells c.args.table.now) (fields c.args.table.now).ordered n.0 c.args.node n.1 c.requires.not_root c.requires.leaf _

pub returns-in_err-slot-clause-made : goal.returns-in_err-slot-clause-made
returns-in_err-slot-clause-made g c = elim c.in_err-slot.ensures.made [ inl never ↦ absurd never.0 | inr full ↦ inr full ]

pub set_only-requires : goal.set_only-requires
set_only-requires g c =
    let n = c.requires.node in
    let room = c.in_ok-slot.ensures in
    let node : IsNodeOf (size_of (fields c.first_base.new.table)) (cells c.first_base.new.table) (fields c.first_base.new.table).ordered n.0 c.args.node = record {
      holds = room.tree n.0 n.1.holds;
      ascending = λ o. n.1.ascending (sym room.step.growth.settings.ordered ∙ o);
      path = n.1.path;
      at = room.placed.at n.1.path n.1.at;
    } in
    (search rules, record { sound = room.sound; node_in = room.placed.inside; not_root = omega (arith, c.requires.not_root); node = (n.0, node); based = room.placed.based c.requires.not_root; alone = room.alone; free = room.placed.free; slot = room.slot })

pub returns-clause-set : goal.returns-clause-set
returns-clause-set g c = λ f w h on.
    let fits : FitsSigned w32 c.args.value = search rules in
    let same : to_z w32 (of_z w32 c.args.value) ≡ c.args.value = to_z-of_z w32 c.args.value fits in
    subst (λ z. HoldsTree (size_of (fields c.set_only.new.table)) (cells c.set_only.new.table) (edit_at w (λ _. Some z) (λ u. u) f)) same
    (c.set_only.ensures.tree f w (c.in_ok-slot.ensures.tree f h) (c.in_ok-slot.ensures.placed.at w on))

pub returns-clause-marks : goal.returns-clause-marks
returns-clause-marks g c =
    let n = c.requires.node in
    let room = c.in_ok-slot.ensures in
    let holds = room.tree n.0 n.1.holds in
    let put = slot_put (size_of (fields c.first_base.new.table)) (cells c.first_base.new.table) (cells c.set_only.new.table) n.0 n.1.path c.args.node _ holds (room.placed.at n.1.path n.1.at) c.set_only.ensures.set in
    kept_then_put (cells c.args.table.now) (cells c.first_base.new.table) (cells c.set_only.new.table) n.1.path c.args.node c.args.node true holds.root n.1.at room.placed.marks room.placed.at put

pub returns-clause-step : goal.returns-clause-step
returns-clause-step g c = record { refused = tt; unchanged = tt; growth = growth_framed _ _ _ c.in_ok-slot.ensures.step.growth c.set_only.ensures.frame c.set_only.ensures.root_check }

pub returns-clause-absent : goal.returns-clause-absent
returns-clause-absent g c =
    let n = c.requires.node in
    leaf_alone (size_of (fields c.args.table.now)) (cells c.args.table.now) (fields c.args.table.now).ordered n.0 c.args.node n.1 c.requires.not_root c.requires.leaf _

pub returns-clause-made : goal.returns-clause-made
returns-clause-made g c = elim c.in_ok-slot.ensures.made [
  | inl made ↦ inl (tt, made_framed 0 (fields c.args.table.now) (fields c.first_base.new.table) (fields c.set_only.new.table) made.1 c.set_only.ensures.frame)
  | inr full ↦ inr full
]

pub returns-clause-single : goal.returns-clause-single
returns-clause-single g c =
    let room = c.in_ok-slot.ensures in
    let set = c.set_only.ensures in
    let made : MakesIfFull (fields c.args.table.now) (fields c.first_base.new.table) = elim room.made [ inl none ↦ inl none.1 | inr full ↦ inr full ] in
    single_taken (fields c.args.table.now) (fields c.first_base.new.table) (fields c.set_only.new.table) c.in_ok-slot.slot (below (cells c.first_base.new.table) c.args.node 0) made set.frame room.keeps set.keeps room.slot room.placed.free set.taken
