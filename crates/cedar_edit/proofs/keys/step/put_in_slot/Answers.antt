use Rattle.std.proofs.Common.{rules, ◌≡◌, ◌≢◌, ◌∙◌, ◌<◌, ap, arith, inl, inr, subst, sym, of_z, to_z, w32, FitsSigned, Some}
use Rattle.std.specs.Prelude.{List, ℕ, OnOk, pos}
use Rattle.std.proofs.lemmas.Int.{to_z-of_z}
use Rattle.cedar_model.specs.Tree.{Forest}
use Rattle.cedar_model.specs.Edits.{edit_at}
use Rattle.cedar_model.specs.Meaning.StandsFor.{HoldsTree}
use Rattle.cedar_model.specs.Table.Cells.{Held}
use Rattle.cedar_model.specs.Meaning.Family.{base_in, base_of, below}
use Rattle.cedar_model.specs.Edit.NodeEdits.{IsAt}
use Rattle.cedar_table.specs.Table.Views.{cells, fields}
use Rattle.cedar_model.specs.Table.TableFields.{size_of}
use Rattle.cedar_model.proofs.UpdateLemmas.BlocksMade.{framed_none, growth_none}
use Rattle.cedar_model.proofs.EditLemmas.KeptSlotGiven.{slot_far}
use Rattle.cedar_model.proofs.UpdateLemmas.MarksAfterPut.{slot_put}
use Rattle.cedar_model.proofs.EditLemmas.Room.{based_node, not_free_held}
use Rattle.cedar_model.proofs.UpdateLemmas.ChildReached.{label_inside, owner_ranged}
use Rattle.cedar_model.proofs.MeaningLemmas.NodeAtPath.{at_node}
use Rattle.cedar_model.proofs.MeaningLemmas.SearchStep.{never_nothing}
use Rattle.cedar_model.proofs.UpdateLemmas.StepAnswers.{on_success}
use Rattle.cedar_edit.proofs.keys.step.put_in_slot.Goals as goal

pub slot_below-slot-requires : goal.slot_below-slot-requires
slot_below-slot-requires g c =
    let T = fields c.args.table.now in
    let n = c.requires.node.1 in
    let st = at_node (size_of T) (cells c.args.table.now) c.requires.node.0 n.path c.args.node n.holds n.at in
    (search rules, (c.requires.node_in, never_nothing (size_of T) (cells c.args.table.now) c.args.node _ st))

pub is_owned_by-requires : goal.is_owned_by-requires
is_owned_by-requires g c =
    let n = c.requires.node in
    let inside = label_inside (size_of (fields c.args.table.now)) (cells c.args.table.now) (fields c.args.table.now).ordered n.0 c.args.node 0 n.1 (omega arith) (omega (arith, c.requires.node_in)) (omega arith) c.requires.no_own_number in
    (search rules, (subst (λ s. s < size_of (fields c.args.table.now)) (sym c.slot_below-slot.ensures) inside, c.requires.node_in))

pub set_number-requires : goal.set_number-requires
set_number-requires g c =
    let T = cells c.args.table.now in
    let n = c.requires.node in
    let mine : T.check (below T c.args.node 0) ≡ pos c.args.node = ap T.check (sym c.slot_below-slot.ensures) ∙ c.is_owned_by.ensures.0 c.if-is_owned_by.true in
    let range = owner_ranged (size_of (fields c.args.table.now)) T (fields c.args.table.now).ordered n.0 c.args.node (below T c.args.node 0) n.1 c.requires.not_root c.requires.no_own_number mine in
    (search rules, record { sound = c.requires.sound; node_in = c.requires.node_in; not_root = omega (arith, c.requires.not_root); node = n; based = range; place = inl mine })

pub returns-then-is_owned_by-clause-set : goal.returns-then-is_owned_by-clause-set
returns-then-is_owned_by-clause-set g c = λ f w h on.
    let fits : FitsSigned w32 c.args.value = search rules in
    let same : to_z w32 (of_z w32 c.args.value) ≡ c.args.value = to_z-of_z w32 c.args.value fits in
    subst (λ z. HoldsTree (size_of (fields c.set_number.new.table)) (cells c.set_number.new.table) (edit_at w (λ _. Some z) (λ u. u) f)) same (c.set_number.ensures.tree f w h on)

pub returns-then-is_owned_by-clause-step : goal.returns-then-is_owned_by-clause-step
returns-then-is_owned_by-clause-step g c = record { refused = tt; unchanged = tt; growth = growth_none (fields c.args.table.now) (fields c.set_number.new.table) c.set_number.ensures.frame c.set_number.ensures.root_check }

pub returns-then-is_owned_by-clause-owned : goal.returns-then-is_owned_by-clause-owned
returns-then-is_owned_by-clause-owned g c = λ _. (tt, framed_none (fields c.args.table.now) (fields c.set_number.new.table) c.set_number.ensures.frame)

pub returns-then-is_owned_by-clause-leaf : goal.returns-then-is_owned_by-clause-leaf
returns-then-is_owned_by-clause-leaf g c = λ _. inl (tt, framed_none (fields c.args.table.now) (fields c.set_number.new.table) c.set_number.ensures.frame)

pub is_taken-requires : goal.is_taken-requires
is_taken-requires g c =
    let n = c.requires.node in
    let T = cells c.args.table.now in
    let inside = label_inside (size_of (fields c.args.table.now)) T (fields c.args.table.now).ordered n.0 c.args.node 0 n.1 (omega arith) (omega (arith, c.requires.node_in)) (omega arith) c.requires.no_own_number in (
      search rules,
      (
        c.requires.node_in,
        (
          subst (λ s. s < size_of (fields c.args.table.now)) (sym c.slot_below-slot.ensures) inside,
          λ b z. slot_far _ 0 (based_node (size_of (fields c.args.table.now)) T (fields c.args.table.now).ordered n.0 c.args.node n.1 c.requires.no_own_number b).1.0 (omega arith) (sym c.slot_below-slot.ensures ∙ z),
        ),
      ),
    )

pub put_over-requires : goal.put_over-requires
put_over-requires g c =
    let n = c.requires.node in
    let T = cells c.args.table.now in
    let k = c.is_taken.ensures.taken c.if-is_taken.true in
    let based = based_node (size_of (fields c.args.table.now)) T (fields c.args.table.now).ordered n.0 c.args.node n.1 c.requires.no_own_number k.0 in
    let taken : Held T (below T c.args.node 0) = subst (Held T) c.slot_below-slot.ensures (not_free_held T c.slot_below-slot.result k.1) in
    let absent : T.check (below T c.args.node 0) ≢ pos c.args.node = λ o.
    let is_mine = c.is_owned_by.ensures.1 (ap T.check c.slot_below-slot.ensures ∙ o) in
    let not_mine = c.if-is_owned_by.false in
    cc in
    (search rules, record { sound = c.requires.sound; node_in = c.requires.node_in; not_root = based.0; based = based.1.0; node = n; taken = taken; absent = absent })

pub returns-then-is_taken-clause-set : goal.returns-then-is_taken-clause-set
returns-then-is_taken-clause-set g c =
    let fits : FitsSigned w32 c.args.value = search rules in
    let same : to_z w32 (of_z w32 c.args.value) ≡ c.args.value = to_z-of_z w32 c.args.value fits in
    subst (λ z. OnOk c.put_over.result ((f : Forest) (w : List ℕ) → HoldsTree (size_of (fields c.args.table.now)) (cells c.args.table.now) f → IsAt (cells c.args.table.now) w c.args.node
    → HoldsTree (size_of (fields c.put_over.new.table)) (cells c.put_over.new.table) (edit_at w (λ _. Some z) (λ u. u) f))) same c.put_over.ensures.set

pub returns-then-is_taken-clause-owned : goal.returns-then-is_taken-clause-owned
returns-then-is_taken-clause-owned g c = λ o.
    let T = cells c.args.table.now in
    let is_mine = c.is_owned_by.ensures.1 (ap T.check c.slot_below-slot.ensures ∙ o) in
    let not_mine = c.if-is_owned_by.false in
    absurd (cc)

pub returns-then-is_taken-clause-leaf : goal.returns-then-is_taken-clause-leaf
returns-then-is_taken-clause-leaf g c = λ bare. absurd ((c.is_taken.ensures.taken c.if-is_taken.true).0 (ap base_in bare))

pub returns-clause-owned : goal.returns-clause-owned
returns-clause-owned g c = λ o.
    let T = cells c.args.table.now in
    let is_mine = c.is_owned_by.ensures.1 (ap T.check c.slot_below-slot.ensures ∙ o) in
    let not_mine = c.if-is_owned_by.false in
    absurd (cc)

pub returns-then-is_owned_by-clause-marks : goal.returns-then-is_owned_by-clause-marks
returns-then-is_owned_by-clause-marks g c =
    let n = c.requires.node.1 in
    slot_put (size_of (fields c.args.table.now)) (cells c.args.table.now) (cells c.set_number.new.table) _ n.path c.args.node _ n.holds n.at c.set_number.ensures.set

pub number_leaf-requires : goal.number_leaf-requires
number_leaf-requires g c =
    let is = c.is_new_leaf.ensures.leaf c.if-is_new_leaf.true in
    (search rules, record { sound = c.requires.sound; node_in = c.requires.node_in; not_root = is.0; node = c.requires.node; leaf = is.1 })

pub returns-then-is_new_leaf-clause-set : goal.returns-then-is_new_leaf-clause-set
returns-then-is_new_leaf-clause-set g c =
    let fits : FitsSigned w32 c.args.value = search rules in
    let same : to_z w32 (of_z w32 c.args.value) ≡ c.args.value = to_z-of_z w32 c.args.value fits in
    subst (λ z. OnOk c.number_leaf.result ((f : Forest) (w : List ℕ) → HoldsTree (size_of (fields c.args.table.now)) (cells c.args.table.now) f → IsAt (cells c.args.table.now) w c.args.node
    → HoldsTree (size_of (fields c.number_leaf.new.table)) (cells c.number_leaf.new.table) (edit_at w (λ _. Some z) (λ u. u) f))) same c.number_leaf.ensures.set

pub returns-then-is_new_leaf-clause-owned : goal.returns-then-is_new_leaf-clause-owned
returns-then-is_new_leaf-clause-owned g c = λ o. absurd (c.number_leaf.ensures.absent o)

pub returns-then-is_new_leaf-clause-leaf : goal.returns-then-is_new_leaf-clause-leaf
returns-then-is_new_leaf-clause-leaf g c = λ _. c.number_leaf.ensures.made

pub set_number-requires-2 : goal.set_number-requires-2
set_number-requires-2 g c =
    let T = cells c.args.table.now in
    let n = c.requires.node in
    let based : base_of T c.args.node ≢ 0 = elim (c.is_new_leaf.ensures.based (λ t. let f = c.if-is_new_leaf.false in cc)) [ inl root ↦ absurd (c.requires.not_root root.1) | inr b ↦ b ] in
    let range = (based_node (size_of (fields c.args.table.now)) T (fields c.args.table.now).ordered n.0 c.args.node n.1 c.requires.no_own_number based).1 in
    let free : Held T (below T c.args.node 0) → ⊥ = subst (λ s. Held T s → ⊥) c.slot_below-slot.ensures (c.is_taken.ensures.«open» (λ t. let f = c.if-is_taken.false in cc) based) in
    (search rules, record { sound = c.requires.sound; node_in = c.requires.node_in; not_root = omega (arith, c.requires.not_root); node = n; based = range; place = inr free })

pub returns-clause-set : goal.returns-clause-set
returns-clause-set g c = λ f w h on.
    let fits : FitsSigned w32 c.args.value = search rules in
    let same : to_z w32 (of_z w32 c.args.value) ≡ c.args.value = to_z-of_z w32 c.args.value fits in
    subst (λ z. HoldsTree (size_of (fields c.set_number-2.new.table)) (cells c.set_number-2.new.table) (edit_at w (λ _. Some z) (λ u. u) f)) same (c.set_number-2.ensures.tree f w h on)

pub returns-clause-step : goal.returns-clause-step
returns-clause-step g c = record { refused = tt; unchanged = tt; growth = growth_none (fields c.args.table.now) (fields c.set_number-2.new.table) c.set_number-2.ensures.frame c.set_number-2.ensures.root_check }

pub returns-clause-leaf : goal.returns-clause-leaf
returns-clause-leaf g c = λ _. inl (tt, framed_none (fields c.args.table.now) (fields c.set_number-2.new.table) c.set_number-2.ensures.frame)

pub returns-clause-marks : goal.returns-clause-marks
returns-clause-marks g c =
    let n = c.requires.node.1 in
    slot_put (size_of (fields c.args.table.now)) (cells c.args.table.now) (cells c.set_number-2.new.table) _ n.path c.args.node _ n.holds n.at c.set_number-2.ensures.set

pub returns-then-is_new_leaf-clause-single : goal.returns-then-is_new_leaf-clause-single
returns-then-is_new_leaf-clause-single g c = on_success c.number_leaf.result _ _ (λ k _. k) c.number_leaf.ensures.single

pub returns-then-is_owned_by-clause-single : goal.returns-then-is_owned_by-clause-single
returns-then-is_owned_by-clause-single g c = λ bare.
    elim (c.is_new_leaf.ensures.based (λ t. let f = c.if-is_new_leaf.false in cc)) [ inl root ↦ absurd (c.requires.not_root root.1) | inr based ↦ absurd (based (ap base_in bare)) ]

pub returns-then-is_taken-clause-single : goal.returns-then-is_taken-clause-single
returns-then-is_taken-clause-single g c = on_success c.put_over.result _ _ (λ _ bare. absurd ((c.is_taken.ensures.taken c.if-is_taken.true).0 (ap base_in bare))) c.put_over.ensures.marks

pub returns-clause-single : goal.returns-clause-single
returns-clause-single g c = λ bare.
    elim (c.is_new_leaf.ensures.based (λ t. let f = c.if-is_new_leaf.false in cc)) [ inl root ↦ absurd (c.requires.not_root root.1) | inr based ↦ absurd (based (ap base_in bare)) ]
