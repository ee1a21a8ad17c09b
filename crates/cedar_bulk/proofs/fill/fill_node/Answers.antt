use Rattle.std.proofs.Common.{◌≡◌, ◌∙◌, arith, FitsSigned, inl, of_z, refl, rules, Some, sym, ap, subst, to_z, w32}
use Rattle.std.specs.Prelude.{IfSome, List, true, ℕ}
use Rattle.std.proofs.lemmas.Int.{to_z-of_z}
use Rattle.cedar_model.specs.Tree.{Forest}
use Rattle.cedar_model.specs.Edits.{edit_at}
use Rattle.cedar_model.specs.declared.layout.Stored.TheVariants.{OwnNumber}
use Rattle.cedar_model.specs.Edit.NodeEdits.{IsAt, IsNodeOf}
use Rattle.cedar_model.specs.Meaning.Family.{base_in}
use Rattle.cedar_model.specs.Meaning.StandsFor.{HoldsTree}
use Rattle.cedar_model.specs.Edit.Own.{FieldSet}
use Rattle.cedar_bulk.specs.Sorted.{Fills}
use Rattle.cedar_table.specs.Table.Views.{cells, fields}
use Rattle.cedar_model.specs.Table.TableFields.{size_of}
use Rattle.cedar_model.specs.Meaning.WellFormed.{is_value}
use Rattle.cedar_bulk.proofs.BulkLemmas.BareNode.{empty_node}
use Rattle.cedar_model.proofs.UpdateLemmas.BlocksMade.{framed_none}
use Rattle.cedar_bulk.proofs.BulkLemmas.FilledNode.{no_labels, own_filled}
use Rattle.cedar_bulk.proofs.BulkLemmas.InnerKeys.{always_on_ok, placed_own}
use Rattle.cedar_model.proofs.EditLemmas.OwnNumber.{spare_past}
use Rattle.cedar_bulk.proofs.fill.fill_node.Goals as goal

pub set_own_number-requires : goal.set_own_number-requires
set_own_number-requires g c =
    let n = c.requires.wants.node in
    let kept = c.in-Some.ensures in
    let not_root : (c.args.node ≡ 0) → ⊥ = λ z. let e = sym kept.0 ∙ c.requires.wants.not_root z in absurd cc in
    let fits : FitsSigned w32 c.in-Some.value = search rules in
    let value : is_value (to_z w32 (of_z w32 c.in-Some.value)) ≡ true = ap is_value (to_z-of_z w32 c.in-Some.value fits) ∙ subst (λ o. IfSome o (λ v. is_value v ≡ true)) kept.0 c.requires.value in
    let node : IsNodeOf (size_of (fields c.args.table.now)) (cells c.args.table.now) (fields c.args.table.now).ordered n.0 c.args.node = record { holds = n.1.holds; ascending = λ _. n.1.ascending refl; path = n.1.path; at = n.1.at } in
    (search rules, (c.requires.wants.sound, (c.requires.wants.node_in, (not_root, ((n.0, node), ((empty_node (size_of (fields c.args.table.now)) (cells c.args.table.now) n.0 n.1.path c.args.node n.1.holds n.1.at n.2).alone, (kept.2, value)))))))

pub returns-in-Some-clause-fills : goal.returns-in-Some-clause-fills
returns-in-Some-clause-fills g c =
    let n = c.requires.wants.node in
    let kept = c.in-Some.ensures in
    let e = c.set_own_number.ensures in
    let T = cells c.args.table.now in
    let T' = cells c.set_own_number.new.self in
    let size = size_of (fields c.args.table.now) in
    let a = c.args.node in
    let v = c.in-Some.value in
    let ls = c.args.labels.now in
    let not_root : (a ≡ 0) → ⊥ = λ z. let e = sym kept.0 ∙ c.requires.wants.not_root z in absurd cc in
    let fits : FitsSigned w32 v = search rules in
    let same : to_z w32 (of_z w32 v) ≡ v = to_z-of_z w32 v fits in
    let set : FieldSet T T' a (OwnNumber v) = subst (λ z. FieldSet T T' a (OwnNumber z)) same e.set in
    let tree : (f : Forest) (w : List ℕ) → HoldsTree size T f → IsAt T w a → HoldsTree size T' (edit_at w (λ _. Some v) (λ u. u) f) = λ f w h at.
    subst (λ z. HoldsTree size T' (edit_at w (λ _. Some z) (λ u. u) f)) same (subst (λ m. HoldsTree m T' (edit_at w (λ _. Some (to_z w32 (of_z w32 v))) (λ u. u) f)) e.frame.size (e.tree f w h at)) in
    let spare = spare_past (fields c.args.table.now) (omega (arith, c.requires.wants.node_in)) in
    subst (λ m. Fills size m T T' a c.args.number ls) (sym e.frame.size)
    (subst (λ o. Fills size size T T' a o ls) (sym kept.0)
    (subst (Fills size size T T' a (Some v)) (no_labels ls kept.1) (own_filled size T T' n.0 n.1.path a v n.1.holds n.1.at n.2 not_root spare set tree)))

pub returns-in-Some-clause-blocks : goal.returns-in-Some-clause-blocks
returns-in-Some-clause-blocks g c = (0, omega arith, tt, λ _. refl, framed_none (fields c.args.table.now) (fields c.set_own_number.new.self) c.set_own_number.ensures.frame)

pub returns-in-Some-clause-root_check : goal.returns-in-Some-clause-root_check
returns-in-Some-clause-root_check g c = c.set_own_number.ensures.set.check 0

pub returns-in-Some-clause-own : goal.returns-in-Some-clause-own
returns-in-Some-clause-own g c = λ _ w is _.
    let v = c.in-Some.value in
    let fits : FitsSigned w32 v = search rules in
    let both : Some v ≡ Some w = sym c.in-Some.ensures.0 ∙ is in
    let one : v ≡ w = cc in
    c.set_own_number.ensures.set.set ∙ ap OwnNumber (to_z-of_z w32 v fits ∙ one)

pub returns-clause-own : goal.returns-clause-own
returns-clause-own g c = always_on_ok c.place_node.result (placed_own g.L.Layout.kind (cells c.place_node.new.table) c.args.node c.args.number c.args.labels.now c.in_default.ensures)

pub returns-in-Some-clause-base : goal.returns-in-Some-clause-base
returns-in-Some-clause-base g c = ap base_in (sym c.set_own_number.ensures.set.set)

pub returns-in-Some-clause-alone : goal.returns-in-Some-clause-alone
returns-in-Some-clause-alone g c = λ _. inl (framed_none (fields c.args.table.now) (fields c.set_own_number.new.self) c.set_own_number.ensures.frame)
