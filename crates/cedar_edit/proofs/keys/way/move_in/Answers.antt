use Rattle.std.proofs.Common.{◌≡◌, ◌∙◌, ap, arith, FitsSigned, None, inl, of_z, refl, rules, Some, true, false, subst, sym, to_z, w32}
use Rattle.std.specs.Prelude.{ℕ, List, pos, is_some}
use Rattle.std.proofs.lemmas.Bool.{false≢true}
use Rattle.std.proofs.lemmas.Int.{to_z-of_z}
use Rattle.cedar_model.specs.Tree.{number_at}
use Rattle.cedar_model.specs.Edits.{edit_at}
use Rattle.cedar_model.specs.declared.layout.Stored.TheVariants.{OwnNumber}
use Rattle.cedar_model.specs.Edit.NodeEdits.{IsAt}
use Rattle.cedar_model.specs.Meaning.Family.{below}
use Rattle.cedar_model.specs.Meaning.Marks.{KeepsOtherMarks, mark}
use Rattle.cedar_model.specs.Edit.Own.{FieldSet}
use Rattle.cedar_model.specs.Meaning.Reading.{first_in}
use Rattle.cedar_model.specs.Meaning.StandsFor.{HoldsTree}
use Rattle.cedar_table.specs.Table.Views.{cells, fields}
use Rattle.cedar_model.specs.Table.TableFields.{size_of}
use Rattle.cedar_model.specs.Meaning.WellFormed.{is_value, IsWellFormed, tree_of}
use Rattle.cedar_model.proofs.UpdateLemmas.Erasure.{dropped_at, dropped_node, key_node, number_based}
use Rattle.cedar_model.proofs.MeaningLemmas.NumberSlots.{marked_slot}
use Rattle.cedar_model.proofs.EditLemmas.NumberMovesIn.{alone_dropped, below_root, in_range, marked_in, number_back, others_in}
use Rattle.cedar_model.proofs.EditLemmas.OwnNumber.{field_paths, spare_past}
use Rattle.cedar_model.proofs.UpdateLemmas.Ending.{tree_kept}
use Rattle.cedar_model.proofs.UpdateLemmas.FreeWay.{at_same, slot_held}
use Rattle.cedar_model.proofs.UpdateLemmas.Frame.{settings_then}
use Rattle.cedar_edit.proofs.keys.way.move_in.Goals as goal

pub lone_number-requires : goal.lone_number-requires
lone_number-requires g c =
    (search rules, (c.in-Some.ensures.0, (_, key_node g.row.SLOTS (fields c.args.table.now) c.requires.well_formed c.args.key.now c.in-Some.node c.in-Some.ensures.2)))

pub drop_number-requires : goal.drop_number-requires
drop_number-requires g c =
    let T = fields c.args.table.now in
    let w = c.requires.well_formed in
    let at = c.in-Some.ensures.2 in
    let lone = c.in-Some-lone_number.ensures in
    let not_root = below_root g.row.SLOTS T w c.args.key.now c.in-Some.node _ at lone.0 lone.1 lone.2 in
    (search rules, record { sound = w.table; node_in = c.in-Some.ensures.0; not_root = omega (arith, not_root); node = (_, key_node g.row.SLOTS T w c.args.key.now c.in-Some.node at); based = number_based (size_of T) (cells c.args.table.now) (tree_of T).children c.args.key.now c.in-Some.node w.stands at lone.0; owned = lone.0 })

pub set_own_number-requires : goal.set_own_number-requires
set_own_number-requires g c =
    let T = fields c.args.table.now in
    let w = c.requires.well_formed in
    let at = c.in-Some.ensures.2 in
    let lone = c.in-Some-lone_number.ensures in
    let d = c.drop_number.ensures in
    let not_root = below_root g.row.SLOTS T w c.args.key.now c.in-Some.node _ at lone.0 lone.1 lone.2 in
    let stays = dropped_at (size_of T) (cells c.args.table.now) (cells c.drop_number.new.table) (tree_of T).children c.args.key.now c.in-Some.node w.stands at d.dropped in
    let node = dropped_node (size_of (fields c.drop_number.new.table)) (cells c.drop_number.new.table) T.ordered _ (tree_of T).children c.args.key.now c.in-Some.node w.ascending stays d.frame.settings.ordered (d.tree (tree_of T).children c.args.key.now w.stands at) in
    let alone = alone_dropped g.row.SLOTS T w c.args.key.now c.in-Some.node _ at lone.0 lone.1 lone.2 (cells c.drop_number.new.table) d.dropped in
    let fits : FitsSigned w32 c.in-Some-lone_number.value = search rules in
    let same : to_z w32 (of_z w32 c.in-Some-lone_number.value) ≡ c.in-Some-lone_number.value = to_z-of_z w32 c.in-Some-lone_number.value fits in
    let value = ap is_value same ∙ in_range g.row.SLOTS T w c.args.key.now c.in-Some.node _ at lone.0 lone.1 lone.2 in
    (search rules, (d.sound, (omega (arith, c.in-Some.ensures.0, d.frame.size), (not_root, ((_, node), (alone, (c.requires.layout, value)))))))

-- the table after
back : (g : _) (c : goal.After-set_own_number g) → IsWellFormed g.row.SLOTS (fields c.set_own_number.new.self) × (tree_of (fields c.set_own_number.new.self) ≡ tree_of (fields c.args.table.now))
back g c =
    let T = fields c.args.table.now in
    let w = c.requires.well_formed in
    let at = c.in-Some.ensures.2 in
    let lone = c.in-Some-lone_number.ensures in
    let d = c.drop_number.ensures in
    let e = c.set_own_number.ensures in
    let stays = dropped_at (size_of T) (cells c.args.table.now) (cells c.drop_number.new.table) (tree_of T).children c.args.key.now c.in-Some.node w.stands at d.dropped in
    let fits : FitsSigned w32 c.in-Some-lone_number.value = search rules in
    let same : to_z w32 (of_z w32 c.in-Some-lone_number.value) ≡ c.in-Some-lone_number.value = to_z-of_z w32 c.in-Some-lone_number.value fits in
    let set = subst (λ z. HoldsTree (size_of (fields c.set_own_number.new.self)) (cells c.set_own_number.new.self) (edit_at c.args.key.now (λ _. Some z) (λ u. u) (edit_at c.args.key.now (λ _. None) (λ u. u) (tree_of T).children))) same
    (e.tree _ c.args.key.now (d.tree (tree_of T).children c.args.key.now w.stands at) stays) in
    let holds = number_back g.row.SLOTS T w c.args.key.now c.in-Some.node _ at lone.0 lone.1 lone.2 (size_of (fields c.set_own_number.new.self)) (cells c.set_own_number.new.self) set in
    tree_kept g.row.SLOTS T (fields c.set_own_number.new.self) w e.sound (e.set.check 0 ∙ d.root_check) holds (settings_then T (fields c.drop_number.new.table) (fields c.set_own_number.new.self) d.frame.settings e.frame.settings)

pub returns-clause-well_formed : goal.returns-clause-well_formed
returns-clause-well_formed g c = (back g c).0

pub returns-clause-tree : goal.returns-clause-tree
returns-clause-tree g c = (back g c).1

pub returns-in_default-clause-here : goal.returns-in_default-clause-here
returns-in_default-clause-here g c = λ s on is first.
    let T = fields c.args.table.now in
    let w = c.requires.well_formed in
    let held : is_some (number_at (tree_of T) c.args.key.now) ≡ true = slot_held g.row.SLOTS T w c.args.key.now s on (marked_slot (cells c.args.table.now) s is) in
    absurd (false≢true (sym (ap is_some c.in_default.ensures.0) ∙ held))

pub returns-in_default-lone_number-clause-here : goal.returns-in_default-lone_number-clause-here
returns-in_default-lone_number-clause-here g c = λ s on is first.
    let same = at_same (cells c.args.table.now) c.args.key.now s c.in-Some.node on c.in-Some.ensures.2 in
    let mine = subst (λ x. (cells c.args.table.now).check (below (cells c.args.table.now) x 0) ≡ pos x) same (marked_slot (cells c.args.table.now) s is) in
    absurd (c.in_default-lone_number.ensures mine (subst (λ x. first_in (cells c.args.table.now) x ≡ 0) same first))

-- the paths as they are after both steps
paths_in : (g : _) (c : goal.After-set_own_number g) (u : List ℕ) (q : ℕ) → IsAt (cells c.drop_number.new.table) u q → IsAt (cells c.set_own_number.new.self) u q
paths_in g c u q on =
    let T = fields c.args.table.now in
    let w = c.requires.well_formed in
    let at = c.in-Some.ensures.2 in
    let lone = c.in-Some-lone_number.ensures in
    let d = c.drop_number.ensures in
    let stays = dropped_at (size_of T) (cells c.args.table.now) (cells c.drop_number.new.table) (tree_of T).children c.args.key.now c.in-Some.node w.stands at d.dropped in
    let not_root = below_root g.row.SLOTS T w c.args.key.now c.in-Some.node _ at lone.0 lone.1 lone.2 in
    let alone = alone_dropped g.row.SLOTS T w c.args.key.now c.in-Some.node _ at lone.0 lone.1 lone.2 (cells c.drop_number.new.table) d.dropped in
    field_paths (size_of (fields c.drop_number.new.table)) (cells c.drop_number.new.table) (cells c.set_own_number.new.self) _ c.args.key.now c.in-Some.node (size_of (fields c.drop_number.new.table)) _ _ (d.tree (tree_of T).children c.args.key.now w.stands at) stays not_root alone c.set_own_number.ensures.set
    (spare_past (fields c.drop_number.new.table) (omega (arith, c.in-Some.ensures.0, d.frame.size))) (inl (_, refl, refl)) u q on

pub returns-clause-here : goal.returns-clause-here
returns-clause-here g c = λ s on is first.
    let T = fields c.args.table.now in
    let w = c.requires.well_formed in
    let at = c.in-Some.ensures.2 in
    let lone = c.in-Some-lone_number.ensures in
    let d = c.drop_number.ensures in
    let same = at_same (cells c.args.table.now) c.args.key.now c.in-Some.node s at on in
    let fits : FitsSigned w32 c.in-Some-lone_number.value = search rules in
    let value : to_z w32 (of_z w32 c.in-Some-lone_number.value) ≡ c.in-Some-lone_number.value = to_z-of_z w32 c.in-Some-lone_number.value fits in
    let stays = dropped_at (size_of T) (cells c.args.table.now) (cells c.drop_number.new.table) (tree_of T).children c.args.key.now c.in-Some.node w.stands at d.dropped in
    let root = (back g c).0.stands.root in
    let set = subst (λ z. FieldSet (cells c.drop_number.new.table) (cells c.set_own_number.new.self) c.in-Some.node (OwnNumber z)) value c.set_own_number.ensures.set in (
      subst (IsAt (cells c.set_own_number.new.self) c.args.key.now) same (paths_in g c c.args.key.now c.in-Some.node stays),
      subst (λ x. mark (cells c.set_own_number.new.self) x ≡ Some false) same (marked_in g.row.SLOTS T w c.args.key.now c.in-Some.node _ at lone.0 lone.1 lone.2 (cells c.drop_number.new.table) (cells c.set_own_number.new.self) d.dropped set root),
    )

pub returns-clause-others : goal.returns-clause-others
returns-clause-others g c = λ s on.
    let T = fields c.args.table.now in
    let w = c.requires.well_formed in
    let at = c.in-Some.ensures.2 in
    let lone = c.in-Some-lone_number.ensures in
    let d = c.drop_number.ensures in
    let same = at_same (cells c.args.table.now) c.args.key.now c.in-Some.node s at on in
    let fits : FitsSigned w32 c.in-Some-lone_number.value = search rules in
    let value : to_z w32 (of_z w32 c.in-Some-lone_number.value) ≡ c.in-Some-lone_number.value = to_z-of_z w32 c.in-Some-lone_number.value fits in
    let set = subst (λ z. FieldSet (cells c.drop_number.new.table) (cells c.set_own_number.new.self) c.in-Some.node (OwnNumber z)) value c.set_own_number.ensures.set in
    subst (KeepsOtherMarks (cells c.args.table.now) (cells c.set_own_number.new.self)) same (others_in g.row.SLOTS T w c.args.key.now c.in-Some.node _ at lone.0 lone.1 lone.2 (cells c.drop_number.new.table) (cells c.set_own_number.new.self) d.dropped set (paths_in g c))
