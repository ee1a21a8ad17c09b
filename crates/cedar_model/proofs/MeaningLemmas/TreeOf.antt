-- A table whose slots represent a tree is well-formed with that tree.
use Rattle.std.proofs.Common.{◌≡◌, ℕ, ◌<◌, length, refl, ap, sym, ◌∙◌, subst, inl, inr, None, cond, true, false, arith, ℤ}
use Rattle.std.specs.Prelude.{pos, negsuc, nat_lt}
use Rattle.std.proofs.lemmas.Bool.{cases_lt}
use Rattle.std.proofs.lemmas.Bool.Decides.{nat_tests}
use Rattle.cedar_tree.specs.Tree.{Forest, none, Tree, empty_tree, IsSoundBelow, IsAscending, AllNumbers}
use Rattle.cedar_tree.specs.Queries.{walk, walk_forest}
use Rattle.cedar_model.specs.declared.layout.Stored.TheVariants.{AtBase}
use Rattle.cedar_model.specs.Table.Cells.{Cells}
use Rattle.cedar_model.specs.Meaning.StandsFor.{HoldsTree, Stands}
use Rattle.cedar_model.specs.Meaning.Reading.{tree_read}
use Rattle.cedar_slots.specs.Places.{IsNewPlaces, IsTable}
use Rattle.cedar_slots.specs.Slots.{blank_info, check_at, info_at}
use Rattle.cedar_slots.specs.declared.records.NInfoRecord.{NInfoRecord}
use Rattle.cedar_model.specs.Table.TableFields.{Fields, size_of}
use Rattle.cedar_model.specs.Meaning.WellFormed.{cells_in, tree_of, is_value, IsWellFormed}
use Rattle.cedar_model.proofs.MeaningLemmas.SearchStep.{root_stands}
use Rattle.cedar_slots.proofs.PlacementLemmas.FirstBlock.{infos_blank}
use Rattle.cedar_model.proofs.CellsLemmas.FirstSlots.{bare_new}
use Rattle.cedar_model.proofs.MeaningLemmas.ReadBack.{tree_is}

-- only slots in use have owners
pub in_use : (T : Fields) (q c : ℕ) → (cells_in T).check q ≡ pos c → q < size_of T
in_use T q c e = elim (cases_lt q (size_of T)) [
  | inl h ↦ h
  | inr h ↦
      let past : nat_lt q (size_of T) ≡ false = grind (arith, nat_tests) in
      let z : negsuc 0 ≡ pos c = sym (ap (λ t. cond t (check_at T.places.slots.nodes q) (negsuc 0)) past) ∙ e in
      cc
]

pub tree_of_is : (T : Fields) (f : Forest) → HoldsTree (size_of T) (cells_in T) f → tree_of T ≡ record { number = None; children = f }
tree_of_is T f w = tree_is (size_of T) (cells_in T) f (in_use T) w

-- the root of a well-formed table represents its tree
pub root_place : (slots : ℕ) (T : Fields) → IsWellFormed slots T → Stands (size_of T) (cells_in T) 0 (tree_of T)
unfolding tree_read
root_place slots T w = root_stands (size_of T) (cells_in T) (tree_of T).children w.stands.stands

-- a table whose only held slot is the root's represents the empty tree
pub new_stands : (size : ℕ) (T : Cells) → T.stored 0 ≡ AtBase 0 → T.child 0 ≡ 0 → T.sibling 0 ≡ 0 → ((q c : ℕ) → T.check q ≡ pos c → ⊥) → HoldsTree size T none
new_stands size T b c s free = record {
  stands = (record { based = b; begins = (refl, c, s); only = λ q o. free q 0 o }, tt);
  root = λ c o. free 0 c o;
  reached = λ q c o. absurd (free q c o);
}

-- how every change ends: what was shown of the slots and of the tree makes the table well-formed
pub is_well_formed : (slots : ℕ) (T : Fields) (f : Forest) → IsTable slots T.places → check_at T.places.slots.nodes 0 ≡ negsuc 0 → HoldsTree (size_of T) (cells_in T) f → IsSoundBelow f → AllNumbers (λ v. is_value v ≡ true) f → (T.ordered ≡ true → IsAscending f) → T.entries ≡ length (walk_forest f) → IsWellFormed slots T
is_well_formed slots T f table root holds sound values ascending entries =
    let tree : tree_of T ≡ record { number = None; children = f } = tree_of_is T f holds in
    let same : f ≡ (tree_of T).children = sym (ap (λ (t : Tree). t.children) tree) in
    record {
      table = table;
      root_check = root;
      stands = subst (HoldsTree (size_of T) (cells_in T)) same holds;
      sound = subst IsSoundBelow same sound;
      values = subst (AllNumbers (λ v. is_value v ≡ true)) same values;
      ascending = λ is. subst IsAscending same (ascending is);
      entries = entries ∙ sym (ap (λ (t : Tree). length (walk t)) tree);
    }

-- in a new table only the root's slot is held
pub new_holds : (T : Fields) (trials : ℤ) → IsNewPlaces T.places trials → (cells_in T).check 0 ≡ negsuc 0 → (cells_in T).stored 0 ≡ AtBase 0 → HoldsTree (size_of T) (cells_in T) none
new_holds T trials made root_check root_base =
    let blank : info_at T.places.slots.infos 0 ≡ blank_info = infos_blank T.places.slots.infos 256 made.infos 0 in
    new_stands (size_of T) (cells_in T) root_base (ap (λ (i : NInfoRecord). i.child) blank) (ap (λ (i : NInfoRecord). i.sibling) blank) owned
  where
    root_apart : (c : ℕ) → negsuc 0 ≡ pos c → ⊥
    root_apart c e = cc

    owned : (q c : ℕ) → (cells_in T).check q ≡ pos c → ⊥
    owned q c e =
        let root : q ≡ 0 = bare_new T.layout T.places trials made q (inr (c, e)) in
        root_apart c (sym root_check ∙ ap (cells_in T).check (sym root) ∙ e)

pub new_tree : (T : Fields) (trials : ℤ) → IsNewPlaces T.places trials → (cells_in T).check 0 ≡ negsuc 0 → (cells_in T).stored 0 ≡ AtBase 0 → tree_of T ≡ empty_tree
new_tree T trials made root_check root_base = tree_of_is T none (new_holds T trials made root_check root_base)

pub new_well_formed : (slots : ℕ) (T : Fields) (trials : ℤ) → IsTable slots T.places → IsNewPlaces T.places trials → check_at T.places.slots.nodes 0 ≡ negsuc 0 → (cells_in T).check 0 ≡ negsuc 0 → (cells_in T).stored 0 ≡ AtBase 0 → T.entries ≡ 0 → IsWellFormed slots T
new_well_formed slots T trials table made root root_check root_base entries =
    is_well_formed slots T none table root (new_holds T trials made root_check root_base) tt tt (λ _. tt) entries
