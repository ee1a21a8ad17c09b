-- The tree of sorted pairs, and a table that represents it.
use Rattle.std.proofs.Common.{◌≡◌, ℕ, ◌<◌, ◌∙◌, sym, ap, refl, subst, inl, inr, arith, Bool, true, false, ◌==◌, Option, Some, None, List, [], ◌∷◌, ◌++◌, length}
use Rattle.std.specs.Prelude.{ℤ, negsuc, IfSome}
use Rattle.std.specs.List.{AllByRecursion}
use Rattle.std.proofs.lemmas.Bool.{cases_Bool, eqb-false, eqb-true, true≢false}
use Rattle.cedar_model.specs.Tree.{child, empty_tree, Forest, is_bare, none, Tree}
use Rattle.cedar_model.specs.Laws.{ArePathsAscending, ArePathsKeys}
use Rattle.cedar_model.specs.Queries.{asc, Entry, own_entry, walk, walk_forest}
use Rattle.cedar_model.proofs.EntryLemmas.Built.{numbers-asc}
use Rattle.cedar_model.proofs.EntryLemmas.Pairs.{asc_is_tree_of}
use Rattle.cedar_slots.specs.Slots.{check_at}
use Rattle.cedar_bulk.specs.Spans.{Filling, IsTreeOfSpan, entries_behind}
use Rattle.cedar_model.specs.Table.TableFields.{Fields}
use Rattle.cedar_model.specs.Table.Layouts.{reduced_layout}
use Rattle.cedar_bulk.specs.SortedMarks.{KeepsLast, SortedMarks}
use Rattle.cedar_model.specs.Meaning.Marks.{marks}
use Rattle.cedar_bulk.proofs.BulkLemmas.InnerKeys.{leaves_keep}
use Rattle.cedar_bulk.proofs.BulkLemmas.SlotsOfNumbers.{sorted_marks}
use Rattle.cedar_model.specs.Meaning.WellFormed.{cells_in, is_value, IsWellFormed, tree_of}
use Rattle.cedar_bulk.proofs.BulkLemmas.NodeByNode.{filling_ends}
use Rattle.cedar_model.proofs.MeaningLemmas.TreeOf.{is_well_formed, tree_of_is}

entries_stripped : (es : List Entry) → es ≡ entries_behind 0 es
entries_stripped [] = refl
entries_stripped (e ∷ es) = ap (λ (xs : List Entry). e ∷ xs) (entries_stripped es)

bare_walk : (n : Option ℤ) (f : Forest) → is_bare (record { number = n; children = f }) ≡ true → own_entry n ++ walk_forest f ≡ []
bare_walk None none b = refl
bare_walk None (child l n u rest) b = absurd (true≢false (sym b))
bare_walk (Some v) f b = absurd (true≢false (sym b))

-- the pairs' tree, as the root's span asks for it
pub whole_span : (ps : List Entry) → 0 < length ps → ArePathsKeys ps → ArePathsAscending ps → AllByRecursion (λ e. is_value e.1 ≡ true) ps → IsTreeOfSpan 0 ps (asc ps) × ((asc ps).number ≡ None)
whole_span ps some keys order values =
    let k = asc_is_tree_of ps keys order in
    let t : Tree = asc ps in (
      record {
        walks = k.2 ∙ entries_stripped ps;
        some = elim (cases_Bool (is_bare t)) [
          | inl is ↦
              let nothing : walk t ≡ [] = bare_walk t.number t.children is in
              let long : length ps ≡ 0 = ap length (sym k.2 ∙ nothing) in
              absurd (omega (arith, some, long))
          | inr isnt ↦ isnt
        ];
        sound = k.0.1;
        ascending = k.1;
        values = (subst (λ o. IfSome o (λ v. is_value v ≡ true)) (sym k.0.0) tt, numbers-asc (λ v. is_value v ≡ true) ps values);
      },
      k.0.0,
    )

-- a table that is said to have so many keys
abbrev pub counted : Fields → ℕ → Fields
counted T n = record { layout = T.layout; ordered = T.ordered; entries = n; places = T.places }

-- once no node waits, the table is that of the pairs
pub sorted_done : (slots : ℕ) (T : Fields) (ps : List Entry) (n most : ℕ) → n ≡ length ps → ArePathsKeys ps → ArePathsAscending ps → AllByRecursion (λ e. is_value e.1 ≡ true) ps
    → check_at T.places.slots.nodes 0 ≡ negsuc 0 → Filling slots T [] (asc ps).children most
    → IsWellFormed slots (counted T n) × (tree_of (counted T n) ≡ asc ps) × SortedMarks T.layout (asc ps) (marks (counted T n))
sorted_done slots T ps n most so_many keys order values root k =
    let t : Tree = asc ps in
    let is = asc_is_tree_of ps keys order in
    let number : t.number ≡ None = is.0.0 in
    let holds = (filling_ends slots T t.children most k).0 in
    let whole : record { number = None; children = t.children } ≡ t = ap (λ (v : Option ℤ). record { number = v; children = t.children }) (sym number) in
    let count : n ≡ length (walk_forest t.children) = so_many ∙ ap length (sym is.2) ∙ ap (λ (v : Option ℤ). length (own_entry v ++ walk_forest t.children)) number in
    let well = is_well_formed slots (counted T n) t.children k.table root holds is.0.1 (numbers-asc (λ v. is_value v ≡ true) ps values) (λ _. is.1) count in
    let tree : tree_of (counted T n) ≡ t = tree_of_is (counted T n) t.children holds ∙ whole in
    let last : T.layout ≡ reduced_layout → KeepsLast (cells_in T) (tree_of (counted T n)).children = λ reduced.
    subst (KeepsLast (cells_in T)) (k.pending.0 ∙ ap (λ (u : Tree). u.children) (sym tree)) (k.own reduced) in
    (well, tree, subst (λ u. SortedMarks T.layout u (marks (counted T n))) tree (sorted_marks slots (counted T n) well last))

pub no_pairs : {X : Type 0} (ps : List X) (b : Bool) → b ≡ (length ps == 0) → b ≡ true → length ps ≡ 0
no_pairs ps b e h = eqb-true (length ps) 0 (sym e ∙ h)

pub some_pairs : {X : Type 0} (ps : List X) (b : Bool) → b ≡ (length ps == 0) → b ≡ false → 0 < length ps
some_pairs ps b e h = let apart = eqb-false (length ps) 0 (sym e ∙ h) in omega (arith, apart)

-- without pairs the table has no number
pub no_marks : (slots : ℕ) (T : Fields) (t : Tree) → IsWellFormed slots T → tree_of T ≡ empty_tree → t ≡ empty_tree → SortedMarks T.layout t (marks T)
no_marks slots T t well empty same =
    subst (λ u. SortedMarks T.layout u (marks T)) (empty ∙ sym same)
    (sorted_marks slots T well (λ reduced. subst (λ (u : Tree). KeepsLast (cells_in T) u.children) (sym empty) (leaves_keep (cells_in T) [])))
