-- A tree with some of another one's numbers.
use Rattle.std.proofs.Common.{◌≡◌, ℕ, ◌∙◌, List, [], ◌∷◌, Bool, true, false, cond, Option, Some, None, ℤ, ap, refl, sym, inl, inr, ◌||◌, ◌==◌}
use Rattle.std.specs.Prelude.{is_some}
use Rattle.std.proofs.lemmas.Bool.{false≢true}
use Rattle.std.proofs.lemmas.Bool.Decides.{eqb_tells}
use Rattle.cedar_tree.specs.Tree.{Forest, none, child, has_label, IsSoundBelow, number_at, subtree, Tree}
use Rattle.cedar_model.specs.Table.Cells.{Cells}
use Rattle.cedar_model.specs.Meaning.Family.{below}
use Rattle.cedar_model.specs.Meaning.Marks.{marks_below}
use Rattle.cedar_model.specs.Meaning.Reading.{has_number_slot}
use Rattle.cedar_model.specs.Edit.Steps.{root_of}
use Rattle.cedar_model.specs.Table.TableFields.{Fields}
use Rattle.cedar_model.specs.Meaning.WellFormed.{cells_in, IsWellFormed, tree_of}
use Rattle.cedarwood.specs.Dictionary.{IsMarked, with_some}
use Rattle.cedarwood.proofs.GrowthLemmas.{dictionary_of}

-- tests that agree keep the same numbers
pub same_numbers : (test other : List ℕ → Bool) (f : Forest) → ((path : List ℕ) → test path ≡ other path) → with_some test f ≡ with_some other f
same_numbers test other none h = refl
same_numbers test other (child l n u rest) h =
    ap (λ b. child l (cond b n None) (with_some (λ path. test (l ∷ path)) u) (with_some test rest)) (h (l ∷ []))
    ∙ ap (λ g. child l (cond (other (l ∷ [])) n None) g (with_some test rest)) (same_numbers (λ path. test (l ∷ path)) (λ path. other (l ∷ path)) u (λ path. h (l ∷ path)))
    ∙ ap (λ g. child l (cond (other (l ∷ [])) n None) (with_some (λ path. other (l ∷ path)) u) g) (same_numbers test other rest h)

kept_number : (b : Bool) (n : Option ℤ) → cond (is_some (cond b n None)) n None ≡ cond b n None
kept_number true None = refl
kept_number true (Some v) = refl
kept_number false n = refl

-- a test that says which of the marked siblings' numbers are there keeps just these
kept_are : (T : Cells) (s : ℕ) (f : Forest) (test : List ℕ → Bool) → IsSoundBelow f
    → ((l : ℕ) (path : List ℕ) → has_label f l ≡ true → test (l ∷ path) ≡ is_some (number_at (root_of (marks_below T s f)) (l ∷ path)))
    → with_some test f ≡ marks_below T s f
kept_are T s none test sound h = refl
kept_are T s (child l n u rest) test sound h =
    ap (λ b. child l (cond b n None) (with_some (λ path. test (l ∷ path)) u) (with_some test rest)) (at_first [])
    ∙ ap (λ m. child l m (with_some (λ path. test (l ∷ path)) u) (with_some test rest)) (kept_number (has_number_slot T (below T s l)) n)
    ∙ ap (λ g. child l here.number g (with_some test rest)) (kept_are T (below T s l) u (λ path. test (l ∷ path)) sound.4 (λ m path _. at_first (m ∷ path)))
    ∙ ap (λ g. child l here.number here.children g) (kept_are T s rest test sound.5 at_rest)
  where
    here : Tree
    here = record { number = cond (has_number_slot T (below T s l)) n None; children = marks_below T (below T s l) u }

    itself : (l == l) ≡ true
    itself = elim (eqb_tells l l) [ inl e ↦ e.0 | inr e ↦ absurd (e.1 refl) ]

    at_first : (path : List ℕ) → test (l ∷ path) ≡ is_some (number_at here path)
    at_first path =
        h l path (ap (λ b. b || has_label rest l) itself)
        ∙ ap (λ b. is_some (number_at (cond b here (subtree (marks_below T s rest) l)) path)) itself

    at_rest : (m : ℕ) (path : List ℕ) → has_label rest m ≡ true → test (m ∷ path) ≡ is_some (number_at (root_of (marks_below T s rest)) (m ∷ path))
    at_rest m path there = elim (eqb_tells l m) [
      | inl e ↦ absurd (false≢true (sym sound.2 ∙ ap (has_label rest) e.1 ∙ there))
      | inr e ↦
          h m path (ap (λ b. b || has_label rest m) e.0 ∙ there)
          ∙ ap (λ b. is_some (number_at (cond b here (subtree (marks_below T s rest) m)) path)) e.0
    ]

-- a well-formed table's tree of marks has some of its tree's numbers
pub is_marked : (slots : ℕ) (T : Fields) → IsWellFormed slots T → IsMarked (dictionary_of 0 T)
is_marked slots T well =
    let f : Forest = (tree_of T).children in
    let c : Cells = cells_in T in
    sym (ap root_of (kept_are c 0 f (λ path. is_some (number_at (root_of (marks_below c 0 f)) path)) well.sound (λ l path _. refl)))
