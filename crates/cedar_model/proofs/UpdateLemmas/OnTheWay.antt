-- A tree and a table on the way of an update along a key.
use Rattle.std.proofs.Common.{◌≡◌, ℕ, Bool, true, false, cond, List, [], ◌∷◌, ◌++◌, sym, ◌∙◌, ap, refl, subst, inr}
use Rattle.std.specs.Prelude.{ℤ, is_some}
use Rattle.std.proofs.lemmas.Bool.{false≢true}
use Rattle.cedar_tree.specs.Tree.{Forest, Tree, has_label, is_bare, cut, put, number_at, IsAscending, IsSoundBelow}
use Rattle.cedar_tree.specs.Queries.{node_at}
use Rattle.cedar_tree.specs.Edits.{HasPath, with_leaf}
use Rattle.cedar_tree.proofs.EntryLemmas.Steps.{cut_stops, put-with_leaf}
use Rattle.cedar_tree.proofs.OrderLemmas.{number_at-append}
use Rattle.cedar_tree.proofs.TreeLemmas.{number_at-empty, subtree_absent}
use Rattle.cedar_tree.proofs.EntryLemmas.Leaves.{ascending-with_leaf, bare_lacks, cut-with_leaf, cut_at_bare, cut_past_bare, leaf_is_bare, number_at-with_leaf}
use Rattle.cedar_model.specs.Edit.Steps.{root_of, tree_after_trim, with_child}

-- what both cases have in common
child_cases : (P : Tree → Type 0) (t : Tree) (o : Bool) (w : List ℕ) (l : ℕ) → (has_label (node_at t w).children l ≡ true → P t) → (has_label (node_at t w).children l ≡ false → P (with_leaf t o w l)) → P (with_child t o w l)
child_cases P t o w l there new =
    (elim (has_label (node_at t w).children l) as (λ b. has_label (node_at t w).children l ≡ b → P (cond b t (with_leaf t o w l))) [
      | true ↦ λ e. there e
      | false ↦ λ e. new e
    ]) refl

pub child_root : (f : Forest) (o : Bool) (w : List ℕ) (l : ℕ) → with_child (root_of f) o w l ≡ root_of (with_child (root_of f) o w l).children
child_root f o w l = child_cases (λ t. t ≡ root_of t.children) (root_of f) o w l (λ _. refl) (λ _. refl)

pub put-with_child : (t : Tree) (o : Bool) (w : List ℕ) (l : ℕ) (rest : List ℕ) (v : ℤ) → HasPath t w → put (with_child t o w l) o (w ++ l ∷ rest) v ≡ put t o (w ++ l ∷ rest) v
put-with_child t o w l rest v there =
    child_cases (λ u. put u o (w ++ l ∷ rest) v ≡ put t o (w ++ l ∷ rest) v) t o w l (λ _. refl) (λ new. put-with_leaf t o w l rest v there new)

pub number_at-with_child : (t : Tree) (o : Bool) (w : List ℕ) (l : ℕ) (q : List ℕ) → HasPath t w → number_at (with_child t o w l) q ≡ number_at t q
number_at-with_child t o w l q there =
    child_cases (λ u. number_at u q ≡ number_at t q) t o w l (λ _. refl) (λ new. number_at-with_leaf t o w l q there new)

pub ascending-with_child : (t : Tree) (o : Bool) (w : List ℕ) (l : ℕ) → HasPath t w → o ≡ true → IsAscending t.children → IsAscending (with_child t o w l).children
ascending-with_child t o w l there is a =
    child_cases (λ u. IsAscending u.children) t o w l (λ _. a) (λ new. subst (λ b. IsAscending (with_leaf t b w l).children) (sym is) (ascending-with_leaf t w l there new a))

-- ---- bare leaves taken back

pub trimmed_bare : (t : Tree) (w : List ℕ) → is_bare (node_at t w) ≡ true → tree_after_trim t w ≡ cut t w
trimmed_bare t w e = ap (λ b. cond b (cut t w) t) e

pub trimmed_kept : (t : Tree) (w : List ℕ) → is_bare (node_at t w) ≡ false → tree_after_trim t w ≡ t
trimmed_kept t w e = ap (λ b. cond b (cut t w) t) e

pub trimmed_sound : (t : Tree) (w : List ℕ) → IsSoundBelow t.children → tree_after_trim t w ≡ t
trimmed_sound t w s =
    (elim (is_bare (node_at t w)) as (λ b. is_bare (node_at t w) ≡ b → cond b (cut t w) t ≡ t) [ true ↦ λ e. cut_at_bare t w s e | false ↦ λ _. refl ]) refl

pub trimmed_root : (f : Forest) → tree_after_trim (root_of f) [] ≡ root_of f
trimmed_root f = elim (is_bare (root_of f)) as (λ b. cond b (cut (root_of f) []) (root_of f) ≡ root_of f) [ true ↦ refl | false ↦ refl ]

trimmed_leaf : (t₀ t : Tree) (o : Bool) (w : List ℕ) (l : ℕ) → HasPath t w → has_label (node_at t w).children l ≡ false → tree_after_trim t w ≡ t₀ → tree_after_trim (with_leaf t o w l) (w ++ l ∷ []) ≡ t₀
trimmed_leaf t₀ t o w l there new back =
    trimmed_bare (with_leaf t o w l) (w ++ l ∷ []) (ap is_bare (leaf_is_bare t o w l there new))
    ∙ cut-with_leaf t o w l [] there new
    ∙ (elim (is_bare (node_at t w)) as (λ b. is_bare (node_at t w) ≡ b → cut t (w ++ l ∷ []) ≡ t₀) [
      | true ↦ λ e. cut_past_bare t w (l ∷ []) e ∙ sym (trimmed_bare t w e) ∙ back
      | false ↦ λ e. cut_stops t w l [] (inr e) new ∙ sym (trimmed_kept t w e) ∙ back
    ]) refl

trimmed_there : (t₀ t : Tree) (w : List ℕ) (l : ℕ) → IsSoundBelow t₀.children → has_label (node_at t w).children l ≡ true → tree_after_trim t w ≡ t₀ → tree_after_trim t (w ++ l ∷ []) ≡ t₀
trimmed_there t₀ t w l sound has back =
    (elim (is_bare (node_at t w)) as (λ b. is_bare (node_at t w) ≡ b → tree_after_trim t (w ++ l ∷ []) ≡ t₀) [
      | true ↦ λ e. absurd (false≢true (sym (bare_lacks (node_at t w) l e) ∙ has))
      | false ↦ λ e.
          let same : t ≡ t₀ = sym (trimmed_kept t w e) ∙ back in
          ap (λ u. tree_after_trim u (w ++ l ∷ [])) same ∙ trimmed_sound t₀ (w ++ l ∷ []) sound
    ]) refl

pub trimmed_child : (t₀ t : Tree) (o : Bool) (w : List ℕ) (l : ℕ) → IsSoundBelow t₀.children → HasPath t w → tree_after_trim t w ≡ t₀ → tree_after_trim (with_child t o w l) (w ++ l ∷ []) ≡ t₀
trimmed_child t₀ t o w l sound there back =
    child_cases (λ u. tree_after_trim u (w ++ l ∷ []) ≡ t₀) t o w l (λ has. trimmed_there t₀ t w l sound has back) (λ new. trimmed_leaf t₀ t o w l there new back)

-- the next node of a key that has a number is there
pub held_on_way : (t : Tree) (w : List ℕ) (l : ℕ) (rest : List ℕ) → is_some (number_at t (w ++ l ∷ rest)) ≡ true → has_label (node_at t w).children l ≡ true
held_on_way t w l rest h =
    let u : Forest = (node_at t w).children in
    (elim (has_label u l) as (λ b. has_label u l ≡ b → b ≡ true) [
      | true ↦ λ _. refl
      | false ↦ λ e. sym (ap is_some (number_at-append t w (l ∷ rest) ∙ ap (λ x. number_at x rest) (subtree_absent u l e) ∙ number_at-empty rest)) ∙ h
    ]) refl
