-- That what a sound tree holds is at keys, and that its entries make it again.
use Rattle.std.proofs.Common.{List, None, Option, Some, [], arith, cond, false, get_or, length, not, refl, suc, sym, true, ℕ, ℤ, ◌+◌, ◌<◌, ◌==◌, ◌||◌, ◌∙◌, ◌∷◌, ◌≡◌, ◌≤◌}
use Rattle.std.specs.List.{AllByRecursion, Contains, position_or_len}
use Rattle.std.proofs.lemmas.Bool.{eqb-false, eqb-true, false≢true}
use Rattle.cedar_tree.specs.Tree.{Forest, none, child, Tree, has_label, subtree, number_at, IsSoundBelow, IsSound, IsPath, IsKey, IsAscending}
use Rattle.cedar_tree.specs.Queries.{Entry, walk, asc}
use Rattle.cedar_tree.specs.Laws.{ArePathsKeys}
use Rattle.cedar_tree.proofs.TreeLemmas.{held_label, sound_subtree}
use Rattle.cedar_tree.proofs.WalkLemmas.{walk_ascends}
use Rattle.cedar_tree.proofs.MemberLemmas.{contains_here, contains_later, held_from_walk}
use Rattle.cedar_tree.proofs.EntryLemmas.Pairs.{asc_is_tree_of, one_tree_of}

pub label_bounds : (f : Forest) (l : ℕ) → IsSoundBelow f → has_label f l ≡ true → (0 < l) × (l < 256)
label_bounds none l s h = absurd (false≢true h)
label_bounds (child m n below rest) l s h =
    (elim (m == l) as (λ b. (m == l) ≡ b → (b || has_label rest l) ≡ true → (0 < l) × (l < 256)) [
      | true ↦ λ e _. let label : m ≡ l = eqb-true m l e in let low = s.0 in let high = s.1 in (omega arith, omega arith)
      | false ↦ λ _ k. label_bounds rest l s.5 k
    ]) refl h

held_path : (t : Tree) (k : List ℕ) (v : ℤ) → IsSoundBelow t.children → number_at t k ≡ Some v → IsPath k
held_path t [] v s h = tt
held_path t (l ∷ k) v s h =
    let bounds = label_bounds t.children l s (held_label t.children l k v h) in
    (bounds.0, bounds.1, held_path (subtree t.children l) k v (sound_subtree t.children l s) h)

-- what is held is at a key
pub held_key : (t : Tree) (k : List ℕ) (v : ℤ) → IsSound t → number_at t k ≡ Some v → IsKey k
held_key t [] v s h = absurd (none-some (sym s.0 ∙ h)) where
  none-some : ◌≡◌ {A = Option ℤ} None (Some v) → ⊥
  none-some e = cc
held_key t (l ∷ k) v s h = held_path t (l ∷ k) v s.1 h

pub all_contained : {X : Type 0} (P : X → Type 0) (xs : List X) → ((x : X) → Contains xs x → P x) → AllByRecursion P xs
all_contained P [] h = tt
all_contained P (x ∷ xs) h = (h x (contains_here x xs), all_contained P xs (λ y c. h y (contains_later x xs y c)))

-- so the entries of a sound tree are at keys
pub walk_keys : (t : Tree) → IsSound t → ArePathsKeys (walk t)
walk_keys t s = all_contained (λ (e : Entry). IsKey e.0) (walk t) (λ e c. held_key t e.0 e.1 s (held_from_walk t e.0 e.1 s.1 c))

-- and make the tree again, where its labels ascend
pub asc-walk : (t : Tree) → IsSound t → IsAscending t.children → asc (walk t) ≡ t
asc-walk t s a = one_tree_of (walk t) (asc (walk t)) t (asc_is_tree_of (walk t) (walk_keys t s) (walk_ascends t a)) (s, a, refl)

-- bytes of which none is 0 are a path
pub path_without_nul : (key : List ℕ) → length key ≤ position_or_len (λ c. c == 0) key → ((i : ℕ) → get_or key i 0 < 256) → IsPath key
path_without_nul [] h bytes = tt
path_without_nul (b ∷ key) h bytes =
    (elim (b == 0) as (λ t. (b == 0) ≡ t → length (b ∷ key) ≤ cond (not t) (1 + position_or_len (λ c. c == 0) key) 0 → IsPath (b ∷ key)) [
      | true ↦ λ e k. absurd (omega arith)
      | false ↦ λ e k.
          let here : b < 256 = bytes 0 in
          let some : (b ≡ 0 → ⊥) = eqb-false b 0 e in
          let rest : length key ≤ position_or_len (λ c. c == 0) key = omega arith in
          (omega arith, here, path_without_nul key rest (λ i. bytes (suc i)))
    ]) refl h
