-- That the walk contains an entry just where its number is held.
use Rattle.std.proofs.Common.{◌≡◌, ℕ, suc, zero, ◌<◌, ◌⊎◌, inl, inr, Bool, true, false, cond, ℤ, List, [], ◌∷◌, map, Option, Some, None, refl, sym, ap, subst, ◌∙◌, arith, slice_index_or}
use Rattle.std.specs.List.{Contains, filter}
use Rattle.std.proofs.lemmas.List.Elements.{Contains-append_left, Contains-append_right, Contains-append_cases, Contains-push}
use Rattle.cedar_tree.specs.Tree.{Tree, number_at, IsSoundBelow}
use Rattle.cedar_tree.specs.Queries.{Entry, walk, entry_at, is_path}
use Rattle.cedar_tree.proofs.WalkLemmas.{walk_at}
use Rattle.cedar_tree.proofs.EntryLemmas.Built.{is_path_itself}

pub contains_one : {X : Type 0} (y x : X) (k : ℕ) → k < 1 → slice_index_or (y ∷ []) k x ≡ x → y ≡ x
contains_one y x zero h e = e
contains_one y x (suc k) h e = absurd (omega arith)

pub contains_none : {X : Type 0} (x : X) → Contains [] x → ⊥
contains_none x c = absurd (omega (arith, c.1))

pub either_part : {A B C : Type 0} → A ⊎ B → (A → C) → (B → C) → C
either_part (inl a) f g = f a
either_part (inr b) f g = g b

pub contains_here : {X : Type 0} (x : X) (xs : List X) → Contains (x ∷ xs) x
contains_here x xs = (0, omega arith, refl)

pub contains_later : {X : Type 0} (y : X) (xs : List X) (x : X) → Contains xs x → Contains (y ∷ xs) x
contains_later y xs x c = Contains-append_right (y ∷ []) xs x c

pub contains_first_or_later : {X : Type 0} (y : X) (xs : List X) (x : X) → Contains (y ∷ xs) x → (y ≡ x) ⊎ Contains xs x
contains_first_or_later y xs x c =
    either_part (Contains-append_cases (y ∷ []) xs x c) (λ one. inl (contains_one y x one.0 one.1 one.2)) (λ more. inr more)

pub into_map : {X Y : Type 0} (f : X → Y) (xs : List X) (x : X) → Contains xs x → Contains (map f xs) (f x)
into_map f [] x c = absurd (contains_none x c)
into_map f (y ∷ ys) x c =
    either_part (contains_first_or_later y ys x c)
    (λ same. rw (← same) (contains_here (f y) (map f ys)))
    (λ more. contains_later (f y) (map f ys) (f x) (into_map f ys x more))

pub from_map : {X Y : Type 0} (f : X → Y) (xs : List X) (y : Y) → Contains (map f xs) y → (x : X) × Contains xs x × (f x ≡ y)
from_map f [] y c = absurd (contains_none y c)
from_map f (x ∷ xs) y c =
    either_part (contains_first_or_later (f x) (map f xs) y c)
    (λ same. (x, contains_here x xs, same))
    (λ more. let found = from_map f xs y more in (found.0, contains_later x xs found.0 found.1, found.2))

pub from_filter : {X : Type 0} (p : X → Bool) (xs : List X) (x : X) → Contains (filter p xs) x → Contains xs x
from_filter p [] x c = c
from_filter p (y ∷ ys) x c =
    (elim (p y) as (λ b. Contains (cond b (y ∷ filter p ys) (filter p ys)) x → Contains (y ∷ ys) x) [
      | true ↦ λ d. either_part (Contains-append_cases (y ∷ []) (filter p ys) x d) (λ one. Contains-append_left (y ∷ []) ys x one) (λ more. Contains-append_right (y ∷ []) ys x (from_filter p ys x more))
      | false ↦ λ d. Contains-append_right (y ∷ []) ys x (from_filter p ys x d)
    ]) c

pub into_filter : {X : Type 0} (p : X → Bool) (xs : List X) (x : X) → p x ≡ true → Contains xs x → Contains (filter p xs) x
into_filter p [] x h c = c
into_filter p (y ∷ ys) x h c =
    either_part (Contains-append_cases (y ∷ []) ys x c)
    (λ one. let same : y ≡ x = contains_one y x one.0 one.1 one.2 in rw (ap p same ∙ h) (Contains-append_left (y ∷ []) (filter p ys) x one))
    (λ more. (elim (p y) as (λ b. Contains (cond b (y ∷ filter p ys) (filter p ys)) x) [
      | true ↦ Contains-append_right (y ∷ []) (filter p ys) x (into_filter p ys x h more)
      | false ↦ into_filter p ys x h more
    ]))

at_entry : (k : List ℕ) (v : ℤ) (o : Option ℤ) → Contains (entry_at k o) (k, v) → o ≡ Some v
at_entry k v None c = absurd (contains_none (k, v) c)
at_entry k v (Some w) c = ap (λ (e : Entry). Some e.1) (contains_one (k, w) (k, v) c.0 c.1 c.2)

-- the walk contains just the entries whose number is held at their path
pub held_from_walk : (t : Tree) (k : List ℕ) (v : ℤ) → IsSoundBelow t.children → Contains (walk t) (k, v) → number_at t k ≡ Some v
held_from_walk t k v s c =
    at_entry k v (number_at t k) (subst (λ (es : List Entry). Contains es (k, v)) (walk_at t k s) (into_filter (λ (e : Entry). is_path k e.0) (walk t) (k, v) (is_path_itself k) c))

pub walk_from_held : (t : Tree) (k : List ℕ) (v : ℤ) → IsSoundBelow t.children → number_at t k ≡ Some v → Contains (walk t) (k, v)
walk_from_held t k v s h =
    from_filter (λ (e : Entry). is_path k e.0) (walk t) (k, v)
    (subst (λ (es : List Entry). Contains es (k, v)) (sym (walk_at t k s ∙ ap (entry_at k) h)) (Contains-push [] (k, v)))
