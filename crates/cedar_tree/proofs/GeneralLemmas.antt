-- What holds of lists, options and results, whatever they are of.
use Rattle.std.proofs.Common.{Bool, ltb, ℕ, zero, suc, ◌≡◌, ◌≤◌, ◌<◌, true, false, cond, List, [], ◌∷◌, ◌++◌, length, get_or, filter, Some, None, position, Result, Ok, Err, OnOk, OnErr, refl, sym, arith}
use Rattle.std.proofs.lemmas.Bool.{ltb-false}
use Rattle.std.proofs.lemmas.Option.{none-some}
use Rattle.std.specs.List.{AllByRecursion, position_or_len}

-- nothing passes a test: its first index is past the end
pub position-None : {X : Type 0} (p : X → Bool) (xs : List X) → position p xs ≡ None → length xs ≤ position_or_len p xs
position-None p xs h =
    (elim (ltb (position_or_len p xs) (length xs)) as (λ t. ltb (position_or_len p xs) (length xs) ≡ t → cond t (Some (position_or_len p xs)) None ≡ None → length xs ≤ position_or_len p xs) [
      | true ↦ λ e k. absurd (none-some (position_or_len p xs) (sym k))
      | false ↦ λ e k. ltb-false (position_or_len p xs) (length xs) e
    ]) refl h

-- a number that isn't 0
pub positive : (n : ℕ) → (n ≡ 0 → ⊥) → 0 < n
positive zero h = absurd (h refl)
positive (suc n) h = omega arith

-- ---- results

-- what holds anyway holds after a success, and after a refusal
pub on_ok : {T E P : Type 0} (r : Result T E) → P → OnOk r P
on_ok (Ok x) p = p
on_ok (Err e) p = tt

pub on_err : {T E : Type 0} (r : Result T E) {P : Type 0} → P → OnErr r P
on_err (Ok x) p = tt
on_err (Err e) p = p

-- ---- lists

-- two tests that agree keep the same items
pub filter-same : {X : Type 0} (p q : X → Bool) (xs : List X) → ((x : X) → p x ≡ q x) → filter p xs ≡ filter q xs
filter-same p q [] h = refl
filter-same p q (x ∷ xs) h = λ i. cond (h x i) (x ∷ filter-same p q xs h i) (filter-same p q xs h i)

-- what each item has, one of them has
pub all_at : {X : Type 0} (P : X → Type 0) (xs : List X) (i : ℕ) (d : X) → i < length xs → AllByRecursion P xs → P (get_or xs i d)
all_at P [] i d inside each = absurd (omega (arith, inside))
all_at P (x ∷ xs) zero d inside each = each.0
all_at P (x ∷ xs) (suc i) d inside each = all_at P xs i d (omega (arith, inside)) each.1

-- and each of them has it once there is one more that has it
pub all_and_one : {X : Type 0} (P : X → Type 0) (xs : List X) (x : X) → AllByRecursion P xs → P x → AllByRecursion P (xs ++ x ∷ [])
all_and_one P [] x each p = (p, tt)
all_and_one P (y ∷ xs) x each p = (each.0, all_and_one P xs x each.1 p)
