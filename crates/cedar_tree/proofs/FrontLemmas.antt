-- That the prefix walk has just the fronts that are held, in ascending order.
use Rattle.std.proofs.Common.{◌≡◌, ℕ, zero, suc, Less, ◌+◌, ◌<◌, ◌≤◌, ◌==◌, true, false, ℤ, List, [], ◌∷◌, length, take, map, Option, Some, None, option_map, refl, sym, ap, ◌∙◌, arith}
use Rattle.std.specs.List.{Contains, filter_map, cons_option, range_with_len, AllByRecursion}
use Rattle.std.specs.List.Sorted.{IsStrictlySortedBy}
use Rattle.std.specs.Ordering.{nat_cmp}
use Rattle.std.proofs.lemmas.Bool.{eqb-true, eqb-false, lt-ltb}
use Rattle.cedar_tree.specs.Tree.{Tree, number_at}
use Rattle.cedar_tree.specs.Queries.{front}
use Rattle.cedar_tree.proofs.MemberLemmas.{contains_none, contains_here, contains_later, contains_first_or_later, either_part}

into_filter_map : {X Y : Type 0} (h : X → Option Y) (xs : List X) (x : X) (y : Y) → Contains xs x → h x ≡ Some y → Contains (filter_map h xs) y
into_filter_map h [] x y c e = absurd (contains_none x c)
into_filter_map h (z ∷ zs) x y c e =
    either_part (contains_first_or_later z zs x c)
    (λ same. let here : h z ≡ Some y = ap h same ∙ e in rw here (contains_here y (filter_map h zs)))
    (λ more. let rest = into_filter_map h zs x y more e in
    elim (h z) as (λ o. Contains (cons_option o (filter_map h zs)) y) [ None ↦ rest | Some w ↦ contains_later w (filter_map h zs) y rest ])

from_filter_map : {X Y : Type 0} (h : X → Option Y) (xs : List X) (y : Y) → Contains (filter_map h xs) y → (x : X) × Contains xs x × (h x ≡ Some y)
from_filter_map h [] y c = absurd (contains_none y c)
from_filter_map {X} h (z ∷ zs) y c =
    (elim (h z) as (λ o. h z ≡ o → Contains (cons_option o (filter_map h zs)) y → (x : X) × Contains (z ∷ zs) x × (h x ≡ Some y)) [
      | None ↦ λ _ d. let found = from_filter_map h zs y d in (found.0, contains_later z zs found.0 found.1, found.2)
      | Some w ↦ λ e d. either_part (contains_first_or_later w (filter_map h zs) y d)
          (λ same. (z, contains_here z zs, e ∙ ap Some same))
          (λ more. let found = from_filter_map h zs y more in (found.0, contains_later z zs found.0 found.1, found.2))
    ]) refl c

into_range : (a n m : ℕ) → a ≤ m → m < a + n → Contains (range_with_len a n) m
into_range a zero m low high = absurd (omega arith)
into_range a (suc n) m low high =
    (elim (a == m) as (λ b. (a == m) ≡ b → Contains (a ∷ range_with_len (a + 1) n) m) [
      | true ↦ λ e. rw (← eqb-true a m e) (contains_here a (range_with_len (a + 1) n))
      | false ↦ λ e.
          let other : (a ≡ m → ⊥) = eqb-false a m e in
          contains_later a (range_with_len (a + 1) n) m (into_range (a + 1) n m (omega arith) (omega arith))
    ]) refl

from_range : (a n m : ℕ) → Contains (range_with_len a n) m → (a ≤ m) × (m < a + n)
from_range a zero m c = absurd (contains_none m c)
from_range a (suc n) m c =
    either_part (contains_first_or_later a (range_with_len (a + 1) n) m c)
    (λ same. (omega arith, omega arith))
    (λ more. let later = from_range (a + 1) n m more in (omega arith, omega arith))

-- what the walk has for the first n + 1 bytes
abbrev at_front : Tree → List ℕ → ℕ → Option (ℤ × ℕ)
at_front t q n = option_map (λ v. (v, n)) (number_at t (take (n + 1) q))

abbrev place_of : Option (ℤ × ℕ) → ℕ
place_of None = 0
place_of (Some found) = found.1

pair_parts : (o : Option ℤ) (a n : ℕ) (v : ℤ) → ◌≡◌ {A = Option (ℤ × ℕ)} (option_map (λ x. (x, a)) o) (Some (v, n)) → (o ≡ Some v) × (a ≡ n)
pair_parts None a n v h = absurd (cc)
pair_parts (Some w) a n v h = (ap (option_map (λ (p : ℤ × ℕ). p.0)) h, ap place_of h)

-- the walk has n with v just where the first n + 1 bytes are held with v
pub held_from_front : (t : Tree) (q : List ℕ) (v : ℤ) (n : ℕ) → Contains (front t q) (v, n) → (n < length q) × (number_at t (take (n + 1) q) ≡ Some v)
held_from_front t q v n c =
    let found = from_filter_map (at_front t q) (range_with_len 0 (length q)) (v, n) c in
    let within = from_range 0 (length q) found.0 found.1 in
    let parts = pair_parts (number_at t (take (found.0 + 1) q)) found.0 n v found.2 in
    (omega arith, ap (λ m. number_at t (take (m + 1) q)) (sym parts.1) ∙ parts.0)

pub front_from_held : (t : Tree) (q : List ℕ) (v : ℤ) (n : ℕ) → n < length q → number_at t (take (n + 1) q) ≡ Some v → Contains (front t q) (v, n)
front_from_held t q v n within h =
    into_filter_map (at_front t q) (range_with_len 0 (length q)) n (v, n) (into_range 0 (length q) n (omega arith) (omega arith)) (ap (option_map (λ x. (x, n))) h)

abbrev places : List (ℤ × ℕ) → List ℕ
places found = map (λ f. f.1) found

all_higher : (t : Tree) (q : List ℕ) (low a n : ℕ) → low < a → AllByRecursion (λ m. nat_cmp low m ≡ Less) (places (filter_map (at_front t q) (range_with_len a n)))
all_higher t q low a zero h = tt
all_higher t q low a (suc n) h =
    let rest = all_higher t q low (a + 1) n (omega arith) in
    elim (number_at t (take (a + 1) q)) as (λ o. AllByRecursion (λ m. nat_cmp low m ≡ Less) (places (cons_option (option_map (λ v. (v, a)) o) (filter_map (at_front t q) (range_with_len (a + 1) n))))) [
      | None ↦ rest
      | Some v ↦ (rw (lt-ltb low a h) refl, rest)
    ]

rising_places : (t : Tree) (q : List ℕ) (a n : ℕ) → IsStrictlySortedBy nat_cmp (places (filter_map (at_front t q) (range_with_len a n)))
unfolding IsStrictlySortedBy
rising_places t q a zero = tt
rising_places t q a (suc n) =
    let rest = rising_places t q (a + 1) n in
    elim (number_at t (take (a + 1) q)) as (λ o. IsStrictlySortedBy nat_cmp (places (cons_option (option_map (λ v. (v, a)) o) (filter_map (at_front t q) (range_with_len (a + 1) n))))) [
      | None ↦ rest
      | Some v ↦ (all_higher t q a (a + 1) n (omega arith), rest)
    ]

-- its positions ascend
pub front_ascends : (t : Tree) (q : List ℕ) → IsStrictlySortedBy nat_cmp (map (λ f. f.1) (front t q))
front_ascends t q = rising_places t q 0 (length q)
