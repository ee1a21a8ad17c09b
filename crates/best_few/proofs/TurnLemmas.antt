-- Numbers that are turned: entries in one order are those in the other one, turned.
use Rattle.std.proofs.Common.{◌≡◌, ℕ, zero, suc, ◌<◌, ◌≤◌, true, false, ℤ, pos, negsuc, List, [], ◌∷◌, length, take, drop, map, get_or, set, refl, ap, ◌∙◌, arith}
use Rattle.std.specs.Prelude.{if◌then◌else◌}
use Rattle.std.specs.Ordering.{int_cmp, is_lt, ordering_then}
use Rattle.std.specs.declared.vec.Vec.{Vec}
use Rattle.std.specs.Cmp.Lexicographic.{slice_cmp}
use Rattle.std.specs.Ordering.{nat_cmp}
use Rattle.cedar_tree.specs.Queries.{Entry}
use Rattle.best_few.specs.Orders.{best, entry_cmp, found_entry, sort_by_value, put_by_value, turn_of, turned_entry, value_cmp}
use Rattle.best_few.specs.declared.order.ByValue.{ByValue}
use Rattle.best_few.specs.declared.order.ByValue.TheVariants.{HighestFirst, LowestFirst}

pub turned_twice : (order : ByValue) (v : ℤ) → turn_of order (turn_of order v) ≡ v
turned_twice HighestFirst (pos n) = refl
turned_twice HighestFirst (negsuc n) = refl
turned_twice LowestFirst v = refl

turned_cmp : (order : ByValue) (v w : ℤ) → int_cmp (turn_of order v) (turn_of order w) ≡ value_cmp order v w
turned_cmp HighestFirst (pos n) (pos m) = refl
turned_cmp HighestFirst (pos n) (negsuc m) = refl
turned_cmp HighestFirst (negsuc n) (pos m) = refl
turned_cmp HighestFirst (negsuc n) (negsuc m) = refl
turned_cmp LowestFirst v w = refl

entry_turned : (order : ByValue) (a b : Entry) → entry_cmp LowestFirst (turned_entry order a) (turned_entry order b) ≡ entry_cmp order a b
entry_turned order a b = ap (λ o. ordering_then o (slice_cmp nat_cmp a.0 b.0)) (turned_cmp order a.1 b.1)

put_turned : (order : ByValue) (e : Entry) (xs : List Entry) → put_by_value LowestFirst (turned_entry order e) (map (turned_entry order) xs) ≡ map (turned_entry order) (put_by_value order e xs)
put_turned order e [] = refl
put_turned order e (x ∷ xs) =
    let later = put_turned order e xs in
    ap (λ o. if is_lt o then turned_entry order x ∷ put_by_value LowestFirst (turned_entry order e) (map (turned_entry order) xs) else turned_entry order e ∷ turned_entry order x ∷ map (turned_entry order) xs) (entry_turned order x e)
    ∙ (elim (is_lt (entry_cmp order x e)) as (λ t. (if t then turned_entry order x ∷ put_by_value LowestFirst (turned_entry order e) (map (turned_entry order) xs) else turned_entry order e ∷ turned_entry order x ∷ map (turned_entry order) xs)
    ≡ map (turned_entry order) (if t then x ∷ put_by_value order e xs else e ∷ x ∷ xs)) [
      | true ↦ ap (λ zs. turned_entry order x ∷ zs) later
      | false ↦ refl
    ])

pub order_turned : (order : ByValue) (es : List Entry) → sort_by_value LowestFirst (map (turned_entry order) es) ≡ map (turned_entry order) (sort_by_value order es)
order_turned order [] = refl
order_turned order (e ∷ es) = ap (put_by_value LowestFirst (turned_entry order e)) (order_turned order es) ∙ put_turned order e (sort_by_value order es)

take_turned : (order : ByValue) (k : ℕ) (xs : List Entry) → take k (map (turned_entry order) xs) ≡ map (turned_entry order) (take k xs)
take_turned order zero xs = refl
take_turned order (suc k) [] = refl
take_turned order (suc k) (x ∷ xs) = ap (λ zs. turned_entry order x ∷ zs) (take_turned order k xs)

turned_back : (order : ByValue) (xs : List Entry) → map (turned_entry order) (map (turned_entry order) xs) ≡ xs
turned_back order [] = refl
turned_back order (x ∷ xs) =
    let value = turned_twice order x.1 in
    let later = turned_back order xs in
    λ i. (x.0, value i) ∷ later i

-- the best in the order of numbers, with their values again, are the best by value
pub best_turned : (order : ByValue) (k : ℕ) (es : List Entry) → map (turned_entry order) (best LowestFirst k (map (turned_entry order) es)) ≡ best order k es
best_turned order k es =
    ap (λ zs. map (turned_entry order) (take k zs)) (order_turned order es)
    ∙ ap (map (turned_entry order)) (take_turned order k (sort_by_value order es))
    ∙ turned_back order (best order k es)

-- ---- turned back one after another

-- the first n of some entries turned
abbrev pub turned_front : ByValue → ℕ → List Entry → List Entry
turned_front order zero es = es
turned_front order (suc n) [] = []
turned_front order (suc n) (e ∷ es) = turned_entry order e ∷ turned_front order n es

no_more : (e : Entry) (es : List Entry) → e ∷ es ≡ [] → ⊥
no_more e es is = let long = ap length is in omega (arith, long)

pub one_turned : {A : Type 0} (order : ByValue) (i : ℕ) (found : List (ℤ × Vec ℕ A)) (es : List Entry) (item d : ℤ × Vec ℕ A) → i < length found → map found_entry found ≡ turned_front order i es
    → found_entry item ≡ turned_entry order (found_entry (get_or found i d)) → map found_entry (set found i item) ≡ turned_front order (suc i) es
one_turned order i [] es item d low is at = absurd (omega (arith, low))
one_turned order zero (x ∷ xs) [] item d low is at = absurd (no_more (found_entry x) (map found_entry xs) is)
one_turned order zero (x ∷ xs) (e ∷ es) item d low is at =
    let heads = ap (λ zs. get_or zs 0 e) is in
    let tails = ap (λ zs. drop 1 zs) is in
    let here = at ∙ ap (turned_entry order) heads in
    λ i. here i ∷ tails i
one_turned order (suc i) (x ∷ xs) [] item d low is at = absurd (no_more (found_entry x) (map found_entry xs) is)
one_turned order (suc i) (x ∷ xs) (e ∷ es) item d low is at =
    let heads = ap (λ zs. get_or zs 0 e) is in
    let tails = ap (λ zs. drop 1 zs) is in
    let later = one_turned order i xs es item d (omega (arith, low)) tails at in
    λ i. heads i ∷ later i

pub all_turned : (order : ByValue) (n : ℕ) (es : List Entry) → length es ≤ n → turned_front order n es ≡ map (turned_entry order) es
all_turned order zero [] all = refl
all_turned order zero (e ∷ es) all = absurd (omega (arith, all))
all_turned order (suc n) [] all = refl
all_turned order (suc n) (e ∷ es) all = ap (λ zs. turned_entry order e ∷ zs) (all_turned order n es (omega (arith, all)))
