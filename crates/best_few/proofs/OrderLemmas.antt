-- Entries in order: that they are, that there is one such order, and what of it depends on the first few alone.
use Rattle.std.proofs.Common.{◌≡◌, ℕ, zero, suc, ◌+◌, Bool, true, false, cond, List, [], ◌∷◌, ◌++◌, take, refl, sym, ap, ◌∙◌, arith}
use Rattle.std.specs.Prelude.{if◌then◌else◌}
use Rattle.std.specs.Cmp.{IsTotalOrder}
use Rattle.std.specs.Cmp.Lexicographic.{slice_cmp}
use Rattle.std.specs.List.{sum_by}
use Rattle.std.specs.List.Sorted.{IsPermutation}
use Rattle.std.specs.Ordering.{int_cmp, is_gt, is_lt, nat_cmp, ordering_reverse, ordering_then}
use Rattle.std.specs.declared.cmp.Ordering.{Ordering}
use Rattle.std.specs.declared.cmp.Ordering.TheVariants.{Equal, Greater, Less}
use Rattle.std.proofs.lemmas.Bool.{true≢false}
use Rattle.std.proofs.lemmas.Cmp.{back_total, int_cmp_total, int_ranked, nat_list_cmp_total, on_total, ranked, then_total, tied_itself, upto}
use Rattle.std.proofs.lemmas.List.Sorted.{IsPermutation-cons, IsPermutation-middle, IsPermutation-refl, IsPermutation-sym, IsPermutation-trans, sum_by-IsPermutation}
use Rattle.std.proofs.lemmas.List.Sums.{sum_by-cons}
use Rattle.cedar_tree.specs.Queries.{Entry}
use Rattle.best_few.specs.Orders.{best, entry_cmp, sort_by_value, IsFirst, IsInOrder, put_by_value}
use Rattle.best_few.specs.declared.order.ByValue.{ByValue}
use Rattle.best_few.specs.declared.order.ByValue.TheVariants.{HighestFirst, LowestFirst}

-- ---- the order is total, and tells all entries apart

pub total : (order : ByValue) → IsTotalOrder (entry_cmp order)
total HighestFirst = then_total (on_total (λ (e : Entry). e.1) (back_total int_cmp_total)) (on_total (λ (e : Entry). e.0) nat_list_cmp_total)
total LowestFirst = then_total (on_total (λ (e : Entry). e.1) int_cmp_total) (on_total (λ (e : Entry). e.0) nat_list_cmp_total)

both_equal : (o r : Ordering) → ordering_then o r ≡ Equal → (o ≡ Equal) × (r ≡ Equal)
both_equal Less r e = absurd (true≢false (ap is_lt e))
both_equal Equal r e = (refl, e)
both_equal Greater r e = absurd (true≢false (ap is_gt e))

equal_paths : (p q : List ℕ) → slice_cmp nat_cmp p q ≡ Equal → p ≡ q
equal_paths [] [] e = refl
equal_paths [] (y ∷ ys) e = absurd (true≢false (ap is_lt e))
equal_paths (x ∷ xs) [] e = absurd (true≢false (ap is_gt e))
equal_paths (x ∷ xs) (y ∷ ys) e =
    let parts = both_equal (nat_cmp x y) (slice_cmp nat_cmp xs ys) e in
    let heads : x ≡ y = ranked x y Equal (sym parts.0) in
    let tails = equal_paths xs ys parts.1 in
    λ i. heads i ∷ tails i

same : (order : ByValue) (a b : Entry) → entry_cmp order a b ≡ Equal → a ≡ b
same HighestFirst a b e =
    let parts = both_equal (int_cmp b.1 a.1) (slice_cmp nat_cmp a.0 b.0) e in
    let values : b.1 ≡ a.1 = int_ranked b.1 a.1 Equal (sym parts.0) in
    let keys = equal_paths a.0 b.0 parts.1 in
    λ i. (keys i, sym values i)
same LowestFirst a b e =
    let parts = both_equal (int_cmp a.1 b.1) (slice_cmp nat_cmp a.0 b.0) e in
    let values : a.1 ≡ b.1 = int_ranked a.1 b.1 Equal (sym parts.0) in
    let keys = equal_paths a.0 b.0 parts.1 in
    λ i. (keys i, values i)

neither : (o r : Ordering) → o ≡ ordering_reverse r → is_gt o ≡ false → is_gt r ≡ false → o ≡ Equal
neither o Less e h g = absurd (true≢false (sym (ap is_gt e) ∙ h))
neither o Equal e h g = e
neither o Greater e h g = absurd (true≢false g)

one_entry : (order : ByValue) (a b : Entry) → is_gt (entry_cmp order a b) ≡ false → is_gt (entry_cmp order b a) ≡ false → a ≡ b
one_entry order a b h g = same order a b (neither (entry_cmp order a b) (entry_cmp order b a) ((total order).antisymm a b) h g)

gt_reversed : (r : Ordering) → is_gt (ordering_reverse r) ≡ is_lt r
gt_reversed Less = refl
gt_reversed Equal = refl
gt_reversed Greater = refl

-- one comes behind another exactly if that one comes before it
pub gt_is_lt : (order : ByValue) (a b : Entry) → is_gt (entry_cmp order a b) ≡ is_lt (entry_cmp order b a)
gt_is_lt order a b = ap is_gt ((total order).antisymm a b) ∙ gt_reversed (entry_cmp order b a)

lt_not_gt : (r : Ordering) → is_lt r ≡ true → is_gt r ≡ false
lt_not_gt Less e = refl
lt_not_gt Equal e = refl
lt_not_gt Greater e = absurd (true≢false (sym e))

pub before_not_behind : (order : ByValue) (a b : Entry) → is_lt (entry_cmp order a b) ≡ true → is_gt (entry_cmp order a b) ≡ false
before_not_behind order a b = lt_not_gt (entry_cmp order a b)

-- ---- lists in order

pub first_behind : (order : ByValue) (a b : Entry) (xs : List Entry) → is_gt (entry_cmp order a b) ≡ false → IsFirst order b xs → IsFirst order a xs
first_behind order a b [] h all = tt
first_behind order a b (x ∷ xs) h all = (upto (total order) a b x h all.0, first_behind order a b xs h all.1)

put_first : (order : ByValue) (a e : Entry) (xs : List Entry) → is_gt (entry_cmp order a e) ≡ false → IsFirst order a xs → IsFirst order a (put_by_value order e xs)
put_first order a e [] h all = (h, tt)
put_first order a e (x ∷ xs) h all =
    elim (is_lt (entry_cmp order x e)) as (λ t. IsFirst order a (if t then x ∷ put_by_value order e xs else e ∷ x ∷ xs)) [
      | true ↦ (all.0, put_first order a e xs h all.1)
      | false ↦ (h, all)
    ]

pub put_keeps : (order : ByValue) (e : Entry) (xs : List Entry) → IsInOrder order xs → IsInOrder order (put_by_value order e xs)
put_keeps order e [] up = (tt, tt)
put_keeps order e (x ∷ xs) up =
    (elim (is_lt (entry_cmp order x e)) as (λ t. is_lt (entry_cmp order x e) ≡ t → IsInOrder order (if t then x ∷ put_by_value order e xs else e ∷ x ∷ xs)) [
      | true ↦ λ is. (put_first order x e xs (before_not_behind order x e is) up.0, put_keeps order e xs up.1)
      | false ↦ λ is. let h = gt_is_lt order e x ∙ is in ((h, first_behind order e x xs h up.0), up)
    ]) refl

pub ordered : (order : ByValue) (es : List Entry) → IsInOrder order (sort_by_value order es)
ordered order [] = tt
ordered order (e ∷ es) = put_keeps order e (sort_by_value order es) (ordered order es)

-- ---- there is one order of some entries

pub sum_put : (order : ByValue) (f : Entry → ℕ) (e : Entry) (xs : List Entry) → sum_by f (put_by_value order e xs) ≡ f e + sum_by f xs
sum_put order f e [] = sum_by-cons f e []
sum_put order f e (x ∷ xs) =
    elim (is_lt (entry_cmp order x e)) as (λ t. sum_by f (if t then x ∷ put_by_value order e xs else e ∷ x ∷ xs) ≡ f e + sum_by f (x ∷ xs)) [
      | true ↦
          let one = sum_by-cons f x (put_by_value order e xs) in
          let two = sum_put order f e xs in
          let three = sum_by-cons f x xs in
          omega (arith, one, two, three)
      | false ↦ sum_by-cons f e (x ∷ xs)
    ]

pub sum_in_order : (order : ByValue) (f : Entry → ℕ) (es : List Entry) → sum_by f (sort_by_value order es) ≡ sum_by f es
sum_in_order order f [] = refl
sum_in_order order f (e ∷ es) =
    let one = sum_put order f e (sort_by_value order es) in
    let two = sum_in_order order f es in
    let three = sum_by-cons f e es in
    omega (arith, one, two, three)

-- counts an entry that comes before another one
counted : ByValue → Entry → Entry → ℕ
counted order y z = cond (is_gt (entry_cmp order y z)) 1 0

none_before : (order : ByValue) (y : Entry) (ys : List Entry) → IsFirst order y ys → sum_by (counted order y) ys ≡ 0
unfolding counted
none_before order y [] all = refl
none_before order y (z ∷ zs) all =
    let one = sum_by-cons (counted order y) z zs in
    let here : counted order y z ≡ 0 = ap (λ t. cond t 1 0) all.0 in
    let rest = none_before order y zs all.1 in
    omega (arith, one, here, rest)

not_counted : (t : Bool) → ◌≡◌ {A = ℕ} (cond t 1 0) 0 → t ≡ false
not_counted true e = absurd (omega (arith, e))
not_counted false e = refl

-- so the first of as many entries isn't before the first of others
not_before : (order : ByValue) (x y : Entry) (xs ys : List Entry) → IsFirst order y ys → sum_by (counted order y) (x ∷ xs) ≡ sum_by (counted order y) (y ∷ ys) → is_gt (entry_cmp order y x) ≡ false
unfolding counted
not_before order x y xs ys all is =
    let itself : counted order y y ≡ 0 = ap (λ o. cond (is_gt o) 1 0) (tied_itself (total order) y) in
    let ones = sum_by-cons (counted order y) y ys in
    let none = none_before order y ys all in
    let others = sum_by-cons (counted order y) x xs in
    let zero : counted order y x ≡ 0 = omega (arith, itself, ones, none, others, is) in
    not_counted (is_gt (entry_cmp order y x)) zero

pub one_order : (order : ByValue) (xs ys : List Entry) → IsInOrder order xs → IsInOrder order ys → ((f : Entry → ℕ) → sum_by f xs ≡ sum_by f ys) → xs ≡ ys
one_order order [] [] up down is = refl
one_order order [] (y ∷ ys) up down is =
    let none = is (λ _. 1) in
    let some = sum_by-cons (λ (_ : Entry). 1) y ys in
    absurd (omega (arith, none, some))
one_order order (x ∷ xs) [] up down is =
    let none = is (λ _. 1) in
    let some = sum_by-cons (λ (_ : Entry). 1) x xs in
    absurd (omega (arith, none, some))
one_order order (x ∷ xs) (y ∷ ys) up down is =
    let behind = not_before order x y xs ys down.0 (is (counted order y)) in
    let before = not_before order y x ys xs up.0 (sym (is (counted order x))) in
    let heads : x ≡ y = one_entry order x y before behind in
    let tails : xs ≡ ys = one_order order xs ys up.1 down.1 (λ f.
    let all = is f in
    let one = sum_by-cons f x xs in
    let two = sum_by-cons f y ys in
    let here = ap f heads in
    omega (arith, all, one, two, here)) in
    λ i. heads i ∷ tails i

pub permuted : (order : ByValue) (xs ys : List Entry) → IsPermutation xs ys → sort_by_value order xs ≡ sort_by_value order ys
permuted order xs ys p = one_order order (sort_by_value order xs) (sort_by_value order ys) (ordered order xs) (ordered order ys) (λ f. sum_in_order order f xs ∙ sym (sum_by-IsPermutation f xs ys p) ∙ sym (sum_in_order order f ys))

pub settled : (order : ByValue) (xs : List Entry) → IsInOrder order xs → sort_by_value order xs ≡ xs
settled order xs up = one_order order (sort_by_value order xs) xs (ordered order xs) up (λ f. sum_in_order order f xs)

-- ---- the first few

first_take : (order : ByValue) (e : Entry) (k : ℕ) (xs : List Entry) → IsFirst order e xs → IsFirst order e (take k xs)
first_take order e zero xs all = tt
first_take order e (suc k) [] all = tt
first_take order e (suc k) (x ∷ xs) all = (all.0, first_take order e k xs all.1)

take_keeps : (order : ByValue) (k : ℕ) (xs : List Entry) → IsInOrder order xs → IsInOrder order (take k xs)
take_keeps order zero xs up = tt
take_keeps order (suc k) [] up = tt
take_keeps order (suc k) (x ∷ xs) up = (first_take order x k xs up.0, take_keeps order k xs up.1)

take_twice : (k : ℕ) (x : Entry) (xs : List Entry) → take k (x ∷ take k xs) ≡ take k (x ∷ xs)
take_twice zero x xs = refl
take_twice (suc k) x [] = refl
take_twice (suc zero) x (y ∷ xs) = refl
take_twice (suc (suc k)) x (y ∷ xs) = ap (λ zs. x ∷ zs) (take_twice (suc k) y xs)

take_put : (order : ByValue) (e : Entry) (k : ℕ) (xs : List Entry) → take k (put_by_value order e (take k xs)) ≡ take k (put_by_value order e xs)
take_put order e zero xs = refl
take_put order e (suc k) [] = refl
take_put order e (suc k) (x ∷ xs) =
    elim (is_lt (entry_cmp order x e)) as (λ t. take (suc k) (if t then x ∷ put_by_value order e (take k xs) else e ∷ x ∷ take k xs) ≡ take (suc k) (if t then x ∷ put_by_value order e xs else e ∷ x ∷ xs)) [
      | true ↦ ap (λ zs. x ∷ zs) (take_put order e k xs)
      | false ↦ ap (λ zs. e ∷ zs) (take_twice k x xs)
    ]

take_again : (k : ℕ) (xs : List Entry) → take k (take k xs) ≡ take k xs
take_again zero xs = refl
take_again (suc k) [] = refl
take_again (suc k) (x ∷ xs) = ap (λ zs. x ∷ zs) (take_again k xs)

-- the best of some entries and others depend on the best of those alone
few_suffice : (order : ByValue) (k : ℕ) (ys xs : List Entry) → best order k (ys ++ best order k xs) ≡ best order k (ys ++ xs)
few_suffice order k [] xs =
    let few = best order k xs in
    ap (take k) (settled order few (take_keeps order k (sort_by_value order xs) (ordered order xs)))
    ∙ take_again k (sort_by_value order xs)
few_suffice order k (y ∷ ys) xs =
    let few = best order k xs in
    sym (take_put order y k (sort_by_value order (ys ++ few)))
    ∙ ap (λ zs. take k (put_by_value order y zs)) (few_suffice order k ys xs)
    ∙ take_put order y k (sort_by_value order (ys ++ xs))

-- and what is behind others matters by its order alone
same_behind : (order : ByValue) (ys xs zs : List Entry) → sort_by_value order xs ≡ sort_by_value order zs → sort_by_value order (ys ++ xs) ≡ sort_by_value order (ys ++ zs)
same_behind order [] xs zs is = is
same_behind order (y ∷ ys) xs zs is = ap (put_by_value order y) (same_behind order ys xs zs is)

-- what is kept of some entries goes on to be all that counts of them
pub goes_on : (order : ByValue) (k : ℕ) (ys : List Entry) (e : Entry) (old new : List Entry) → sort_by_value order new ≡ best order k (e ∷ old) → best order k (ys ++ new) ≡ best order k (e ∷ (ys ++ old))
goes_on order k ys e old new is =
    let few = best order k (e ∷ old) in
    let up : IsInOrder order few = take_keeps order k (sort_by_value order (e ∷ old)) (ordered order (e ∷ old)) in
    ap (take k) (same_behind order ys new few (is ∙ sym (settled order few up)))
    ∙ few_suffice order k ys (e ∷ old)
    ∙ ap (take k) (permuted order (ys ++ e ∷ old) (e ∷ (ys ++ old)) (IsPermutation-middle ys e old))

-- ---- entries in order are the same entries

put_permutes : (order : ByValue) (e : Entry) (xs : List Entry) → IsPermutation (e ∷ xs) (put_by_value order e xs)
put_permutes order e [] = IsPermutation-refl (e ∷ [])
put_permutes order e (x ∷ xs) =
    elim (is_lt (entry_cmp order x e)) as (λ t. IsPermutation (e ∷ x ∷ xs) (if t then x ∷ put_by_value order e xs else e ∷ x ∷ xs)) [
      | true ↦
          IsPermutation-trans (e ∷ x ∷ xs) (x ∷ e ∷ xs) (x ∷ put_by_value order e xs)
          (IsPermutation-sym (x ∷ e ∷ xs) (e ∷ x ∷ xs) (IsPermutation-middle (x ∷ []) e xs))
          (IsPermutation-cons x (e ∷ xs) (put_by_value order e xs) (put_permutes order e xs))
      | false ↦ IsPermutation-refl (e ∷ x ∷ xs)
    ]

pub order_permutes : (order : ByValue) (es : List Entry) → IsPermutation es (sort_by_value order es)
order_permutes order [] = IsPermutation-refl []
order_permutes order (e ∷ es) =
    IsPermutation-trans (e ∷ es) (e ∷ sort_by_value order es) (put_by_value order e (sort_by_value order es))
    (IsPermutation-cons e es (sort_by_value order es) (order_permutes order es))
    (put_permutes order e (sort_by_value order es))
