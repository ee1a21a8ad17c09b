-- What a heap keeps, as entries in order.
use Rattle.std.proofs.Common.{◌≡◌, ℕ, suc, ◌+◌, ◌<◌, Bool, true, false, ℤ, List, [], ◌∷◌, ◌++◌, length, take, map, get_or, refl, sym, ap, ◌∙◌, subst, arith}
use Rattle.std.specs.Prelude.{if◌then◌else◌, Err, IfSome, IsSome, None, Ok, OnOk, Option, Result, slice_index_or, Some}
use Rattle.std.specs.BinaryHeap.{IsHeap, IsUpperBound, lt_by_cmp}
use Rattle.std.specs.Bool.{MatchBool}
use Rattle.std.specs.List.Sorted.{IsPermutation, IsSortedBy}
use Rattle.std.specs.Ordering.{is_gt, is_lt}
use Rattle.std.specs.declared.vec.Vec.{Vec}
use Rattle.std.proofs.lemmas.Bool.{true≢false}
use Rattle.std.proofs.lemmas.List.{take-append-le, take_all}
use Rattle.std.proofs.lemmas.List.Sorted.{IsPermutation-map, length_permutation}
use Rattle.std.proofs.lemmas.List.Sums.{sum_by_push}
use Rattle.cedar_tree.specs.Queries.{Entry}
use Rattle.best_few.specs.Orders.{entry_cmp, FollowsAll, found_entry, sort_by_value, IsFirst, IsInOrder, IsLast, kept_cmp, KeepsBest, KeepsOneMore, PrecedesLast, put_by_value}
use Rattle.best_few.specs.declared.order.ByValue.{ByValue}
use Rattle.best_few.specs.declared.order.ByValue.TheVariants.{LowestFirst}
use Rattle.std.proofs.lemmas.Cmp.{upto}
use Rattle.best_few.proofs.OrderLemmas.{before_not_behind, first_behind, gt_is_lt, one_order, ordered, permuted, put_keeps, settled, sum_put, total}

-- ---- lengths

length_put : (order : ByValue) (e : Entry) (xs : List Entry) → length (put_by_value order e xs) ≡ length xs + 1
length_put order e [] = omega arith
length_put order e (x ∷ xs) =
    elim (is_lt (entry_cmp order x e)) as (λ t. length (if t then x ∷ put_by_value order e xs else e ∷ x ∷ xs) ≡ length (x ∷ xs) + 1) [
      | true ↦ let more = length_put order e xs in omega (arith, more)
      | false ↦ omega arith
    ]

pub length_in_order : (order : ByValue) (es : List Entry) → length (sort_by_value order es) ≡ length es
length_in_order order [] = refl
length_in_order order (e ∷ es) =
    let one = length_put order e (sort_by_value order es) in
    let more = length_in_order order es in
    omega (arith, one, more)

pub length_found : {A : Type 0} (xs : List (ℤ × Vec ℕ A)) → length (map found_entry xs) ≡ length xs
length_found [] = refl
length_found (x ∷ xs) = let more = length_found xs in omega (arith, more)

-- ---- what is last

put_last : (order : ByValue) (t e : Entry) (xs : List Entry) → is_gt (entry_cmp order e t) ≡ false → IsLast order t xs → IsLast order t (put_by_value order e xs)
put_last order t e [] h all = (h, tt)
put_last order t e (x ∷ xs) h all =
    elim (is_lt (entry_cmp order x e)) as (λ b. IsLast order t (if b then x ∷ put_by_value order e xs else e ∷ x ∷ xs)) [
      | true ↦ (all.0, put_last order t e xs h all.1)
      | false ↦ (h, all)
    ]

last_in_order : (order : ByValue) (t : Entry) (es : List Entry) → IsLast order t es → IsLast order t (sort_by_value order es)
last_in_order order t [] all = tt
last_in_order order t (e ∷ es) all = put_last order t e (sort_by_value order es) all.0 (last_in_order order t es all.1)

first_and_last : (order : ByValue) (x t : Entry) (xs : List Entry) → IsFirst order x xs → is_gt (entry_cmp order x t) ≡ false → IsFirst order x (xs ++ t ∷ [])
first_and_last order x t [] all h = (h, tt)
first_and_last order x t (y ∷ ys) all h = (all.0, first_and_last order x t ys all.1 h)

and_last : (order : ByValue) (t : Entry) (xs : List Entry) → IsInOrder order xs → IsLast order t xs → IsInOrder order (xs ++ t ∷ [])
and_last order t [] up all = (tt, tt)
and_last order t (x ∷ xs) up all = (first_and_last order x t xs up.0 all.0, and_last order t xs up.1 all.1)

-- what no entry comes behind is put at the end
put_at_end : (order : ByValue) (t : Entry) (xs : List Entry) → IsInOrder order xs → IsLast order t xs → put_by_value order t xs ≡ xs ++ t ∷ []
put_at_end order t xs up all = one_order order (put_by_value order t xs) (xs ++ t ∷ []) (put_keeps order t xs up) (and_last order t xs up all) (λ f.
    let one = sum_put order f t xs in
    let two = sum_by_push f xs t in
    omega (arith, one, two))

-- and it stays there
put_before_end : (order : ByValue) (e t : Entry) (xs : List Entry) → IsInOrder order xs → IsLast order t xs → is_gt (entry_cmp order e t) ≡ false
    → put_by_value order e (xs ++ t ∷ []) ≡ put_by_value order e xs ++ t ∷ []
put_before_end order e t xs up all h =
    one_order order (put_by_value order e (xs ++ t ∷ [])) (put_by_value order e xs ++ t ∷ [])
    (put_keeps order e (xs ++ t ∷ []) (and_last order t xs up all))
    (and_last order t (put_by_value order e xs) (put_keeps order e xs up) (put_last order t e xs h all)) (λ f.
    let one = sum_put order f e (xs ++ t ∷ []) in
    let two = sum_by_push f xs t in
    let three = sum_by_push f (put_by_value order e xs) t in
    let four = sum_put order f e xs in
    omega (arith, one, two, three, four))

-- ---- what is kept

pub one_more : {A : Type 0} (item : ℤ × Vec ℕ A) (old new : List (ℤ × Vec ℕ A)) → IsPermutation (item ∷ old) new → KeepsOneMore old (found_entry item) new
one_more item old new p = sym (permuted LowestFirst (map found_entry (item ∷ old)) (map found_entry new) (IsPermutation-map found_entry (item ∷ old) new p))

pub one_more_is_best : {A : Type 0} (most : ℕ) (old : List (ℤ × Vec ℕ A)) (e : Entry) (new : List (ℤ × Vec ℕ A)) → length old < most → KeepsOneMore old e new → KeepsBest most old e new
one_more_is_best most old e new low is =
    let all = sort_by_value LowestFirst (e ∷ map found_entry old) in
    let len = length_in_order LowestFirst (e ∷ map found_entry old) in
    let few = length_found old in
    is ∙ sym (take_all most all (omega (arith, low, len, few)))

-- the top of a heap is the last of what it keeps
pub top_is_last : {A : Type 0} (top : ℤ × Vec ℕ A) (kept : List (ℤ × Vec ℕ A)) → IsUpperBound kept_cmp top kept → IsLast LowestFirst (found_entry top) (map found_entry kept)
top_is_last top [] all = tt
top_is_last top (x ∷ xs) all = (gt_is_lt LowestFirst (found_entry x) (found_entry top) ∙ all.0, top_is_last top xs all.1)

last_behind : (order : ByValue) (t e : Entry) (xs : List Entry) → IsLast order t xs → is_gt (entry_cmp order t e) ≡ false → IsLast order e xs
last_behind order t e [] all h = tt
last_behind order t e (x ∷ xs) all h = (upto (total order) x t e all.0 h, last_behind order t e xs all.1 h)

-- what doesn't come before the top follows all that is kept
pub follows_all : {A : Type 0} (top : ℤ × Vec ℕ A) (kept : List (ℤ × Vec ℕ A)) (e : Entry) → IsUpperBound kept_cmp top kept → is_lt (entry_cmp LowestFirst e (found_entry top)) ≡ false → FollowsAll e kept
follows_all top kept e all h = last_behind LowestFirst (found_entry top) e (map found_entry kept) (top_is_last top kept all) (gt_is_lt LowestFirst (found_entry top) e ∙ h)

-- so it isn't among the best
pub rest_is_best : {A : Type 0} (most : ℕ) (kept : List (ℤ × Vec ℕ A)) (e : Entry) → length kept ≡ most → FollowsAll e kept → KeepsBest most kept e kept
rest_is_best most kept e full all =
    let old = sort_by_value LowestFirst (map found_entry kept) in
    let end = put_at_end LowestFirst e old (ordered LowestFirst (map found_entry kept)) (last_in_order LowestFirst e (map found_entry kept) all) in
    let len = length_in_order LowestFirst (map found_entry kept) in
    let few = length_found kept in
    sym (ap (take most) end ∙ take-append-le most old (e ∷ []) (omega (arith, len, few, full)) ∙ take_all most old (omega (arith, len, few, full)))

-- where one comes before the top and takes its place, the best are kept
pub replaced : {A : Type 0} (old rest new : List (ℤ × Vec ℕ A)) (top item : ℤ × Vec ℕ A) → IsPermutation old (top ∷ rest) → IsUpperBound kept_cmp top rest
    → is_lt (entry_cmp LowestFirst (found_entry item) (found_entry top)) ≡ true → IsPermutation (item ∷ rest) new → KeepsBest (length old) old (found_entry item) new
replaced old rest new top item parted all before p =
    let t = found_entry top in
    let e = found_entry item in
    let few = map found_entry rest in
    let low = sort_by_value LowestFirst few in
    let up = ordered LowestFirst few in
    let last = last_in_order LowestFirst t few (top_is_last top rest all) in
    let h = before_not_behind LowestFirst e t before in
    let was = permuted LowestFirst (map found_entry old) (t ∷ few) (IsPermutation-map found_entry old (top ∷ rest) parted) ∙ put_at_end LowestFirst t low up last in
    let put = put_by_value LowestFirst e low in
    let len = length_put LowestFirst e low in
    let less = length_in_order LowestFirst few in
    let same = length_found rest in
    let all_of_them = length_permutation old (top ∷ rest) parted in
    one_more item rest new p
    ∙ sym (ap (λ zs. take (length old) (put_by_value LowestFirst e zs)) was
    ∙ ap (take (length old)) (put_before_end LowestFirst e t low up last h)
    ∙ take-append-le (length old) put (t ∷ []) (omega (arith, len, less, same, all_of_them))
    ∙ take_all (length old) put (omega (arith, len, less, same, all_of_them)))

-- ---- what comes out of a heap

pub sorted_is : {A : Type 0} (xs : List (ℤ × Vec ℕ A)) → IsSortedBy (lt_by_cmp kept_cmp) xs → IsInOrder LowestFirst (map found_entry xs)
sorted_is [] up = tt
sorted_is (x ∷ []) up = (tt, tt)
sorted_is (x ∷ y ∷ ys) up =
    let next : is_lt (kept_cmp (get_or (x ∷ y ∷ ys) (0 + 1) x) (get_or (x ∷ y ∷ ys) 0 x)) ≡ false = up 0 x (omega arith) (omega arith) in
    let behind : is_gt (entry_cmp LowestFirst (found_entry x) (found_entry y)) ≡ false = gt_is_lt LowestFirst (found_entry x) (found_entry y) ∙ next in
    let later = sorted_is (y ∷ ys) (λ k d low high.
    let at : suc k + 1 ≡ suc (k + 1) = omega arith in
    subst (λ n. is_lt (kept_cmp (get_or (x ∷ y ∷ ys) n d) (get_or (y ∷ ys) k d)) ≡ false) at (up (suc k) d (omega arith) (omega (arith, high)))) in
    ((behind, first_behind LowestFirst (found_entry x) (found_entry y) (map found_entry ys) behind later.0), later)

pub comes_out : {A : Type 0} (kept found : List (ℤ × Vec ℕ A)) → IsPermutation kept found → IsSortedBy (lt_by_cmp kept_cmp) found → map found_entry found ≡ sort_by_value LowestFirst (map found_entry kept)
comes_out kept found p up =
    sym (permuted LowestFirst (map found_entry kept) (map found_entry found) (IsPermutation-map found_entry kept found p)
    ∙ settled LowestFirst (map found_entry found) (sorted_is found up))

-- as a result says it
pub on_ok_then : {T E P Q : Type 0} (r : Result T E) → OnOk r P → (P → Q) → OnOk r Q
on_ok_then (Ok x) p f = f p
on_ok_then (Err e) p f = p

-- ---- what a look at the top, and its removal, say

pub told_of_top : {A : Type 0} (top : ℤ × Vec ℕ A) (kept : List (ℤ × Vec ℕ A)) (e : Entry) (b : Bool) → 0 < length kept → top ≡ slice_index_or kept 0 top → IsUpperBound kept_cmp top kept
    → b ≡ is_lt (entry_cmp LowestFirst e (found_entry top)) → MatchBool b (PrecedesLast e kept) (FollowsAll e kept)
told_of_top top [] e b some at all is = absurd (omega (arith, some))
told_of_top top (x ∷ xs) e true some at all is = ap (λ z. is_lt (entry_cmp LowestFirst e (found_entry z))) (sym at) ∙ sym is
told_of_top top (x ∷ xs) e false some at all is = follows_all top (x ∷ xs) e all (sym is)

precedes_top : {A : Type 0} (top : ℤ × Vec ℕ A) (kept : List (ℤ × Vec ℕ A)) (e : Entry) → top ≡ slice_index_or kept 0 top → PrecedesLast e kept → is_lt (entry_cmp LowestFirst e (found_entry top)) ≡ true
precedes_top top [] e at before = absurd before
precedes_top top (x ∷ xs) e at before = ap (λ z. is_lt (entry_cmp LowestFirst e (found_entry z))) at ∙ before

pub replaced_top : {A : Type 0} (old rest new : List (ℤ × Vec ℕ A)) (item : ℤ × Vec ℕ A) (top : Option (ℤ × Vec ℕ A)) → IsSome top → IfSome top (λ x. x ≡ slice_index_or old 0 x)
    → IfSome top (λ x. IsPermutation old (x ∷ rest)) → IfSome top (λ x. IsHeap kept_cmp old → IsUpperBound kept_cmp x rest) → IsHeap kept_cmp old → PrecedesLast (found_entry item) old
    → IsPermutation (item ∷ rest) new → KeepsBest (length old) old (found_entry item) new
replaced_top old rest new item None some at parted all heap before p = absurd (true≢false (sym some))
replaced_top old rest new item (Some top) some at parted all heap before p = replaced old rest new top item parted (all heap) (precedes_top top old (found_entry item) at before) p

pub some_precede : {A : Type 0} (kept : List (ℤ × Vec ℕ A)) (e : Entry) → PrecedesLast e kept → 0 < length kept
some_precede [] e before = absurd before
some_precede (x ∷ xs) e before = omega arith
