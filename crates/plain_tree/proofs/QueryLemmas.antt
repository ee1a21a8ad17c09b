-- What the loops of the queries have found so far.
use Rattle.std.proofs.Common.{◌≡◌, ℕ, ◌+◌, ◌-◌, ◌<◌, ◌≤◌, true, false, nat_eq, ℤ, List, [], ◌∷◌, ◌++◌, length, map, take, get_or, Some, None, Vec, refl, sym, ap, ◌∙◌, arith}
use Rattle.std.specs.List.{starts_with, range_with_len, filter, filter_map}
use Rattle.std.proofs.lemmas.List.{append-nil, map-append, map-id, take_more, take_all}
use Rattle.std.proofs.lemmas.List.Elements.{filter-append, filter_map-append}
use Rattle.std.proofs.lemmas.List.FromFn.{map-range_with_len_more}
use Rattle.cedar_tree.specs.Tree.{Tree, number_at}
use Rattle.cedar_tree.specs.Queries.{Entry, found_at, walk, predict}
use Rattle.plain_tree.specs.Listing.{vector_entries}

range-push : (n : ℕ) → range_with_len 0 (n + 1) ≡ range_with_len 0 n ++ n ∷ []
range-push n =
    sym (map-id (range_with_len 0 (n + 1))) ∙ map-range_with_len_more (λ (k : ℕ). k) 0 n n (omega arith)
    ∙ ap (λ (ks : List ℕ). ks ++ n ∷ []) (map-id (range_with_len 0 n))

front-push : (t : Tree) (q : List ℕ) (n : ℕ) → filter_map (found_at t q) (range_with_len 0 (n + 1)) ≡ filter_map (found_at t q) (range_with_len 0 n) ++ filter_map (found_at t q) (n ∷ [])
front-push t q n = ap (filter_map (found_at t q)) (range-push n) ∙ filter_map-append (found_at t q) (range_with_len 0 n) (n ∷ [])

-- the front that ends at byte n is held
pub front_held : (t : Tree) (q : List ℕ) (n : ℕ) (v w : ℤ) (before after : List (ℤ × ℕ)) → number_at t (take (n + 1) q) ≡ Some v → w ≡ v
    → before ≡ filter_map (found_at t q) (range_with_len 0 n) → after ≡ before ++ (w, n) ∷ []
    → after ≡ filter_map (found_at t q) (range_with_len 0 (n + 1))
front_held t q n v w before after held same so_far pushed =
    pushed ∙ ap (λ (x : ℤ). before ++ (x, n) ∷ []) same ∙ ap (λ (xs : List (ℤ × ℕ)). xs ++ (v, n) ∷ []) so_far
    ∙ sym (front-push t q n ∙ rw held refl)

-- and not held
pub front_not_held : (t : Tree) (q : List ℕ) (n : ℕ) (before : List (ℤ × ℕ)) → number_at t (take (n + 1) q) ≡ None
    → before ≡ filter_map (found_at t q) (range_with_len 0 n)
    → before ≡ filter_map (found_at t q) (range_with_len 0 (n + 1))
front_not_held t q n before none so_far =
    so_far ∙ sym (front-push t q n ∙ rw none (append-nil (filter_map (found_at t q) (range_with_len 0 n))))

-- an entry's number, and how many bytes of its path follow q
abbrev pub told : List ℕ → Entry → ℤ × ℕ
told q e = (e.1, length e.0 - length q)

-- what a prediction gives of those entries whose path begins with q
abbrev pub told_of : List ℕ → List Entry → List (ℤ × ℕ)
told_of q es = map (told q) (filter (λ e. starts_with nat_eq e.0 q) es)

told_of-push : {Z : Type 0} (q : List ℕ) (xs : List (Vec ℕ Z × ℤ)) (i : ℕ) (x : Vec ℕ Z × ℤ) → i < length xs → x ≡ get_or xs i x
    → told_of q (vector_entries (take (i + 1) xs)) ≡ told_of q (vector_entries (take i xs)) ++ told_of q ((x.0.items, x.1) ∷ [])
told_of-push q xs i x within is =
    ap (λ (ys : _). told_of q (vector_entries ys)) (take_more xs i x within ∙ ap (λ (y : _). take i xs ++ y ∷ []) (sym is))
    ∙ ap (told_of q) (map-append (λ e. (e.0.items, e.1)) (take i xs) (x ∷ []))
    ∙ ap (map (told q)) (filter-append (λ e. starts_with nat_eq e.0 q) (vector_entries (take i xs)) ((x.0.items, x.1) ∷ []))
    ∙ map-append (told q) (filter (λ e. starts_with nat_eq e.0 q) (vector_entries (take i xs))) (filter (λ e. starts_with nat_eq e.0 q) ((x.0.items, x.1) ∷ []))

-- an entry's path begins with q
pub predict_begins : {Z : Type 0} (q : List ℕ) (xs : List (Vec ℕ Z × ℤ)) (i : ℕ) (x : Vec ℕ Z × ℤ) → i < length xs → x ≡ get_or xs i x
    → (w : ℤ) (n : ℕ) (before after : List (ℤ × ℕ)) → starts_with nat_eq x.0.items q ≡ true → w ≡ x.1 → n ≡ length x.0.items - length q
    → before ≡ told_of q (vector_entries (take i xs)) → after ≡ before ++ (w, n) ∷ []
    → after ≡ told_of q (vector_entries (take (i + 1) xs))
predict_begins q xs i x within is w n before after begins same left so_far pushed =
    pushed ∙ ap (λ (y : ℤ). before ++ (y, n) ∷ []) same ∙ ap (λ (k : ℕ). before ++ (x.1, k) ∷ []) left
    ∙ ap (λ (ys : List (ℤ × ℕ)). ys ++ told q (x.0.items, x.1) ∷ []) so_far
    ∙ sym (told_of-push q xs i x within is ∙ rw begins refl)

-- and does not
pub predict_differs : {Z : Type 0} (q : List ℕ) (xs : List (Vec ℕ Z × ℤ)) (i : ℕ) (x : Vec ℕ Z × ℤ) → i < length xs → x ≡ get_or xs i x
    → (before : List (ℤ × ℕ)) → starts_with nat_eq x.0.items q ≡ false
    → before ≡ told_of q (vector_entries (take i xs))
    → before ≡ told_of q (vector_entries (take (i + 1) xs))
predict_differs q xs i x within is before differs so_far =
    so_far ∙ sym (told_of-push q xs i x within is ∙ rw differs (append-nil (told_of q (vector_entries (take i xs)))))

-- all entries are looked at
pub predict_all : {Z : Type 0} (q : List ℕ) (t : Tree) (xs : List (Vec ℕ Z × ℤ)) (i : ℕ) → length xs ≤ i → vector_entries xs ≡ walk t
    → (found : List (ℤ × ℕ)) → found ≡ told_of q (vector_entries (take i xs)) → found ≡ predict t q
predict_all q t xs i end whole found so_far =
    so_far ∙ ap (λ (ys : _). told_of q (vector_entries ys)) (take_all i xs end) ∙ ap (told_of q) whole
