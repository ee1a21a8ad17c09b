-- Keys that don't overlap, leftmost longest: what is left once a path can't go on.
use Rattle.std.proofs.Common.{◌≡◌, inl, inr, ℕ, zero, suc, ◌+◌, ◌-◌, ◌<◌, ◌≤◌, true, false, ℤ, List, [], ◌∷◌, ◌++◌, append_assoc, append-nil, drop, length, length-append, map, take, MatchOption, Option, Some, None, refl, sym, ap, ◌∙◌, arith}
use Rattle.std.specs.List.{All}
use Rattle.std.proofs.Math.Seq.{drop-length}
use Rattle.std.proofs.lemmas.Bool.Decides.{eqb_tells, leb_tells}
use Rattle.std.proofs.lemmas.List.Elements.{All-append, All-cons, All-head, All-nil, All-tail}
use Rattle.std.proofs.lemmas.List.{drop-append-le, map-append, take-append-le, take_all}
use Rattle.cedar_tree.specs.Tree.{number_at, Tree}
use Rattle.cedar_words.specs.Spots.{keywords_from, keywords_of, Spot}
use Rattle.cedar_words.specs.Tokens.{longest}
use Rattle.cedar_words.proofs.LongestLemmas.{IsLast, longest_is}
use Rattle.cedar_words.proofs.TokenLemmas.{tokens_next}
use Rattle.cedar_scan.specs.Leftmost.{IsFall, IsFallOn, popped_at}
use Rattle.cedar_scan.specs.Suffixes.{is_node}
use Rattle.cedar_scan.proofs.SuffixLemmas.{no_node_further, no_node_no_number}

take_behind : (xs ys : List ℕ) (n : ℕ) → length xs ≤ n → take n (xs ++ ys) ≡ xs ++ take (n - length xs) ys
take_behind [] ys n low = let e : n ≡ n - 0 = omega arith in ap (λ m. take m ys) e
take_behind (x ∷ xs) ys zero low = absurd (omega (arith, low))
take_behind (x ∷ xs) ys (suc n) low =
    let e : n - length xs ≡ suc n - length (x ∷ xs) = omega arith in
    ap (λ w. x ∷ w) (take_behind xs ys n (omega (arith, low))) ∙ ap (λ m. x ∷ (xs ++ take m ys)) e

-- ---- the longest key that a text begins with

-- no front of a text is a key from some length on
abbrev NoneFrom : Tree → List ℕ → ℕ → ℕ → Type 0
NoneFrom t q low end = (k : ℕ) → low ≤ k → k < end → number_at t (take (k + 1) q) ≡ None

some_none : (v : ℤ) → Some v ≡ None → ⊥
some_none v e = absurd (cc)

same_number : (v w : ℤ) → Some v ≡ Some w → v ≡ w
same_number v w e = cc

is_none : (t : Tree) (q : List ℕ) (o : Option (ℤ × ℕ)) → MatchOption o (NoneFrom t q 0 (length q)) (IsLast t q (length q)) → NoneFrom t q 0 (length q) → o ≡ None
is_none t q None is none = refl
is_none t q (Some found) is none = absurd (some_none found.0 (sym is.1 ∙ none found.1 (omega arith) is.0))

is_last : (t : Tree) (q : List ℕ) (o : Option (ℤ × ℕ)) (v : ℤ) (n : ℕ) → MatchOption o (NoneFrom t q 0 (length q)) (IsLast t q (length q))
    → n < length q → number_at t (take (n + 1) q) ≡ Some v → NoneFrom t q (n + 1) (length q) → o ≡ Some (v, n)
is_last t q None v n is less held later = absurd (some_none v (sym held ∙ is n (omega arith) less))
is_last t q (Some found) v n is less held later = elim (eqb_tells found.1 n) [
  | inl same ↦
      ap (λ (x : ℤ). Some (x, found.1)) (same_number found.0 v (sym is.1 ∙ ap (λ m. number_at t (take (m + 1) q)) same.1 ∙ held))
      ∙ ap (λ (m : ℕ). Some (v, m)) same.1
  | inr other ↦ elim (leb_tells (found.1 + 1) n) [
    | inl below ↦ absurd (some_none v (sym held ∙ is.2 n below.1 less))
    | inr above ↦
        let differ = other.1 in
        let high = above.1 in
        absurd (some_none found.0 (sym is.1 ∙ later found.1 (omega (arith, differ, high)) is.0))
  ]
]

pub longest_none : (t : Tree) (q : List ℕ) → NoneFrom t q 0 (length q) → longest t q ≡ None
longest_none t q none = is_none t q (longest t q) (longest_is t q) none

pub longest_last : (t : Tree) (q : List ℕ) (v : ℤ) (n : ℕ) → n < length q → number_at t (take (n + 1) q) ≡ Some v → NoneFrom t q (n + 1) (length q) → longest t q ≡ Some (v, n)
longest_last t q v n less held later = is_last t q (longest t q) v n (longest_is t q) less held later

-- more bytes behind which no front is a key don't change it
longest_same : (t : Tree) (p y : List ℕ) → NoneFrom t (p ++ y) (length p) (length (p ++ y)) → longest t (p ++ y) ≡ longest t p
longest_same t p y none = by_found (longest t p) refl (longest_is t p)
  where
    front : (k : ℕ) → k < length p → take (k + 1) (p ++ y) ≡ take (k + 1) p
    front k less = take-append-le (k + 1) p y (omega (arith, less))

    all : length (p ++ y) ≡ length p + length y
    all = length-append p y

    by_found : (o : Option (ℤ × ℕ)) → longest t p ≡ o → MatchOption o (NoneFrom t p 0 (length p)) (IsLast t p (length p)) → longest t (p ++ y) ≡ longest t p
    by_found None e is =
        longest_none t (p ++ y) (λ k low high. elim (leb_tells (length p) k) [
          | inl behind ↦ none k behind.1 high
          | inr before ↦ ap (number_at t) (front k before.1) ∙ is k low before.1
        ]) ∙ sym e
    by_found (Some found) e is =
        let less = is.0 in
        longest_last t (p ++ y) found.0 found.1 (omega (arith, less, all)) (ap (number_at t) (front found.1 is.0) ∙ is.1) (λ k low high. elim (leb_tells (length p) k) [
          | inl behind ↦ none k behind.1 high
          | inr before ↦ ap (number_at t) (front k before.1) ∙ is.2 k low before.1
        ]) ∙ sym e

-- where the path can't go on by a byte, nothing behind it counts
pub longest_stops : (t : Tree) (p : List ℕ) (c : ℕ) (y : List ℕ) → is_node t (p ++ c ∷ []) ≡ false → longest t (p ++ c ∷ y) ≡ longest t p
longest_stops t p c y gone = longest_same t p (c ∷ y) (λ k low high. no_node_no_number t (take (k + 1) (p ++ c ∷ y)) (beyond k low))
  where
    beyond : (k : ℕ) → length p ≤ k → is_node t (take (k + 1) (p ++ c ∷ y)) ≡ false
    beyond k low =
        let one = length-append p (c ∷ []) in
        let split : p ++ c ∷ y ≡ (p ++ c ∷ []) ++ y = sym (append_assoc p (c ∷ []) y) in
        let more : take (k + 1) (p ++ c ∷ y) ≡ (p ++ c ∷ []) ++ take (k + 1 - length (p ++ c ∷ [])) y =
        ap (take (k + 1)) split ∙ take_behind (p ++ c ∷ []) y (k + 1) (omega (arith, low, one)) in
        ap (is_node t) more ∙ no_node_further t (p ++ c ∷ []) (take (k + 1 - length (p ++ c ∷ [])) y) gone

-- a path that is no key begins with the longest key of its front
pub longest_of_other : (t : Tree) (u : List ℕ) (c : ℕ) → number_at t (u ++ c ∷ []) ≡ None → longest t (u ++ c ∷ []) ≡ longest t u
longest_of_other t u c none =
    let one = length-append u (c ∷ []) in
    longest_same t u (c ∷ []) (λ k low high. ap (number_at t) (take_all (k + 1) (u ++ c ∷ []) (omega (arith, low, one))) ∙ none)

pub longest_of_key : (t : Tree) (v : List ℕ) (x : ℤ) → 0 < length v → number_at t v ≡ Some x → longest t v ≡ Some (x, length v - 1)
longest_of_key t v x some held =
    let back : length v - 1 + 1 ≡ length v = omega (arith, some) in
    longest_last t v x (length v - 1) (omega (arith, some)) (ap (number_at t) (ap (λ n. take n v) back ∙ take_all (length v) v (omega arith)) ∙ held) (λ k low high. absurd (omega (arith, low, high, back)))

-- ---- the keywords of a text, one after another

pub keywords_key : (t : Tree) (place : ℕ) (text : List ℕ) (v : ℤ) (n : ℕ) → 0 < length text → longest t text ≡ Some (v, n) → keywords_from t place text ≡ (place, n + 1, v) ∷ keywords_from t (place + (n + 1)) (drop (n + 1) text)
keywords_key t place text v n some is = ap keywords_of (tokens_next t place text some (Some (v, n)) is)

pub keywords_none : (t : Tree) (place : ℕ) (text : List ℕ) → 0 < length text → longest t text ≡ None → keywords_from t place text ≡ keywords_from t (place + 1) (drop 1 text)
keywords_none t place text some is = ap keywords_of (tokens_next t place text some None is)

-- a byte under which the root has no child is passed
pub byte_passed : (t : Tree) (place c : ℕ) (y : List ℕ) → is_node t (c ∷ []) ≡ false → keywords_from t place (c ∷ y) ≡ keywords_from t (place + 1) y
byte_passed t place c y gone = keywords_none t place (c ∷ y) (omega arith) (longest_stops t [] c y gone)

-- ---- what a path that can't go on gives

-- a key gives itself
pub fall_of_key : (t : Tree) (v : List ℕ) (x : ℤ) → 0 < length v → number_at t v ≡ Some x → IsFall t v ((0, length v, x) ∷ []) []
fall_of_key t v x some held = record {
  node = refl;
  front = v;
  whole = sym (append-nil v);
  shorter = omega (arith, some);
  within = All-cons (λ (p : Spot). p.0 + p.1 ≤ length v) (0, length v, x) [] (omega arith) (All-nil (λ (p : Spot). p.0 + p.1 ≤ length v));
  gives = λ place y same.
      let both = length-append v y in
      let back : length v - 1 + 1 ≡ length v = omega (arith, some) in
      let begin : place + 0 ≡ place = omega arith in
      let end : place + length v ≡ place + (length v - 0) = omega arith in
      let rest : drop (length v) (v ++ y) ≡ y = drop-append-le (length v) v y (omega arith) ∙ ap (λ w. w ++ y) (drop-length v) in
      keywords_key t place (v ++ y) x (length v - 1) (omega (arith, some, both)) (same ∙ longest_of_key t v x some held)
      ∙ ap (λ n. (place, n, x) ∷ keywords_from t (place + n) (drop n (v ++ y))) back
      ∙ ap (λ w. (place, length v, x) ∷ keywords_from t (place + length v) w) rest
      ∙ ap (λ (n : ℕ). (n, length v, x) ∷ keywords_from t (place + length v) y) (sym begin)
      ∙ ap (λ n. (place + 0, length v, x) ∷ keywords_from t n y) end;
}

-- a single byte that is no key is passed
pub fall_of_byte : (t : Tree) (c : ℕ) → number_at t (c ∷ []) ≡ None → IsFall t (c ∷ []) [] []
fall_of_byte t c none = record {
  node = refl;
  front = c ∷ [];
  whole = refl;
  shorter = omega arith;
  within = All-nil (λ (p : Spot). p.0 + p.1 ≤ length (c ∷ []));
  gives = λ place y same.
      let end : place + 1 ≡ place + (length (c ∷ []) - 0) = omega arith in
      keywords_none t place (c ∷ y) (omega arith) (same ∙ longest_of_other t [] c none ∙ longest_none t [] (λ k low high. absurd (omega (arith, high))))
      ∙ ap (λ n. keywords_from t n y) end;
}

-- what the front of a path gives, the path gives at first, as far as that goes
pub falls_on : (t : Tree) (u : List ℕ) (c : ℕ) (pops : List Spot) (z : List ℕ) → IsFall t u pops z → IsFallOn t u c pops z
falls_on t u c pops z fall = record {
  node = fall.node;
  front = fall.front;
  whole = fall.whole;
  shorter = fall.shorter;
  within = fall.within;
  gives = λ place y same. fall.gives place (c ∷ y) same;
}

shift_shift : (place more : ℕ) (pops : List Spot) → map (popped_at (place + more)) pops ≡ map (popped_at place) (map (popped_at more) pops)
shift_shift place more [] = refl
shift_shift place more (p ∷ pops) =
    let e : place + more + p.0 ≡ place + (more + p.0) = omega arith in
    ap (λ (n : ℕ). (n, p.1, p.2) ∷ map (popped_at (place + more)) pops) e ∙ ap (λ (ps : List Spot). (place + (more + p.0), p.1, p.2) ∷ ps) (shift_shift place more pops)

shifted_within : (shift most all : ℕ) (pops : List Spot) → shift + most ≤ all → All (λ (p : Spot). p.0 + p.1 ≤ most) pops → All (λ (p : Spot). p.0 + p.1 ≤ all) (map (popped_at shift) pops)
shifted_within shift most all [] fits each = All-nil (λ (p : Spot). p.0 + p.1 ≤ all)
shifted_within shift most all (p ∷ pops) fits each =
    let low : p.0 + p.1 ≤ most = All-head (λ (x : Spot). x.0 + x.1 ≤ most) p pops each in
    All-cons (λ (x : Spot). x.0 + x.1 ≤ all) (shift + p.0, p.1, p.2) (map (popped_at shift) pops) (omega (arith, low, fits)) (shifted_within shift most all pops fits (All-tail (λ (x : Spot). x.0 + x.1 ≤ most) p pops each))

-- then it gives what the rest does that can't go on either
pub falls_further : (t : Tree) (u : List ℕ) (c : ℕ) (pops : List Spot) (z : List ℕ) (more : List Spot) (next : List ℕ) → IsFallOn t u c pops z → is_node t (z ++ c ∷ []) ≡ false → IsFall t z more next
    → IsFallOn t u c (pops ++ map (popped_at (length u - length z)) more) next
falls_further t u c pops z more next on gone fall =
    let less = on.shorter in
    let lower = fall.shorter in
    record {
      node = fall.node;
      front = on.front ++ fall.front;
      whole = on.whole ∙ ap (λ w. on.front ++ w) fall.whole ∙ sym (append_assoc on.front fall.front next);
      shorter = omega (arith, less, lower);
      within = All-append (λ (p : Spot). p.0 + p.1 ≤ length u) pops (map (popped_at (length u - length z)) more) on.within (shifted_within (length u - length z) (length z) (length u) more (omega (arith, less)) fall.within);
      gives = λ place y same.
          let d = length u - length z in
          let end : place + d + (length z - length next) ≡ place + (length u - length next) = omega (arith, less, lower) in
          on.gives place y same
          ∙ ap (λ (x : List Spot). map (popped_at place) pops ++ x) (fall.gives (place + d) (c ∷ y) (longest_stops t z c y gone))
          ∙ ap (λ (x : List Spot). map (popped_at place) pops ++ (x ++ keywords_from t (place + d + (length z - length next)) (next ++ c ∷ y))) (shift_shift place d more)
          ∙ sym (append_assoc (map (popped_at place) pops) (map (popped_at place) (map (popped_at d) more)) (keywords_from t (place + d + (length z - length next)) (next ++ c ∷ y)))
          ∙ ap (λ (x : List Spot). x ++ keywords_from t (place + d + (length z - length next)) (next ++ c ∷ y)) (sym (map-append (popped_at place) pops (map (popped_at d) more)))
          ∙ ap (λ n. map (popped_at place) (pops ++ map (popped_at d) more) ++ keywords_from t n (next ++ c ∷ y)) end;
    }

-- until the rest goes on
pub fall_to_child : (t : Tree) (u : List ℕ) (c : ℕ) (pops : List Spot) (z : List ℕ) → IsFallOn t u c pops z → number_at t (u ++ c ∷ []) ≡ None → is_node t (z ++ c ∷ []) ≡ true → IsFall t (u ++ c ∷ []) pops (z ++ c ∷ [])
fall_to_child t u c pops z on none there =
    let one = length-append u (c ∷ []) in
    let other = length-append z (c ∷ []) in
    let less = on.shorter in
    record {
      node = there;
      front = on.front;
      whole = ap (λ w. w ++ c ∷ []) on.whole ∙ append_assoc on.front z (c ∷ []);
      shorter = omega (arith, one, other, less);
      within = λ k d inside. let low = on.within k d inside in omega (arith, low, one);
      gives = λ place y same.
          let end : place + (length u - length z) ≡ place + (length (u ++ c ∷ []) - length (z ++ c ∷ [])) = omega (arith, one, other) in
          let whole : (u ++ c ∷ []) ++ y ≡ u ++ c ∷ y = append_assoc u (c ∷ []) y in
          let keeps : longest t (u ++ c ∷ y) ≡ longest t u = ap (longest t) (sym whole) ∙ same ∙ longest_of_other t u c none in
          ap (keywords_from t place) whole
          ∙ on.gives place y keeps
          ∙ ap (λ w. map (popped_at place) pops ++ keywords_from t (place + (length u - length z)) w) (sym (append_assoc z (c ∷ []) y))
          ∙ ap (λ n. map (popped_at place) pops ++ keywords_from t n ((z ++ c ∷ []) ++ y)) end;
    }

-- or nothing is left, and the byte is passed
pub fall_to_root : (t : Tree) (u : List ℕ) (c : ℕ) (pops : List Spot) → IsFallOn t u c pops [] → number_at t (u ++ c ∷ []) ≡ None → is_node t (c ∷ []) ≡ false → IsFall t (u ++ c ∷ []) pops []
fall_to_root t u c pops on none gone =
    let one = length-append u (c ∷ []) in
    record {
      node = refl;
      front = u ++ c ∷ [];
      whole = sym (append-nil (u ++ c ∷ []));
      shorter = omega (arith, one);
      within = λ k d inside. let low = on.within k d inside in omega (arith, low, one);
      gives = λ place y same.
          let end : place + (length u - 0) + 1 ≡ place + (length (u ++ c ∷ []) - 0) = omega (arith, one) in
          let whole : (u ++ c ∷ []) ++ y ≡ u ++ c ∷ y = append_assoc u (c ∷ []) y in
          let keeps : longest t (u ++ c ∷ y) ≡ longest t u = ap (longest t) (sym whole) ∙ same ∙ longest_of_other t u c none in
          ap (keywords_from t place) whole
          ∙ on.gives place y keeps
          ∙ ap (λ (x : List Spot). map (popped_at place) pops ++ x) (byte_passed t (place + (length u - 0)) c y gone)
          ∙ ap (λ n. map (popped_at place) pops ++ keywords_from t n y) end;
    }
