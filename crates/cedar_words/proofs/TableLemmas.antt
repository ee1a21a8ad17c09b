-- How the ways of a text are found and kept.
use Rattle.std.proofs.Common.{◌≡◌, ℕ, zero, suc, ◌+◌, ◌-◌, ◌^◌, ◌<◌, ◌≤◌, inl, inr, min, true, false, ℤ, List, [], ◌∷◌, ◌++◌, length, map, take, drop, Option, Vec, Result, Ok, Err, IfOk, slice_index_or, refl, sym, ap, subst, ◌∙◌, arith}
use Rattle.std.specs.List.{range_with_len}
use Rattle.std.proofs.lemmas.Bool.Decides.{eqb_tells}
use Rattle.std.proofs.lemmas.List.{get_or-take, get_or_append_left, get_or_push, length-drop, length-take-le, length_push, take-append-le, take_all}
use Rattle.cedarwood.specs.Tree.{Tree}
use Rattle.cedarwood.specs.Queries.{front}
use Rattle.cedar_words.specs.Ranked.{AreWays, best_ways, insert_way, IsBestCuts, WaysGoOn, lists_of, no_way, put_ways, step_ways, way_at, way_before, ways_along, ways_behind}
use Rattle.cedar_words.specs.Tokens.{Token}
use Rattle.cedar_words.specs.declared.models.UnknownRun.{UnknownRun}
use Rattle.cedar_words.specs.declared.ranked.Way.{Way}
use Rattle.cedar_words.proofs.RankLemmas.{IsBestOf}
use Rattle.cedar_words.proofs.RankedLemmas.{contains_at, IsWayOver, over_best, ways_best_cuts}

-- a way is put behind those that it doesn't come before
pub insert_later : (way : Way) (ways : List Way) (i : ℕ) (d : Way) → i < length ways → way_before way (slice_index_or ways i d) ≡ false
    → take i ways ++ insert_way way (drop i ways) ≡ take (i + 1) ways ++ insert_way way (drop (i + 1) ways)
insert_later way [] i d low isnt = absurd (omega (arith, low))
insert_later way (w ∷ ways) zero d low isnt = rw isnt refl
insert_later way (w ∷ ways) (suc i) d low isnt =
    let same : suc (i + 1) ≡ suc i + 1 = omega arith in
    ap (λ l. w ∷ l) (insert_later way ways i d (omega (arith, low)) isnt) ∙ ap (λ n. take n (w ∷ ways) ++ insert_way way (drop n (w ∷ ways))) same

-- and before the first one that it does, or at the end
pub insert_before : (way : Way) (ways : List Way) (i : ℕ) (d : Way) → i < length ways → way_before way (slice_index_or ways i d) ≡ true → insert_way way (drop i ways) ≡ way ∷ drop i ways
insert_before way [] i d low is = absurd (omega (arith, low))
insert_before way (w ∷ ways) zero d low is = rw is refl
insert_before way (w ∷ ways) (suc i) d low is = insert_before way ways i d (omega (arith, low)) is

pub insert_end : (way : Way) (ways : List Way) (i : ℕ) → length ways ≤ i → insert_way way (drop i ways) ≡ way ∷ drop i ways
insert_end way [] zero high = refl
insert_end way [] (suc i) high = refl
insert_end way (w ∷ ways) zero high = absurd (omega (arith, high))
insert_end way (w ∷ ways) (suc i) high = insert_end way ways i (omega (arith, high))

-- the ways over a token from a rank on are the one of that rank, and those behind it
pub step_first : (price len : ℕ) (value : Option ℤ) (rank : ℕ) (behind : List Way) (i : ℕ) (d : Way) → i < length behind
    → step_ways price len value rank (drop i behind) ≡ record { cost = min (price + (slice_index_or behind i d).cost) (2 ^ 64 - 1); len = len; value = value; rank = rank } ∷ step_ways price len value (rank + 1) (drop (i + 1) behind)
step_first price len value rank [] i d low = absurd (omega (arith, low))
step_first price len value rank (b ∷ behind) zero d low = refl
step_first price len value rank (b ∷ behind) (suc i) d low =
    let same : suc (i + 1) ≡ suc i + 1 = omega arith in
    step_first price len value rank behind i d (omega (arith, low))
    ∙ ap (λ n. record { cost = min (price + (slice_index_or behind i d).cost) (2 ^ 64 - 1); len = len; value = value; rank = rank } ∷ step_ways price len value (rank + 1) (drop n (b ∷ behind))) same

pub step_none : (price len : ℕ) (value : Option ℤ) (rank : ℕ) (behind : List Way) (i : ℕ) → length behind ≤ i → step_ways price len value rank (drop i behind) ≡ []
step_none price len value rank [] zero high = refl
step_none price len value rank [] (suc i) high = refl
step_none price len value rank (b ∷ behind) zero high = absurd (omega (arith, high))
step_none price len value rank (b ∷ behind) (suc i) high = step_none price len value rank behind i (omega (arith, high))

pub puts_append : (most : ℕ) (ways a b : List Way) → put_ways most ways (a ++ b) ≡ put_ways most (put_ways most ways a) b
puts_append most ways [] b = refl
puts_append most ways (w ∷ a) b = puts_append most (take most (insert_way w ways)) a b

-- what is at a place of a list of vectors
pub list_at : {X A : Type 0} (vectors : List (Vec X A)) (i : ℕ) (d : Vec X A) → i < length vectors → slice_index_or (lists_of vectors) i [] ≡ (slice_index_or vectors i d).items
list_at [] i d low = absurd (omega (arith, low))
list_at (v ∷ vectors) zero d low = refl
list_at (v ∷ vectors) (suc i) d low = list_at vectors i d (omega (arith, low))

pub lists_length : {X A : Type 0} (vectors : List (Vec X A)) → length (lists_of vectors) ≡ length vectors
lists_length [] = refl
lists_length (v ∷ vectors) = ap suc (lists_length vectors)

pub lists_push : {X A : Type 0} (vectors : List (Vec X A)) (v : Vec X A) → lists_of (vectors ++ v ∷ []) ≡ lists_of vectors ++ v.items ∷ []
lists_push [] v = refl
lists_push (w ∷ vectors) v = ap (λ l. w.items ∷ l) (lists_push vectors v)

-- one byte more
pub ways_more : (most : ℕ) (t : Tree) (key : ℤ → ℕ) (run : ℕ → UnknownRun) (text : List ℕ) (table : List (List Way)) (ways : List Way) (left : ℕ) → 0 < left → length table ≡ left
    → ways ≡ best_ways most key table (run (length text - left)) (front t (drop (length text - left) text)) → AreWays most t key run text table → AreWays most t key run text (table ++ ways ∷ [])
ways_more most t key run text table ways left some len is was = record {
  begin = get_or_append_left table (ways ∷ []) [] 0 (omega (arith, some, len)) ∙ was.begin;
  best = λ k low high. elim (eqb_tells (length table) k) [
    | inl same ↦
        let here = same.1 in
        let at : left ≡ k = omega (arith, here, len) in
        get_or_push table ways [] k here ∙ is
        ∙ ap (λ n. best_ways most key table (run (length text - n)) (front t (drop (length text - n) text))) at
        ∙ ap (λ l. best_ways most key l (run (length text - k)) (front t (drop (length text - k) text))) (sym (take-append-le k table (ways ∷ []) (omega (arith, here)) ∙ take_all k table (omega (arith, here))))
    | inr other ↦
        let differ = other.1 in
        let more = length_push table ways in
        let below : k < length table = omega (arith, differ, high, more) in
        get_or_append_left table (ways ∷ []) [] k below ∙ was.best k low below
        ∙ ap (λ l. best_ways most key l (run (length text - k)) (front t (drop (length text - k) text))) (sym (take-append-le k table (ways ∷ []) (omega (arith, below))))
  ];
}

-- the ways of a text are closed
pub ways_closed : (most : ℕ) (t : Tree) (key : ℤ → ℕ) (run : ℕ → UnknownRun) (text : List ℕ) (table : List (List Way)) → AreWays most t key run text table → length table ≡ length text + 1 → WaysGoOn table
ways_closed most t key run text table are len left rank some low has =
    let within : left ≤ length text = omega (arith, len, low) in
    let later : length (take left table) ≡ left = length-take-le left table (omega (arith, low)) in
    let rest : length (drop (length text - left) text) ≡ left = length-drop (length text - left) text ∙ omega (arith, within) in
    let best : IsBestOf most (slice_index_or table left []) (IsWayOver t key (run (length text - left)) (take left table) (drop (length text - left) text)) =
    subst (λ ways. IsBestOf most ways (IsWayOver t key (run (length text - left)) (take left table) (drop (length text - left) text))) (sym (are.best left some low))
    (over_best most t key (run (length text - left)) (take left table) (drop (length text - left) text) (omega (arith, some, later)) (later ∙ sym rest)) in
    let over = best.sound (way_at table left rank) (contains_at (slice_index_or table left []) rank has) in
    let go = over.some in
    let inside : (way_at table left rank).len ≤ left = (let all = over.within in omega (arith, all, later)) in
    let behind : ways_behind (take left table) (way_at table left rank).len ≡ slice_index_or table (left - (way_at table left rank).len) [] =
    ap (λ m. slice_index_or (take left table) (m - (way_at table left rank).len) []) later ∙ get_or-take left table (left - (way_at table left rank).len) [] (omega (arith, go, some)) in
    (go, inside, subst (λ ways. (way_at table left rank).rank < length ways) behind over.behind)

-- one rank more
pub each_push : (f : ℕ → List Token) (first n : ℕ) → map f (range_with_len first (n + 1)) ≡ map f (range_with_len first n) ++ f (first + n) ∷ []
each_push f first zero = let here : first ≡ first + 0 = omega arith in ap (λ k. f k ∷ []) here
each_push f first (suc n) =
    let here : first + 1 + n ≡ first + suc n = omega arith in
    let one : suc n + 1 ≡ suc (n + 1) = omega arith in
    ap (λ m. map f (range_with_len first m)) one ∙ ap (λ l. f first ∷ l) (each_push f (first + 1) n ∙ ap (λ k. map f (range_with_len (first + 1) n) ++ f k ∷ []) here)

-- the ways over a key, those over the keys behind it, and those over an unknown run, put one after another
pub all_put : (most : ℕ) (ways one two a b c : List Way) → one ≡ put_ways most ways a → two ≡ put_ways most one b → put_ways most two c ≡ put_ways most ways ((a ++ b) ++ c)
all_put most ways one two a b c first second =
    ap (λ ws. put_ways most ws c) (second ∙ ap (λ ws. put_ways most ws b) first ∙ sym (puts_append most ways a b)) ∙ sym (puts_append most ways (a ++ b) c)

-- the way of no bytes alone
pub ways_begin : (most : ℕ) (t : Tree) (key : ℤ → ℕ) (run : ℕ → UnknownRun) (text : List ℕ) (end : List Way) → end ≡ take most (no_way ∷ []) → AreWays most t key run text (end ∷ [])
ways_begin most t key run text end is = record { begin = is; best = λ left some low. absurd (omega (arith, some, low)) }

-- the tokens along all ways of a table are the best cuts, where they are collected from a slice of it
pub cuts_found : {A B C E : Type 0} (most : ℕ) (t : Tree) (key : ℤ → ℕ) (run : ℕ → UnknownRun) (text : List ℕ) (slice table : List (Vec Way C)) (result : Result (Vec (Vec Token A) B) E) → slice ≡ table → length table ≡ length text + 1
    → AreWays most t key run text (lists_of table) → IfOk result (λ cuts. lists_of cuts.items ≡ ways_along (lists_of slice) (length slice - 1)) → IfOk result (λ cuts. IsBestCuts t key run text most (lists_of cuts.items))
cuts_found most t key run text slice table (Ok cuts) same len are is =
    let bytes : length table - 1 ≡ length text = omega (arith, len) in
    subst (IsBestCuts t key run text most) (sym (is ∙ ap (λ vs. ways_along (lists_of vs) (length vs - 1)) same ∙ ap (ways_along (lists_of table)) bytes))
    (ways_best_cuts most t key run text (lists_of table) are (lists_length table ∙ len))
cuts_found most t key run text slice table (Err e) same len are is = tt
