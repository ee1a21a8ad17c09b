-- That the ways of a text lead along its best cuts.
use Rattle.std.proofs.Common.{◌≡◌, ℕ, zero, suc, ◌+◌, ◌-◌, ◌^◌, ◌<◌, ◌≤◌, ◌⊎◌, inl, inr, min, cond, true, false, ℤ, List, [], ◌∷◌, ◌++◌, length, map, take, drop, Option, Some, None, MatchOption, slice_index_or, refl, sym, ap, subst, ◌∙◌, arith}
use Rattle.std.specs.List.{Contains, range_with_len}
use Rattle.std.proofs.lemmas.List.{get_or-take, get_or_default, length-drop, length-take-le}
use Rattle.std.proofs.lemmas.List.Elements.{Contains-append_cases, Contains-append_left, Contains-append_right}
use Rattle.cedarwood.specs.Tree.{Tree, number_at}
use Rattle.cedarwood.specs.Queries.{front}
use Rattle.cedarwood.proofs.FrontLemmas.{front_from_held, held_from_front}
use Rattle.cedarwood.proofs.MemberLemmas.{contains_first_or_later, contains_here, contains_later, contains_none, either_part}
use Rattle.cedar_words.specs.Lattice.{own_run}
use Rattle.cedar_words.specs.Models.{cost_with, IsCutFromBy, MayRun, price_by, run_len}
use Rattle.cedar_words.specs.Ranked.{AreInOrder, AreWays, best_ways, IsCutBefore, IsBestCuts, key_ways, kind_number, no_way, run_ways, step_ways, way_along, way_at, ways_along, ways_behind}
use Rattle.cedar_words.specs.Tokens.{Token}
use Rattle.cedar_words.specs.declared.models.UnknownRun.{UnknownRun}
use Rattle.cedar_words.specs.declared.ranked.Way.{Way}
use Rattle.cedar_words.proofs.ModelCutLemmas.{cut_within, joined}
use Rattle.cedar_words.proofs.ModelStepLemmas.{ltb_tells}
use Rattle.cedar_words.proofs.RankLemmas.{all_best, ArePairsApart, AreApart, Before, before_none, before_trans, differ_apart, IsBestOf, best_same, IsSorted, less_trans, more_trans}
use Rattle.cedar_words.proofs.StepLemmas.{Ascend, fronts_ascend}

-- cuts in their order

comes_trans : (key : ℤ → ℕ) (run : ℕ → UnknownRun) (a b c : List Token) → IsCutBefore key run a b → IsCutBefore key run b c → IsCutBefore key run a c
comes_trans key run [] b c h k = absurd h
comes_trans key run (x ∷ a) [] c h k = absurd h
comes_trans key run (x ∷ a) (y ∷ b) [] h k = absurd k
comes_trans key run (x ∷ a) (y ∷ b) (z ∷ c) h k =
    less_trans (min (cost_with key run (x ∷ a)) (2 ^ 64 - 1)) (min (cost_with key run (y ∷ b)) (2 ^ 64 - 1)) (min (cost_with key run (z ∷ c)) (2 ^ 64 - 1))
    (more_trans x.1 y.1 z.1 (less_trans (kind_number x.2) (kind_number y.2) (kind_number z.2) (comes_trans key run a b c))) h k

comes_cost : (key : ℤ → ℕ) (run : ℕ → UnknownRun) (a b : List Token) → IsCutBefore key run a b → min (cost_with key run a) (2 ^ 64 - 1) ≤ min (cost_with key run b) (2 ^ 64 - 1)
comes_cost key run [] b h = absurd h
comes_cost key run (x ∷ a) [] h = absurd h
comes_cost key run (x ∷ a) (y ∷ b) (inl less) = omega (arith, less)
comes_cost key run (x ∷ a) (y ∷ b) (inr same) = let is = same.0 in omega (arith, is)

-- so it is with the same token before both
comes_more : (key : ℤ → ℕ) (run : ℕ → UnknownRun) (p : Token) (a b : List Token) → IsCutBefore key run a b → IsCutBefore key run (p ∷ a) (p ∷ b)
comes_more key run p a b h =
    let low = comes_cost key run a b h in
    let price : ℕ = price_by key (run p.0).cost p.2 in
    elim (ltb_tells (min (price + cost_with key run a) (2 ^ 64 - 1)) (min (price + cost_with key run b) (2 ^ 64 - 1))) [
      | inl is ↦ inl is.1
      | inr isnt ↦ let high = isnt.1 in inr (omega (arith, low, high), inr (refl, inr (refl, h)))
    ]

-- ways by their ranks

pub contains_at : (ways : List Way) (i : ℕ) → i < length ways → Contains ways (slice_index_or ways i no_way)
contains_at ways i low = (i, low, get_or_default ways i (slice_index_or ways i no_way) no_way low)

at_contains : (ways : List Way) (w : Way) → Contains ways w → (i : ℕ) × (i < length ways) × (slice_index_or ways i no_way ≡ w)
at_contains ways w c = (c.0, c.1, get_or_default ways c.0 no_way w c.1 ∙ c.2)

sorted_at : (ways : List Way) → IsSorted ways → (i j : ℕ) → i < j → j < length ways → Before (slice_index_or ways i no_way) (slice_index_or ways j no_way)
sorted_at [] sorted i j h low = absurd (omega (arith, low))
sorted_at (w ∷ ways) sorted i zero h low = absurd (omega (arith, h))
sorted_at (w ∷ ways) sorted zero (suc j) h low = sorted.0 (slice_index_or ways j no_way) (contains_at ways j (omega (arith, low)))
sorted_at (w ∷ ways) sorted (suc i) (suc j) h low = sorted_at ways sorted.1 i j (omega (arith, h)) (omega (arith, low))

-- what a way over a token at a price is
record IsStepWay (price len : ℕ) (value : Option ℤ) (rank : ℕ) (behind : List Way) (w : Way) : Type 0 where
  pub len_is : w.len ≡ len
  pub value_is : w.value ≡ value
  pub index : ℕ
  pub rank_is : w.rank ≡ rank + index
  pub low : index < length behind
  pub cost_is : w.cost ≡ min (price + (slice_index_or behind index no_way).cost) (2 ^ 64 - 1)

step_held : (price len : ℕ) (value : Option ℤ) (rank : ℕ) (behind : List Way) (w : Way) → Contains (step_ways price len value rank behind) w → IsStepWay price len value rank behind w
step_held price len value rank [] w c = absurd (contains_none w c)
step_held price len value rank (b ∷ behind) w c =
    either_part (contains_first_or_later (record { cost = min (price + b.cost) (2 ^ 64 - 1); len = len; value = value; rank = rank }) (step_ways price len value (rank + 1) behind) w c)
    (λ same. subst (IsStepWay price len value rank (b ∷ behind)) same record { len_is = refl; value_is = refl; index = 0; rank_is = omega arith; low = omega arith; cost_is = refl })
    (λ more.
    let later = step_held price len value (rank + 1) behind w more in
    let at = later.rank_is in
    let within = later.low in
    record { len_is = later.len_is; value_is = later.value_is; index = suc later.index; rank_is = omega (arith, at); low = omega (arith, within); cost_is = later.cost_is })

step_there : (price len : ℕ) (value : Option ℤ) (rank : ℕ) (behind : List Way) (i : ℕ) → i < length behind
    → Contains (step_ways price len value rank behind) (record { cost = min (price + (slice_index_or behind i no_way).cost) (2 ^ 64 - 1); len = len; value = value; rank = rank + i })
step_there price len value rank [] i low = absurd (omega (arith, low))
step_there price len value rank (b ∷ behind) zero low =
    let one : Way = record { cost = min (price + b.cost) (2 ^ 64 - 1); len = len; value = value; rank = rank } in
    let here : rank ≡ rank + 0 = omega arith in
    subst (λ n. Contains (one ∷ step_ways price len value (rank + 1) behind) (record { cost = min (price + b.cost) (2 ^ 64 - 1); len = len; value = value; rank = n })) here
    (contains_here one (step_ways price len value (rank + 1) behind))
step_there price len value rank (b ∷ behind) (suc i) low =
    let one : Way = record { cost = min (price + b.cost) (2 ^ 64 - 1); len = len; value = value; rank = rank } in
    let here : rank + 1 + i ≡ rank + suc i = omega arith in
    let way : ℕ → Way = λ n. record { cost = min (price + (slice_index_or behind i no_way).cost) (2 ^ 64 - 1); len = len; value = value; rank = n } in
    subst (λ n. Contains (one ∷ step_ways price len value (rank + 1) behind) (way n)) here
    (contains_later one (step_ways price len value (rank + 1) behind) (way (rank + 1 + i)) (step_there price len value (rank + 1) behind i (omega (arith, low))))

-- they are apart from one another

pairs_step : (price len : ℕ) (value : Option ℤ) (rank : ℕ) (behind : List Way) → ArePairsApart (step_ways price len value rank behind)
pairs_step price len value rank [] = tt
pairs_step price len value rank (b ∷ behind) = (
  λ w c.
      let later = step_held price len value (rank + 1) behind w c in
      let at = later.rank_is in
      differ_apart w (record { cost = min (price + b.cost) (2 ^ 64 - 1); len = len; value = value; rank = rank }) (inr (inr (λ same. absurd (omega (arith, at, same))))),
  pairs_step price len value (rank + 1) behind,
)

pairs_append : (xs ys : List Way) → ArePairsApart xs → ArePairsApart ys → ((x y : Way) → Contains xs x → Contains ys y → AreApart y x) → ArePairsApart (xs ++ ys)
pairs_append [] ys a b apart = b
pairs_append (x ∷ xs) ys a b apart = (
  λ w c. either_part (Contains-append_cases xs ys w c) (λ here. a.0 w here) (λ there. apart x w (contains_here x xs) there),
  pairs_append xs ys a.1 b (λ u v c d. apart u v (contains_later x xs u c) d),
)

-- what a way over a key is
key_held : (key : ℤ → ℕ) (later : List (List Way)) (fronts : List (ℤ × ℕ)) (w : Way) → Contains (key_ways key later fronts) w
    → (found : ℤ × ℕ) × Contains fronts found × IsStepWay (key found.0) (found.1 + 1) (Some found.0) 0 (ways_behind later (found.1 + 1)) w
key_held key later [] w c = absurd (contains_none w c)
key_held key later (f ∷ fronts) w c =
    either_part (Contains-append_cases (step_ways (key f.0) (f.1 + 1) (Some f.0) 0 (ways_behind later (f.1 + 1))) (key_ways key later fronts) w c)
    (λ here. (f, contains_here f fronts, step_held (key f.0) (f.1 + 1) (Some f.0) 0 (ways_behind later (f.1 + 1)) w here))
    (λ there. let more = key_held key later fronts w there in (more.0, contains_later f fronts more.0 more.1, more.2))

key_there : (key : ℤ → ℕ) (later : List (List Way)) (fronts : List (ℤ × ℕ)) (found : ℤ × ℕ) → Contains fronts found → (i : ℕ) → i < length (ways_behind later (found.1 + 1))
    → Contains (key_ways key later fronts) (record { cost = min (key found.0 + (slice_index_or (ways_behind later (found.1 + 1)) i no_way).cost) (2 ^ 64 - 1); len = found.1 + 1; value = Some found.0; rank = 0 + i })
key_there key later [] found c i low = absurd (contains_none found c)
key_there key later (f ∷ fronts) found c i low =
    let way : Way = record { cost = min (key found.0 + (slice_index_or (ways_behind later (found.1 + 1)) i no_way).cost) (2 ^ 64 - 1); len = found.1 + 1; value = Some found.0; rank = 0 + i } in
    let first : List Way = step_ways (key f.0) (f.1 + 1) (Some f.0) 0 (ways_behind later (f.1 + 1)) in
    either_part (contains_first_or_later f fronts found c)
    (λ same. Contains-append_left first (key_ways key later fronts) way
    (subst (λ (g : ℤ × ℕ). Contains (step_ways (key g.0) (g.1 + 1) (Some g.0) 0 (ways_behind later (g.1 + 1))) way) (sym same) (step_there (key found.0) (found.1 + 1) (Some found.0) 0 (ways_behind later (found.1 + 1)) i low)))
    (λ more. Contains-append_right first (key_ways key later fronts) way (key_there key later fronts found more i low))

ascend_low : (low : ℕ) (fronts : List (ℤ × ℕ)) → Ascend low fronts → (found : ℤ × ℕ) → Contains fronts found → low ≤ found.1
ascend_low low [] h found c = absurd (contains_none found c)
ascend_low low (f ∷ fronts) h found c =
    let first = h.0 in
    either_part (contains_first_or_later f fronts found c)
    (λ same. subst (λ (g : ℤ × ℕ). low ≤ g.1) same first)
    (λ more. let later = ascend_low (f.1 + 1) fronts h.1 found more in omega (arith, first, later))

pairs_keys : (key : ℤ → ℕ) (later : List (List Way)) (low : ℕ) (fronts : List (ℤ × ℕ)) → Ascend low fronts → ArePairsApart (key_ways key later fronts)
pairs_keys key later low [] h = tt
pairs_keys key later low (f ∷ fronts) h =
    pairs_append (step_ways (key f.0) (f.1 + 1) (Some f.0) 0 (ways_behind later (f.1 + 1))) (key_ways key later fronts)
    (pairs_step (key f.0) (f.1 + 1) (Some f.0) 0 (ways_behind later (f.1 + 1)))
    (pairs_keys key later (f.1 + 1) fronts h.1)
    (λ x y c d.
    let one = (step_held (key f.0) (f.1 + 1) (Some f.0) 0 (ways_behind later (f.1 + 1)) x c).len_is in
    let held = key_held key later fronts y d in
    let two = held.2.len_is in
    let more = ascend_low (f.1 + 1) fronts h.1 held.0 held.1 in
    differ_apart y x (inl (λ same. absurd (omega (arith, one, two, more, same)))))

run_held : (later : List (List Way)) (own : Option UnknownRun) (w : Way) → Contains (run_ways later own) w
    → (one : UnknownRun) × (own ≡ Some one) × IsStepWay one.cost (run_len (length later) one) None 0 (ways_behind later (run_len (length later) one)) w
run_held later None w c = absurd (contains_none w c)
run_held later (Some one) w c = (one, refl, step_held one.cost (run_len (length later) one) None 0 (ways_behind later (run_len (length later) one)) w c)

pairs_run : (later : List (List Way)) (own : Option UnknownRun) → ArePairsApart (run_ways later own)
pairs_run later None = tt
pairs_run later (Some one) = pairs_step one.cost (run_len (length later) one) None 0 (ways_behind later (run_len (length later) one))

pairs_all : (t : Tree) (key : ℤ → ℕ) (later : List (List Way)) (rest : List ℕ) (own : Option UnknownRun) → ArePairsApart (key_ways key later (front t rest) ++ run_ways later own)
pairs_all t key later rest own =
    pairs_append (key_ways key later (front t rest)) (run_ways later own) (pairs_keys key later 0 (front t rest) (fronts_ascend t rest)) (pairs_run later own)
    (λ x y c d.
    let one = ap kind_number (key_held key later (front t rest) x c).2.value_is in
    let two = ap kind_number (run_held later own y d).2.value_is in
    differ_apart y x (inr (inl (λ same. absurd (omega (arith, one, two, same))))))

-- a way of a position: over a token that a cut may have there, and a way behind it
pub record IsWayOver (t : Tree) (key : ℤ → ℕ) (run : UnknownRun) (later : List (List Way)) (rest : List ℕ) (w : Way) : Type 0 where
  pub some : 0 < w.len
  pub within : w.len ≤ length later
  pub piece : MatchOption w.value ((w.len ≡ run_len (length rest) run) × MayRun t rest run) (λ v. number_at t (take w.len rest) ≡ Some v)
  pub behind : w.rank < length (ways_behind later w.len)
  pub cost : w.cost ≡ min (price_by key run.cost w.value + (slice_index_or (ways_behind later w.len) w.rank no_way).cost) (2 ^ 64 - 1)

way_over : (t : Tree) (key : ℤ → ℕ) (run : UnknownRun) (later : List (List Way)) (rest : List ℕ) (n : ℕ) (value : Option ℤ) (w : Way) → IsStepWay (price_by key run.cost value) n value 0 (ways_behind later n) w
    → 0 < n → n ≤ length later → MatchOption value ((n ≡ run_len (length rest) run) × MayRun t rest run) (λ v. number_at t (take n rest) ≡ Some v) → IsWayOver t key run later rest w
way_over t key run later rest n value w step some within piece =
    let rank : w.rank ≡ step.index = (let is = step.rank_is in omega (arith, is)) in
    let same = sym step.len_is in
    let kind = sym step.value_is in
    record {
      some = subst (λ m. 0 < m) same some;
      within = subst (λ m. m ≤ length later) same within;
      piece = subst (λ v. MatchOption v ((w.len ≡ run_len (length rest) run) × MayRun t rest run) (λ x. number_at t (take w.len rest) ≡ Some x)) kind
          (subst (λ m. MatchOption value ((m ≡ run_len (length rest) run) × MayRun t rest run) (λ x. number_at t (take m rest) ≡ Some x)) same piece);
      behind = subst (λ m. w.rank < length (ways_behind later m)) same (subst (λ i. i < length (ways_behind later n)) (sym rank) step.low);
      cost = step.cost_is ∙ ap (λ i. min (price_by key run.cost value + (slice_index_or (ways_behind later n) i no_way).cost) (2 ^ 64 - 1)) (sym rank)
          ∙ ap (λ m. min (price_by key run.cost value + (slice_index_or (ways_behind later m) w.rank no_way).cost) (2 ^ 64 - 1)) same
          ∙ ap (λ v. min (price_by key run.cost v + (slice_index_or (ways_behind later w.len) w.rank no_way).cost) (2 ^ 64 - 1)) kind;
    }

own_may : (t : Tree) (run one : UnknownRun) (rest : List ℕ) (fronts : List (ℤ × ℕ)) → front t rest ≡ fronts → own_run run fronts ≡ Some one → (run ≡ one) × MayRun t rest run
own_may t run one rest [] is own = (some_same run one own, inr is)
  where
    some_same : (a b : UnknownRun) → Some a ≡ Some b → a ≡ b
    some_same a b h = cc
own_may t run one rest (f ∷ fronts) is own =
    (elim run.beside_keys as (λ b. run.beside_keys ≡ b → cond b (Some run) None ≡ Some one → (run ≡ one) × MayRun t rest run) [
      | true ↦ λ beside some. (some_same run one some, inl beside)
      | false ↦ λ beside none. absurd (no_run one none)
    ]) refl own
  where
    some_same : (a b : UnknownRun) → Some a ≡ Some b → a ≡ b
    some_same a b h = cc

    no_run : (a : UnknownRun) → None ≡ Some a → ⊥
    no_run a h = absurd (cc)

may_own : (t : Tree) (run : UnknownRun) (rest : List ℕ) (fronts : List (ℤ × ℕ)) → front t rest ≡ fronts → MayRun t rest run → own_run run fronts ≡ Some run
may_own t run rest [] is may = refl
may_own t run rest (f ∷ fronts) is may = either_part may (λ beside. ap (λ b. cond b (Some run) None) beside) (λ none. absurd (some_front f fronts (sym is ∙ none)))
  where
    some_front : (f : ℤ × ℕ) (fs : List (ℤ × ℕ)) → f ∷ fs ≡ [] → ⊥
    some_front f fs h = absurd (cc)

-- all ways of a position are such
all_held : (t : Tree) (key : ℤ → ℕ) (run : UnknownRun) (later : List (List Way)) (rest : List ℕ) → 0 < length later → length later ≡ length rest → (w : Way)
    → Contains (key_ways key later (front t rest) ++ run_ways later (own_run run (front t rest))) w → IsWayOver t key run later rest w
all_held t key run later rest some same w c =
    either_part (Contains-append_cases (key_ways key later (front t rest)) (run_ways later (own_run run (front t rest))) w c)
    (λ here.
    let found = key_held key later (front t rest) w here in
    let held = held_from_front t rest found.0.0 found.0.1 found.1 in
    let within = held.0 in
    way_over t key run later rest (found.0.1 + 1) (Some found.0.0) w found.2 (omega arith) (omega (arith, within, same)) held.1)
    (λ there.
    let one = run_held later (own_run run (front t rest)) w there in
    let own = own_may t run one.0 rest (front t rest) refl one.1 in
    let is : IsStepWay run.cost (run_len (length later) run) None 0 (ways_behind later (run_len (length later) run)) w =
    subst (λ (r : UnknownRun). IsStepWay r.cost (run_len (length later) r) None 0 (ways_behind later (run_len (length later) r)) w) (sym own.0) one.2 in
    let low : 0 < run_len (length later) run = omega arith in
    let high : run_len (length later) run ≤ length later = omega (arith, some) in
    way_over t key run later rest (run_len (length later) run) None w is low high (ap (λ n. run_len n run) same, own.1))

all_there : (t : Tree) (key : ℤ → ℕ) (run : UnknownRun) (later : List (List Way)) (rest : List ℕ) → length later ≡ length rest → (n : ℕ) (value : Option ℤ) (i : ℕ) → 0 < n → n ≤ length rest
    → MatchOption value ((n ≡ run_len (length rest) run) × MayRun t rest run) (λ v. number_at t (take n rest) ≡ Some v) → i < length (ways_behind later n)
    → Contains (key_ways key later (front t rest) ++ run_ways later (own_run run (front t rest))) (record { cost = min (price_by key run.cost value + (slice_index_or (ways_behind later n) i no_way).cost) (2 ^ 64 - 1); len = n; value = value; rank = i })
all_there t key run later rest same n None i some within piece low =
    let len : run_len (length later) run ≡ n = ap (λ m. run_len m run) same ∙ sym piece.0 in
    let own : own_run run (front t rest) ≡ Some run = may_own t run rest (front t rest) refl piece.1 in
    let here : 0 + i ≡ i = omega arith in
    let way : ℕ → ℕ → Way = λ m r. record { cost = min (run.cost + (slice_index_or (ways_behind later m) i no_way).cost) (2 ^ 64 - 1); len = m; value = None; rank = r } in
    let there : Contains (run_ways later (Some run)) (way (run_len (length later) run) (0 + i)) =
    step_there run.cost (run_len (length later) run) None 0 (ways_behind later (run_len (length later) run)) i (subst (λ m. i < length (ways_behind later m)) (sym len) low) in
    Contains-append_right (key_ways key later (front t rest)) (run_ways later (own_run run (front t rest))) (way n i)
    (subst (λ o. Contains (run_ways later o) (way n i)) (sym own) (subst (λ r. Contains (run_ways later (Some run)) (way n r)) here (subst (λ m. Contains (run_ways later (Some run)) (way m (0 + i))) len there)))
all_there t key run later rest same n (Some v) i some within held low =
    let one : n - 1 + 1 ≡ n = omega (arith, some) in
    let found = front_from_held t rest v (n - 1) (omega (arith, some, within)) (ap (λ m. number_at t (take m rest)) one ∙ held) in
    let here : 0 + i ≡ i = omega arith in
    let way : ℕ → ℕ → Way = λ m r. record { cost = min (key v + (slice_index_or (ways_behind later m) i no_way).cost) (2 ^ 64 - 1); len = m; value = Some v; rank = r } in
    let there : Contains (key_ways key later (front t rest)) (way (n - 1 + 1) (0 + i)) = key_there key later (front t rest) (v, n - 1) found i (subst (λ m. i < length (ways_behind later m)) (sym one) low) in
    Contains-append_left (key_ways key later (front t rest)) (run_ways later (own_run run (front t rest))) (way n i)
    (subst (λ r. Contains (key_ways key later (front t rest)) (way n r)) here (subst (λ m. Contains (key_ways key later (front t rest)) (way m (0 + i))) one there))

-- so the best ways are the best of those
pub over_best : (most : ℕ) (t : Tree) (key : ℤ → ℕ) (run : UnknownRun) (later : List (List Way)) (rest : List ℕ) → 0 < length later → length later ≡ length rest
    → IsBestOf most (best_ways most key later run (front t rest)) (IsWayOver t key run later rest)
over_best most t key run later rest some same =
    let all : List Way = key_ways key later (front t rest) ++ run_ways later (own_run run (front t rest)) in
    best_same most (best_ways most key later run (front t rest)) (Contains all) (IsWayOver t key run later rest) (all_best most all (pairs_all t key later rest (own_run run (front t rest))))
    (λ w c. all_held t key run later rest some same w c)
    (λ w over.
    let within = over.within in
    let there = all_there t key run later rest same w.len w.value w.rank over.some (omega (arith, within, same)) over.piece over.behind in
    subst (λ c. Contains all (record { cost = c; len = w.len; value = w.value; rank = w.rank })) (sym over.cost) there)

-- the tokens along a way

passed_along : (table : List (List Way)) (k place left rank : ℕ) → way_along table k place left rank ≡ way_along table 0 (place + k) (left - k) rank
passed_along table zero place left rank = let here : place ≡ place + 0 = omega arith in let all : left ≡ left - 0 = omega arith in ap (λ p. way_along table 0 p left rank) here ∙ ap (λ n. way_along table 0 (place + 0) n rank) all
passed_along table (suc k) place zero rank = let none : 0 ≡ 0 - suc k = omega arith in ap (λ n. way_along table 0 (place + suc k) n rank) none
passed_along table (suc k) place (suc left) rank =
    let here : place + 1 + k ≡ place + suc k = omega arith in
    let less : left - k ≡ suc left - suc k = omega arith in
    passed_along table k (place + 1) left rank ∙ ap (λ p. way_along table 0 p (left - k) rank) here ∙ ap (λ n. way_along table 0 (place + suc k) n rank) less

pub along_next : (table : List (List Way)) (place left rank : ℕ) (way : Way) → 0 < left → way_at table left rank ≡ way → 0 < way.len
    → way_along table 0 place left rank ≡ (place, way.len, way.value) ∷ way_along table 0 (place + way.len) (left - way.len) way.rank
along_next table place zero rank way some is h = absurd (omega (arith, some))
along_next table place (suc left) rank way some is h =
    let behind : place + 1 + (way.len - 1) ≡ place + way.len = omega (arith, h) in
    let less : left - (way.len - 1) ≡ suc left - way.len = omega (arith, h) in
    ap (λ (w : Way). (place, w.len, w.value) ∷ way_along table (w.len - 1) (place + 1) left w.rank) is
    ∙ ap (λ ts. (place, way.len, way.value) ∷ ts)
    (passed_along table (way.len - 1) (place + 1) left way.rank
    ∙ ap (λ p. way_along table 0 p (left - (way.len - 1)) way.rank) behind
    ∙ ap (λ n. way_along table 0 (place + way.len) n way.rank) less)

-- what is known of the ways of so many of the last bytes of a text
abbrev count_at : List (List Way) → ℕ → ℕ
count_at table left = length (slice_index_or table left [])

record IsRanked (most : ℕ) (t : Tree) (key : ℤ → ℕ) (run : ℕ → UnknownRun) (text : List ℕ) (table : List (List Way)) (left : ℕ) : Type 0 where
  pub cut : (r : ℕ) → r < count_at table left → IsCutFromBy t run text (length text - left) (way_along table 0 (length text - left) left r)
  pub cost : (r : ℕ) → r < count_at table left → min (cost_with key run (way_along table 0 (length text - left) left r)) (2 ^ 64 - 1) ≡ (way_at table left r).cost
  pub order : (r s : ℕ) → r < s → s < count_at table left → IsCutBefore key run (way_along table 0 (length text - left) left r) (way_along table 0 (length text - left) left s)
  pub others : (x : List Token) → IsCutFromBy t run text (length text - left) x
      → ((r : ℕ) × (r < count_at table left) × (way_along table 0 (length text - left) left r ≡ x))
      ⊎ ((count_at table left ≡ most) × ((r : ℕ) → r < count_at table left → IsCutBefore key run (way_along table 0 (length text - left) left r) x))

none_taken : (n : ℕ) (ways : List Way) → length ways ≡ 0 → length (take n ways) ≡ 0
none_taken zero ways none = refl
none_taken (suc n) [] none = refl
none_taken (suc n) (w ∷ ways) none = absurd (omega (arith, none))

-- of no bytes there is one, if there may be any
end_way : (most r : ℕ) → r < length (take most (no_way ∷ [])) → (r ≡ 0) × ((slice_index_or (take most (no_way ∷ [])) r no_way).cost ≡ 0)
end_way zero r low = absurd (omega (arith, low))
end_way (suc n) zero low = (refl, refl)
end_way (suc n) (suc r) low = absurd (omega (arith, low, none_taken n [] refl))

end_count : (most : ℕ) → (length (take most (no_way ∷ [])) ≡ most) ⊎ (0 < length (take most (no_way ∷ [])))
end_count zero = inl refl
end_count (suc n) = inr (omega arith)

ranked_end : (most : ℕ) (t : Tree) (key : ℤ → ℕ) (run : ℕ → UnknownRun) (text : List ℕ) (table : List (List Way)) → AreWays most t key run text table → IsRanked most t key run text table 0
ranked_end most t key run text table are =
    let first = are.begin in
    let all : length text - 0 ≡ length text = omega arith in
    let one : (r : ℕ) → r < count_at table 0 → (r ≡ 0) × ((way_at table 0 r).cost ≡ 0) =
    λ r low. subst (λ ways. (r ≡ 0) × ((slice_index_or ways r no_way).cost ≡ 0)) (sym first) (end_way most r (subst (λ ways. r < length ways) first low)) in
    record {
      cut = λ r low. all;
      cost = λ r low. sym (one r low).1;
      order = λ r s less low. (let zero_is = (one s low).0 in absurd (omega (arith, less, zero_is)));
      others = λ x is. empty x is (subst (λ ways. (length ways ≡ most) ⊎ (0 < length ways)) (sym first) (end_count most));
    }
  where
    empty : (x : List Token) → IsCutFromBy t run text (length text - 0) x → (count_at table 0 ≡ most) ⊎ (0 < count_at table 0)
        → ((r : ℕ) × (r < count_at table 0) × (way_along table 0 (length text - 0) 0 r ≡ x)) ⊎ ((count_at table 0 ≡ most) × ((r : ℕ) → r < count_at table 0 → IsCutBefore key run (way_along table 0 (length text - 0) 0 r) x))
    empty [] is (inr some) = inl (0, some, refl)
    empty [] is (inl full) = elim (ltb_tells 0 (count_at table 0)) [
      | inl some ↦ inl (0, some.1, refl)
      | inr none ↦ let gone = none.1 in inr (full, λ r low. absurd (omega (arith, gone, low)))
    ]
    empty (y ∷ x) is counts = let within = cut_within t run text x (length text - 0 + y.1) is.3 in let go = is.1 in absurd (omega (arith, within, go))

-- the ways of more bytes, by those of fewer

module _ (most : ℕ) (t : Tree) (key : ℤ → ℕ) (run : ℕ → UnknownRun) (text : List ℕ) (table : List (List Way)) (are : AreWays most t key run text table) (len : length table ≡ length text + 1) (left : ℕ) (some : 0 < left) (within : left ≤ length text) (fewer : (n : ℕ) → n < left → IsRanked most t key run text table n) where
  abbrev later_ways : List (List Way)
  later_ways = take left table

  abbrev rest_bytes : List ℕ
  rest_bytes = drop (length text - left) text

  abbrev own_ways : List Way
  own_ways = slice_index_or table left []

  abbrev tokens : ℕ → List Token
  tokens r = way_along table 0 (length text - left) left r

  later_length : length later_ways ≡ left
  later_length = length-take-le left table (omega (arith, len, within))

  rest_length : length rest_bytes ≡ left
  rest_length = length-drop (length text - left) text ∙ omega (arith, within)

  behind_is : (n : ℕ) → 0 < n → n ≤ left → ways_behind later_ways n ≡ slice_index_or table (left - n) []
  behind_is n go low = ap (λ m. slice_index_or later_ways (m - n) []) later_length ∙ get_or-take left table (left - n) [] (omega (arith, go, some))

  ways_best : IsBestOf most own_ways (IsWayOver t key (run (length text - left)) later_ways rest_bytes)
  ways_best =
      subst (λ ways. IsBestOf most ways (IsWayOver t key (run (length text - left)) later_ways rest_bytes)) (sym (are.best left some (omega (arith, len, within))))
      (over_best most t key (run (length text - left)) later_ways rest_bytes (omega (arith, some, later_length)) (later_length ∙ sym rest_length))

  -- the tokens along a way, by itself
  abbrev tokens_over : Way → List Token
  tokens_over w = (length text - left, w.len, w.value) ∷ way_along table 0 (length text - (left - w.len)) (left - w.len) w.rank

  record IsWayHere (w : Way) : Type 0 where
    pub some_len : 0 < w.len
    pub low_len : w.len ≤ left
    pub less_len : left - w.len < left
    pub place_is : length text - left + w.len ≡ length text - (left - w.len)
    pub rank_low : w.rank < count_at table (left - w.len)
    pub piece : MatchOption w.value ((w.len ≡ run_len (length rest_bytes) (run (length text - left))) × MayRun t rest_bytes (run (length text - left))) (λ v. number_at t (take w.len rest_bytes) ≡ Some v)
    pub cost_is : w.cost ≡ min (price_by key (run (length text - left)).cost w.value + (way_at table (left - w.len) w.rank).cost) (2 ^ 64 - 1)

  way_here : (w : Way) → IsWayOver t key (run (length text - left)) later_ways rest_bytes w → IsWayHere w
  way_here w over =
      let go = over.some in
      let low : w.len ≤ left = (let all = over.within in omega (arith, all, later_length)) in
      let behind = behind_is w.len go low in
      record {
        some_len = go;
        low_len = low;
        less_len = omega (arith, go, some);
        place_is = omega (arith, low, within);
        rank_low = subst (λ ways. w.rank < length ways) behind over.behind;
        piece = over.piece;
        cost_is = over.cost ∙ ap (λ ways. min (price_by key (run (length text - left)).cost w.value + (slice_index_or ways w.rank no_way).cost) (2 ^ 64 - 1)) behind;
      }

  tokens_at : (r : ℕ) → r < length own_ways → tokens r ≡ tokens_over (way_at table left r)
  tokens_at r low =
      let w : Way = way_at table left r in
      let here = way_here w (ways_best.sound w (contains_at own_ways r low)) in
      along_next table (length text - left) left r w some refl here.some_len ∙ ap (λ p. (length text - left, w.len, w.value) ∷ way_along table 0 p (left - w.len) w.rank) here.place_is

  over_cut : (w : Way) → IsWayHere w → IsCutFromBy t run text (length text - left) (tokens_over w)
  over_cut w here = (
    refl,
    here.some_len,
    here.piece,
    subst (λ p. IsCutFromBy t run text p (way_along table 0 (length text - (left - w.len)) (left - w.len) w.rank)) (sym here.place_is) ((fewer (left - w.len) here.less_len).cut w.rank here.rank_low),
  )

  over_cost : (w : Way) → IsWayHere w → min (cost_with key run (tokens_over w)) (2 ^ 64 - 1) ≡ w.cost
  over_cost w here =
      joined (price_by key (run (length text - left)).cost w.value) (cost_with key run (way_along table 0 (length text - (left - w.len)) (left - w.len) w.rank)) (way_at table (left - w.len) w.rank).cost w.cost
      ((fewer (left - w.len) here.less_len).cost w.rank here.rank_low) here.cost_is

  -- ways in their order lead along tokens in theirs
  over_comes : (w v : Way) → IsWayHere w → IsWayHere v → Before w v → IsCutBefore key run (tokens_over w) (tokens_over v)
  over_comes w v a b before =
      let one = over_cost w a in
      let two = over_cost v b in
      either_part before
      (λ less. inl (subst (λ c. c < min (cost_with key run (tokens_over v)) (2 ^ 64 - 1)) (sym one) (subst (λ c. w.cost < c) (sym two) less)))
      (λ same. inr (
        one ∙ same.0 ∙ sym two,
        either_part same.1
            (λ longer. inl longer)
            (λ as_long. inr (
              as_long.0,
              either_part as_long.1
                  (λ kind. inl kind)
                  (λ alike. inr (
                    alike.0,
                    (let at : left - w.len ≡ left - v.len = ap (λ n. left - n) as_long.0 in
                        subst (λ m. IsCutBefore key run (way_along table 0 (length text - m) m w.rank) (way_along table 0 (length text - (left - v.len)) (left - v.len) v.rank)) (sym at)
                        ((fewer (left - v.len) b.less_len).order w.rank v.rank alike.1 b.rank_low)),
                  )),
            )),
      ))

  order_here : (r s : ℕ) → r < s → s < length own_ways → IsCutBefore key run (tokens r) (tokens s)
  order_here r s less low =
      let high : r < length own_ways = omega (arith, less, low) in
      let a = way_here (way_at table left r) (ways_best.sound (way_at table left r) (contains_at own_ways r high)) in
      let b = way_here (way_at table left s) (ways_best.sound (way_at table left s) (contains_at own_ways s low)) in
      subst (λ ts. IsCutBefore key run ts (tokens s)) (sym (tokens_at r high)) (subst (λ ts. IsCutBefore key run (tokens_over (way_at table left r)) ts) (sym (tokens_at s low))
      (over_comes (way_at table left r) (way_at table left s) a b (sorted_at own_ways ways_best.sorted r s less low)))

  -- a way that isn't among the best comes behind all of them, and so does what comes behind that
  behind_way : (w : Way) (x : List Token) → IsWayHere w → ((v : Way) → Contains own_ways v → Before v w) → (IsCutBefore key run (tokens_over w) x) ⊎ (tokens_over w ≡ x)
      → (r : ℕ) → r < length own_ways → IsCutBefore key run (tokens r) x
  behind_way w x here all next r low =
      let v : Way = way_at table left r in
      let c = contains_at own_ways r low in
      let first : IsCutBefore key run (tokens r) (tokens_over w) =
      subst (λ ts. IsCutBefore key run ts (tokens_over w)) (sym (tokens_at r low)) (over_comes v w (way_here v (ways_best.sound v c)) here (all v c)) in
      either_part next (λ more. comes_trans key run (tokens r) (tokens_over w) x first more) (λ same. subst (IsCutBefore key run (tokens r)) same first)

  abbrev Others : List Token → Type 0
  Others x = ((r : ℕ) × (r < length own_ways) × (tokens r ≡ x)) ⊎ ((length own_ways ≡ most) × ((r : ℕ) → r < length own_ways → IsCutBefore key run (tokens r) x))

  -- the way over a token, and one behind it
  abbrev way_to : ℕ → Option ℤ → ℕ → Way
  way_to n value i = record { cost = min (price_by key (run (length text - left)).cost value + (slice_index_or (ways_behind later_ways n) i no_way).cost) (2 ^ 64 - 1); len = n; value = value; rank = i }

  way_to_over : (n : ℕ) (value : Option ℤ) (i : ℕ) → 0 < n → n ≤ left
      → MatchOption value ((n ≡ run_len (length rest_bytes) (run (length text - left))) × MayRun t rest_bytes (run (length text - left))) (λ v. number_at t (take n rest_bytes) ≡ Some v) → i < count_at table (left - n)
      → IsWayOver t key (run (length text - left)) later_ways rest_bytes (way_to n value i)
  way_to_over n value i go low piece rank = record {
    some = go;
    within = omega (arith, low, later_length);
    piece = piece;
    behind = subst (λ ways. i < length ways) (sym (behind_is n go low)) rank;
    cost = refl;
  }

  others_here : (x : List Token) → IsCutFromBy t run text (length text - left) x → Others x
  others_here [] is = absurd (omega (arith, is, some, within))
  others_here (p ∷ y) is =
      let go : 0 < p.1 = is.1 in
      let end = cut_within t run text y (length text - left + p.1) is.3 in
      let low : p.1 ≤ left = omega (arith, end, within) in
      let less : left - p.1 < left = omega (arith, go, some) in
      let place : length text - left + p.1 ≡ length text - (left - p.1) = omega (arith, low, within) in
      let first : (length text - left, p.1, p.2) ≡ p = ap (λ n. (n, p.1, p.2)) (sym is.0) in
      let behind : IsCutFromBy t run text (length text - (left - p.1)) y = subst (λ n. IsCutFromBy t run text n y) place is.3 in
      let over : (i : ℕ) → i < count_at table (left - p.1) → IsWayOver t key (run (length text - left)) later_ways rest_bytes (way_to p.1 p.2 i) = λ i rank. way_to_over p.1 p.2 i go low is.2 rank in
      either_part ((fewer (left - p.1) less).others y behind)
      (λ found.
      let w : Way = way_to p.1 p.2 found.0 in
      let is_over = over found.0 found.1 in
      let same : tokens_over w ≡ p ∷ y = ap (λ ts. (length text - left, p.1, p.2) ∷ ts) found.2 ∙ ap (λ q. q ∷ y) first in
      either_part (ways_best.full w is_over)
      (λ c.
      let at = at_contains own_ways w c in
      inl (at.0, at.1, tokens_at at.0 at.1 ∙ ap tokens_over at.2 ∙ same))
      (λ all. inr (all.0, behind_way w (p ∷ y) (way_here w is_over) all.1 (inr same))))
      (λ full. after (p ∷ y) p.1 p.2 go low less over full.0
      (λ i rank. subst (λ q. IsCutBefore key run ((length text - left, p.1, p.2) ∷ way_along table 0 (length text - (left - p.1)) (left - p.1) i) (q ∷ y)) first
      (comes_more key run (length text - left, p.1, p.2) (way_along table 0 (length text - (left - p.1)) (left - p.1) i) y (full.1 i rank))))
    where
      -- where as many ways as may be are behind a token, and what follows it comes behind all of them
      after : (x : List Token) (n : ℕ) (value : Option ℤ) → 0 < n → n ≤ left → left - n < left → ((i : ℕ) → i < count_at table (left - n) → IsWayOver t key (run (length text - left)) later_ways rest_bytes (way_to n value i))
          → count_at table (left - n) ≡ most → ((i : ℕ) → i < count_at table (left - n) → IsCutBefore key run (tokens_over (way_to n value i)) x) → Others x
      after x n value go low less over full comes = ends most refl
        where
          -- each of these ways is among the best, behind the one before it, or all of the best come before what follows
          climbs : (i : ℕ) → i < most → Others x ⊎ ((j : ℕ) × (i ≤ j) × (j < length own_ways) × (way_at table left j ≡ way_to n value i))
          climbs zero low_i =
              let rank : 0 < count_at table (left - n) = subst (λ m. 0 < m) (sym full) low_i in
              either_part (ways_best.full (way_to n value 0) (over 0 rank))
              (λ c. let at = at_contains own_ways (way_to n value 0) c in inr (at.0, omega arith, at.1, at.2))
              (λ all. inl (inr (all.0, behind_way (way_to n value 0) x (way_here (way_to n value 0) (over 0 rank)) all.1 (inl (comes 0 rank)))))
          climbs (suc i) low_i =
              let rank : suc i < count_at table (left - n) = subst (λ m. suc i < m) (sym full) low_i in
              let lower : i < count_at table (left - n) = omega (arith, rank) in
              either_part (climbs i (omega (arith, low_i)))
              (λ done. inl done)
              (λ was. either_part (ways_best.full (way_to n value (suc i)) (over (suc i) rank))
              (λ c.
              let at = at_contains own_ways (way_to n value (suc i)) c in
              elim (ltb_tells was.0 at.0) [
                | inl higher ↦ let up = higher.1 in let below = was.1 in inr (at.0, omega (arith, up, below), at.1, at.2)
                | inr isnt ↦
                    absurd (falls i lower rank was.0 at.0 isnt.1 was.2 was.3 at.2)
              ])
              (λ all. inl (inr (all.0, behind_way (way_to n value (suc i)) x (way_here (way_to n value (suc i)) (over (suc i) rank)) all.1 (inl (comes (suc i) rank))))))
            where
              -- the ways behind the token ascend
              rises : (i : ℕ) → i < count_at table (left - n) → suc i < count_at table (left - n) → Before (way_to n value i) (way_to n value (suc i))
              rises i a b =
                  let one = (fewer (left - n) less).order i (suc i) (omega arith) b in
                  let cost = comes_cost key run (way_along table 0 (length text - (left - n)) (left - n) i) (way_along table 0 (length text - (left - n)) (left - n) (suc i)) one in
                  let first = (fewer (left - n) less).cost i a in
                  let second = (fewer (left - n) less).cost (suc i) b in
                  let at : (k : ℕ) → (slice_index_or (ways_behind later_ways n) k no_way).cost ≡ (way_at table (left - n) k).cost = λ k. ap (λ ways. (slice_index_or ways k no_way).cost) (behind_is n go low) in
                  let a_is = at i in
                  let b_is = at (suc i) in
                  elim (ltb_tells (way_to n value i).cost (way_to n value (suc i)).cost) [
                    | inl is ↦ inl is.1
                    | inr isnt ↦ let high = isnt.1 in inr (omega (arith, high, cost, first, second, a_is, b_is), inr (refl, inr (refl, omega arith)))
                  ]

              falls : (i : ℕ) → i < count_at table (left - n) → suc i < count_at table (left - n) → (j k : ℕ) → k ≤ j → j < length own_ways → way_at table left j ≡ way_to n value i → way_at table left k ≡ way_to n value (suc i) → ⊥
              falls i a b j k low_k low_j one other =
                  let up : Before (way_to n value i) (way_to n value (suc i)) = rises i a b in
                  elim (ltb_tells k j) [
                    | inl is ↦
                        let down : Before (way_to n value (suc i)) (way_to n value i) = subst (λ (w : Way). Before w (way_to n value i)) other (subst (λ (w : Way). Before (way_at table left k) w) one (sorted_at own_ways ways_best.sorted k j is.1 low_j)) in
                        before_none (way_to n value i) (before_trans (way_to n value i) (way_to n value (suc i)) (way_to n value i) up down)
                    | inr isnt ↦
                        let high = isnt.1 in
                        let same : j ≡ k = omega (arith, high, low_k) in
                        before_none (way_to n value i) (subst (λ (w : Way). Before (way_to n value i) w) (sym other ∙ ap (λ m. way_at table left m) (sym same) ∙ one) up)
                  ]

          ends : (m : ℕ) → m ≡ most → Others x
          ends zero none = let few = ways_best.few in inr (omega (arith, few, none), λ r rank. absurd (omega (arith, few, none, rank)))
          ends (suc m) is =
              let last : m < most = omega (arith, is) in
              let rank : m < count_at table (left - n) = subst (λ k. m < k) (sym full) last in
              either_part (climbs m last)
              (λ done. done)
              (λ was.
              let few = ways_best.few in
              let below = was.1 in
              let inside = was.2 in
              let all : length own_ways ≡ most = omega (arith, few, is, below, inside) in
              let top : was.0 ≡ m = omega (arith, few, is, below, inside) in
              let w : Way = way_to n value m in
              let here = way_here w (over m rank) in
              let along : tokens was.0 ≡ tokens_over w = tokens_at was.0 inside ∙ ap tokens_over was.3 in
              inr (
                all,
                λ r low_r. elim (ltb_tells r was.0) [
                  | inl is_less ↦ comes_trans key run (tokens r) (tokens_over w) x (subst (IsCutBefore key run (tokens r)) along (order_here r was.0 is_less.1 inside)) (comes m rank)
                  | inr isnt ↦
                      let high = isnt.1 in
                      let same : was.0 ≡ r = omega (arith, high, top, all, is, low_r) in
                      subst (λ ts. IsCutBefore key run ts x) (sym (ap tokens (sym same) ∙ along)) (comes m rank)
                ],
              ))

  ranked_here : IsRanked most t key run text table left
  ranked_here = record {
    cut = λ r low. subst (IsCutFromBy t run text (length text - left)) (sym (tokens_at r low)) (over_cut (way_at table left r) (way_here (way_at table left r) (ways_best.sound (way_at table left r) (contains_at own_ways r low))));
    cost = λ r low. ap (λ ts. min (cost_with key run ts) (2 ^ 64 - 1)) (tokens_at r low) ∙ over_cost (way_at table left r) (way_here (way_at table left r) (ways_best.sound (way_at table left r) (contains_at own_ways r low)));
    order = order_here;
    others = others_here;
  }

ranked_up_to : (most : ℕ) (t : Tree) (key : ℤ → ℕ) (run : ℕ → UnknownRun) (text : List ℕ) (table : List (List Way)) → AreWays most t key run text table → length table ≡ length text + 1
    → (bound left : ℕ) → left < bound → left ≤ length text → IsRanked most t key run text table left
ranked_up_to most t key run text table are len zero left low within = absurd (omega (arith, low))
ranked_up_to most t key run text table are len (suc bound) zero low within = ranked_end most t key run text table are
ranked_up_to most t key run text table are len (suc bound) (suc left) low within =
    ranked_here most t key run text table are len (suc left) (omega arith) within (λ n less. ranked_up_to most t key run text table are len bound n (omega (arith, low, less)) (omega (arith, within, less)))

-- lists of what is at each of some numbers

at_each : (f : ℕ → List Token) (first n : ℕ) (x : List Token) → Contains (map f (range_with_len first n)) x → (i : ℕ) × (first ≤ i) × (i < first + n) × (f i ≡ x)
at_each f first zero x c = absurd (contains_none x c)
at_each f first (suc n) x c =
    either_part (contains_first_or_later (f first) (map f (range_with_len (first + 1) n)) x c)
    (λ same. (first, omega arith, omega arith, same))
    (λ more. let later = at_each f (first + 1) n x more in let low = later.1 in let high = later.2 in (later.0, omega (arith, low), omega (arith, high), later.3))

each_at : (f : ℕ → List Token) (first n i : ℕ) → first ≤ i → i < first + n → Contains (map f (range_with_len first n)) (f i)
each_at f first zero i low high = absurd (omega (arith, low, high))
each_at f first (suc n) i low high = elim (ltb_tells first i) [
  | inl is ↦ let less = is.1 in contains_later (f first) (map f (range_with_len (first + 1) n)) (f i) (each_at f (first + 1) n i (omega (arith, less)) (omega (arith, high)))
  | inr isnt ↦
      let least = isnt.1 in
      let same : first ≡ i = omega (arith, low, least) in
      subst (λ k. Contains (f first ∷ map f (range_with_len (first + 1) n)) (f k)) same (contains_here (f first) (map f (range_with_len (first + 1) n)))
]

in_order : (key : ℤ → ℕ) (run : ℕ → UnknownRun) (f : ℕ → List Token) (first n : ℕ) → ((i j : ℕ) → i < j → j < first + n → IsCutBefore key run (f i) (f j)) → AreInOrder key run (map f (range_with_len first n))
in_order key run f first zero comes = tt
in_order key run f first (suc n) comes = (
  λ x c. (let later = at_each f (first + 1) n x c in let low = later.1 in let high = later.2 in subst (IsCutBefore key run (f first)) later.3 (comes first later.0 (omega (arith, low)) (omega (arith, high)))),
  in_order key run f (first + 1) n (λ i j less high. comes i j less (omega (arith, high))),
)

each_length : (f : ℕ → List Token) (first n : ℕ) → length (map f (range_with_len first n)) ≡ n
each_length f first zero = refl
each_length f first (suc n) = ap suc (each_length f (first + 1) n)

-- so the tokens along all ways over a text are its best cuts
pub ways_best_cuts : (most : ℕ) (t : Tree) (key : ℤ → ℕ) (run : ℕ → UnknownRun) (text : List ℕ) (table : List (List Way)) → AreWays most t key run text table → length table ≡ length text + 1
    → IsBestCuts t key run text most (ways_along table (length text))
ways_best_cuts most t key run text table are len =
    let n : ℕ = count_at table (length text) in
    let f : ℕ → List Token = way_along table 0 0 (length text) in
    let none : length text - length text ≡ 0 = omega arith in
    let ranked : IsRanked most t key run text table (length text) = ranked_up_to most t key run text table are len (suc (length text)) (length text) (omega arith) (omega arith) in
    let many : length (map f (range_with_len 0 n)) ≡ n = each_length f 0 n in
    let few : n ≤ most = count_few (length text) (omega arith) in
    record {
      are = λ x c. (let at = at_each f 0 n x c in let high = at.2 in
          subst (IsCutFromBy t run text 0) at.3 (subst (λ p. IsCutFromBy t run text p (way_along table 0 p (length text) at.0)) none (ranked.cut at.0 (omega (arith, high)))));
      few = omega (arith, many, few);
      ordered = in_order key run f 0 n (λ i j less high. subst (λ p. IsCutBefore key run (way_along table 0 p (length text) i) (way_along table 0 p (length text) j)) none (ranked.order i j less (omega (arith, high))));
      others = λ x is. either_part (ranked.others x (subst (λ p. IsCutFromBy t run text p x) (sym none) is))
          (λ found. inl (subst (Contains (map f (range_with_len 0 n))) (subst (λ p. way_along table 0 p (length text) found.0 ≡ x) none found.2) (each_at f 0 n found.0 (omega arith) (let low = found.1 in omega (arith, low)))))
          (λ full. inr (
            many ∙ full.0,
            λ one c. (let at = at_each f 0 n one c in let high = at.2 in
                subst (λ ts. IsCutBefore key run ts x) at.3 (subst (λ p. IsCutBefore key run (way_along table 0 p (length text) at.0) x) none (full.1 at.0 (omega (arith, high))))),
          ));
    }
  where
    end_few : (m : ℕ) → length (take m (no_way ∷ [])) ≤ m
    end_few zero = omega arith
    end_few (suc m) = omega (arith, none_taken m [] refl)

    count_few : (left : ℕ) → left ≤ length text → count_at table left ≤ most
    count_few zero low = subst (λ ways. length ways ≤ most) (sym are.begin) (end_few most)
    count_few (suc left) low =
        let later : length (take (suc left) table) ≡ suc left = length-take-le (suc left) table (omega (arith, len, low)) in
        let rest : length (drop (length text - suc left) text) ≡ suc left = length-drop (length text - suc left) text ∙ omega (arith, low) in
        subst (λ ways. length ways ≤ most) (sym (are.best (suc left) (omega arith) (omega (arith, len, low))))
        (over_best most t key (run (length text - suc left)) (take (suc left) table) (drop (length text - suc left) text) (omega (arith, later)) (later ∙ sym rest)).few
