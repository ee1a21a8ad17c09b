-- Steps over the last bytes of a text by a model: how the best is found.
use Rattle.std.proofs.Common.{◌≡◌, ℕ, ◌+◌, ◌-◌, ◌^◌, ◌<◌, ◌≤◌, ◌⊎◌, min, nat_le, nat_lt, cond, Bool, true, false, ℤ, List, [], ◌∷◌, ◌++◌, length, take, drop, Some, MatchOption, refl, sym, ap, subst, ◌∙◌, arith, inl, inr}
use Rattle.std.specs.List.{Contains}
use Rattle.std.proofs.lemmas.List.{get_or_append_left, get_or_push, length_push, take-append-le, take_all}
use Rattle.std.proofs.lemmas.Bool.{ltb-false, ltb-true, true≢false}
use Rattle.std.proofs.lemmas.Bool.Decides.{eqb_tells, leb_tells}
use Rattle.cedarwood.specs.Tree.{Tree, number_at}
use Rattle.cedarwood.specs.Queries.{front}
use Rattle.cedarwood.proofs.FrontLemmas.{front_from_held, held_from_front}
use Rattle.cedarwood.proofs.MemberLemmas.{contains_first_or_later, contains_here, contains_later, contains_none, either_part}
use Rattle.cedar_words.specs.Models.{MayRun, price_by, run_len}
use Rattle.cedar_words.specs.ModelSteps.{AreCostsUpTo, best_by, best_priced, or_run, priced_step, run_step}
use Rattle.cedar_words.specs.Steps.{better_of, cost_at}
use Rattle.cedar_words.specs.declared.costs.Step.{Step}
use Rattle.cedar_words.specs.declared.models.UnknownRun.{UnknownRun}
use Rattle.cedar_words.proofs.StepLemmas.{Ascend, ascend_higher, better_first, better_second, fronts_ascend}

-- what holds of a step and of those over some keys holds of the best of them
priced_is : (P : Step → Type 0) (key : ℤ → ℕ) (later : List ℕ) (best : Step) (fronts : List (ℤ × ℕ)) → P best → ((found : ℤ × ℕ) → Contains fronts found → P (priced_step key later found)) → P (best_priced key later best fronts)
priced_is P key later best [] here keys = here
priced_is P key later best (found ∷ fronts) here keys =
    let first : P (priced_step key later found) = keys found (contains_here found fronts) in
    let better : P (better_of best (priced_step key later found)) = either_part (leb_tells (priced_step key later found).cost best.cost) (λ is. subst P (sym (taken is.0)) first) (λ isnt. subst P (sym (kept isnt.0)) here) in
    priced_is P key later (better_of best (priced_step key later found)) fronts better (λ f c. keys f (contains_later found fronts f c))
  where
    taken : (nat_le (priced_step key later found).cost best.cost) ≡ true → better_of best (priced_step key later found) ≡ priced_step key later found
    taken is = rw is refl

    kept : (nat_le (priced_step key later found).cost best.cost) ≡ false → better_of best (priced_step key later found) ≡ best
    kept is = rw is refl

-- the best of them costs no more than any
priced_first : (key : ℤ → ℕ) (later : List ℕ) (best : Step) (fronts : List (ℤ × ℕ)) → (best_priced key later best fronts).cost ≤ best.cost
priced_first key later best [] = omega arith
priced_first key later best (found ∷ fronts) =
    let one = better_first best (priced_step key later found) in
    let more = priced_first key later (better_of best (priced_step key later found)) fronts in
    omega (arith, one, more)

priced_least : (key : ℤ → ℕ) (later : List ℕ) (best : Step) (fronts : List (ℤ × ℕ)) (found : ℤ × ℕ) → Contains fronts found → (best_priced key later best fronts).cost ≤ (priced_step key later found).cost
priced_least key later best [] found c = absurd (contains_none found c)
priced_least key later best (first ∷ fronts) found c =
    either_part (contains_first_or_later first fronts found c)
    (λ same.
    let one = better_second best (priced_step key later first) in
    let more = priced_first key later (better_of best (priced_step key later first)) fronts in
    let least : (best_priced key later (better_of best (priced_step key later first)) fronts).cost ≤ (priced_step key later first).cost = omega (arith, one, more) in
    subst (λ (f : ℤ × ℕ). (best_priced key later (better_of best (priced_step key later first)) fronts).cost ≤ (priced_step key later f).cost) same least)
    (λ more. priced_least key later (better_of best (priced_step key later first)) fronts found more)

-- the best of a step and of those over longer keys is that step, or goes over more bytes
longer : (key : ℤ → ℕ) (later : List ℕ) (best : Step) (fronts : List (ℤ × ℕ)) → Ascend best.len fronts → (best_priced key later best fronts ≡ best) ⊎ (best.len < (best_priced key later best fronts).len)
longer key later best [] h = inl refl
longer key later best (found ∷ fronts) h =
    let low = h.0 in
    let Goes : Step → Type 0 = λ s. (best_priced key later s fronts ≡ best) ⊎ (best.len < (best_priced key later s fronts).len) in
    elim (leb_tells (priced_step key later found).cost best.cost) [
      | inl is ↦
          let picked : better_of best (priced_step key later found) ≡ priced_step key later found = rw is.0 refl in
          subst Goes (sym picked) (elim (longer key later (priced_step key later found) fronts h.1) [
            | inl stays ↦ inr (subst (λ (s : Step). best.len < s.len) (sym stays) (omega (arith, low)))
            | inr more ↦ inr (omega (arith, low, more))
          ])
      | inr isnt ↦
          let picked : better_of best (priced_step key later found) ≡ best = rw isnt.0 refl in
          subst Goes (sym picked) (longer key later best fronts (ascend_higher best.len (found.1 + 1) fronts (omega (arith, low)) h.1))
    ]

-- a key that costs as little as the best is no longer than it, and is it where both are of one length
priced_longest : (key : ℤ → ℕ) (later : List ℕ) (best : Step) (low : ℕ) (fronts : List (ℤ × ℕ)) → Ascend low fronts → (found : ℤ × ℕ) → Contains fronts found
    → (priced_step key later found).cost ≤ (best_priced key later best fronts).cost → (best_priced key later best fronts ≡ priced_step key later found) ⊎ (found.1 + 1 < (best_priced key later best fronts).len)
priced_longest key later best low [] h found c cheap = absurd (contains_none found c)
priced_longest key later best low (first ∷ fronts) h found c cheap =
    either_part (contains_first_or_later first fronts found c)
    (λ same. subst (λ (f : ℤ × ℕ). (priced_step key later f).cost ≤ (best_priced key later (better_of best (priced_step key later first)) fronts).cost → (best_priced key later (better_of best (priced_step key later first)) fronts ≡ priced_step key later f) ⊎ (f.1 + 1 < (best_priced key later (better_of best (priced_step key later first)) fronts).len)) same
    (λ cheapest. elim (leb_tells (priced_step key later first).cost best.cost) [
      | inl is ↦
          let picked : better_of best (priced_step key later first) ≡ priced_step key later first = rw is.0 refl in
          subst (λ s. (best_priced key later s fronts ≡ priced_step key later first) ⊎ (first.1 + 1 < (best_priced key later s fronts).len)) (sym picked) (longer key later (priced_step key later first) fronts h.1)
      | inr isnt ↦
          let picked : (better_of best (priced_step key later first)).cost ≡ best.cost = rw isnt.0 refl in
          let least = priced_first key later (better_of best (priced_step key later first)) fronts in
          let dear = isnt.1 in
          absurd (omega (arith, picked, least, dear, cheapest))
    ]) cheap)
    (λ more. priced_longest key later (better_of best (priced_step key later first)) (first.1 + 1) fronts h.1 found more cheap)

-- the same where the first of the keys is what the others are held against
all_least : (key : ℤ → ℕ) (later : List ℕ) (first : ℤ × ℕ) (fronts : List (ℤ × ℕ)) (found : ℤ × ℕ) → Contains (first ∷ fronts) found
    → (best_priced key later (priced_step key later first) fronts).cost ≤ (priced_step key later found).cost
all_least key later first fronts found c =
    either_part (contains_first_or_later first fronts found c)
    (λ same. subst (λ (f : ℤ × ℕ). (best_priced key later (priced_step key later first) fronts).cost ≤ (priced_step key later f).cost) same (priced_first key later (priced_step key later first) fronts))
    (λ more. priced_least key later (priced_step key later first) fronts found more)

all_longest : (key : ℤ → ℕ) (later : List ℕ) (low : ℕ) (first : ℤ × ℕ) (fronts : List (ℤ × ℕ)) → Ascend low (first ∷ fronts) → (found : ℤ × ℕ) → Contains (first ∷ fronts) found
    → (priced_step key later found).cost ≤ (best_priced key later (priced_step key later first) fronts).cost
    → (best_priced key later (priced_step key later first) fronts ≡ priced_step key later found) ⊎ (found.1 + 1 < (best_priced key later (priced_step key later first) fronts).len)
all_longest key later low first fronts h found c cheap =
    either_part (contains_first_or_later first fronts found c)
    (λ same. subst (λ (f : ℤ × ℕ). (best_priced key later (priced_step key later first) fronts ≡ priced_step key later f) ⊎ (f.1 + 1 < (best_priced key later (priced_step key later first) fronts).len)) same (longer key later (priced_step key later first) fronts h.1))
    (λ more. priced_longest key later (priced_step key later first) (first.1 + 1) fronts h.1 found more cheap)

-- a step over a key or one over an unknown run, whichever is better
pub ltb_tells : (a b : ℕ) → ((nat_lt a b ≡ true) × (a < b)) ⊎ ((nat_lt a b ≡ false) × (b ≤ a))
ltb_tells a b = by (nat_lt a b) refl
  where
    by : (t : Bool) → nat_lt a b ≡ t → ((nat_lt a b ≡ true) × (a < b)) ⊎ ((nat_lt a b ≡ false) × (b ≤ a))
    by true e = inl (e, ltb-true a b e)
    by false e = inr (e, ltb-false a b e)

abbrev pub IsPicked : Step → Step → Step → Type 0
IsPicked picked best run =
    ((picked ≡ best) × (best.cost ≤ run.cost) × (run.cost ≤ best.cost → run.len ≤ best.len))
    ⊎ ((picked ≡ run) × (run.cost ≤ best.cost) × (best.cost ≤ run.cost → best.len < run.len))

pub or_tells : (best run : Step) → IsPicked (or_run best run) best run
or_tells best run = elim (ltb_tells best.cost run.cost) [
  | inl is ↦ let less = is.1 in inl (rw is.0 refl, omega (arith, less), λ more. absurd (omega (arith, less, more)))
  | inr isnt ↦ elim (ltb_tells run.cost best.cost) [
    | inl is ↦ let less = is.1 in inr (rw isnt.0 (rw is.0 refl), omega (arith, less), λ more. absurd (omega (arith, less, more)))
    | inr same ↦
        let low = isnt.1 in
        let high = same.1 in
        elim (ltb_tells best.len run.len) [
          | inl more ↦ inr (rw isnt.0 (rw same.0 (rw more.0 refl)), low, λ _. more.1)
          | inr less ↦ inl (rw isnt.0 (rw same.0 (rw less.0 refl)), high, λ _. less.1)
        ]
  ]
]

-- a step that goes over some of these bytes, over a key with its number or an unknown run, and costs what it and those behind cost
pub record IsModelStep (t : Tree) (key : ℤ → ℕ) (run : UnknownRun) (later rest : List ℕ) (step : Step) : Type 0 where
  pub some : 0 < step.len
  pub within : step.len ≤ length later
  pub piece : MatchOption step.value ((step.len ≡ run_len (length rest) run) × MayRun t rest run) (λ v. number_at t (take step.len rest) ≡ Some v)
  pub costs : step.cost ≡ min (price_by key run.cost step.value + cost_at later (length later - step.len)) (2 ^ 64 - 1)

run_over : (t : Tree) (key : ℤ → ℕ) (run : UnknownRun) (later rest : List ℕ) → 0 < length later → length later ≡ length rest → MayRun t rest run → IsModelStep t key run later rest (run_step later run)
run_over t key run later rest some same may = record {
  some = run_some (length later) run;
  within = run_within (length later) run some;
  piece = (ap (λ n. run_len n run) same, may);
  costs = refl;
}
  where
    run_some : (n : ℕ) (r : UnknownRun) → 0 < run_len n r
    run_some n r = omega arith

    run_within : (n : ℕ) (r : UnknownRun) → 0 < n → run_len n r ≤ n
    run_within n r h = omega (arith, h)

key_over : (t : Tree) (key : ℤ → ℕ) (run : UnknownRun) (later rest : List ℕ) → length later ≡ length rest → (found : ℤ × ℕ) → Contains (front t rest) found → IsModelStep t key run later rest (priced_step key later found)
key_over t key run later rest same found c =
    let held = held_from_front t rest found.0 found.1 c in
    let within = held.0 in
    record { some = omega arith; within = omega (arith, within, same); piece = held.1; costs = refl }

-- what is known of the best of an unknown run and of the keys that begin some bytes
pub record IsBestBy (t : Tree) (key : ℤ → ℕ) (run : UnknownRun) (later rest : List ℕ) (step : Step) : Type 0 where
  pub is : IsModelStep t key run later rest step
  pub least_run : MayRun t rest run → step.cost ≤ (run_step later run).cost
  pub least_key : (found : ℤ × ℕ) → Contains (front t rest) found → step.cost ≤ (priced_step key later found).cost
  pub longest_run : MayRun t rest run → (run_step later run).cost ≤ step.cost → (run_step later run).len ≤ step.len
  pub longest_key : (found : ℤ × ℕ) → Contains (front t rest) found → (priced_step key later found).cost ≤ step.cost → (step ≡ priced_step key later found) ⊎ (found.1 + 1 < step.len)

keys_step : (t : Tree) (key : ℤ → ℕ) (run : UnknownRun) (later rest : List ℕ) → length later ≡ length rest → (found : ℤ × ℕ) (fronts : List (ℤ × ℕ)) → front t rest ≡ found ∷ fronts
    → IsModelStep t key run later rest (best_priced key later (priced_step key later found) fronts)
keys_step t key run later rest same found fronts e =
    priced_is (IsModelStep t key run later rest) key later (priced_step key later found) fronts
    (key_over t key run later rest same found (subst (λ l. Contains l found) (sym e) (contains_here found fronts)))
    (λ f c. key_over t key run later rest same f (subst (λ l. Contains l f) (sym e) (contains_later found fronts f c)))

-- of keys alone
best_keys : (t : Tree) (key : ℤ → ℕ) (run : UnknownRun) (later rest : List ℕ) → length later ≡ length rest → (found : ℤ × ℕ) (fronts : List (ℤ × ℕ)) → front t rest ≡ found ∷ fronts → (MayRun t rest run → ⊥)
    → IsBestBy t key run later rest (best_priced key later (priced_step key later found) fronts)
best_keys t key run later rest same found fronts e never =
    let ascend : Ascend 0 (found ∷ fronts) = subst (Ascend 0) e (fronts_ascend t rest) in
    let moved : (f : ℤ × ℕ) → Contains (front t rest) f → Contains (found ∷ fronts) f = λ f c. subst (λ l. Contains l f) e c in
    record {
      is = keys_step t key run later rest same found fronts e;
      least_run = λ may. absurd (never may);
      least_key = λ f c. all_least key later found fronts f (moved f c);
      longest_run = λ may. absurd (never may);
      longest_key = λ f c cheap. all_longest key later 0 found fronts ascend f (moved f c) cheap;
    }

-- of keys, whose best is known, and of an unknown run that may stand beside them
best_both : (t : Tree) (key : ℤ → ℕ) (run : UnknownRun) (later rest : List ℕ) (best over picked : Step) → over ≡ run_step later run → IsPicked picked best over → MayRun t rest run
    → IsModelStep t key run later rest best → IsModelStep t key run later rest over
    → ((found : ℤ × ℕ) → Contains (front t rest) found → best.cost ≤ (priced_step key later found).cost)
    → ((found : ℤ × ℕ) → Contains (front t rest) found → (priced_step key later found).cost ≤ best.cost → (best ≡ priced_step key later found) ⊎ (found.1 + 1 < best.len))
    → IsBestBy t key run later rest picked
best_both t key run later rest best over picked at (inl keeps) may is_key is_run least longest =
    let same : picked ≡ best = keeps.0 in
    let cheap = keeps.1 in
    let long = keeps.2 in
    subst (IsBestBy t key run later rest) (sym same) record {
      is = is_key;
      least_run = λ _. subst (λ (s : Step). best.cost ≤ s.cost) at cheap;
      least_key = least;
      longest_run = λ _ low. subst (λ (s : Step). s.len ≤ best.len) at (long (subst (λ (s : Step). s.cost ≤ best.cost) (sym at) low));
      longest_key = longest;
    }
best_both t key run later rest best over picked at (inr takes) may is_key is_run least longest =
    let same : picked ≡ over = takes.0 in
    let cheap = takes.1 in
    let long = takes.2 in
    subst (IsBestBy t key run later rest) (sym same) record {
      is = is_run;
      least_run = λ _. subst (λ (s : Step). over.cost ≤ s.cost) at (omega arith);
      least_key = λ f c. (let dear = least f c in omega (arith, cheap, dear));
      longest_run = λ _ low. subst (λ (s : Step). s.len ≤ over.len) at (omega arith);
      longest_key = λ f c low.
          let dear = least f c in
          let more = long (omega (arith, dear, low)) in
          either_part (longest f c (omega (arith, low, cheap)))
          (λ is. inr (let bytes = ap (λ (s : Step). s.len) is in omega (arith, bytes, more)))
          (λ less. inr (omega (arith, less, more)));
    }

-- what is best over some keys that were found, and an unknown run
best_found : (t : Tree) (key : ℤ → ℕ) (run : UnknownRun) (later rest : List ℕ) → 0 < length later → length later ≡ length rest → (fronts : List (ℤ × ℕ)) → front t rest ≡ fronts
    → IsBestBy t key run later rest (best_by key later run fronts)
best_found t key run later rest some same [] e = record {
  is = run_over t key run later rest some same (inr e);
  least_run = λ _. omega arith;
  least_key = λ f c. absurd (contains_none f (subst (λ l. Contains l f) e c));
  longest_run = λ _ _. omega arith;
  longest_key = λ f c _. absurd (contains_none f (subst (λ l. Contains l f) e c));
}
best_found t key run later rest some same (found ∷ fronts) e =
    let best : Step = best_priced key later (priced_step key later found) fronts in
    (elim run.beside_keys as (λ b. run.beside_keys ≡ b → IsBestBy t key run later rest (cond b (or_run best (run_step later run)) best)) [
      | true ↦ λ beside.
          let ascend : Ascend 0 (found ∷ fronts) = subst (Ascend 0) e (fronts_ascend t rest) in
          let moved : (f : ℤ × ℕ) → Contains (front t rest) f → Contains (found ∷ fronts) f = λ f c. subst (λ l. Contains l f) e c in
          best_both t key run later rest best (run_step later run) (or_run best (run_step later run)) refl (or_tells best (run_step later run)) (inl beside)
          (keys_step t key run later rest same found fronts e)
          (run_over t key run later rest some same (inl beside))
          (λ f c. all_least key later found fronts f (moved f c))
          (λ f c cheap. all_longest key later 0 found fronts ascend f (moved f c) cheap)
      | false ↦ λ beside. best_keys t key run later rest same found fronts e (λ may. either_part may (λ is. true≢false (sym is ∙ beside)) (λ none. some_front found fronts (sym e ∙ none)))
    ]) refl
  where
    some_front : (f : ℤ × ℕ) (fs : List (ℤ × ℕ)) → f ∷ fs ≡ [] → ⊥
    some_front f fs h = absurd (cc)

pub best_is : (t : Tree) (key : ℤ → ℕ) (run : UnknownRun) (later rest : List ℕ) → 0 < length later → length later ≡ length rest → IsBestBy t key run later rest (best_by key later run (front t rest))
best_is t key run later rest some same = best_found t key run later rest some same (front t rest) refl

-- a key that begins some bytes, by how many bytes it has, is one of those that are found
pub found_key : (t : Tree) (rest : List ℕ) (v : ℤ) (n : ℕ) → 0 < n → n ≤ length rest → number_at t (take n rest) ≡ Some v → Contains (front t rest) (v, n - 1)
found_key t rest v n some within held =
    let one : n - 1 + 1 ≡ n = omega (arith, some) in
    front_from_held t rest v (n - 1) (omega (arith, some, within)) (ap (λ m. number_at t (take m rest)) one ∙ held)

-- one byte more
pub costs_up : (t : Tree) (key : ℤ → ℕ) (run : ℕ → UnknownRun) (text costs : List ℕ) (cost left : ℕ) → 0 < left → length costs ≡ left
    → cost ≡ (best_by key costs (run (length text - left)) (front t (drop (length text - left) text))).cost → AreCostsUpTo t key run text costs → AreCostsUpTo t key run text (costs ++ cost ∷ [])
costs_up t key run text costs cost left some len is was = record {
  begin = get_or_append_left costs (cost ∷ []) 0 0 (omega (arith, some, len)) ∙ was.begin;
  best = λ k low high. elim (eqb_tells (length costs) k) [
    | inl same ↦
        let here = same.1 in
        let at : left ≡ k = omega (arith, here, len) in
        get_or_push costs cost 0 k here ∙ is
        ∙ ap (λ n. (best_by key costs (run (length text - n)) (front t (drop (length text - n) text))).cost) at
        ∙ ap (λ l. (best_by key l (run (length text - k)) (front t (drop (length text - k) text))).cost) (sym (take-append-le k costs (cost ∷ []) (omega (arith, here)) ∙ take_all k costs (omega (arith, here))))
    | inr other ↦
        let differ = other.1 in
        let more = length_push costs cost in
        let below : k < length costs = omega (arith, differ, high, more) in
        get_or_append_left costs (cost ∷ []) 0 k below ∙ was.best k low below
        ∙ ap (λ l. (best_by key l (run (length text - k)) (front t (drop (length text - k) text))).cost) (sym (take-append-le k costs (cost ∷ []) (omega (arith, below))))
  ];
}
