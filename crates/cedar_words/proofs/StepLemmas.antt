-- Steps over the last bytes of a text: how they are found, and where they lead.
use Rattle.std.proofs.Common.{◌≡◌, ℕ, zero, suc, ◌+◌, ◌-◌, ◌^◌, ◌<◌, ◌≤◌, ◌⊎◌, min, nat_le, cond, true, false, ℤ, unsigned_abs, List, [], ◌∷◌, ◌++◌, length, take, drop, Option, Some, None, option_map, MatchOption, refl, sym, ap, subst, ◌∙◌, arith, inl, inr}
use Rattle.std.specs.List.{Contains, filter_map, cons_option, range_with_len}
use Rattle.std.proofs.lemmas.List.{get_or_append_left, get_or_push, length_push, take-append-le, take_all}
use Rattle.std.proofs.lemmas.Bool.Decides.{eqb_tells, leb_tells}
use Rattle.cedarwood.specs.Tree.{Tree, number_at}
use Rattle.cedarwood.specs.Queries.{front}
use Rattle.cedarwood.proofs.FrontLemmas.{front_from_held, held_from_front}
use Rattle.cedarwood.proofs.MemberLemmas.{contains_first_or_later, contains_here, contains_later, contains_none, either_part}
use Rattle.cedar_words.specs.Cuts.{price}
use Rattle.cedar_words.specs.Steps.{AreCostsOver, AreWithin, best_from, best_of, better_of, cost_at, cut_along, key_step, step_over}
use Rattle.cedar_words.specs.declared.costs.Step.{Step}

-- the fronts of some bytes have no more bytes than these
within_range : (t : Tree) (q : List ℕ) (n a end : ℕ) → a + n ≡ end → AreWithin end (filter_map (λ k. option_map (λ (v : ℤ). (v, k)) (number_at t (take (k + 1) q))) (range_with_len a n))
within_range t q zero a end h = tt
within_range t q (suc n) a end h =
    let later = within_range t q n (a + 1) end (omega (arith, h)) in
    (elim (number_at t (take (a + 1) q)) as (λ o. AreWithin end (cons_option (option_map (λ (v : ℤ). (v, a)) o) (filter_map (λ k. option_map (λ (v : ℤ). (v, k)) (number_at t (take (k + 1) q))) (range_with_len (a + 1) n)))) [
      | None ↦ later
      | Some v ↦ (omega (arith, h), later)
    ])

pub fronts_within : (t : Tree) (q : List ℕ) → AreWithin (length q) (front t q)
fronts_within t q = within_range t q (length q) 0 (length q) (omega arith)

-- bytes that belong to the token before are passed
passed_along : (steps : ℕ → Step) (k place left : ℕ) → cut_along steps k place left ≡ cut_along steps 0 (place + k) (left - k)
passed_along steps zero place left = let here : place ≡ place + 0 = omega arith in let all : left ≡ left - 0 = omega arith in ap (λ p. cut_along steps 0 p left) here ∙ ap (λ n. cut_along steps 0 (place + 0) n) all
passed_along steps (suc k) place zero = let none : 0 ≡ 0 - suc k = omega arith in ap (λ n. cut_along steps 0 (place + suc k) n) none
passed_along steps (suc k) place (suc left) =
    let here : place + 1 + k ≡ place + suc k = omega arith in
    let less : left - k ≡ suc left - suc k = omega arith in
    passed_along steps k (place + 1) left ∙ ap (λ p. cut_along steps 0 p (left - k)) here ∙ ap (λ n. cut_along steps 0 (place + suc k) n) less

-- the token at a position comes first
pub along_step : (steps : ℕ → Step) (place left : ℕ) (step : Step) → 0 < left → steps left ≡ step → 0 < step.len
    → cut_along steps 0 place left ≡ (place, step.len, step.value) ∷ cut_along steps 0 (place + step.len) (left - step.len)
along_step steps place zero step some is h = absurd (omega (arith, some))
along_step steps place (suc left) step some is h =
    let behind : place + 1 + (step.len - 1) ≡ place + step.len = omega (arith, h) in
    let less : left - (step.len - 1) ≡ suc left - step.len = omega (arith, h) in
    ap (λ (s : Step). (place, s.len, s.value) ∷ cut_along steps (s.len - 1) (place + 1) left) is
    ∙ ap (λ ts. (place, step.len, step.value) ∷ ts)
    (passed_along steps (step.len - 1) (place + 1) left
    ∙ ap (λ p. cut_along steps 0 p (left - (step.len - 1))) behind
    ∙ ap (λ n. cut_along steps 0 (place + step.len) n) less)

-- the token at a position comes first, where it is known by its bytes and its number
pub along_told : (steps : ℕ → Step) (place left len : ℕ) (value : Option ℤ) → 0 < left → len ≡ (steps left).len → value ≡ (steps left).value → 0 < len
    → cut_along steps 0 place left ≡ (place, len, value) ∷ cut_along steps 0 (place + len) (left - len)
along_told steps place left len value some bytes number go =
    along_step steps place left (steps left) some refl (subst (λ n. 0 < n) bytes go)
    ∙ ap (λ n. (place, n, (steps left).value) ∷ cut_along steps 0 (place + n) (left - n)) (sym bytes)
    ∙ ap (λ v. (place, len, v) ∷ cut_along steps 0 (place + len) (left - len)) (sym number)

-- one byte more
pub costs_more : (t : Tree) (u : ℕ → ℕ) (text costs : List ℕ) (cost left : ℕ) → 0 < left → length costs ≡ left
    → cost ≡ (best_of (u (length text - left)) costs (front t (drop (length text - left) text))).cost → AreCostsOver t u text costs → AreCostsOver t u text (costs ++ cost ∷ [])
costs_more t u text costs cost left some len is was = record {
  begin = get_or_append_left costs (cost ∷ []) 0 0 (omega (arith, some, len)) ∙ was.begin;
  best = λ k low high. elim (eqb_tells (length costs) k) [
    | inl same ↦
        let here = same.1 in
        let at : left ≡ k = omega (arith, here, len) in
        get_or_push costs cost 0 k here ∙ is
        ∙ ap (λ n. (best_of (u (length text - n)) costs (front t (drop (length text - n) text))).cost) at
        ∙ ap (λ l. (best_of (u (length text - k)) l (front t (drop (length text - k) text))).cost) (sym (take-append-le k costs (cost ∷ []) (omega (arith, here)) ∙ take_all k costs (omega (arith, here))))
    | inr other ↦
        let differ = other.1 in
        let more = length_push costs cost in
        let below : k < length costs = omega (arith, differ, high, more) in
        get_or_append_left costs (cost ∷ []) 0 k below ∙ was.best k low below
        ∙ ap (λ l. (best_of (u (length text - k)) l (front t (drop (length text - k) text))).cost) (sym (take-append-le k costs (cost ∷ []) (omega (arith, below))))
  ];
}

-- what holds of a step and of those over some keys holds of the best of them
best_is : (P : Step → Type 0) (later : List ℕ) (best : Step) (fronts : List (ℤ × ℕ)) → P best → ((found : ℤ × ℕ) → Contains fronts found → P (key_step later found)) → P (best_from later best fronts)
best_is P later best [] here keys = here
best_is P later best (found ∷ fronts) here keys =
    let first : P (key_step later found) = keys found (contains_here found fronts) in
    let better : P (better_of best (key_step later found)) = elim (nat_le (key_step later found).cost best.cost) as (λ b. P (cond b (key_step later found) best)) [ true ↦ first | false ↦ here ] in
    best_is P later (better_of best (key_step later found)) fronts better (λ f c. keys f (contains_later found fronts f c))

pub better_first : (a b : Step) → (better_of a b).cost ≤ a.cost
better_first a b = elim (leb_tells b.cost a.cost) [
  | inl is ↦ rw is.0 is.1
  | inr isnt ↦ rw isnt.0 (omega arith)
]

pub better_second : (a b : Step) → (better_of a b).cost ≤ b.cost
better_second a b = elim (leb_tells b.cost a.cost) [
  | inl is ↦ rw is.0 (omega arith)
  | inr isnt ↦ let less = isnt.1 in rw isnt.0 (omega (arith, less))
]

-- the best of them costs no more than any
best_first : (later : List ℕ) (best : Step) (fronts : List (ℤ × ℕ)) → (best_from later best fronts).cost ≤ best.cost
best_first later best [] = omega arith
best_first later best (found ∷ fronts) =
    let one = better_first best (key_step later found) in
    let more = best_first later (better_of best (key_step later found)) fronts in
    omega (arith, one, more)

best_least : (later : List ℕ) (best : Step) (fronts : List (ℤ × ℕ)) (found : ℤ × ℕ) → Contains fronts found → (best_from later best fronts).cost ≤ (key_step later found).cost
best_least later best [] found c = absurd (contains_none found c)
best_least later best (first ∷ fronts) found c =
    either_part (contains_first_or_later first fronts found c)
    (λ same.
    let one = better_second best (key_step later first) in
    let more = best_first later (better_of best (key_step later first)) fronts in
    let least : (best_from later (better_of best (key_step later first)) fronts).cost ≤ (key_step later first).cost = omega (arith, one, more) in
    subst (λ (f : ℤ × ℕ). (best_from later (better_of best (key_step later first)) fronts).cost ≤ (key_step later f).cost) same least)
    (λ more. best_least later (better_of best (key_step later first)) fronts found more)

-- a step that goes over some of these bytes, over a key with its number or one byte without, and costs what it and those behind cost
pub record IsStepOver (t : Tree) (u : ℕ) (later : List ℕ) (rest : List ℕ) (step : Step) : Type 0 where
  pub some : 0 < step.len
  pub within : step.len ≤ length later
  pub piece : MatchOption step.value (step.len ≡ 1) (λ v. number_at t (take step.len rest) ≡ Some v)
  pub costs : step.cost ≡ min (price u step.value + cost_at later (length later - step.len)) (2 ^ 64 - 1)

-- the best of the fronts of some bytes is one
pub best_over : (t : Tree) (u : ℕ) (later : List ℕ) (rest : List ℕ) → 0 < length later → length later ≡ length rest → IsStepOver t u later rest (best_of u later (front t rest))
best_over t u later rest some same =
    let one : IsStepOver t u later rest (step_over later u 1 None) = record { some = omega arith; within = omega (arith, some); piece = refl; costs = refl } in
    best_is (IsStepOver t u later rest) later (step_over later u 1 None) (front t rest) one
    (λ found c.
    let held = held_from_front t rest found.0 found.1 c in
    let within = held.0 in
    record { some = omega arith; within = omega (arith, within, same); piece = held.1; costs = refl })

-- and no byte and no key costs less
pub best_least_byte : (t : Tree) (u : ℕ) (later : List ℕ) (rest : List ℕ) → (best_of u later (front t rest)).cost ≤ min (u + cost_at later (length later - 1)) (2 ^ 64 - 1)
best_least_byte t u later rest = best_first later (step_over later u 1 None) (front t rest)

pub best_least_key : (t : Tree) (u : ℕ) (later : List ℕ) (rest : List ℕ) (v : ℤ) (n : ℕ) → 0 < n → n ≤ length rest → number_at t (take n rest) ≡ Some v
    → (best_of u later (front t rest)).cost ≤ min (unsigned_abs v + cost_at later (length later - n)) (2 ^ 64 - 1)
best_least_key t u later rest v n some within held =
    let one : n - 1 + 1 ≡ n = omega (arith, some) in
    let found = front_from_held t rest v (n - 1) (omega (arith, some, within)) (ap (λ m. number_at t (take m rest)) one ∙ held) in
    subst (λ m. (best_of u later (front t rest)).cost ≤ min (unsigned_abs v + cost_at later (length later - m)) (2 ^ 64 - 1)) one
    (best_least later (step_over later u 1 None) (front t rest) (v, n - 1) found)

-- keys that were found, one after another, each longer than those before it
abbrev pub Ascend : ℕ → List (ℤ × ℕ) → Type 0
Ascend low [] = Unit {0}
Ascend low (found ∷ fronts) = (low ≤ found.1) × Ascend (found.1 + 1) fronts

pub ascend_higher : (a b : ℕ) (fronts : List (ℤ × ℕ)) → a ≤ b → Ascend b fronts → Ascend a fronts
ascend_higher a b [] low h = tt
ascend_higher a b (found ∷ fronts) low h = let first = h.0 in (omega (arith, low, first), h.1)

ascend_range : (t : Tree) (q : List ℕ) (n a : ℕ) → Ascend a (filter_map (λ k. option_map (λ (v : ℤ). (v, k)) (number_at t (take (k + 1) q))) (range_with_len a n))
ascend_range t q zero a = tt
ascend_range t q (suc n) a =
    let fronts : List (ℤ × ℕ) = filter_map (λ k. option_map (λ (v : ℤ). (v, k)) (number_at t (take (k + 1) q))) (range_with_len (a + 1) n) in
    let later = ascend_range t q n (a + 1) in
    (elim (number_at t (take (a + 1) q)) as (λ o. Ascend a (cons_option (option_map (λ (v : ℤ). (v, a)) o) fronts)) [
      | None ↦ ascend_higher a (a + 1) fronts (omega arith) later
      | Some v ↦ (omega arith, later)
    ])

pub fronts_ascend : (t : Tree) (q : List ℕ) → Ascend 0 (front t q)
fronts_ascend t q = ascend_range t q (length q) 0

-- the best of a step and of those over longer keys is that step, or goes over more bytes
longer : (later : List ℕ) (best : Step) (fronts : List (ℤ × ℕ)) → Ascend best.len fronts → (best_from later best fronts ≡ best) ⊎ (best.len < (best_from later best fronts).len)
longer later best [] h = inl refl
longer later best (found ∷ fronts) h =
    let low = h.0 in
    let Goes : Step → Type 0 = λ s. (best_from later s fronts ≡ best) ⊎ (best.len < (best_from later s fronts).len) in
    elim (leb_tells (key_step later found).cost best.cost) [
      | inl is ↦
          let picked : better_of best (key_step later found) ≡ key_step later found = rw is.0 refl in
          subst Goes (sym picked) (elim (longer later (key_step later found) fronts h.1) [
            | inl stays ↦ inr (subst (λ (s : Step). best.len < s.len) (sym stays) (omega (arith, low)))
            | inr more ↦ inr (omega (arith, low, more))
          ])
      | inr isnt ↦
          let picked : better_of best (key_step later found) ≡ best = rw isnt.0 refl in
          subst Goes (sym picked) (longer later best fronts (ascend_higher best.len (found.1 + 1) fronts (omega (arith, low)) h.1))
    ]

-- a key that costs as little as the best is no longer than it, and is it where both are of one length
best_longest : (later : List ℕ) (best : Step) (low : ℕ) (fronts : List (ℤ × ℕ)) → Ascend low fronts → (found : ℤ × ℕ) → Contains fronts found
    → (key_step later found).cost ≤ (best_from later best fronts).cost → (best_from later best fronts ≡ key_step later found) ⊎ (found.1 + 1 < (best_from later best fronts).len)
best_longest later best low [] h found c cheap = absurd (contains_none found c)
best_longest later best low (first ∷ fronts) h found c cheap =
    either_part (contains_first_or_later first fronts found c)
    (λ same. subst (λ (f : ℤ × ℕ). (key_step later f).cost ≤ (best_from later (better_of best (key_step later first)) fronts).cost → (best_from later (better_of best (key_step later first)) fronts ≡ key_step later f) ⊎ (f.1 + 1 < (best_from later (better_of best (key_step later first)) fronts).len)) same
    (λ cheapest. elim (leb_tells (key_step later first).cost best.cost) [
      | inl is ↦
          let picked : better_of best (key_step later first) ≡ key_step later first = rw is.0 refl in
          subst (λ s. (best_from later s fronts ≡ key_step later first) ⊎ (first.1 + 1 < (best_from later s fronts).len)) (sym picked) (longer later (key_step later first) fronts h.1)
      | inr isnt ↦
          let picked : (better_of best (key_step later first)).cost ≡ best.cost = rw isnt.0 refl in
          let least = best_first later (better_of best (key_step later first)) fronts in
          let dear = isnt.1 in
          absurd (omega (arith, picked, least, dear, cheapest))
    ]) cheap)
    (λ more. best_longest later (better_of best (key_step later first)) (first.1 + 1) fronts h.1 found more cheap)

pub best_longest_key : (t : Tree) (u : ℕ) (later : List ℕ) (rest : List ℕ) (v : ℤ) (n : ℕ) → 0 < n → n ≤ length rest → number_at t (take n rest) ≡ Some v
    → min (unsigned_abs v + cost_at later (length later - n)) (2 ^ 64 - 1) ≤ (best_of u later (front t rest)).cost
    → (((best_of u later (front t rest)).len ≡ n) × ((best_of u later (front t rest)).value ≡ Some v)) ⊎ (n < (best_of u later (front t rest)).len)
best_longest_key t u later rest v n some within held cheap =
    let one : n - 1 + 1 ≡ n = omega (arith, some) in
    let found = front_from_held t rest v (n - 1) (omega (arith, some, within)) (ap (λ m. number_at t (take m rest)) one ∙ held) in
    let cheap' : (key_step later (v, n - 1)).cost ≤ (best_of u later (front t rest)).cost = subst (λ m. min (unsigned_abs v + cost_at later (length later - m)) (2 ^ 64 - 1) ≤ (best_of u later (front t rest)).cost) (sym one) cheap in
    elim (best_longest later (step_over later u 1 None) 0 (front t rest) (fronts_ascend t rest) (v, n - 1) found cheap') [
      | inl is ↦ inl (ap (λ s. s.len) is ∙ one, ap (λ s. s.value) is)
      | inr more ↦ inr (omega (arith, more, one))
    ]
