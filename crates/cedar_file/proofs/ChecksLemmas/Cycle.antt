-- A walk that goes along links, from number to number that passes a test, for as many steps as numbers pass: it has seen
-- them all just if it comes back with its last step and not before.
use Rattle.std.proofs.Common.{◌≡◌, ℕ, zero, suc, ◌+◌, ◌<◌, ◌≤◌, List, [], ◌∷◌, length, Bool, true, false, cond, refl, sym, ap, subst, inl, inr, ◌∙◌, arith}
use Rattle.std.proofs.lemmas.Bool.{cases_eq, cases_Bool, cond-true, cond-false, false≢true}
use Rattle.cedar_file.specs.PlaceChecks.{HasRing, IsAfter, passing_count, RingOf}
use Rattle.cedar_slots.specs.Ring.{first_of, occurs, Ring}
use Rattle.cedar_slots.proofs.RingsLemmas.Ring.{after_steps, Along, Apart, occurs_other, occurs_same, OneToOne, Ring-walk, walk, walk-Ring}
use Rattle.cedar_slots.proofs.ListsLemmas.FreeCounts.{count_by-total, total, total-append, total-occurs, total-same, yes}
use Rattle.cedar_model.proofs.UpdateLemmas.Packing.{total_le}

-- ---- sums that are equal, of numbers of which none is above its partner

same_from_total : (f g : ℕ → ℕ) (a n : ℕ) → ((s : ℕ) → f s ≤ g s) → total f a n ≡ total g a n → (s : ℕ) → a ≤ s → s < a + n → f s ≡ g s
unfolding total
same_from_total f g a zero le same s low high = absurd (omega arith)
same_from_total f g a (suc n) le same s low high = elim (cases_eq s a) [
  | inl here ↦ rw here (omega (arith, same, le a, total_le f g (a + 1) n le))
  | inr later ↦ same_from_total f g (a + 1) n le (omega (arith, same, le a, total_le f g (a + 1) n le)) s (omega arith) (omega arith)
]

-- ---- how many numbers pass a test

passing-total : (test : ℕ → Bool) (low n : ℕ) → passing_count test low n ≡ total (λ s. yes (test s)) low n
unfolding passing_count
passing-total test low n = count_by-total test low n

pub passing_none : (test : ℕ → Bool) (low : ℕ) → passing_count test low 0 ≡ 0
unfolding passing_count
passing_none test low = refl

total_one : (f : ℕ → ℕ) (a : ℕ) → total f a 1 ≡ f a
unfolding total
total_one f a = omega arith

pub passing_more : (test : ℕ → Bool) (low n : ℕ) → passing_count test low (n + 1) ≡ passing_count test low n + yes (test (low + n))
passing_more test low n = passing-total test low (n + 1) ∙ omega (arith, total-append (λ s. yes (test s)) low n 1, total_one (λ s. yes (test s)) (low + n), passing-total test low n)

some_total : (f : ℕ → ℕ) (a n x : ℕ) → a ≤ x → x < a + n → f x ≤ total f a n
unfolding total
some_total f a zero x low high = absurd (omega arith)
some_total f a (suc n) x low high = elim (cases_eq x a) [
  | inl here ↦ rw here (omega arith)
  | inr later ↦ omega (arith, some_total f (a + 1) n x (omega arith) (omega arith))
]

pub passing_some : (test : ℕ → Bool) (low n x : ℕ) → low ≤ x → x < low + n → test x ≡ true → 0 < passing_count test low n
passing_some test low n x from upto holds = omega (arith, passing-total test low n, some_total (λ s. yes (test s)) low n x from upto, cond-true {A = ℕ} (test x) 1 0 holds)

-- the next number passes, or it does not
pub passing_hit : (test : ℕ → Bool) (low n x count more : ℕ) → x ≡ low + n → count ≡ passing_count test low n → test x ≡ true → more ≡ count + 1 → more ≡ passing_count test low (n + 1)
passing_hit test low n x count more at sofar holds is = omega (arith, is, sofar, passing_more test low n, cond-true {A = ℕ} (test (low + n)) 1 0 (subst (λ k. test k ≡ true) at holds))

pub passing_miss : (test : ℕ → Bool) (low n x count more : ℕ) → x ≡ low + n → count ≡ passing_count test low n → test x ≡ false → more ≡ count → more ≡ passing_count test low (n + 1)
passing_miss test low n x count more at sofar fails is = omega (arith, is, sofar, passing_more test low n, cond-false {A = ℕ} (test (low + n)) 1 0 (subst (λ k. test k ≡ false) at fails))

pub passing-le : (test : ℕ → Bool) (low n : ℕ) → passing_count test low n ≤ n
passing-le test low zero = omega (arith, passing_none test low)
passing-le test low (suc n) = let one : n + 1 ≡ suc n = omega arith in subst (λ k. passing_count test low k ≤ k) one (omega (arith, passing_more test low n, yes-le (test (low + n)), passing-le test low n))
  where
    yes-le : (b : Bool) → yes b ≤ 1
    yes-le true = omega arith
    yes-le false = omega arith

-- ---- the numbers that a walk sees

module _ (next : ℕ → ℕ) where
  pub after_more : (x n : ℕ) → after_steps next x (suc n) ≡ next (after_steps next x n)
  after_more x zero = refl
  after_more x (suc n) = after_more (next x) n

  pub length-walk : (x n : ℕ) → length (walk next x n) ≡ n
  length-walk x zero = refl
  length-walk x (suc n) = omega (arith, length-walk (next x) n)

  -- each number that is in a walk is seen after some steps
  seen_at : (s x n : ℕ) → 0 < occurs s (walk next x n) → (k : ℕ) × (k < n) × (after_steps next x k ≡ s)
  seen_at s x zero h = absurd (omega arith)
  seen_at s x (suc n) h = elim (cases_eq s x) [
    | inl same ↦ (0, omega arith, sym same)
    | inr other ↦ let rest = seen_at s (next x) n (omega (arith, occurs_other s x (walk next (next x) n) other)) in (suc rest.0, omega (arith, rest.1), rest.2)
  ]

  pub occurs_at : (x n k : ℕ) → k < n → 0 < occurs (after_steps next x k) (walk next x n)
  occurs_at x zero k h = absurd (omega arith)
  occurs_at x (suc n) zero h = omega (arith, occurs_same x (walk next (next x) n))
  occurs_at x (suc n) (suc k) h = omega (arith, occurs_at (next x) n k (omega arith))

  -- no number is seen twice in a walk whose numbers are apart
  walk_differs : (x n i j : ℕ) → Apart (walk next x n) → i < j → j < n → after_steps next x i ≡ after_steps next x j → ⊥
  walk_differs x zero i j apart less in_walk same = absurd (omega arith)
  walk_differs x (suc n) zero zero apart less in_walk same = absurd (omega arith)
  walk_differs x (suc n) zero (suc j) apart less in_walk same =
      let again : 0 < occurs x (walk next (next x) n) = subst (λ s. 0 < occurs s (walk next (next x) n)) (sym same) (occurs_at (next x) n j (omega arith)) in
      absurd (omega (arith, again, apart x, occurs_same x (walk next (next x) n)))
  walk_differs x (suc n) (suc i) zero apart less in_walk same = absurd (omega arith)
  walk_differs x (suc n) (suc i) (suc j) apart less in_walk same = walk_differs (next x) n i j (λ s. omega (arith, apart s)) (omega arith) (omega arith) same

  module _ (Link : ℕ → ℕ → Type 0) where
    along_at : (x n k : ℕ) → Along next Link x n → k < n → Link (after_steps next x k) (after_steps next x (suc k))
    along_at x zero k h in_walk = absurd (omega arith)
    along_at x (suc n) zero h in_walk = h.0
    along_at x (suc n) (suc k) h in_walk = along_at (next x) n k h.1 (omega arith)

    along_more : (x n : ℕ) → Along next Link x n → Link (after_steps next x n) (next (after_steps next x n)) → Along next Link x (suc n)
    along_more x zero h link = (link, tt)
    along_more x (suc n) h link = (h.0, along_more (next x) n h.1 link)

    -- a walk along links that has not come back sees no number twice
    walk-apart : OneToOne Link → (x n : ℕ) → Along next Link x n → ((k : ℕ) → 0 < k → k < n → after_steps next x k ≡ x → ⊥) → Apart (walk next x n)
    walk-apart fixed x zero along first s = omega arith
    walk-apart fixed x (suc n) along first s =
        let rest = walk-apart fixed (next x) n along.1 (λ k some in_walk back. first k some (omega arith) (fixed.prev _ x (next x) (subst (Link (after_steps next x k)) back (along_at x (suc n) k along (omega arith))) along.0)) in
        elim (cases_eq s x) [
          | inl same ↦ elim (cases_eq (occurs x (walk next (next x) n)) 0) [
            | inl none ↦ subst (λ y. occurs y (x ∷ walk next (next x) n) ≤ 1) (sym same) (omega (arith, none, occurs_same x (walk next (next x) n)))
            | inr some ↦ let seen = seen_at x (next x) n (omega arith) in absurd (first (suc seen.0) (omega arith) (omega (arith, seen.1)) seen.2)
          ]
          | inr other ↦ omega (arith, rest s, occurs_other s x (walk next (next x) n) other)
        ]

-- the numbers that pass are among the m from low on
module _ (test : ℕ → Bool) (low m : ℕ) (within : (x : ℕ) → test x ≡ true → (low ≤ x) × (x < low + m)) where
  -- what passes is in xs just once, if xs has nothing else, nothing twice, and as many numbers as pass
  pub once_each : (xs : List ℕ) → Apart xs → ((x : ℕ) → 0 < occurs x xs → test x ≡ true) → length xs ≡ passing_count test low m → (x : ℕ) → occurs x xs ≡ cond (test x) 1 0
  once_each xs apart pass all x = elim (cases_Bool (test x)) [
    | inl holds ↦ let there = within x holds in same_from_total (λ s. occurs s xs) (λ s. yes (test s)) low m le totals x there.0 there.1
    | inr fails ↦ omega (arith, le x, cond-false {A = ℕ} (test x) 1 0 fails)
  ]
    where
      le : (s : ℕ) → occurs s xs ≤ yes (test s)
      le s = elim (cases_Bool (test s)) [
        | inl holds ↦ omega (arith, apart s, cond-true {A = ℕ} (test s) 1 0 holds)
        | inr fails ↦ elim (cases_eq (occurs s xs) 0) [
          | inl none ↦ omega arith
          | inr some ↦ absurd (false≢true (sym fails ∙ pass s (omega arith)))
        ]
      ]

      totals : total (λ s. occurs s xs) low m ≡ total (λ s. yes (test s)) low m
      totals = total-occurs xs low m (λ s in_xs. within s (pass s in_xs)) ∙ all ∙ passing-total test low m

  pub member_passes : (xs : List ℕ) → ((x : ℕ) → occurs x xs ≡ cond (test x) 1 0) → (x : ℕ) → 0 < occurs x xs → test x ≡ true
  member_passes xs once x in_xs = elim (cases_Bool (test x)) [
    | inl holds ↦ holds
    | inr fails ↦ absurd (omega (arith, in_xs, once x, cond-false {A = ℕ} (test x) 1 0 fails))
  ]

  -- and a list that has just what passes, each once, is as long as numbers pass
  pub length_all : (xs : List ℕ) → ((x : ℕ) → occurs x xs ≡ cond (test x) 1 0) → length xs ≡ passing_count test low m
  length_all xs once = sym (total-occurs xs low m (λ s in_xs. within s (member_passes xs once s in_xs))) ∙ total-same (λ s. occurs s xs) (λ s. yes (test s)) low m (λ s from upto. once s) ∙ sym (passing-total test low m)

-- ---- a walk that is on its way

-- k steps from first have come to at, along links, and each number on the way passes; only the last may be first again
pub record Walks (next : ℕ → ℕ) (Link : ℕ → ℕ → Type 0) (test : ℕ → Bool) (first k at : ℕ) : Type 0 where
  pub along : Along next Link first k
  pub here : at ≡ after_steps next first k
  pub passes : (j : ℕ) → j ≤ k → test (after_steps next first j) ≡ true
  pub early : (j : ℕ) → 0 < j → j < k → after_steps next first j ≡ first → ⊥

module _ (next : ℕ → ℕ) (Link : ℕ → ℕ → Type 0) (test : ℕ → Bool) (first : ℕ) where
  walks_none : test first ≡ true → Walks next Link test first 0 first
  walks_none passes = record {
    along = tt;
    here = refl;
    passes = λ j low. let none : j ≡ 0 = omega arith in subst (λ n. test (after_steps next first n) ≡ true) (sym none) passes;
    early = λ j some low. absurd (omega arith);
  }

  walks_on : (k at y : ℕ) → Walks next Link test first k at → next at ≡ y → Link at y → test y ≡ true → (0 < k → at ≡ first → ⊥) → Walks next Link test first (suc k) y
  walks_on k at y walks step link passes not_back =
      let there : next (after_steps next first k) ≡ y = ap next (sym walks.here) ∙ step in
      let at_end : after_steps next first (suc k) ≡ y = after_more next first k ∙ there in
      record {
        along = along_more next Link first k walks.along (subst (Link (after_steps next first k)) (sym there) (subst (λ n. Link n y) walks.here link));
        here = sym at_end;
        passes = λ j low. elim (cases_eq j (suc k)) [
          | inl last ↦ subst (λ n. test n ≡ true) (sym (ap (after_steps next first) last ∙ at_end)) passes
          | inr before ↦ walks.passes j (omega arith)
        ];
        early = λ j some low back. elim (cases_eq j k) [
          | inl last ↦ not_back (omega arith) (walks.here ∙ ap (after_steps next first) (sym last) ∙ back)
          | inr before ↦ walks.early j some (omega arith) back
        ];
      }

  walks_more : (k at y : ℕ) → Walks next Link test first k at → next at ≡ y → Link at y → test y ≡ true → (0 < k → at ≡ first → ⊥) → Walks next Link test first (k + 1) y
  walks_more k at y walks step link passes not_back = let one : suc k ≡ k + 1 = omega arith in subst (λ n. Walks next Link test first n y) one (walks_on k at y walks step link passes not_back)

  walks_here : (k at : ℕ) → Walks next Link test first k at → test at ≡ true
  walks_here k at walks = subst (λ s. test s ≡ true) (sym walks.here) (walks.passes k (omega arith))

  -- the numbers that pass are among the m from low on
  module _ (fixed : OneToOne Link) (low m : ℕ) (within : (x : ℕ) → test x ≡ true → (low ≤ x) × (x < low + m)) where
    walk_passes : (n : ℕ) → ((k : ℕ) → k < n → test (after_steps next first k) ≡ true) → (x : ℕ) → 0 < occurs x (walk next first n) → test x ≡ true
    walk_passes n passes x in_walk = let seen = seen_at next x first n in_walk in subst (λ s. test s ≡ true) seen.2 (passes seen.0 seen.1)

    -- after as many steps as numbers pass, a walk that has not come back before has seen them all, and so it is back
    came_back : (n at : ℕ) → n ≡ passing_count test low m → Walks next Link test first n at → at ≡ first
    came_back n at all walks = go n (seen_at next at first n seen) walks.along walks.here apart
      where
        apart : Apart (walk next first n)
        apart = walk-apart next Link fixed first n walks.along walks.early

        seen : 0 < occurs at (walk next first n)
        seen = omega (arith, once_each test low m within (walk next first n) apart (walk_passes n (λ k before. walks.passes k (omega arith))) (length-walk next first n ∙ all) at, cond-true {A = ℕ} (test at) 1 0 (walks_here n at walks))

        go : (n : ℕ) → (k : ℕ) × (k < n) × (after_steps next first k ≡ at) → Along next Link first n → at ≡ after_steps next first n → Apart (walk next first n) → at ≡ first
        go zero seen along here apart = absurd (omega (arith, seen.1))
        go (suc n) (zero, before, same) along here apart = sym same
        go (suc n) (suc k, before, same) along here apart =
            let into = subst (Link (after_steps next first k)) (same ∙ here) (along_at next Link first (suc n) k along (omega arith)) in
            let again = fixed.prev (after_steps next first k) (after_steps next first n) (after_steps next first (suc n)) into (along_at next Link first (suc n) n along (omega arith)) in
            absurd (walk_differs next first (suc n) k n apart (omega arith) (omega arith) again)

    -- so it has seen the ring
    ring_found : (n at : ℕ) → test first ≡ true → n ≡ passing_count test low m → Walks next Link test first n at → HasRing Link test first
    ring_found zero at passes all walks = let there = within first passes in absurd (omega (arith, all, passing_some test low m first there.0 there.1 passes))
    ring_found (suc n) at passes all walks = (
      walk next first (suc n),
      record {
        once = once_each test low m within (walk next first (suc n)) (walk-apart next Link fixed first (suc n) walks.along walks.early) (walk_passes (suc n) (λ k low. walks.passes k (omega arith))) (length-walk next first (suc n) ∙ all);
        is_linked = Ring-walk next Link first n walks.along (sym walks.here ∙ came_back (suc n) at all walks);
        begins = refl;
      },
    )

    module _ (steps : (x y : ℕ) → Link x y → next x ≡ y) (passes : test first ≡ true) (n : ℕ) (all : n ≡ passing_count test low m) (xs : List ℕ) (ring : RingOf Link test first xs) where
      -- the ring is what the walk sees
      ring_seen : (walk next first n ≡ xs) × (after_steps next first n ≡ first) × Along next Link first n
      ring_seen = go xs ring.begins (length_all test low m within xs ring.once ∙ sym all) ring.is_linked (ring.once first ∙ cond-true {A = ℕ} (test first) 1 0 passes)
        where
          go : (ys : List ℕ) → first_of ys ≡ first → length ys ≡ n → Ring Link ys → occurs first ys ≡ 1 → (walk next first n ≡ ys) × (after_steps next first n ≡ first) × Along next Link first n
          go [] begins len linked once = absurd (omega arith)
          go (y ∷ ys) begins len linked once =
              let seen = walk-Ring next Link steps y ys linked in
              let longer : suc (length ys) ≡ n = omega (arith, len) in
              subst (λ k. (walk next first k ≡ y ∷ ys) × (after_steps next first k ≡ first) × Along next Link first k) longer
              (subst (λ z. (walk next z (suc (length ys)) ≡ y ∷ ys) × (after_steps next z (suc (length ys)) ≡ z) × Along next Link z (suc (length ys))) begins seen)

      ring_at : (k : ℕ) → k < n → test (after_steps next first k) ≡ true
      ring_at k before = member_passes test low m within xs ring.once (after_steps next first k) (subst (λ ys. 0 < occurs (after_steps next first k) ys) ring_seen.0 (occurs_at next first n k before))

      -- each step of a walk that is on its way goes along a link to a number that passes
      ring_step : (k at : ℕ) → Walks next Link test first k at → k < n → IsAfter Link test at (next at)
      ring_step k at walks more =
          let same : after_steps next first (suc k) ≡ next at = after_more next first k ∙ ap next (sym walks.here) in (
            subst (Link at) same (subst (λ s. Link s (after_steps next first (suc k))) (sym walks.here) (along_at next Link first n k ring_seen.2 more)),
            subst (λ s. test s ≡ true) same (elim (cases_eq (suc k) n) [
              | inl last ↦ subst (λ s. test s ≡ true) (sym (ap (after_steps next first) last ∙ ring_seen.1)) passes
              | inr before ↦ ring_at (suc k) (omega arith)
            ]),
          )

      ring_not_early : (k at : ℕ) → Walks next Link test first k at → 0 < k → k < n → at ≡ first → ⊥
      ring_not_early k at walks some before back = walk_differs next first n 0 k (subst Apart (sym ring_seen.0) (once_apart xs ring.once)) some before (sym back ∙ walks.here)
        where
          once_apart : (xs : List ℕ) → ((x : ℕ) → occurs x xs ≡ cond (test x) 1 0) → Apart xs
          once_apart xs once x = elim (cases_Bool (test x)) [
            | inl holds ↦ omega (arith, once x, cond-true {A = ℕ} (test x) 1 0 holds)
            | inr fails ↦ omega (arith, once x, cond-false {A = ℕ} (test x) 1 0 fails)
          ]

-- ---- a walk along a ring of slots or of blocks

-- links that fix both of their ends, and numbers that pass, which are among the m from low on
pub record Circuit : Type 1 where
  pub next : ℕ → ℕ
  pub Link : ℕ → ℕ → Type 0
  pub test : ℕ → Bool
  pub low : ℕ
  pub m : ℕ
  pub steps : (x y : ℕ) → Link x y → next x ≡ y
  pub fixed : OneToOne Link
  pub within : (x : ℕ) → test x ≡ true → (low ≤ x) × (x < low + m)

module _ (C : Circuit) (first : ℕ) where
  -- k steps from first have come to at
  abbrev pub Walk : ℕ → ℕ → Type 0
  Walk k at = Walks C.next C.Link C.test first k at

  pub walk_begins : C.test first ≡ true → Walk 0 first
  walk_begins here = walks_none C.next C.Link C.test first here

  pub walk_here : (k at : ℕ) → Walk k at → C.test at ≡ true
  walk_here k at walk = walks_here C.next C.Link C.test first k at walk

  pub walk_goes_on : (k at y : ℕ) → Walk k at → IsAfter C.Link C.test at y → (0 < k → at ≡ first → ⊥) → Walk (k + 1) y
  walk_goes_on k at y walk after not_back = walks_more C.next C.Link C.test first k at y walk (C.steps at y after.0) after.0 after.1 not_back

  module _ (here : C.test first ≡ true) (n : ℕ) (all : n ≡ passing_count C.test C.low C.m) where
    pub walk_ends : (at : ℕ) → Walk n at → HasRing C.Link C.test first
    walk_ends at walk = ring_found C.next C.Link C.test first C.fixed C.low C.m C.within n at here all walk

    pub walk_not_stuck : HasRing C.Link C.test first → (k at : ℕ) → Walk k at → k < n → ((y : ℕ) → ¬ IsAfter C.Link C.test at y) → ⊥
    walk_not_stuck has k at walk more stuck = stuck (C.next at) (ring_step C.next C.Link C.test first C.fixed C.low C.m C.within C.steps here n all has.0 has.1 k at walk more)

    pub walk_not_early : HasRing C.Link C.test first → (k at : ℕ) → Walk k at → 0 < k → k < n → at ≡ first → ⊥
    walk_not_early has k at walk some more = ring_not_early C.next C.Link C.test first C.fixed C.low C.m C.within C.steps here n all has.0 has.1 k at walk some more
