-- That a text has one list of its best cuts by a model, and that a tree decides it.
use Rattle.std.proofs.Common.{◌≡◌, ◌⊎◌, inl, inr, ℕ, zero, suc, ◌-◌, ◌^◌, ◌<◌, ◌≤◌, min, ℤ, List, [], ◌∷◌, drop, length, take, refl, sym, ap, subst, ◌∙◌, arith}
use Rattle.std.specs.List.{Contains}
use Rattle.std.proofs.lemmas.List.{length_push}
use Rattle.cedarwood.specs.Tree.{Tree}
use Rattle.cedarwood.specs.Queries.{front}
use Rattle.cedarwood.proofs.MemberLemmas.{contains_first_or_later, contains_here, contains_later, contains_none, either_part}
use Rattle.cedar_words.specs.Models.{cost_with}
use Rattle.cedar_words.specs.Ranked.{AreInOrder, AreWays, best_ways, IsBestCuts, IsCutBefore, kind_number, no_way}
use Rattle.cedar_words.specs.Tokens.{Token}
use Rattle.cedar_words.specs.declared.models.UnknownRun.{UnknownRun}
use Rattle.cedar_words.proofs.RankedLemmas.{ways_best_cuts}
use Rattle.cedar_words.proofs.RankLemmas.{Less, More}
use Rattle.cedar_words.proofs.TableLemmas.{ways_begin, ways_more}
use Rattle.cedar_replies.specs.Texts.{lists_by, model_cuts_of}

-- ---- of two cuts one at most comes before the other

less_once : {R S : Type 0} (a b : ℕ) → (R → S → ⊥) → Less a b R → Less b a S → ⊥
less_once a b f (inl h) (inl k) = absurd (omega (arith, h, k))
less_once a b f (inl h) (inr k) = let same = k.0 in absurd (omega (arith, h, same))
less_once a b f (inr h) (inl k) = let same = h.0 in absurd (omega (arith, same, k))
less_once a b f (inr h) (inr k) = f h.1 k.1

more_once : {R S : Type 0} (a b : ℕ) → (R → S → ⊥) → More a b R → More b a S → ⊥
more_once a b f (inl h) (inl k) = absurd (omega (arith, h, k))
more_once a b f (inl h) (inr k) = let same = k.0 in absurd (omega (arith, h, same))
more_once a b f (inr h) (inl k) = let same = h.0 in absurd (omega (arith, same, k))
more_once a b f (inr h) (inr k) = f h.1 k.1

comes_once : (key : ℤ → ℕ) (run : ℕ → UnknownRun) (a b : List Token) → IsCutBefore key run a b → IsCutBefore key run b a → ⊥
comes_once key run [] b h k = absurd h
comes_once key run (x ∷ a) [] h k = absurd h
comes_once key run (x ∷ a) (y ∷ b) h k =
    less_once (min (cost_with key run (x ∷ a)) (2 ^ 64 - 1)) (min (cost_with key run (y ∷ b)) (2 ^ 64 - 1))
    (more_once x.1 y.1 (less_once (kind_number x.2) (kind_number y.2) (comes_once key run a b))) h k

-- ---- of two lists in order, of which each has what the other has or is full of what comes before it

-- each of some cuts is among others, or these are so many and all come before it
abbrev pub AreAmong : (ℤ → ℕ) → (ℕ → UnknownRun) → ℕ → List (List Token) → List (List Token) → Type 0
AreAmong key run most cuts others =
    (one : List Token) → Contains cuts one → Contains others one ⊎ ((length others ≡ most) × ((other : List Token) → Contains others other → IsCutBefore key run other one))

module _ (key : ℤ → ℕ) (run : ℕ → UnknownRun) (most : ℕ) (x y : List Token) (xs ys : List (List Token)) (a : AreInOrder key run (x ∷ xs)) (b : AreInOrder key run (y ∷ ys)) (c : AreAmong key run most (x ∷ xs) (y ∷ ys)) (d : AreAmong key run most (y ∷ ys) (x ∷ xs)) where
  -- the second list's first one isn't before the first list's
  not_before : IsCutBefore key run y x → x ≡ y
  not_before before =
      either_part (d y (contains_here y ys))
      (λ held. either_part (contains_first_or_later x xs y held) (λ same. same) (λ more. absurd (comes_once key run y x before (a.0 y more))))
      (λ full. absurd (comes_once key run y x before (full.1 x (contains_here x xs))))

  -- so they begin with the same one
  same_first : x ≡ y
  same_first =
      either_part (c x (contains_here x xs))
      (λ held. either_part (contains_first_or_later y ys x held) (λ same. sym same) (λ more. not_before (b.0 x more)))
      (λ full. not_before (full.1 y (contains_here y ys)))

  -- and it is so of those behind it
  among_later : AreAmong key run (most - 1) xs ys
  among_later z inside =
      either_part (c z (contains_later x xs z inside))
      (λ held. either_part (contains_first_or_later y ys z held)
      (λ same. let twice = subst (λ w. IsCutBefore key run w z) (same_first ∙ same) (a.0 z inside) in absurd (comes_once key run z z twice twice))
      (λ more. inl more))
      (λ full. let size = full.0 in inr (omega (arith, size), λ w there. full.1 w (contains_later y ys w there)))

one_order : (key : ℤ → ℕ) (run : ℕ → UnknownRun) (most : ℕ) (xs ys : List (List Token)) → AreInOrder key run xs → AreInOrder key run ys → length xs ≤ most → length ys ≤ most
    → AreAmong key run most xs ys → AreAmong key run most ys xs → xs ≡ ys
one_order key run most [] [] a b few many c d = refl
one_order key run most [] (y ∷ ys) a b few many c d =
    either_part (d y (contains_here y ys)) (λ held. absurd (contains_none y held)) (λ full. let size = full.0 in absurd (omega (arith, size, many)))
one_order key run most (x ∷ xs) [] a b few many c d =
    either_part (c x (contains_here x xs)) (λ held. absurd (contains_none x held)) (λ full. let size = full.0 in absurd (omega (arith, size, few)))
one_order key run most (x ∷ xs) (y ∷ ys) a b few many c d =
    let later : xs ≡ ys =
    one_order key run (most - 1) xs ys a.1 b.1 (omega (arith, few)) (omega (arith, many)) (among_later key run most x y xs ys a b c d) (among_later key run most y x ys xs b a d c) in
    ap (λ first. first ∷ xs) (same_first key run most x y xs ys a b c d) ∙ ap (λ rest. y ∷ rest) later

-- ---- the best cuts that a tree decides

module _ (most : ℕ) (t : Tree) (key : ℤ → ℕ) (run : ℕ → UnknownRun) (text : List ℕ) where
  ways_so_far : (left : ℕ) → let table = lists_by (take most (no_way ∷ [])) (λ later fewer. best_ways most key later (run (length text - suc fewer)) (front t (drop (length text - suc fewer) text))) left in
      (length table ≡ suc left) × AreWays most t key run text table
  ways_so_far zero = (refl, ways_begin most t key run text (take most (no_way ∷ [])) refl)
  ways_so_far (suc left) =
      let fewer = ways_so_far left in
      let table = lists_by (take most (no_way ∷ [])) (λ later fewer. best_ways most key later (run (length text - suc fewer)) (front t (drop (length text - suc fewer) text))) left in
      let ways = best_ways most key table (run (length text - suc left)) (front t (drop (length text - suc left) text)) in
      let some : 0 < suc left = omega arith in
      (length_push table ways ∙ omega (arith, fewer.0), ways_more most t key run text table ways (suc left) some fewer.0 refl fewer.1)

  decided : IsBestCuts t key run text most (model_cuts_of most t key run text)
  decided =
      let all = ways_so_far (length text) in
      let table = lists_by (take most (no_way ∷ [])) (λ later fewer. best_ways most key later (run (length text - suc fewer)) (front t (drop (length text - suc fewer) text))) (length text) in
      ways_best_cuts most t key run text table all.1 (omega (arith, all.0))

  -- they are the only ones
  pub same_cuts : (cuts : List (List Token)) → IsBestCuts t key run text most cuts → cuts ≡ model_cuts_of most t key run text
  same_cuts cuts h =
      one_order key run most cuts (model_cuts_of most t key run text) h.ordered decided.ordered h.few decided.few (λ one c. decided.others one (h.are one c)) (λ one c. h.others one (decided.are one c))

  -- where none are wanted, none are the best
  pub no_cuts : (cuts : List (List Token)) → most ≡ 0 → cuts ≡ [] → IsBestCuts t key run text most cuts
  no_cuts cuts none empty =
      let nothing : IsBestCuts t key run text most [] = record {
        are = λ one c. absurd (contains_none one c);
        few = omega arith;
        ordered = tt;
        others = λ other is. inr (sym none, λ one c. absurd (contains_none one c));
      } in
      subst (IsBestCuts t key run text most) (sym empty) nothing
