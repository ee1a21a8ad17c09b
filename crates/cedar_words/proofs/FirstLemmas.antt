-- That the first of the best cuts of a text is the best cut.
use Rattle.std.proofs.Common.{◌≡◌, ℕ, zero, suc, ◌+◌, ◌-◌, ◌^◌, ◌<◌, ◌≤◌, min, ℤ, List, [], ◌∷◌, ◌++◌, drop, length, Option, Some, None, MatchOption, refl, sym, subst, ◌∙◌, arith}
use Rattle.std.proofs.lemmas.List.{length_push}
use Rattle.cedarwood.specs.Tree.{Tree}
use Rattle.cedarwood.specs.Queries.{front}
use Rattle.cedarwood.proofs.MemberLemmas.{contains_first_or_later, contains_here, either_part}
use Rattle.cedar_words.specs.Cuts.{IsAhead}
use Rattle.cedar_words.specs.Models.{cost_with, IsBestCut, IsCutFromBy, IsLeastFrom, IsLeastThroughout, price_by}
use Rattle.cedar_words.specs.ModelSteps.{AreCostsBy, AreCostsUpTo, best_by, best_cut_by, step_by}
use Rattle.cedar_words.specs.Ranked.{IsBestCuts, IsCutBefore, kind_number}
use Rattle.cedar_words.specs.Steps.{cut_along}
use Rattle.cedar_words.specs.Tokens.{Token}
use Rattle.cedar_words.specs.declared.models.UnknownRun.{UnknownRun}
use Rattle.cedar_words.proofs.ModelCutLemmas.{along_cut, along_least, along_throughout, cut_within, steps_best}
use Rattle.cedar_words.proofs.ModelStepLemmas.{costs_up}

-- a key where the other has one isn't before it
kinds_apart : (a b : Option ℤ) → kind_number a < kind_number b → MatchOption a (Unit {0}) (λ v. b ≡ Some v) → ⊥
kinds_apart None None low same = omega (arith, low)
kinds_apart None (Some w) low same = omega (arith, low)
kinds_apart (Some v) None low same = cc
kinds_apart (Some v) (Some w) low same = omega (arith, low)

-- a cut that costs the least from each token on does so as a whole
whole_least : (t : Tree) (key : ℤ → ℕ) (run : ℕ → UnknownRun) (text : List ℕ) (place : ℕ) (tokens : List Token) → IsLeastThroughout t key run text place tokens → IsLeastFrom t key run text place tokens
whole_least t key run text place [] least = λ other is. omega arith
whole_least t key run text place (x ∷ tokens) least = least.0

-- a token in front of what costs the least behind it costs no more than the same token in front of anything
in_front : (price c d : ℕ) → min c (2 ^ 64 - 1) ≤ d → min (price + c) (2 ^ 64 - 1) ≤ price + d
in_front price c d low = omega (arith, low)

module _ (t : Tree) (key : ℤ → ℕ) (run : ℕ → UnknownRun) (text costs : List ℕ) (are : AreCostsBy t key run text costs) where
  -- a token of a cut, and behind it what costs the least there
  abbrev rival : ℕ → ℕ → Token → List Token
  rival place left x = x ∷ cut_along (step_by t key run text costs) 0 (place + x.1) (left - x.1)

  rival_cut : (place left : ℕ) (x : Token) (tokens : List Token) → place + left ≡ length text → IsCutFromBy t run text place (x ∷ tokens) → IsCutFromBy t run text place (rival place left x)
  rival_cut place left x tokens end is =
      let more = cut_within t run text tokens (place + x.1) is.3 in
      let here : place + x.1 + 0 ≡ place + x.1 = omega arith in
      let later = subst (λ p. IsCutFromBy t run text p (cut_along (step_by t key run text costs) 0 (place + x.1) (left - x.1))) here (along_cut t key run text costs are 0 (place + x.1) (left - x.1) (omega arith) (omega (arith, more, end))) in
      (is.0, is.1, is.2, later)

  -- it costs no more than a cut with this token
  rival_low : (place left : ℕ) (x : Token) (tokens : List Token) → place + left ≡ length text → IsCutFromBy t run text place (x ∷ tokens) → min (cost_with key run (rival place left x)) (2 ^ 64 - 1) ≤ cost_with key run (x ∷ tokens)
  rival_low place left x tokens end is =
      let more = cut_within t run text tokens (place + x.1) is.3 in
      in_front (price_by key (run x.0).cost x.2) (cost_with key run (cut_along (step_by t key run text costs) 0 (place + x.1) (left - x.1))) (cost_with key run tokens)
      (along_least t key run text costs are (place + x.1) (left - x.1) (omega (arith, more, end)) tokens is.3)

  -- so it costs the least from each token on, if the cut costs no more than one that does
  rival_least : (place left : ℕ) (x : Token) (tokens other : List Token) → place + left ≡ length text → IsCutFromBy t run text place (x ∷ tokens) → IsLeastFrom t key run text place other
      → min (cost_with key run (x ∷ tokens)) (2 ^ 64 - 1) ≡ min (cost_with key run other) (2 ^ 64 - 1) → IsLeastThroughout t key run text place (rival place left x)
  rival_least place left x tokens other end is least same =
      let more = cut_within t run text tokens (place + x.1) is.3 in
      let low = rival_low place left x tokens end is in
      let here : place + x.1 + 0 ≡ place + x.1 = omega arith in
      let later = subst (λ p. IsLeastThroughout t key run text p (cut_along (step_by t key run text costs) 0 (place + x.1) (left - x.1))) here (along_throughout t key run text costs are 0 (place + x.1) (left - x.1) (omega arith) (omega (arith, more, end))) in
      (λ third there. (let lowest = least third there in omega (arith, low, same, lowest)), later)

  -- no cut comes before one that costs the least from each token on and is ahead of all of those
  none_before : (one other : List Token) (place left : ℕ) → place + left ≡ length text → IsCutFromBy t run text place one → IsCutFromBy t run text place other → IsLeastThroughout t key run text place other
      → ((third : List Token) → IsCutFromBy t run text place third → IsLeastThroughout t key run text place third → IsAhead other third) → IsCutBefore key run one other → ⊥
  none_before [] other place left end is there least ahead before = before
  none_before (x ∷ one) [] place left end is there least ahead before = before
  none_before (x ∷ one) (y ∷ other) place left end is there least ahead before =
      let more = cut_within t run text one (place + x.1) is.3 in
      let lowest = least.0 (x ∷ one) is in
      either_part before (λ less. omega (arith, less, lowest)) (λ same.
      let against : IsAhead (y ∷ other) (rival place left x) = ahead (rival place left x) (rival_cut place left x one end is) (rival_least place left x one (y ∷ other) end is least.0 same.0) in
      either_part same.1 (λ longer. either_part against (λ shorter. omega (arith, longer, shorter)) (λ as_long. let len = as_long.0 in omega (arith, longer, len)))
      (λ as_long.
      let len : x.1 ≡ y.1 = as_long.0 in
      either_part as_long.1
      (λ kinds. either_part against (λ shorter. omega (arith, len, shorter)) (λ matched. kinds_apart x.2 y.2 kinds matched.1))
      (λ alike. none_before one other (place + x.1) (left - x.1) (omega (arith, more, end)) is.3
      (subst (λ n. IsCutFromBy t run text (place + n) other) (sym len) there.3)
      (subst (λ n. IsLeastThroughout t key run text (place + n) other) (sym len) least.1)
      (λ third is_third least_third.
      let at : IsCutFromBy t run text (place + y.1) third = subst (λ n. IsCutFromBy t run text (place + n) third) len is_third in
      let behind : IsLeastThroughout t key run text (place + y.1) third = subst (λ n. IsLeastThroughout t key run text (place + n) third) len least_third in
      let low = in_front (price_by key (run y.0).cost y.2) (cost_with key run third) (cost_with key run other) (whole_least t key run text (place + y.1) third behind other there.3) in
      either_part (ahead (y ∷ third) (there.0, there.1, there.2, at) (λ fourth is_fourth. (let least_of_all = least.0 fourth is_fourth in omega (arith, low, least_of_all)), behind))
      (λ less. absurd (omega (arith, less)))
      (λ found. found.2)) alike.1)))

module _ (t : Tree) (key : ℤ → ℕ) (run : ℕ → UnknownRun) (text : List ℕ) where
  -- there are costs of the last bytes
  costs_of_last : (left : ℕ) → (costs : List ℕ) × (length costs ≡ suc left) × AreCostsUpTo t key run text costs
  costs_of_last zero = (0 ∷ [], refl, record { begin = refl; best = λ left some low. absurd (omega (arith, some, low)) })
  costs_of_last (suc left) =
      let fewer = costs_of_last left in
      let costs : List ℕ = fewer.0 in
      let cost : ℕ = (best_by key costs (run (length text - suc left)) (front t (drop (length text - suc left) text))).cost in
      let some : 0 < suc left = omega arith in
      (costs ++ cost ∷ [], length_push costs cost ∙ omega (arith, fewer.1), costs_up t key run text costs cost (suc left) some fewer.1 refl fewer.2)

  -- the first of the best cuts is the best
  pub first_is_best : (most : ℕ) (first : List Token) (cuts : List (List Token)) → IsBestCuts t key run text most (first ∷ cuts) → IsBestCut t key run text first
  first_is_best most first cuts h =
      let all = costs_of_last (length text) in
      let are : AreCostsBy t key run text all.0 = (omega (arith, all.1), all.2) in
      let best : List Token = best_cut_by t key run text all.0 in
      let is : IsBestCut t key run text best = steps_best t key run text all.0 are in
      let end : 0 + length text ≡ length text = omega arith in
      let never : IsCutBefore key run first best → ⊥ = none_before t key run text all.0 are first best 0 (length text) end (h.are first (contains_here first cuts)) is.cut is.throughout is.first in
      either_part (h.others best is.cut)
      (λ found. either_part (contains_first_or_later first cuts best found) (λ same. subst (IsBestCut t key run text) (sym same) is) (λ later. absurd (never (h.ordered.0 best later))))
      (λ full. absurd (never (full.1 first (contains_here first cuts))))
