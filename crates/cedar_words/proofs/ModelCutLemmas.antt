-- What the cut costs that the best steps by a model lead along, and that it is the best.
use Rattle.std.proofs.Common.{◌≡◌, ℕ, zero, suc, ◌+◌, ◌-◌, ◌^◌, ◌<◌, ◌≤◌, ◌⊎◌, inl, inr, min, ℤ, List, [], ◌∷◌, length, take, drop, Option, Some, None, MatchOption, Result, Ok, Err, IfOk, Vec, refl, sym, ap, subst, ◌∙◌, arith}
use Rattle.std.proofs.lemmas.List.{length-drop, length-take-le}
use Rattle.std.proofs.lemmas.Bool.Decides.{leb_tells}
use Rattle.cedarwood.specs.Tree.{Tree, number_at}
use Rattle.cedarwood.proofs.MemberLemmas.{either_part}
use Rattle.cedar_words.specs.Cuts.{IsAhead}
use Rattle.cedar_words.specs.Models.{cost_with, IsBestCut, IsCheapestByModel, IsCutFromBy, IsLeastFrom, IsLeastThroughout, IsPieceBy, MayRun, price_by, run_len}
use Rattle.cedar_words.specs.ModelSteps.{AreCostsBy, best_cut_by, step_by}
use Rattle.cedar_words.specs.Steps.{cost_at, cut_along}
use Rattle.cedar_words.specs.Tokens.{AreAdjacent, Token}
use Rattle.cedar_words.specs.declared.costs.Step.{Step}
use Rattle.cedar_words.specs.declared.models.UnknownRun.{UnknownRun}
use Rattle.cedar_words.proofs.CutLemmas.{within_first}
use Rattle.cedar_words.proofs.ModelStepLemmas.{best_is, found_key, IsBestBy}
use Rattle.cedar_words.proofs.StepLemmas.{along_step}

-- the best step over so many bytes of a text
abbrev pub IsBestAt : Tree → (ℤ → ℕ) → (ℕ → UnknownRun) → List ℕ → List ℕ → ℕ → Type 0
IsBestAt t key run text costs left = IsBestBy t key (run (length text - left)) (take left costs) (drop (length text - left) text) (step_by t key run text costs left)

pub best_at : (t : Tree) (key : ℤ → ℕ) (run : ℕ → UnknownRun) (text costs : List ℕ) → length costs ≡ length text + 1 → (left : ℕ) → 0 < left → left ≤ length text → IsBestAt t key run text costs left
best_at t key run text costs len left some within =
    let all : length (take left costs) ≡ left = length-take-le left costs (omega (arith, len, within)) in
    let bytes : length (drop (length text - left) text) ≡ left = length-drop (length text - left) text ∙ omega (arith, within) in
    best_is t key (run (length text - left)) (take left costs) (drop (length text - left) text) (omega (arith, all, some)) (all ∙ sym bytes)

pub record IsStepAt (t : Tree) (key : ℤ → ℕ) (run : ℕ → UnknownRun) (text costs : List ℕ) (left : ℕ) : Type 0 where
  pub some : 0 < (step_by t key run text costs left).len
  pub within : (step_by t key run text costs left).len ≤ left
  pub piece : MatchOption (step_by t key run text costs left).value (((step_by t key run text costs left).len ≡ run_len (length (drop (length text - left) text)) (run (length text - left))) × MayRun t (drop (length text - left) text) (run (length text - left))) (λ v. number_at t (take (step_by t key run text costs left).len (drop (length text - left) text)) ≡ Some v)
  pub cost : cost_at costs left ≡ min (price_by key (run (length text - left)).cost (step_by t key run text costs left).value + cost_at costs (left - (step_by t key run text costs left).len)) (2 ^ 64 - 1)

pub step_is : (t : Tree) (key : ℤ → ℕ) (run : ℕ → UnknownRun) (text costs : List ℕ) → AreCostsBy t key run text costs → (left : ℕ) → 0 < left → left ≤ length text → IsStepAt t key run text costs left
step_is t key run text costs are left some within =
    let len = are.0 in
    let low : left < length costs = omega (arith, len, within) in
    let all : length (take left costs) ≡ left = length-take-le left costs (omega (arith, low)) in
    let step = step_by t key run text costs left in
    let best : IsBestAt t key run text costs left = best_at t key run text costs len left some within in
    let inside : step.len ≤ left = (let w = best.is.within in omega (arith, w, all)) in
    record {
      some = best.is.some;
      within = inside;
      piece = best.is.piece;
      cost = are.1.best left some low ∙ best.is.costs ∙ ap (λ (c : ℕ). min (price_by key (run (length text - left)).cost step.value + c) (2 ^ 64 - 1)) (within_first costs left step.len best.is.some inside low);
    }

pub step_here : (t : Tree) (key : ℤ → ℕ) (run : ℕ → UnknownRun) (text costs : List ℕ) (place : ℕ) → place < length text → AreCostsBy t key run text costs → IsStepAt t key run text costs (length text - place)
step_here t key run text costs place within are = step_is t key run text costs are (length text - place) (omega (arith, within)) (omega arith)

-- the tokens that they lead along are a cut
pub along_cut : (t : Tree) (key : ℤ → ℕ) (run : ℕ → UnknownRun) (text costs : List ℕ) → AreCostsBy t key run text costs → (k place left : ℕ) → k ≤ left → place + left ≡ length text
    → IsCutFromBy t run text (place + k) (cut_along (step_by t key run text costs) k place left)
along_cut t key run text costs are k place zero low end = omega (arith, low, end)
along_cut t key run text costs are (suc k) place (suc left) low end =
    let here : place + 1 + k ≡ place + suc k = omega arith in
    subst (λ p. IsCutFromBy t run text p (cut_along (step_by t key run text costs) k (place + 1) left)) here (along_cut t key run text costs are k (place + 1) left (omega (arith, low)) (omega (arith, end)))
along_cut t key run text costs are zero place (suc left) low end =
    let step = step_by t key run text costs (suc left) in
    let is = step_is t key run text costs are (suc left) (omega arith) (omega (arith, end)) in
    let some = is.some in
    let within = is.within in
    let at : length text - suc left ≡ place + 0 = omega (arith, end) in
    let behind : place + 1 + (step.len - 1) ≡ place + 0 + step.len = omega (arith, some) in
    let more = along_cut t key run text costs are (step.len - 1) (place + 1) left (omega (arith, within)) (omega (arith, end)) in (
      omega arith,
      some,
      subst (λ p. IsPieceBy t (run p) (drop p text) (place, step.len, step.value)) at is.piece,
      subst (λ p. IsCutFromBy t run text p (cut_along (step_by t key run text costs) (step.len - 1) (place + 1) left)) behind more,
    )

-- they cost what the first step says
pub joined : (p c after cost : ℕ) → min c (2 ^ 64 - 1) ≡ after → cost ≡ min (p + after) (2 ^ 64 - 1) → min (p + c) (2 ^ 64 - 1) ≡ cost
joined p c after cost more costs = omega (arith, more, costs)

along_costs : (t : Tree) (key : ℤ → ℕ) (run : ℕ → UnknownRun) (text costs : List ℕ) → AreCostsBy t key run text costs → (k place left : ℕ) → k ≤ left → place + left ≡ length text
    → min (cost_with key run (cut_along (step_by t key run text costs) k place left)) (2 ^ 64 - 1) ≡ cost_at costs (left - k)
along_costs t key run text costs are k place zero low end =
    let none : 0 ≡ 0 - k = omega arith in
    sym are.1.begin ∙ ap (λ n. cost_at costs n) none
along_costs t key run text costs are (suc k) place (suc left) low end =
    let less : left - k ≡ suc left - suc k = omega arith in
    along_costs t key run text costs are k (place + 1) left (omega (arith, low)) (omega (arith, end)) ∙ ap (λ n. cost_at costs n) less
along_costs t key run text costs are zero place (suc left) low end =
    let step = step_by t key run text costs (suc left) in
    let is = step_is t key run text costs are (suc left) (omega arith) (omega (arith, end)) in
    let some = is.some in
    let within = is.within in
    let less : left - (step.len - 1) ≡ suc left - step.len = omega (arith, some) in
    let more = along_costs t key run text costs are (step.len - 1) (place + 1) left (omega (arith, within)) (omega (arith, end)) ∙ ap (λ n. cost_at costs n) less in
    let at : length text - suc left ≡ place = omega (arith, end) in
    let own = subst (λ p. cost_at costs (suc left) ≡ min (price_by key (run p).cost step.value + cost_at costs (suc left - step.len)) (2 ^ 64 - 1)) at is.cost in
    joined (price_by key (run place).cost step.value) (cost_with key run (cut_along (step_by t key run text costs) (step.len - 1) (place + 1) left)) (cost_at costs (suc left - step.len)) (cost_at costs (suc left)) more own
    ∙ (let all : suc left ≡ suc left - 0 = omega arith in ap (λ n. cost_at costs n) all)

-- a cut's tokens end within the text
pub cut_within : (t : Tree) (run : ℕ → UnknownRun) (text : List ℕ) (tokens : List Token) (place : ℕ) → IsCutFromBy t run text place tokens → place ≤ length text
cut_within t run text [] place is = omega (arith, is)
cut_within t run text (x ∷ tokens) place is = let later = cut_within t run text tokens (place + x.1) is.3 in omega (arith, later)

-- what is known of a token where it is held against the best step there
record IsPieceBeside (t : Tree) (key : ℤ → ℕ) (run : UnknownRun) (later rest : List ℕ) (step : Step) (n : ℕ) (value : Option ℤ) : Type 0 where
  pub dear : step.cost ≤ price_by key run.cost value + cost_at later (length later - n)
  pub ahead : min (price_by key run.cost value + cost_at later (length later - n)) (2 ^ 64 - 1) ≤ step.cost → (n < step.len) ⊎ ((step.len ≡ n) × MatchOption value (Unit {0}) (λ v. step.value ≡ Some v))

low_or_same : (a b : ℕ) → a ≤ b → (a < b) ⊎ (b ≡ a)
low_or_same a b h = elim (leb_tells b a) [
  | inl is ↦ let low = is.1 in inr (omega (arith, h, low))
  | inr isnt ↦ inl isnt.1
]

piece_beside : (t : Tree) (key : ℤ → ℕ) (run : UnknownRun) (later rest : List ℕ) (step : Step) → IsBestBy t key run later rest step → length later ≡ length rest → (n : ℕ) (value : Option ℤ) → 0 < n → n ≤ length rest
    → MatchOption value ((n ≡ run_len (length rest) run) × MayRun t rest run) (λ v. number_at t (take n rest) ≡ Some v) → IsPieceBeside t key run later rest step n value
piece_beside t key run later rest step best same n None some within piece =
    let len : n ≡ run_len (length later) run = piece.0 ∙ ap (λ m. run_len m run) (sym same) in
    let low = best.least_run piece.1 in
    let long = best.longest_run piece.1 in
    subst (λ m. IsPieceBeside t key run later rest step m None) (sym len) record {
      dear = omega (arith, low);
      ahead = λ cheap. (let more : run_len (length later) run ≤ step.len = long cheap in elim (low_or_same (run_len (length later) run) step.len more) [
        | inl less ↦ inl less
        | inr as_many ↦ inr (as_many, tt)
      ]);
    }
piece_beside t key run later rest step best same n (Some v) some within held =
    let one : n - 1 + 1 ≡ n = omega (arith, some) in
    let found = found_key t rest v n some within held in
    let low = best.least_key (v, n - 1) found in
    let long = best.longest_key (v, n - 1) found in
    subst (λ m. IsPieceBeside t key run later rest step m (Some v)) one record {
      dear = omega (arith, low);
      ahead = λ cheap. either_part (long cheap) (λ is. inr (ap (λ (s : Step). s.len) is, ap (λ (s : Step). s.value) is)) (λ more. inl more);
    }

-- of a cut from a position on, what is known of its first token
record IsFirst (t : Tree) (key : ℤ → ℕ) (run : ℕ → UnknownRun) (text costs : List ℕ) (place left : ℕ) (x : Token) : Type 0 where
  pub within : x.1 ≤ left
  pub cost : cost_at costs left ≤ price_by key (run place).cost x.2 + cost_at costs (left - x.1)
  pub ahead : min (price_by key (run place).cost x.2 + cost_at costs (left - x.1)) (2 ^ 64 - 1) ≤ cost_at costs left
      → (x.1 < (step_by t key run text costs left).len) ⊎ (((step_by t key run text costs left).len ≡ x.1) × MatchOption x.2 (Unit {0}) (λ v. (step_by t key run text costs left).value ≡ Some v))

first_is : (t : Tree) (key : ℤ → ℕ) (run : ℕ → UnknownRun) (text costs : List ℕ) → AreCostsBy t key run text costs → (place left : ℕ) → place + left ≡ length text → (x : Token) (tokens : List Token)
    → IsCutFromBy t run text place (x ∷ tokens) → IsFirst t key run text costs place left x
first_is t key run text costs are place left end x tokens is =
    let len = are.0 in
    let some : 0 < x.1 = is.1 in
    let more = cut_within t run text tokens (place + x.1) is.3 in
    let within : x.1 ≤ left = omega (arith, more, end) in
    let low : left < length costs = omega (arith, len, end) in
    let later : List ℕ = take left costs in
    let rest : List ℕ = drop (length text - left) text in
    let at : place ≡ length text - left = omega (arith, end) in
    let all : length later ≡ left = length-take-le left costs (omega (arith, low)) in
    let bytes : length rest ≡ left = length-drop (length text - left) text ∙ omega (arith, end) in
    let one : UnknownRun = run (length text - left) in
    let step : Step = step_by t key run text costs left in
    let best : IsBestAt t key run text costs left = best_at t key run text costs len left (omega (arith, within, some)) (omega (arith, end)) in
    let own : cost_at costs left ≡ step.cost = are.1.best left (omega (arith, within, some)) low in
    let behind : cost_at later (length later - x.1) ≡ cost_at costs (left - x.1) = within_first costs left x.1 some within low in
    let piece : IsPieceBy t one rest x = subst (λ p. IsPieceBy t (run p) (drop p text) x) at is.2 in
    let beside : IsPieceBeside t key one later rest step x.1 x.2 = piece_beside t key one later rest step best (all ∙ sym bytes) x.1 x.2 some (omega (arith, within, bytes)) piece in
    record {
      within = within;
      cost = subst (λ p. cost_at costs left ≤ price_by key (run p).cost x.2 + cost_at costs (left - x.1)) (sym at)
          (subst (λ c. c ≤ price_by key one.cost x.2 + cost_at costs (left - x.1)) (sym own) (subst (λ c. step.cost ≤ price_by key one.cost x.2 + c) behind beside.dear));
      ahead = subst (λ p. min (price_by key (run p).cost x.2 + cost_at costs (left - x.1)) (2 ^ 64 - 1) ≤ cost_at costs left → (x.1 < step.len) ⊎ ((step.len ≡ x.1) × MatchOption x.2 (Unit {0}) (λ v. step.value ≡ Some v))) (sym at)
          (λ cheap. beside.ahead (subst (λ c. min (price_by key one.cost x.2 + c) (2 ^ 64 - 1) ≤ step.cost) (sym behind) (subst (λ c. min (price_by key one.cost x.2 + cost_at costs (left - x.1)) (2 ^ 64 - 1) ≤ c) own cheap)));
    }

-- no cut costs less than the first step says
cut_least : (t : Tree) (key : ℤ → ℕ) (run : ℕ → UnknownRun) (text costs : List ℕ) → AreCostsBy t key run text costs → (tokens : List Token) (place left : ℕ) → place + left ≡ length text → IsCutFromBy t run text place tokens
    → cost_at costs left ≤ cost_with key run tokens
cut_least t key run text costs are [] place left end is =
    let none : left ≡ 0 = omega (arith, end, is) in
    let free = are.1.begin in
    subst (λ n. cost_at costs n ≤ 0) (sym none) (omega (arith, free))
cut_least t key run text costs are (x ∷ tokens) place left end is =
    let first = first_is t key run text costs are place left end x tokens is in
    let within = first.within in
    let dear = first.cost in
    let more = cut_least t key run text costs are tokens (place + x.1) (left - x.1) (omega (arith, end, within)) is.3 in
    let same : price_by key (run x.0).cost x.2 ≡ price_by key (run place).cost x.2 = ap (λ p. price_by key (run p).cost x.2) is.0 in
    omega (arith, dear, more, same)

-- from each of their tokens on the best steps' tokens cost the least
pub along_least : (t : Tree) (key : ℤ → ℕ) (run : ℕ → UnknownRun) (text costs : List ℕ) → AreCostsBy t key run text costs → (place left : ℕ) → place + left ≡ length text
    → IsLeastFrom t key run text place (cut_along (step_by t key run text costs) 0 place left)
along_least t key run text costs are place left end other is =
    let all : left - 0 ≡ left = omega arith in
    let same = along_costs t key run text costs are 0 place left (omega arith) end ∙ ap (λ n. cost_at costs n) all in
    let least = cut_least t key run text costs are other place left end is in
    omega (arith, same, least)

pub along_throughout : (t : Tree) (key : ℤ → ℕ) (run : ℕ → UnknownRun) (text costs : List ℕ) → AreCostsBy t key run text costs → (k place left : ℕ) → k ≤ left → place + left ≡ length text
    → IsLeastThroughout t key run text (place + k) (cut_along (step_by t key run text costs) k place left)
along_throughout t key run text costs are k place zero low end = tt
along_throughout t key run text costs are (suc k) place (suc left) low end =
    let here : place + 1 + k ≡ place + suc k = omega arith in
    subst (λ p. IsLeastThroughout t key run text p (cut_along (step_by t key run text costs) k (place + 1) left)) here (along_throughout t key run text costs are k (place + 1) left (omega (arith, low)) (omega (arith, end)))
along_throughout t key run text costs are zero place (suc left) low end =
    let step = step_by t key run text costs (suc left) in
    let is = step_is t key run text costs are (suc left) (omega arith) (omega (arith, end)) in
    let some = is.some in
    let within = is.within in
    let here : place ≡ place + 0 = omega arith in
    let behind : place + 1 + (step.len - 1) ≡ place + 0 + step.len = omega (arith, some) in
    let more = along_throughout t key run text costs are (step.len - 1) (place + 1) left (omega (arith, within)) (omega (arith, end)) in (
      subst (λ p. IsLeastFrom t key run text p (cut_along (step_by t key run text costs) 0 place (suc left))) here (along_least t key run text costs are place (suc left) end),
      subst (λ p. IsLeastThroughout t key run text p (cut_along (step_by t key run text costs) (step.len - 1) (place + 1) left)) behind more,
    )

-- a cut that costs the least from its first token on costs, as far as sums count, what the first step says
least_costs : (t : Tree) (key : ℤ → ℕ) (run : ℕ → UnknownRun) (text costs : List ℕ) → AreCostsBy t key run text costs → (other : List Token) (place left : ℕ) → place + left ≡ length text
    → IsLeastFrom t key run text place other → min (cost_with key run other) (2 ^ 64 - 1) ≤ cost_at costs left
least_costs t key run text costs are other place left end least =
    let all : left - 0 ≡ left = omega arith in
    let here : place + 0 ≡ place = omega arith in
    let same = along_costs t key run text costs are 0 place left (omega arith) end ∙ ap (λ n. cost_at costs n) all in
    let cut : IsCutFromBy t run text place (cut_along (step_by t key run text costs) 0 place left) = subst (λ p. IsCutFromBy t run text p (cut_along (step_by t key run text costs) 0 place left)) here (along_cut t key run text costs are 0 place left (omega arith) end) in
    let low = least (cut_along (step_by t key run text costs) 0 place left) cut in
    omega (arith, same, low)

-- such a cut isn't ahead
cut_ahead : (t : Tree) (key : ℤ → ℕ) (run : ℕ → UnknownRun) (text costs : List ℕ) → AreCostsBy t key run text costs → (other : List Token) (place left : ℕ) → place + left ≡ length text → IsCutFromBy t run text place other
    → IsLeastThroughout t key run text place other → IsAhead (cut_along (step_by t key run text costs) 0 place left) other
cut_ahead t key run text costs are other place zero end is least = tt
cut_ahead t key run text costs are [] place (suc left) end is least = absurd (omega (arith, end, is))
cut_ahead t key run text costs are (x ∷ other) place (suc left) end is least =
    let step = step_by t key run text costs (suc left) in
    let own = step_is t key run text costs are (suc left) (omega arith) (omega (arith, end)) in
    let first = first_is t key run text costs are place (suc left) end x other is in
    let within = first.within in
    let behind : place + x.1 + (suc left - x.1) ≡ length text = omega (arith, end, within) in
    let later = cut_least t key run text costs are other (place + x.1) (suc left - x.1) behind is.3 in
    let whole = least_costs t key run text costs are (x ∷ other) place (suc left) end least.0 in
    let here : price_by key (run x.0).cost x.2 ≡ price_by key (run place).cost x.2 = ap (λ p. price_by key (run p).cost x.2) is.0 in
    let more = cut_ahead t key run text costs are other (place + x.1) (suc left - x.1) behind is.3 least.1 in
    subst (λ ts. IsAhead ts (x ∷ other)) (sym (along_step (step_by t key run text costs) place (suc left) step (omega arith) refl own.some))
    (elim (first.ahead (omega (arith, whole, later, here))) [
      | inl longer ↦ inl longer
      | inr same ↦ inr (same.0, same.1, subst (λ n. IsAhead (cut_along (step_by t key run text costs) 0 (place + n) (suc left - n)) other) (sym same.0) more)
    ])

-- a cut that costs no more than the first step says costs the least from each token on
cheap_throughout : (t : Tree) (key : ℤ → ℕ) (run : ℕ → UnknownRun) (text costs : List ℕ) → AreCostsBy t key run text costs → (other : List Token) (place left : ℕ) → place + left ≡ length text → IsCutFromBy t run text place other
    → cost_with key run other ≤ cost_at costs left → IsLeastThroughout t key run text place other
cheap_throughout t key run text costs are [] place left end is cheap = tt
cheap_throughout t key run text costs are (x ∷ other) place left end is cheap =
    let first = first_is t key run text costs are place left end x other is in
    let within = first.within in
    let dear = first.cost in
    let here : price_by key (run x.0).cost x.2 ≡ price_by key (run place).cost x.2 = ap (λ p. price_by key (run p).cost x.2) is.0 in
    let behind : place + x.1 + (left - x.1) ≡ length text = omega (arith, end, within) in (
      λ rival there. (let least = cut_least t key run text costs are rival place left end there in omega (arith, least, cheap)),
      cheap_throughout t key run text costs are other (place + x.1) (left - x.1) behind is.3 (omega (arith, dear, cheap, here)),
    )

-- so the tokens along the best steps are the best cut
pub steps_best : (t : Tree) (key : ℤ → ℕ) (run : ℕ → UnknownRun) (text costs : List ℕ) → AreCostsBy t key run text costs → IsBestCut t key run text (best_cut_by t key run text costs)
steps_best t key run text costs are =
    let all : length text - 0 ≡ length text = omega arith in
    let end : 0 + length text ≡ length text = omega arith in
    let same = along_costs t key run text costs are 0 0 (length text) (omega arith) end ∙ ap (λ n. cost_at costs n) all in
    record {
      cut = along_cut t key run text costs are 0 0 (length text) (omega arith) end;
      least = along_least t key run text costs are 0 (length text) end;
      ahead = λ other is cheap. cut_ahead t key run text costs are other 0 (length text) end is (cheap_throughout t key run text costs are other 0 (length text) end is (subst (λ c. cost_with key run other ≤ c) same cheap));
      throughout = along_throughout t key run text costs are 0 0 (length text) (omega arith) end;
      first = λ other is least. cut_ahead t key run text costs are other 0 (length text) end is least;
    }

-- what is found, in a vector, by costs that are handed on as a slice
pub best_found : {A E : Type 0} (t : Tree) (key : ℤ → ℕ) (run : ℕ → UnknownRun) (text slice costs : List ℕ) (result : Result (Vec Token A) E) → slice ≡ costs → AreCostsBy t key run text costs
    → IfOk result (λ tokens. tokens.items ≡ best_cut_by t key run text slice) → IfOk result (λ tokens. IsBestCut t key run text tokens.items)
best_found t key run text slice costs (Ok tokens) same are is = subst (IsBestCut t key run text) (sym (is ∙ ap (λ s. best_cut_by t key run text s) same)) (steps_best t key run text costs are)
best_found t key run text slice costs (Err e) same are is = tt

-- a best cut that costs less than 2 ^ 64 is the cheapest
pub best_cheapest : (t : Tree) (key : ℤ → ℕ) (run : ℕ → UnknownRun) (text : List ℕ) (tokens : List Token) → IsBestCut t key run text tokens → cost_with key run tokens < 2 ^ 64 → IsCheapestByModel t key run text tokens
best_cheapest t key run text tokens best low = record {
  cut = best.cut;
  least = λ other there. (let least = best.least other there in omega (arith, least, low));
  ahead = λ other there cheap. best.ahead other there (omega (arith, cheap, low));
}

-- cuts by a model cover their texts
pub cut_covers_by : (t : Tree) (run : ℕ → UnknownRun) (text : List ℕ) (tokens : List Token) (place : ℕ) → IsCutFromBy t run text place tokens → AreAdjacent tokens place (length text)
cut_covers_by t run text [] place is = is
cut_covers_by t run text (x ∷ tokens) place is = (is.0, is.1, cut_covers_by t run text tokens (place + x.1) is.3)
