-- What the cut costs that the best steps lead along.
use Rattle.std.proofs.Common.{◌≡◌, ℕ, zero, suc, ◌+◌, ◌-◌, ◌*◌, ◌^◌, ◌<◌, ◌≤◌, ◌⊎◌, inl, inr, min, nat_le, cond, true, false, slice_index_or, ℤ, List, [], ◌∷◌, length, take, drop, Option, Some, None, MatchOption, Result, Ok, Err, IfOk, Vec, refl, sym, ap, subst, ◌∙◌, arith}
use Rattle.std.proofs.lemmas.List.{get_or-take, length-drop, length-take-le}
use Rattle.std.proofs.lemmas.Bool.Decides.{eqb_tells}
use Rattle.cedarwood.specs.Tree.{Tree, number_at}
use Rattle.cedarwood.specs.Queries.{front}
use Rattle.cedar_words.specs.Cuts.{character_price, cost_by, IsAhead, IsAheadCapped, IsCheapestBy, IsCut, IsCutFrom, IsLeastCapped, IsPiece, price}
use Rattle.cedar_words.specs.Steps.{AreCosts, best_cut, best_of, cost_at, cut_along, IsFoundBy, step_at}
use Rattle.cedar_words.specs.Tokens.{Token}
use Rattle.cedar_words.proofs.StepLemmas.{along_step, best_least_byte, best_least_key, best_longest_key, best_over, IsStepOver}

-- the step over so many bytes of a text
pub record IsStepAt (t : Tree) (u : ℕ → ℕ) (text costs : List ℕ) (left : ℕ) : Type 0 where
  pub some : 0 < (step_at t u text costs left).len
  pub within : (step_at t u text costs left).len ≤ left
  pub piece : MatchOption (step_at t u text costs left).value ((step_at t u text costs left).len ≡ 1) (λ v. number_at t (take (step_at t u text costs left).len (drop (length text - left) text)) ≡ Some v)
  pub cost : cost_at costs left ≡ min (price (u (length text - left)) (step_at t u text costs left).value + cost_at costs (left - (step_at t u text costs left).len)) (2 ^ 64 - 1)

-- among the first costs that of fewer bytes is the same
pub within_first : (costs : List ℕ) (left n : ℕ) → 0 < n → n ≤ left → left < length costs → cost_at (take left costs) (length (take left costs) - n) ≡ cost_at costs (left - n)
within_first costs left n some within low =
    let all : length (take left costs) ≡ left = length-take-le left costs (omega (arith, low)) in
    ap (λ m. cost_at (take left costs) (m - n)) all ∙ get_or-take left costs (left - n) 0 (omega (arith, some, within))

pub step_is : (t : Tree) (u : ℕ → ℕ) (text costs : List ℕ) → AreCosts t u text costs → (left : ℕ) → 0 < left → left ≤ length text → IsStepAt t u text costs left
step_is t u text costs are left some within =
    let len = are.0 in
    let low : left < length costs = omega (arith, len, within) in
    let later : List ℕ = take left costs in
    let rest : List ℕ = drop (length text - left) text in
    let all : length later ≡ left = length-take-le left costs (omega (arith, low)) in
    let bytes : length rest ≡ left = length-drop (length text - left) text ∙ omega (arith, within) in
    let step = step_at t u text costs left in
    let over : IsStepOver t (u (length text - left)) later rest step = best_over t (u (length text - left)) later rest (omega (arith, all, some)) (all ∙ sym bytes) in
    let inside : step.len ≤ left = (let w = over.within in omega (arith, w, all)) in
    record {
      some = over.some;
      within = inside;
      piece = over.piece;
      cost = are.1.best left some low ∙ over.costs ∙ ap (λ (c : ℕ). min (price (u (length text - left)) step.value + c) (2 ^ 64 - 1)) (within_first costs left step.len over.some inside low);
    }

-- the tokens that they lead along are a cut
along_cut : (t : Tree) (u : ℕ → ℕ) (text costs : List ℕ) → AreCosts t u text costs → (k place left : ℕ) → k ≤ left → place + left ≡ length text
    → IsCutFrom t text (place + k) (cut_along (step_at t u text costs) k place left)
along_cut t u text costs are k place zero low end = omega (arith, low, end)
along_cut t u text costs are (suc k) place (suc left) low end =
    let here : place + 1 + k ≡ place + suc k = omega arith in
    subst (λ p. IsCutFrom t text p (cut_along (step_at t u text costs) k (place + 1) left)) here (along_cut t u text costs are k (place + 1) left (omega (arith, low)) (omega (arith, end)))
along_cut t u text costs are zero place (suc left) low end =
    let step = step_at t u text costs (suc left) in
    let is = step_is t u text costs are (suc left) (omega arith) (omega (arith, end)) in
    let some = is.some in
    let within = is.within in
    let at : length text - suc left ≡ place + 0 = omega (arith, end) in
    let behind : place + 1 + (step.len - 1) ≡ place + 0 + step.len = omega (arith, some) in
    let more = along_cut t u text costs are (step.len - 1) (place + 1) left (omega (arith, within)) (omega (arith, end)) in (
      omega arith,
      some,
      subst (λ p. IsPiece t (drop p text) (place, step.len, step.value)) at is.piece,
      subst (λ p. IsCutFrom t text p (cut_along (step_at t u text costs) (step.len - 1) (place + 1) left)) behind more,
    )

pub steps_cut : (t : Tree) (u : ℕ → ℕ) (text costs : List ℕ) → AreCosts t u text costs → IsCut t text (best_cut t u text costs)
steps_cut t u text costs are = along_cut t u text costs are 0 0 (length text) (omega arith) (omega arith)

-- they cost what the first step says
along_costs : (t : Tree) (u : ℕ → ℕ) (text costs : List ℕ) → AreCosts t u text costs → (k place left : ℕ) → k ≤ left → place + left ≡ length text
    → min (cost_by u (cut_along (step_at t u text costs) k place left)) (2 ^ 64 - 1) ≡ cost_at costs (left - k)
along_costs t u text costs are k place zero low end =
    let none : 0 ≡ 0 - k = omega arith in
    sym are.1.begin ∙ ap (λ n. cost_at costs n) none
along_costs t u text costs are (suc k) place (suc left) low end =
    let less : left - k ≡ suc left - suc k = omega arith in
    along_costs t u text costs are k (place + 1) left (omega (arith, low)) (omega (arith, end)) ∙ ap (λ n. cost_at costs n) less
along_costs t u text costs are zero place (suc left) low end =
    let step = step_at t u text costs (suc left) in
    let is = step_is t u text costs are (suc left) (omega arith) (omega (arith, end)) in
    let some = is.some in
    let within = is.within in
    let less : left - (step.len - 1) ≡ suc left - step.len = omega (arith, some) in
    let more = along_costs t u text costs are (step.len - 1) (place + 1) left (omega (arith, within)) (omega (arith, end)) ∙ ap (λ n. cost_at costs n) less in
    let at : length text - suc left ≡ place = omega (arith, end) in
    let own = subst (λ p. cost_at costs (suc left) ≡ min (price (u p) step.value + cost_at costs (suc left - step.len)) (2 ^ 64 - 1)) at is.cost in
    joined (price (u place) step.value) (cost_by u (cut_along (step_at t u text costs) (step.len - 1) (place + 1) left)) (cost_at costs (suc left - step.len)) (cost_at costs (suc left)) more own
    ∙ (let all : suc left ≡ suc left - 0 = omega arith in ap (λ n. cost_at costs n) all)
  where
    joined : (p c after cost : ℕ) → min c (2 ^ 64 - 1) ≡ after → cost ≡ min (p + after) (2 ^ 64 - 1) → min (p + c) (2 ^ 64 - 1) ≡ cost
    joined p c after cost more costs = omega (arith, more, costs)

-- a cut's tokens end within the text
pub cut_within : (t : Tree) (text : List ℕ) (tokens : List Token) (place : ℕ) → IsCutFrom t text place tokens → place ≤ length text
cut_within t text [] place is = omega (arith, is)
cut_within t text (x ∷ tokens) place is = let later = cut_within t text tokens (place + x.1) is.3 in omega (arith, later)

-- the best of some fronts costs no more than a piece and what is behind it
over_piece : (t : Tree) (u : ℕ) (later : List ℕ) (rest : List ℕ) (n : ℕ) (value : Option ℤ) → 0 < n → n ≤ length rest → MatchOption value (n ≡ 1) (λ v. number_at t (take n rest) ≡ Some v)
    → (best_of u later (front t rest)).cost ≤ price u value + cost_at later (length later - n)
over_piece t u later rest n None some within one =
    let best = best_least_byte t u later rest in
    subst (λ m. (best_of u later (front t rest)).cost ≤ u + cost_at later (length later - m)) (sym one) (omega (arith, best))
over_piece t u later rest n (Some v) some within held = let best = best_least_key t u later rest v n some within held in omega (arith, best)

-- where a piece costs no more, the best goes over more bytes, or over the same with the piece's number, if it has one
ahead_of_piece : (t : Tree) (u : ℕ) (later : List ℕ) (rest : List ℕ) (n : ℕ) (value : Option ℤ) → 0 < (best_of u later (front t rest)).len → 0 < n → n ≤ length rest → MatchOption value (n ≡ 1) (λ v. number_at t (take n rest) ≡ Some v)
    → price u value + cost_at later (length later - n) ≤ (best_of u later (front t rest)).cost
    → (n < (best_of u later (front t rest)).len) ⊎ (((best_of u later (front t rest)).len ≡ n) × MatchOption value (Unit {0}) (λ v. (best_of u later (front t rest)).value ≡ Some v))
ahead_of_piece t u later rest n None go some within one cheap = elim (eqb_tells 1 (best_of u later (front t rest)).len) [
  | inl is ↦ let same = is.1 in inr (omega (arith, same, one), tt)
  | inr isnt ↦ let differ = isnt.1 in inl (omega (arith, differ, one, go))
]
ahead_of_piece t u later rest n (Some v) go some within held cheap = elim (best_longest_key t u later rest v n some within held (omega (arith, cheap))) [
  | inl is ↦ inr is
  | inr more ↦ inl more
]

-- of a cut from a position on, what is known of its first token
record IsFirst (t : Tree) (u : ℕ → ℕ) (text costs : List ℕ) (place left : ℕ) (x : Token) : Type 0 where
  pub within : x.1 ≤ left
  pub cost : cost_at costs left ≤ price (u place) x.2 + cost_at costs (left - x.1)
  pub ahead : price (u place) x.2 + cost_at costs (left - x.1) ≤ cost_at costs left
      → (x.1 < (step_at t u text costs left).len) ⊎ (((step_at t u text costs left).len ≡ x.1) × MatchOption x.2 (Unit {0}) (λ v. (step_at t u text costs left).value ≡ Some v))

first_is : (t : Tree) (u : ℕ → ℕ) (text costs : List ℕ) → AreCosts t u text costs → (place left : ℕ) → place + left ≡ length text → (x : Token) (tokens : List Token)
    → IsCutFrom t text place (x ∷ tokens) → IsFirst t u text costs place left x
first_is t u text costs are place left end x tokens is =
    let len = are.0 in
    let some : 0 < x.1 = is.1 in
    let more = cut_within t text tokens (place + x.1) is.3 in
    let within : x.1 ≤ left = omega (arith, more, end) in
    let low : left < length costs = omega (arith, len, end) in
    let later : List ℕ = take left costs in
    let rest : List ℕ = drop (length text - left) text in
    let at : place ≡ length text - left = omega (arith, end) in
    let bytes : length rest ≡ left = length-drop (length text - left) text ∙ omega (arith, end) in
    let one : ℕ = u (length text - left) in
    let best : cost_at costs left ≡ (best_of one later (front t rest)).cost = are.1.best left (omega (arith, within, some)) low in
    let behind : cost_at later (length later - x.1) ≡ cost_at costs (left - x.1) = within_first costs left x.1 some within low in
    let piece : IsPiece t rest x = subst (λ p. IsPiece t (drop p text) x) at is.2 in
    let go : 0 < (best_of one later (front t rest)).len = (step_is t u text costs are left (omega (arith, within, some)) (omega (arith, end))).some in
    let inside : x.1 ≤ length rest = omega (arith, within, bytes) in
    record {
      within = within;
      cost = subst (λ p. cost_at costs left ≤ price (u p) x.2 + cost_at costs (left - x.1)) (sym at)
          (subst (λ c. c ≤ price one x.2 + cost_at costs (left - x.1)) (sym best) (subst (λ c. (best_of one later (front t rest)).cost ≤ price one x.2 + c) behind (over_piece t one later rest x.1 x.2 some inside piece)));
      ahead = subst (λ p. price (u p) x.2 + cost_at costs (left - x.1) ≤ cost_at costs left → (x.1 < (step_at t u text costs left).len) ⊎ (((step_at t u text costs left).len ≡ x.1) × MatchOption x.2 (Unit {0}) (λ v. (step_at t u text costs left).value ≡ Some v))) (sym at)
          (λ cheap. ahead_of_piece t one later rest x.1 x.2 go some inside piece
          (subst (λ c. price one x.2 + c ≤ (best_of one later (front t rest)).cost) (sym behind) (subst (λ c. price one x.2 + cost_at costs (left - x.1) ≤ c) best cheap)));
    }

-- no cut costs less than the first step says
cut_least : (t : Tree) (u : ℕ → ℕ) (text costs : List ℕ) → AreCosts t u text costs → (tokens : List Token) (place left : ℕ) → place + left ≡ length text → IsCutFrom t text place tokens
    → cost_at costs left ≤ cost_by u tokens
cut_least t u text costs are [] place left end is =
    let none : left ≡ 0 = omega (arith, end, is) in
    let free = are.1.begin in
    subst (λ n. cost_at costs n ≤ 0) (sym none) (omega (arith, free))
cut_least t u text costs are (x ∷ tokens) place left end is =
    let first = first_is t u text costs are place left end x tokens is in
    let within = first.within in
    let dear = first.cost in
    let more = cut_least t u text costs are tokens (place + x.1) (left - x.1) (omega (arith, end, within)) is.3 in
    let same : price (u x.0) x.2 ≡ price (u place) x.2 = ap (λ p. price (u p) x.2) is.0 in
    omega (arith, dear, more, same)

-- a cut that costs no more than the first step says isn't ahead
cut_ahead : (t : Tree) (u : ℕ → ℕ) (text costs : List ℕ) → AreCosts t u text costs → (other : List Token) (place left : ℕ) → place + left ≡ length text → IsCutFrom t text place other
    → cost_by u other ≤ cost_at costs left → IsAhead (cut_along (step_at t u text costs) 0 place left) other
cut_ahead t u text costs are other place zero end is cheap = tt
cut_ahead t u text costs are [] place (suc left) end is cheap = absurd (omega (arith, end, is))
cut_ahead t u text costs are (x ∷ other) place (suc left) end is cheap =
    let step = step_at t u text costs (suc left) in
    let own = step_is t u text costs are (suc left) (omega arith) (omega (arith, end)) in
    let first = first_is t u text costs are place (suc left) end x other is in
    let within = first.within in
    let dear = first.cost in
    let behind : place + x.1 + (suc left - x.1) ≡ length text = omega (arith, end, within) in
    let least = cut_least t u text costs are other (place + x.1) (suc left - x.1) behind is.3 in
    let here : price (u x.0) x.2 ≡ price (u place) x.2 = ap (λ p. price (u p) x.2) is.0 in
    let more = cut_ahead t u text costs are other (place + x.1) (suc left - x.1) behind is.3 (omega (arith, dear, cheap, here)) in
    subst (λ ts. IsAhead ts (x ∷ other)) (sym (along_step (step_at t u text costs) place (suc left) step (omega arith) refl own.some))
    (elim (first.ahead (omega (arith, cheap, least, here))) [
      | inl longer ↦ inl longer
      | inr same ↦ inr (same.0, same.1, subst (λ n. IsAhead (cut_along (step_at t u text costs) 0 (place + n) (suc left - n)) other) (sym same.0) more)
    ])

-- a text cut into its bytes
all_bytes : ℕ → ℕ → List Token
all_bytes place zero = []
all_bytes place (suc n) = (place, 1, None) ∷ all_bytes (place + 1) n

bytes_cut : (t : Tree) (text : List ℕ) (place n : ℕ) → place + n ≡ length text → IsCutFrom t text place (all_bytes place n)
unfolding all_bytes
bytes_cut t text place zero end = omega (arith, end)
bytes_cut t text place (suc n) end = (refl, omega arith, refl, bytes_cut t text (place + 1) n (omega (arith, end)))

bytes_cost : (u : ℕ → ℕ) (place n : ℕ) → ((p : ℕ) → u p < 2 ^ 32) → cost_by u (all_bytes place n) ≤ n * 4294967295
unfolding all_bytes
bytes_cost u place zero low = omega arith
bytes_cost u place (suc n) low = let more = bytes_cost u (place + 1) n low in let first = low place in omega (arith, more, first)

-- where a text has fewer than 2^32 bytes, no sum is cut off
steps_small : (t : Tree) (u : ℕ → ℕ) (text costs : List ℕ) → AreCosts t u text costs → ((p : ℕ) → u p < 2 ^ 32) → length text < 2 ^ 32 → cost_at costs (length text) < 2 ^ 64 - 1
steps_small t u text costs are low short =
    let least = cut_least t u text costs are (all_bytes 0 (length text)) 0 (length text) (omega arith) (bytes_cut t text 0 (length text) (omega arith)) in
    let all = bytes_cost u 0 (length text) low in
    omega (arith, least, all, short)

pub steps_capped : (t : Tree) (u : ℕ → ℕ) (text costs : List ℕ) → AreCosts t u text costs → IsLeastCapped t u text (best_cut t u text costs)
steps_capped t u text costs are other is =
    let all : length text - 0 ≡ length text = omega arith in
    let same = along_costs t u text costs are 0 0 (length text) (omega arith) (omega arith) ∙ ap (λ n. cost_at costs n) all in
    let least = cut_least t u text costs are other 0 (length text) (omega arith) is in
    omega (arith, same, least)

-- they are ahead of each cut that costs as little, as far as sums count
pub steps_ahead : (t : Tree) (u : ℕ → ℕ) (text costs : List ℕ) → AreCosts t u text costs → IsAheadCapped t u text (best_cut t u text costs)
steps_ahead t u text costs are other is cheap =
    let all : length text - 0 ≡ length text = omega arith in
    let same = along_costs t u text costs are 0 0 (length text) (omega arith) (omega arith) ∙ ap (λ n. cost_at costs n) all in
    cut_ahead t u text costs are other 0 (length text) (omega arith) is (subst (λ c. cost_by u other ≤ c) same cheap)

-- a cut that costs less than 2 ^ 64 is the cheapest where no sum that counts is less, and none that counts as much is ahead
pub capped_cheapest : (t : Tree) (u : ℕ → ℕ) (text : List ℕ) (tokens : List Token) → IsCut t text tokens → IsLeastCapped t u text tokens → IsAheadCapped t u text tokens → cost_by u tokens < 2 ^ 64
    → IsCheapestBy t u text tokens
capped_cheapest t u text tokens is least ahead low = record {
  cut = is;
  least = λ other there. let less = least other there in omega (arith, less, low);
  ahead = λ other there cheap. ahead other there (omega (arith, cheap, low));
}

steps_exact : (t : Tree) (u : ℕ → ℕ) (text costs : List ℕ) → AreCosts t u text costs → ((p : ℕ) → u p < 2 ^ 32) → length text < 2 ^ 32 → cost_by u (cut_along (step_at t u text costs) 0 0 (length text)) ≡ cost_at costs (length text)
steps_exact t u text costs are low short =
    let all : length text - 0 ≡ length text = omega arith in
    let same = along_costs t u text costs are 0 0 (length text) (omega arith) (omega arith) ∙ ap (λ n. cost_at costs n) all in
    let small = steps_small t u text costs are low short in
    omega (arith, same, small)

-- so they are the cheapest
pub steps_cheapest : (t : Tree) (u : ℕ → ℕ) (text costs : List ℕ) → AreCosts t u text costs → ((p : ℕ) → u p < 2 ^ 32) → length text < 2 ^ 32 → IsCheapestBy t u text (best_cut t u text costs)
steps_cheapest t u text costs are low short =
    let exact = steps_exact t u text costs are low short in
    record {
      cut = steps_cut t u text costs are;
      least = λ other is. let least = cut_least t u text costs are other 0 (length text) (omega arith) is in omega (arith, exact, least);
      ahead = λ other is cheap. cut_ahead t u text costs are other 0 (length text) (omega arith) is (omega (arith, exact, cheap));
    }

-- what is said of the tokens along the best steps, of the vector that holds them
pub said_of : {A E : Type 0} (t : Tree) (u : ℕ → ℕ) (text : List ℕ) (P : List Token → Type 0) (result : Result (Vec Token A) E) → IfOk result (λ tokens. IsFoundBy t u text tokens.items)
    → ((costs : List ℕ) → AreCosts t u text costs → P (best_cut t u text costs)) → IfOk result (λ tokens. P tokens.items)
said_of t u text P (Ok tokens) found holds = subst P (sym found.along) (holds found.costs found.are)
said_of t u text P (Err e) found holds = tt

-- what is found, in a vector, by costs that are handed on as a slice
pub found_by : {A E : Type 0} (t : Tree) (u : ℕ → ℕ) (text slice costs : List ℕ) (result : Result (Vec Token A) E) → slice ≡ costs → AreCosts t u text costs
    → IfOk result (λ tokens. tokens.items ≡ best_cut t u text slice) → IfOk result (λ tokens. IsFoundBy t u text tokens.items)
found_by t u text slice costs (Ok tokens) same are is = record { costs = costs; are = are; along = is ∙ ap (λ s. best_cut t u text s) same }
found_by t u text slice costs (Err e) same are is = tt

-- a character's price is no more than is said
pub character_small : (u : ℕ) (text : List ℕ) → u < 2 ^ 32 → (p : ℕ) → character_price u text p < 2 ^ 32
character_small u text low p = (elim (nat_le 128 (slice_index_or text p 0)) as (λ b. cond b (cond (nat_le 192 (slice_index_or text p 0)) u 0) u < 2 ^ 32) [
  | true ↦ (elim (nat_le 192 (slice_index_or text p 0)) as (λ b. cond b u 0 < 2 ^ 32) [ true ↦ low | false ↦ omega arith ])
  | false ↦ low
])
