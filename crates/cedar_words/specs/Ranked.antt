-- The best cuts of a text by a model, in their order, and how they are found.
use Rattle.std.specs.Prelude.{◌≡◌, ℕ, zero, suc, ◌+◌, ◌-◌, ◌^◌, ◌<◌, ◌≤◌, ◌⊎◌, min, nat_lt, Bool, true}
use Rattle.std.specs.Prelude.{false, if◌then◌else◌, ℤ, List, [], ◌∷◌, ◌++◌, length, map, take, drop}
use Rattle.std.specs.Prelude.{slice_index_or, Option, Some, None, Vec}
use Rattle.std.specs.List.{Contains, range_with_len}
use Rattle.cedarwood.specs.Tree.{Tree}
use Rattle.cedarwood.specs.Queries.{front}
use Rattle.cedar_words.specs.Lattice.{own_run}
use Rattle.cedar_words.specs.Models.{cost_with, IsCutBy, run_len}
use Rattle.cedar_words.specs.Tokens.{Token}
use Rattle.cedar_words.specs.declared.models.UnknownRun.{UnknownRun}
use Rattle.cedar_words.specs.declared.ranked.Way.{Way}

-- 0 for a key, and 1 for an unknown run
abbrev pub kind_number : Option ℤ → ℕ
kind_number None = 1
kind_number (Some v) = 0

-- a cut of a text comes before another: it costs less, or as much and has the longer token first, or as long a one that is a key where the
-- other's is not, or both are alike in that and the same holds of what is left behind them. Sums above 2 ^ 64 - 1 count as 2 ^ 64 - 1
abbrev pub IsCutBefore : (ℤ → ℕ) → (ℕ → UnknownRun) → List Token → List Token → Type 0
IsCutBefore key run [] other = ⊥
IsCutBefore key run (t ∷ tokens) [] = ⊥
IsCutBefore key run (t ∷ tokens) (o ∷ other) =
    (min (cost_with key run (t ∷ tokens)) (2 ^ 64 - 1) < min (cost_with key run (o ∷ other)) (2 ^ 64 - 1))
    ⊎ ((min (cost_with key run (t ∷ tokens)) (2 ^ 64 - 1) ≡ min (cost_with key run (o ∷ other)) (2 ^ 64 - 1))
    × ((o.1 < t.1) ⊎ ((t.1 ≡ o.1) × ((kind_number t.2 < kind_number o.2) ⊎ ((kind_number t.2 ≡ kind_number o.2) × IsCutBefore key run tokens other)))))

-- each of some cuts comes before those behind it: so no two of them are the same
abbrev pub AreInOrder : (ℤ → ℕ) → (ℕ → UnknownRun) → List (List Token) → Type 0
AreInOrder key run [] = Unit {0}
AreInOrder key run (one ∷ cuts) = ((other : List Token) → Contains cuts other → IsCutBefore key run one other) × AreInOrder key run cuts

-- The best cuts of a text, so many at most: each is a cut, they are in their order, and any other cut comes behind all of them, if there is
-- another. So no other cut costs less than the last of them.
pub record IsBestCuts (tree : Tree) (key : ℤ → ℕ) (run : ℕ → UnknownRun) (text : List ℕ) (most : ℕ) (cuts : List (List Token)) : Type 0 where
  pub are : (one : List Token) → Contains cuts one → IsCutBy tree run text one
  pub few : length cuts ≤ most
  pub ordered : AreInOrder key run cuts
  pub others : (other : List Token) → IsCutBy tree run text other
      → Contains cuts other ⊎ ((length cuts ≡ most) × ((one : List Token) → Contains cuts one → IsCutBefore key run one other))

-- lists in a list of vectors
abbrev pub lists_of : {X A : Type 0} → List (Vec X A) → List (List X)
lists_of vectors = map (λ v. v.items) vectors

-- the way of no bytes
abbrev pub no_way : Way
no_way = record { cost = 0; len = 0; value = None; rank = 0 }

-- a way comes before another, of the same position
abbrev pub way_before : Way → Way → Bool
way_before a b =
    if nat_lt a.cost b.cost then true
    else if nat_lt b.cost a.cost then false
    else if nat_lt b.len a.len then true
    else if nat_lt a.len b.len then false
    else if nat_lt (kind_number a.value) (kind_number b.value) then true
    else if nat_lt (kind_number b.value) (kind_number a.value) then false
    else nat_lt a.rank b.rank

-- ways that are in order, with one more in its place among them
abbrev pub insert_way : Way → List Way → List Way
insert_way way [] = way ∷ []
insert_way way (first ∷ ways) = if way_before way first then way ∷ first ∷ ways else first ∷ insert_way way ways

-- the best of some ways and of one more, so many at most
abbrev pub put_way : ℕ → List Way → Way → List Way
put_way most ways way = take most (insert_way way ways)

-- the best of some ways and of some more, so many at most
abbrev pub put_ways : ℕ → List Way → List Way → List Way
put_ways most ways [] = ways
put_ways most ways (way ∷ more) = put_ways most (put_way most ways way) more

-- the ways over a token at a price, from a rank on: one for each of the ways behind it
abbrev pub step_ways : ℕ → ℕ → Option ℤ → ℕ → List Way → List Way
step_ways price len value rank [] = []
step_ways price len value rank (way ∷ behind) =
    record { cost = min (price + way.cost) (2 ^ 64 - 1); len = len; value = value; rank = rank } ∷ step_ways price len value (rank + 1) behind

-- the ways of what is left behind so many bytes, where those of fewer bytes than are left are known
abbrev pub ways_behind : List (List Way) → ℕ → List Way
ways_behind later len = slice_index_or later (length later - len) []

-- the ways over keys that were found
abbrev pub key_ways : (ℤ → ℕ) → List (List Way) → List (ℤ × ℕ) → List Way
key_ways key later [] = []
key_ways key later (found ∷ fronts) = step_ways (key found.0) (found.1 + 1) (Some found.0) 0 (ways_behind later (found.1 + 1)) ++ key_ways key later fronts

-- the ways over an unknown run, if there is one
abbrev pub run_ways : List (List Way) → Option UnknownRun → List Way
run_ways later None = []
run_ways later (Some run) = step_ways run.cost (run_len (length later) run) None 0 (ways_behind later (run_len (length later) run))

-- the best ways over keys and an unknown run
abbrev pub best_ways : ℕ → (ℤ → ℕ) → List (List Way) → UnknownRun → List (ℤ × ℕ) → List Way
best_ways most key later run fronts = put_ways most [] (key_ways key later fronts ++ run_ways later (own_run run fronts))

-- the way of no bytes, and for each number of bytes more the best ways over the last ones of a text
pub record AreWays (most : ℕ) (tree : Tree) (key : ℤ → ℕ) (run : ℕ → UnknownRun) (text : List ℕ) (table : List (List Way)) : Type 0 where
  pub begin : slice_index_or table 0 [] ≡ take most (no_way ∷ [])
  pub best : (left : ℕ) → 0 < left → left < length table
      → slice_index_or table left [] ≡ best_ways most key (take left table) (run (length text - left)) (front tree (drop (length text - left) text))

-- a way of so many of the last bytes, by its rank
abbrev pub way_at : List (List Way) → ℕ → ℕ → Way
way_at table left rank = slice_index_or (slice_index_or table left []) rank no_way

-- each way of a table goes over some bytes, no more than are left, and has a way of those behind it
abbrev pub WaysGoOn : List (List Way) → Type 0
WaysGoOn table = (left rank : ℕ) → 0 < left → left < length table → rank < length (slice_index_or table left [])
    → (0 < (way_at table left rank).len) × ((way_at table left rank).len ≤ left) × ((way_at table left rank).rank < length (slice_index_or table (left - (way_at table left rank).len) []))

-- the tokens along a way from a position on, where so many bytes are left: some of them belong to the token before
abbrev pub way_along : List (List Way) → ℕ → ℕ → ℕ → ℕ → List Token
way_along table taken place zero rank = []
way_along table (suc taken) place (suc left) rank = way_along table taken (place + 1) left rank
way_along table zero place (suc left) rank =
    let way = way_at table (suc left) rank in
    (place, way.len, way.value) ∷ way_along table (way.len - 1) (place + 1) left way.rank

-- the tokens along all ways over a text
abbrev pub ways_along : List (List Way) → ℕ → List (List Token)
ways_along table bytes = map (way_along table 0 0 bytes) (range_with_len 0 (length (slice_index_or table bytes [])))
