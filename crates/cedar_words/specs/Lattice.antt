-- The tokens that cuts from each position of a text on may begin with by a model, with what they cost.
use Rattle.std.specs.Prelude.{◌≡◌, ℕ, ◌+◌, ◌-◌, ◌<◌, ◌≤◌, nat_lt, if◌then◌else◌, ℤ, List, []}
use Rattle.std.specs.Prelude.{◌∷◌, ◌++◌, length, drop, map, Option, Some, None}
use Rattle.std.specs.Iterator.{YieldsFirst}
use Rattle.cedarwood.specs.Tree.{Tree}
use Rattle.cedarwood.specs.Queries.{front}
use Rattle.cedar_words.specs.Models.{IsPieceBy, price_by, run_len}
use Rattle.cedar_words.specs.Steps.{AreWithin}
use Rattle.cedar_words.specs.declared.edges.Edge.{Edge}
use Rattle.cedar_words.specs.declared.edges.Stop.{Stop}
use Rattle.cedar_words.specs.declared.models.UnknownRun.{UnknownRun}

-- a key that was found at a position, by its number and one less than its bytes
abbrev pub key_edge : (ℤ → ℕ) → ℕ → ℤ × ℕ → Edge
key_edge key place found = record { start = place; len = found.1 + 1; value = Some found.0; cost = key found.0 }

-- the unknown run at a position, where so many bytes are left
abbrev pub run_edge : ℕ → ℕ → UnknownRun → Edge
run_edge place left run = record { start = place; len = run_len left run; value = None; cost = run.cost }

-- an unknown run, unless keys begin where it does and it may not stand beside them
abbrev pub own_run : UnknownRun → List (ℤ × ℕ) → Option UnknownRun
own_run run [] = Some run
own_run run (found ∷ fronts) = if run.beside_keys then Some run else None

-- an unknown run as an edge, if there is one
abbrev pub run_edges : ℕ → ℕ → Option UnknownRun → List Edge
run_edges place left None = []
run_edges place left (Some run) = run_edge place left run ∷ []

-- all tokens of a text, of which these bytes are left from a position on: position after position, at each the keys, the shortest first,
-- and then the unknown run
abbrev pub edges_from : Tree → (ℤ → ℕ) → (ℕ → UnknownRun) → ℕ → List ℕ → List Edge
edges_from tree key run place [] = []
edges_from tree key run place (b ∷ rest) =
    map (key_edge key place) (front tree (b ∷ rest))
    ++ (run_edges place (length (b ∷ rest)) (own_run (run place) (front tree (b ∷ rest))) ++ edges_from tree key run (place + 1) rest)

-- the tokens that are left in a text where a walk at a position has these keys left, and this run is to come after them
abbrev pub edges_left : Tree → (ℤ → ℕ) → (ℕ → UnknownRun) → List ℕ → ℕ → List (ℤ × ℕ) → Option UnknownRun → List Edge
edges_left tree key run text place fronts own =
    map (key_edge key place) fronts
    ++ (run_edges place (length text - place) own ++ edges_from tree key run (place + 1) (drop (place + 1) text))

-- a key that was found, and those that are left behind it
abbrev pub keys_left : Option (ℤ × ℕ) → List (ℤ × ℕ) → List (ℤ × ℕ)
keys_left None fronts = []
keys_left (Some found) fronts = found ∷ fronts

-- the unknown run of a position where these keys begin, if there is one
abbrev pub run_by : (ℕ → UnknownRun) → List ℕ → ℕ → List (ℤ × ℕ) → Option UnknownRun
run_by run text place fronts = if nat_lt place (length text) then own_run (run place) fronts else None

-- the same as `edges_left`, where the walk and what is to come at its position are one value
abbrev pub edges_at : Tree → (ℤ → ℕ) → (ℕ → UnknownRun) → List ℕ → Stop × List (ℤ × ℕ) → List Edge
edges_at tree key run text at = edges_left tree key run text at.0.place (keys_left at.0.key at.1) at.0.run

-- where a walk over the tokens of a text by this model is at a position, it gives the first of those that are left, and
-- goes on to another one
abbrev pub GivesEdge : {M : Type 0} → Tree → (M → ℤ → ℕ) → (M → List ℕ → ℕ → UnknownRun) → M → List ℕ → Stop × List (ℤ × ℕ) → Option Edge → Stop × List (ℤ × ℕ) → Type 0
GivesEdge tree key run model text at found later = YieldsFirst (edges_at tree (key model) (run model text) text) at found later

-- a position of a text where keys that are left are within it, and there is no run behind its end
abbrev pub IsStop : List ℕ → Stop × List (ℤ × ℕ) → Type 0
IsStop text at =
    (at.0.place ≤ length text) × AreWithin (length text - at.0.place) (keys_left at.0.key at.1) × (length text ≤ at.0.place → at.0.run ≡ None)

-- these bytes of a text, one or more, are a token that a cut from their position on may begin with, at this cost
abbrev pub IsEdgeOf : Tree → (ℤ → ℕ) → (ℕ → UnknownRun) → List ℕ → Edge → Type 0
IsEdgeOf tree key run text e =
    (0 < e.len) × (e.start + e.len ≤ length text) × IsPieceBy tree (run e.start) (drop e.start text) (e.start, e.len, e.value)
    × (e.cost ≡ price_by key (run e.start).cost e.value)
