-- The best entries below a prefix, and the entries next to a key.
use Rattle.std.specs.Prelude.{◌≡◌, ◌⊎◌, ◌<◌, ◌≤◌, ℕ, ℤ, Bool, true, false, List, [], ◌∷◌, ◌++◌}
use Rattle.std.specs.Prelude.{drop, filter, length, None, Option, Some}
use Rattle.std.specs.declared.ops.Bound.{Bound}
use Rattle.std.specs.declared.ops.Bound.TheVariants.{Excluded, Included, Unbounded}
use Rattle.best_few.specs.Orders.{best}
use Rattle.best_few.specs.declared.order.ByValue.{ByValue}
use Rattle.best_few.specs.declared.order.ByValue.TheVariants.{HighestFirst, LowestFirst}
use Rattle.cedarwood.specs.Queries.{Entry, walk}
use Rattle.cedarwood.specs.State.{State}
use Rattle.cedarwood.specs.Tree.{Tree}
use Rattle.cedar_walk.specs.Ranges.{entries_with}
use Rattle.cedar_complete.specs.Ends.{IsHeadOf}
use Rattle.key_ranges.specs.Spans.{follows_start, precedes_stop}
use Rattle.last_entries.specs.Nearness.{IsLastOf}
use Rattle.cedar_c.specs.Entries.{spots_of}
use Rattle.cedar_c.specs.Pairs.{keys_in}
use Rattle.cedar_c.specs.declared.scans.Found.{Found}
use Rattle.cedar_c.specs.declared.status.TheConstants.{MEMORY, OK, NO_ROOM, NOT_ASCENDING}

-- which values come first
abbrev pub order_if : Bool → ByValue
order_if true = LowestFirst
order_if false = HighestFirst

-- the best of the entries whose keys begin with a prefix, in their order, so many at the most
abbrev pub best_below : Tree → List ℕ → Bool → ℕ → List Entry
best_below t prefix lowest most = best (order_if lowest) most (entries_with t prefix)

-- entries are written: their keys one after another into the first bytes, and where these are, with their values, into
-- the first elements. The others have what they had. `counted` is how many they are, `needed` how many bytes their keys
-- have together
abbrev pub WritesEntries : List Entry → List Found → List Found → List ℕ → List ℕ → ℕ → ℕ → Type 0
WritesEntries es found told bytes written counted needed =
    (counted ≡ length es) × (told ≡ spots_of 0 es ++ drop (length es) found)
    × (needed ≡ length (keys_in es)) × (needed ≤ length bytes) × (written ≡ keys_in es ++ drop needed bytes)

-- `needed` is how many bytes the keys of entries have together, for which there is no room
abbrev pub LacksRoomForKeys : List Entry → List ℕ → ℕ → Type 0
LacksRoomForKeys es bytes needed = (needed ≡ length (keys_in es)) × (length bytes < needed)

-- an end at a key, which is included or left out; an open one if no key is given
abbrev pub bound_if : Bool → List ℕ → Bound (List ℕ)
bound_if included [] = Unbounded
bound_if true (b ∷ key) = Included (b ∷ key)
bound_if false (b ∷ key) = Excluded (b ∷ key)

-- of the walk the entries that don't come behind an end
abbrev pub entries_upto : Tree → Bound (List ℕ) → List Entry
entries_upto t end = filter (λ e. precedes_stop end e.0) (walk t)

-- of the walk the entries that don't come before a start
abbrev pub entries_onwards : Tree → Bound (List ℕ) → List Entry
entries_onwards t start = filter (λ e. follows_start start e.0) (walk t)

-- an entry is written, its key into the first bytes, or none; or its key has no room. `needed` is how many bytes the key
-- has, and 0 if there is no entry
abbrev pub TellsEntry : Option Entry → List ℕ → List ℕ → ℤ → ℤ → ℕ → ℕ → Type 0
TellsEntry None bytes written value told needed status = (status ≡ OK) × (needed ≡ 0) × (written ≡ bytes) × (told ≡ value)
TellsEntry (Some e) bytes written value told needed status =
    (needed ≡ length e.0)
    × (((status ≡ OK) × (length e.0 ≤ length bytes) × (written ≡ e.0 ++ drop (length e.0) bytes) × (told ≡ e.1))
    ⊎ ((status ≡ NO_ROOM) × (length bytes < length e.0) × (written ≡ bytes) × (told ≡ value)))

-- the entry that `IsIt` says is written, or memory is lacking; if labels don't ascend, no entry is looked for
pub record TellsNeighbour (s : State) (IsIt : Option Entry → Type 0) (bytes written : List ℕ) (value told : ℤ) (needed wanted status : ℕ) : Type 0 where
  pub entry : s.ordered ≡ true
      → ((e : Option Entry) × IsIt e × TellsEntry e bytes written value told wanted status)
      ⊎ ((status ≡ MEMORY) × (written ≡ bytes) × (told ≡ value) × (wanted ≡ needed))
  pub unordered : s.ordered ≡ false → (status ≡ NOT_ASCENDING) × (written ≡ bytes) × (told ≡ value) × (wanted ≡ needed)

-- the last entry before a key is written, or at it if that is included; of no key the last one of all
abbrev pub TellsFloor : State → Bool → List ℕ → List ℕ → List ℕ → ℤ → ℤ → ℕ → ℕ → ℕ → Type 0
TellsFloor s included key bytes written value told needed wanted status =
    TellsNeighbour s (IsLastOf (entries_upto s.tree (bound_if included key))) bytes written value told needed wanted status

-- the first entry behind a key is written, or at it if that is included; of no key the first one of all
abbrev pub TellsCeiling : State → Bool → List ℕ → List ℕ → List ℕ → ℤ → ℤ → ℕ → ℕ → ℕ → Type 0
TellsCeiling s included key bytes written value told needed wanted status =
    TellsNeighbour s (IsHeadOf (entries_onwards s.tree (bound_if included key))) bytes written value told needed wanted status
