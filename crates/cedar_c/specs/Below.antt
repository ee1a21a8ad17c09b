-- A page of the entries below a prefix, with their keys, written into two buffers.
use Rattle.std.specs.Prelude.{◌≡◌, ◌⊎◌, ◌<◌, ℕ, List, [], ◌∷◌, drop, filter, length, nat_eq}
use Rattle.std.specs.Prelude.{None, Option, IfSome}
use Rattle.std.specs.List.{starts_with}
use Rattle.cedarwood.specs.TableFields.{Fields}
use Rattle.cedarwood.specs.Queries.{Entry}
use Rattle.cedarwood.specs.RangeWalks.{entries_left, IsRangePlace}
use Rattle.cedarwood.specs.State.{State}
use Rattle.cedarwood.specs.Tree.{number_at, Tree}
use Rattle.cedar_walk.specs.declared.visits.Numbered.{Numbered}
use Rattle.cedar_walk.specs.Ranges.{entries_with}
use Rattle.cedar_c.specs.Entries.{bytes_lacking, CanGoOnBehind, entries_behind_key}
use Rattle.cedar_c.specs.Entries.{WritesNothing, WritesPage}
use Rattle.cedar_c.specs.Layouts.{inner_dictionary}
use Rattle.either_layout.specs.declared.any.AnyCedar.{AnyCedar}
use Rattle.cedar_c.specs.declared.scans.Found.{Found}
use Rattle.cedar_c.specs.declared.status.TheConstants.{MEMORY, OK, NO_ROOM, NOT_ASCENDING}

-- of the walk the entries that come after a key by bytes, and whose keys begin with a prefix
abbrev pub prefixed_behind : Tree → List ℕ → List ℕ → List Entry
prefixed_behind t prefix key = filter (λ e. starts_with nat_eq e.0 prefix) (entries_behind_key t key)

-- the entries that a page below a prefix is taken from: those of them after a key, or all whose keys begin with the
-- prefix if no key was shown
abbrev pub following_below : Tree → List ℕ → List ℕ → List Entry
following_below t prefix [] = entries_with t prefix
following_below t prefix (b ∷ behind) = prefixed_behind t prefix (b ∷ behind)

-- a walk below a prefix that comes to this node, or ends, has these entries left
abbrev pub IsPlaceOf : Fields → List ℕ → List Entry → Option Numbered → Type 0
IsPlaceOf T prefix entries place = IsRangePlace T prefix place × (entries_left T prefix place ≡ entries)

-- how many bytes the key of the first of some entries has, or 0 if there is none
abbrev pub first_length : List Entry → ℕ
first_length [] = 0
first_length (e ∷ es) = length e.0

-- the key of the first of some entries has more bytes than there is room for
abbrev pub FindsNoRoom : ℕ → List Entry → Type 0
FindsNoRoom room [] = ⊥
FindsNoRoom room (e ∷ es) = room < length e.0

-- a page of these entries is written, and `wanted` is how many bytes the key has that comes behind it, or 0 if none
-- does; or `wanted` is how many bytes the first key has, which finds no room. `count` is the number before, `counted`
-- that after
pub record TellsNext (prefix : List ℕ) (entries : List Entry) (found told : List Found) (bytes written : List ℕ) (count counted wanted status : ℕ) : Type 0 where
  pub page : bytes_lacking (length found) (length bytes) entries ≡ None
      → (status ≡ OK) × WritesPage prefix entries found told bytes written counted × (wanted ≡ first_length (drop counted entries))
  pub lacks : IfSome (bytes_lacking (length found) (length bytes) entries) (λ n. (status ≡ NO_ROOM) × (wanted ≡ n) × WritesNothing found told bytes written count counted)

-- a page behind a key that isn't held may want memory, if the next key of all has more bytes than there is room for
abbrev pub MayWantMemory : Tree → List ℕ → ℕ → Type 0
MayWantMemory t behind room = (number_at t behind ≡ None) × FindsNoRoom room (entries_behind_key t behind)

-- nothing was written for want of memory
abbrev pub WantsMemory : Tree → List ℕ → List Found → List Found → List ℕ → List ℕ → ℕ → ℕ → ℕ → ℕ → ℕ → Type 0
WantsMemory t behind found told bytes written count counted needed wanted status =
    (status ≡ MEMORY) × MayWantMemory t behind (length bytes) × WritesNothing found told bytes written count counted × (wanted ≡ needed)

-- the same as `TellsNext` of the entries of a dictionary below a prefix after a key, unless memory is lacking. If
-- labels don't ascend, only a page from the first entry on is written
pub record TellsBelow (s : State) (prefix behind : List ℕ) (found told : List Found) (bytes written : List ℕ) (count counted needed wanted status : ℕ) : Type 0 where
  pub page : CanGoOnBehind s behind
      → TellsNext prefix (following_below s.tree prefix behind) found told bytes written count counted wanted status
      ⊎ WantsMemory s.tree behind found told bytes written count counted needed wanted status
  pub unordered : (CanGoOnBehind s behind → ⊥) → (status ≡ NOT_ASCENDING) × WritesNothing found told bytes written count counted × (wanted ≡ needed)

-- the same as `TellsBelow` of a dictionary of either layout
abbrev pub PageBelow : List ℕ → List ℕ → List Found → List Found → List ℕ → List ℕ → ℕ → ℕ → ℕ → ℕ → ℕ → AnyCedar → Type 0
PageBelow prefix behind found told bytes written count counted needed wanted status a =
    TellsBelow (inner_dictionary a).state prefix behind found told bytes written count counted needed wanted status
