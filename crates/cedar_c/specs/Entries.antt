-- A page of entries with their keys, written into two buffers: elements, and the bytes of the keys.
use Rattle.std.specs.Prelude.{◌≡◌, ◌⊎◌, ◌+◌, ◌-◌, ◌<◌, ◌++◌, ℕ, suc, zero, false, true}
use Rattle.std.specs.Prelude.{List, [], ◌∷◌, drop, if◌then◌else◌, length, nat_eq, nat_lt}
use Rattle.std.specs.Prelude.{None, Option, Some, IfSome}
use Rattle.std.specs.List.{filter, starts_with}
use Rattle.std.specs.Cmp.Lexicographic.{slice_cmp}
use Rattle.std.specs.Ordering.{is_gt, nat_cmp}
use Rattle.cedarwood.specs.TableFields.{Fields}
use Rattle.cedarwood.specs.Queries.{Entry, walk}
use Rattle.cedarwood.specs.State.{State}
use Rattle.cedarwood.specs.Tree.{Tree}
use Rattle.cedar_walk.specs.declared.visits.Numbered.{Numbered}
use Rattle.cedar_walk.specs.Ranges.{entries_with}
use Rattle.cedar_walk.specs.Visits.{path_to}
use Rattle.cedar_c.specs.Layouts.{inner_dictionary}
use Rattle.cedar_c.specs.Pairs.{keys_in}
use Rattle.either_layout.specs.declared.any.AnyCedar.{AnyCedar}
use Rattle.cedar_c.specs.declared.scans.Found.{Found}
use Rattle.cedar_c.specs.declared.status.TheConstants.{OK, NO_ROOM, NOT_ASCENDING}

-- the key of a node that a walk below the path `start` has come to
abbrev pub visited_key : Fields → List ℕ → Numbered → List ℕ
visited_key T start at = start ++ path_to T at.depth at.slot

-- a page goes no further at this key: there is no room for it, or it doesn't begin with the prefix
abbrev pub EndsPage : List ℕ → ℕ → List ℕ → Type 0
EndsPage prefix room key = (room < length key) ⊎ (starts_with nat_eq key prefix ≡ false)

-- of the walk the entries whose keys come after a key by bytes
abbrev pub entries_behind_key : Tree → List ℕ → List Entry
entries_behind_key t key = filter (λ e. is_gt (slice_cmp nat_cmp e.0 key)) (walk t)

-- the entries that a page is taken from: those after a key, or if no key was shown those whose keys begin with a
-- prefix
abbrev pub following : Tree → List ℕ → List ℕ → List Entry
following t prefix [] = entries_with t prefix
following t prefix (b ∷ behind) = entries_behind_key t (b ∷ behind)

-- the first ones of some entries, as long as their keys begin with a prefix, and there are elements and room for
-- bytes
abbrev pub page_of : List ℕ → ℕ → ℕ → List Entry → List Entry
page_of prefix zero room es = []
page_of prefix (suc places) room [] = []
page_of prefix (suc places) room (e ∷ es) =
    if nat_lt room (length e.0) then [] else
    if starts_with nat_eq e.0 prefix then e ∷ page_of prefix places (room - length e.0) es else []

-- where the keys of some entries are if they are written one after another from a position on, each with its length
-- and number
abbrev pub spots_of : ℕ → List Entry → List Found
spots_of place [] = []
spots_of place (e ∷ es) = record { place = place; length = length e.0; value = e.1 } ∷ spots_of (place + length e.0) es

-- how many bytes the key of the first of some entries has, if it has more than there is room for
abbrev pub bytes_lacking : ℕ → ℕ → List Entry → Option ℕ
bytes_lacking zero room es = None
bytes_lacking (suc places) room [] = None
bytes_lacking (suc places) room (e ∷ es) = if nat_lt room (length e.0) then Some (length e.0) else None

-- a page of these entries is written, which has `count` of them. The first elements have where their keys are, and
-- the others what they had. The first bytes are those of the keys, and the others may be anything
pub record WritesPage (prefix : List ℕ) (entries : List Entry) (found told : List Found) (bytes written : List ℕ) (count : ℕ) : Type 0 where
  pub number : count ≡ length (page_of prefix (length found) (length bytes) entries)
  pub spots : told ≡ spots_of 0 (page_of prefix (length found) (length bytes) entries) ++ drop count found
  pub keys : (rest : List ℕ) × (written ≡ keys_in (page_of prefix (length found) (length bytes) entries) ++ rest)
  pub size : length written ≡ length bytes

-- elements, bytes and the count are as before
abbrev pub WritesNothing : List Found → List Found → List ℕ → List ℕ → ℕ → ℕ → Type 0
WritesNothing found told bytes written count counted = (told ≡ found) × (written ≡ bytes) × (counted ≡ count)

-- a page can go on behind a key: labels ascend, or no key was shown
abbrev pub CanGoOnBehind : State → List ℕ → Type 0
CanGoOnBehind s behind = (behind ≡ []) ⊎ (s.ordered ≡ true)

-- a page of these entries is written, or `needed` is how many bytes the first key has that finds no room. `count` and
-- `needed` are the numbers before, `counted` and `wanted` those after
pub record TellsPage (prefix : List ℕ) (entries : List Entry) (found told : List Found) (bytes written : List ℕ) (count counted needed wanted status : ℕ) : Type 0 where
  pub page : bytes_lacking (length found) (length bytes) entries ≡ None → (status ≡ OK) × WritesPage prefix entries found told bytes written counted × (wanted ≡ needed)
  pub lacks : IfSome (bytes_lacking (length found) (length bytes) entries) (λ n. (status ≡ NO_ROOM) × (wanted ≡ n) × WritesNothing found told bytes written count counted)

-- the same as `TellsPage` of the entries of a dictionary after a key. If its labels don't ascend, only a page from
-- the first entry on is written
pub record TellsEntries (s : State) (prefix behind : List ℕ) (found told : List Found) (bytes written : List ℕ) (count counted needed wanted status : ℕ) : Type 0 where
  pub page : CanGoOnBehind s behind → TellsPage prefix (following s.tree prefix behind) found told bytes written count counted needed wanted status
  pub unordered : (CanGoOnBehind s behind → ⊥) → (status ≡ NOT_ASCENDING) × WritesNothing found told bytes written count counted × (wanted ≡ needed)

-- the same as `TellsEntries` of a dictionary of either layout
abbrev pub PageOf : List ℕ → List ℕ → List Found → List Found → List ℕ → List ℕ → ℕ → ℕ → ℕ → ℕ → ℕ → AnyCedar → Type 0
PageOf prefix behind found told bytes written count counted needed wanted status a =
    TellsEntries (inner_dictionary a).state prefix behind found told bytes written count counted needed wanted status
