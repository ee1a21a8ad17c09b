-- Pages of a dictionary's entries, and dictionaries that were loaded.
use Rattle.std.specs.Prelude.{◌≡◌, ℕ, Bool, false, List, MatchOption, Option, take}
use Rattle.std.specs.Io.KnownBytes.{Consumes}
use Rattle.cedarwood.specs.Words.{Entry, entries_since, Fields, IsVersion, State, table_bytes}

-- a page's entries are the first ones at the key and after it, at most so many; there is none if labels don't ascend
abbrev pub IsPage : {X : Type 0} → State → ℕ → List ℕ → Option X → (X → List Entry) → Type 0
IsPage s most key page entries = MatchOption page (s.ordered ≡ false) (λ found. entries found ≡ take most (entries_since s.tree key))

-- exactly the bytes of a file of this table were read, in one of its versions
abbrev pub ReadsTable : Option (List ℕ) → Option (List ℕ) → Fields → Type 0
ReadsTable before after table = (version : ℕ) × IsVersion version × Consumes before after (table_bytes version table)
