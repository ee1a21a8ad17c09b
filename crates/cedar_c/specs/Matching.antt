-- The next entry that is wanted.
use Rattle.std.specs.Prelude.{◌≡◌, ◌⊎◌, ◌<◌, ◌≤◌, ℕ, ℤ, Bool, true, false, List}
use Rattle.std.specs.Prelude.{filter, length}
use Rattle.std.specs.Str.{chars, IsUtf8}
use Rattle.byte_automata.specs.Characters.{are_near, characters_of}
use Rattle.byte_automata.specs.Distances.{is_near}
use Rattle.byte_automata.specs.Fronts.{has_front}
use Rattle.byte_automata.specs.Patterns.{fits}
use Rattle.cedar_complete.specs.Ends.{IsHeadOf}
use Rattle.cedarwood.specs.Queries.{Entry}
use Rattle.cedarwood.specs.State.{State}
use Rattle.cedarwood.specs.Tree.{Tree}
use Rattle.cedar_c.specs.Best.{bound_if, entries_onwards, TellsNeighbour}
use Rattle.cedar_c.specs.declared.status.TheConstants.{PATTERN_TOO_LONG, QUERY_NOT_UTF8}

-- one edit, or two
abbrev pub edits_if : Bool → ℕ
edits_if false = 1
edits_if true = 2

-- whether a key is so many edits at most away from a query, or begins with what is
abbrev pub is_wanted_near : Bool → ℕ → List ℕ → List ℕ → Bool
is_wanted_near false edits query = is_near query edits
is_wanted_near true edits query = has_front (is_near query edits)

-- of the walk the entries behind a key that are wanted, or all that are if no key is given
abbrev pub wanted_behind : (List ℕ → Bool) → Tree → List ℕ → List Entry
wanted_behind wanted t behind = filter (λ e. wanted e.0) (entries_onwards t (bound_if false behind))

-- the first of the wanted entries behind a key is written
abbrev pub TellsWanted : (List ℕ → Bool) → State → List ℕ → List ℕ → List ℕ → ℤ → ℤ → ℕ → ℕ → ℕ → Type 0
TellsWanted wanted s behind bytes written value told needed found status =
    TellsNeighbour s (IsHeadOf (wanted_behind wanted s.tree behind)) bytes written value told needed found status

-- the same as `TellsWanted` of the entries whose keys fit a pattern, unless that has more than 63 bytes
abbrev pub TellsFitting : State → List ℕ → List ℕ → List ℕ → List ℕ → ℤ → ℤ → ℕ → ℕ → ℕ → Type 0
TellsFitting s pattern behind bytes written value told needed found status =
    (length pattern ≤ 63 × TellsWanted (fits pattern) s behind bytes written value told needed found status)
    ⊎ ((63 < length pattern) × (status ≡ PATTERN_TOO_LONG) × (written ≡ bytes) × (told ≡ value) × (found ≡ needed))

-- whether a key is characters that are so many edits at most away from others, or begins with what is
abbrev pub is_wanted_text : Bool → ℕ → List ℕ → List ℕ → Bool
is_wanted_text false edits query = λ key. are_near query edits (characters_of key)
is_wanted_text true edits query = has_front (λ key. are_near query edits (characters_of key))

-- the same of what is near a text, unless the query isn't UTF-8
abbrev pub TellsNearText : Bool → ℕ → State → List ℕ → List ℕ → List ℕ → List ℕ → ℤ → ℤ → ℕ → ℕ → ℕ → Type 0
TellsNearText beginning edits s query behind bytes written value told needed found status =
    (IsUtf8 query × TellsWanted (is_wanted_text beginning edits (chars query)) s behind bytes written value told needed found status)
    ⊎ (¬ (IsUtf8 query) × (status ≡ QUERY_NOT_UTF8) × (written ≡ bytes) × (told ≡ value) × (found ≡ needed))
