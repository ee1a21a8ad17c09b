-- Bytes that begin with what is accepted.
use Rattle.std.specs.Prelude.{ℕ, Bool, true, ◌||◌, if◌then◌else◌, List, [], ◌∷◌, Option, Some, None}

-- whether some front of the bytes passes a test, the empty one or all of them among these
unfoldable pub has_front : (List ℕ → Bool) → List ℕ → Bool
has_front test [] = test []
has_front test (b ∷ bytes) = test [] || has_front (λ more. test (b ∷ more)) bytes

-- a state, unless what was read matches
abbrev pub without_match : {S : Type 0} → (S → Bool) → S → Option S
without_match matches state = if matches state then None else Some state

-- the state after one byte more
abbrev pub front_after : {S : Type 0} → (S → Bool) → (S → ℕ → S) → Option S → ℕ → Option S
front_after matches after None byte = None
front_after matches after (Some state) byte = without_match matches (after state byte)

-- whether it may match: it has, or what is behind it may
abbrev pub front_may_match : {S : Type 0} → (S → Bool) → Option S → Bool
front_may_match may_match None = true
front_may_match may_match (Some state) = may_match state
