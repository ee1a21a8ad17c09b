-- The entries in a range whose keys an automaton accepts.
use Rattle.std.specs.Prelude.{◌≡◌, ◌⊎◌, ℕ, ◌≤◌, Bool, false, true, List, [], ◌∷◌, ◌++◌}
use Rattle.std.specs.Prelude.{filter, IfSome, length, MatchOption, Option, take}
use Rattle.std.specs.Bool.{MatchBool}
use Rattle.std.specs.Cmp.Lexicographic.{slice_cmp}
use Rattle.std.specs.Ordering.{nat_cmp}
use Rattle.std.specs.declared.cmp.Ordering.TheVariants.{Less}
use Rattle.cedar_tree.specs.Queries.{Entry}
use Rattle.key_ranges.specs.Spans.{holds, HoldsBehind, HoldsPast, KeySpan}
use Rattle.accepted_entries.specs.declared.reading.Verdict.{Verdict}
use Rattle.accepted_entries.specs.declared.reading.Verdict.TheVariants.{Accepts, Ends, Refuses}

-- of some entries those in a range
abbrev pub entries_in_span : KeySpan → List Entry → List Entry
entries_in_span span es = filter (λ e. holds span e.0) es

-- of some entries those in a range whose keys pass a test, such as what an automaton accepts
abbrev pub accepted_in : (List ℕ → Bool) → KeySpan → List Entry → List Entry
accepted_in accepts span es = filter (λ e. accepts e.0) (entries_in_span span es)

-- what was found is the first of some entries, and these others are left; or there is none, and none is left
abbrev pub GivesFirst : List Entry → Option Entry → List Entry → Type 0
GivesFirst es found later = MatchOption found ((es ≡ []) × (later ≡ [])) (λ first. es ≡ first ∷ later)

-- a range gives the first of the entries in it whose keys pass a test, and has the others of these left; or there is none
abbrev pub GivesAccepted : (List ℕ → Bool) → List Entry → KeySpan → KeySpan → Option Entry → Type 0
GivesAccepted accepts es old new found = GivesFirst (accepted_in accepts old es) found (accepted_in accepts new es)

-- a range has the entries whose keys pass a test that it had before
abbrev pub KeepsAccepted : (List ℕ → Bool) → List Entry → KeySpan → KeySpan → Type 0
KeepsAccepted accepts es old new = accepted_in accepts new es ≡ accepted_in accepts old es

-- if an entry was found, a range holds what another one holds that comes behind its key
abbrev pub GoesOnBehind : KeySpan → KeySpan → Option Entry → Type 0
GoesOnBehind old new found = IfSome found (λ e. HoldsBehind old new e.0)

-- ---- how it is found

-- nothing passes a test that begins with these bytes
abbrev pub IsDeadEnd : (List ℕ → Bool) → List ℕ → Type 0
IsDeadEnd accepts front = (rest : List ℕ) → accepts (front ++ rest) ≡ false

-- a range holds the last part of another one: no more than that, and with each byte string all that come behind it
pub record HoldsEnd (old new : KeySpan) : Type 0 where
  pub within : (w : List ℕ) → holds new w ≡ true → holds old w ≡ true
  pub behind : (v w : List ℕ) → holds new v ≡ true → slice_cmp nat_cmp v w ≡ Less → holds old w ≡ true → holds new w ≡ true

-- what is said of a key is what a test says
abbrev pub SaysOf : (List ℕ → Bool) → List ℕ → Verdict → Type 0
SaysOf accepts key Accepts = accepts key ≡ true
SaysOf accepts key Refuses = accepts key ≡ false
SaysOf accepts key (Ends len) = (len ≤ length key) × IsDeadEnd accepts (take len key)

-- what is said of a key that was read to its end
abbrev pub verdict_of : Bool → Verdict
verdict_of true = Accepts
verdict_of false = Refuses

-- a range goes on behind a key, or past all that begin with some bytes of it, where none of these passes a test
abbrev pub PassesOver : (List ℕ → Bool) → List ℕ → KeySpan → KeySpan → Type 0
PassesOver accepts key old new =
    ((accepts key ≡ false) × HoldsBehind old new key)
    ⊎ ((len : ℕ) × (len ≤ length key) × IsDeadEnd accepts (take len key) × HoldsPast old new (take len key))

-- a range leaves a key, which passes a test or doesn't
abbrev pub LeavesKey : (List ℕ → Bool) → List ℕ → KeySpan → KeySpan → Bool → Type 0
LeavesKey accepts key old new passes = MatchBool passes ((accepts key ≡ true) × HoldsBehind old new key) (PassesOver accepts key old new)
