-- What a crash never makes of a file.
use Rattle.std.specs.Prelude.{◌⊎◌, List, ℕ, IsSome}
use Rattle.cedar_journal.specs.declared.records.Extent.{Extent}
use Rattle.cedar_journal.specs.Files.{file_payloads, HasExtent}
use Rattle.cedar_journal.specs.Journal.{IsBeforeOrAfter, StandsForEither}

-- the file represents some payloads. `extent_of` refuses exactly the files that don't
abbrev pub IsAccepted : List ℕ → Type 0
IsAccepted file = IsSome (file_payloads file)

-- a file of a known extent is accepted
abbrev pub ExtentsAreAccepted : Type 0
ExtentsAreAccepted = (file : List ℕ) (extent : Extent) → HasExtent file extent → IsAccepted file

-- what a crash may leave of a file, by the clauses `any_moment`
abbrev pub MayBeLeft : List ℕ → List ℕ → Type 0
MayBeLeft file c =
    ((payload : List ℕ) × IsBeforeOrAfter (file_payloads file) payload c) ⊎ ((payloads : List (List ℕ)) × StandsForEither (file_payloads file) payloads c)

-- what a crash may leave of an accepted file is accepted
abbrev pub CrashesAreAccepted : Type 0
CrashesAreAccepted = (file c : List ℕ) → IsAccepted file → MayBeLeft file c → IsAccepted c
