-- What a save by path did, and what one that failed did.
use Rattle.std.specs.Prelude.{◌≡◌, ◌∷◌, [], ℕ, List, MatchOption}
use Rattle.whole_files.specs.Beginnings.{not_begun_calls, not_begun_opened}
use Rattle.whole_files.specs.PathFiles.{path_calls}
use Rattle.whole_files.specs.Calls.{Call}
use Rattle.whole_files.specs.SpecialFiles.{sent_calls}
use Rattle.whole_files.specs.Words.{IsPlaced, IsSentTo, IsUnplacedAt, not_begun, was_opened}
use Rattle.cedar_format.specs.declared.error.CedarPersistenceError.{CedarPersistenceError}
use Rattle.cedar_format.specs.declared.error.CedarPersistenceError.TheVariants.{AllocationFailed, Io}
use Rattle.cedar_format.specs.Reading.{IsIo}
use Rattle.cedarwood.specs.declared.persistence.outcome.Saved.{Saved}
use Rattle.cedarwood.specs.declared.persistence.outcome.Saved.TheVariants.{Placed, Sent}
use Rattle.cedarwood.specs.declared.persistence.outcome.SaveFailed.{SaveFailed}
use Rattle.cedarwood.specs.declared.persistence.outcome.Unsaved.{Unsaved}
use Rattle.cedarwood.specs.declared.persistence.outcome.Unsaved.TheVariants as unsaved

-- what a save by path did. A new file of these bytes, which the disk had, was given its name at this path, and then
-- the name was on the disk. Or what is there isn't a file, and took exactly these bytes
abbrev pub IsSavedAt : {F : Type 0} → List ℕ → List ℕ → Saved F → Type 0
IsSavedAt path bytes (Placed calls) = IsPlaced path bytes (path_calls calls)
IsSavedAt path bytes (Sent sent) = IsSentTo path bytes (sent_calls sent)

-- what a save by path did that failed. Nothing was begun, at this path. Or a new file was made: nothing was done at this
-- path, or the disk had these bytes of the file before a rename that failed, or before a sync of the folder that failed.
-- Or something that isn't a file took a part
abbrev pub IsUnsaved : {F : Type 0} → List ℕ → List ℕ → Unsaved F → Type 0
IsUnsaved path bytes (unsaved.NotBegun failed) = not_begun_calls failed ≡ not_begun path ∷ []
IsUnsaved path bytes (unsaved.Made calls) = IsUnplacedAt path bytes (path_calls calls)
IsUnsaved path bytes (unsaved.Sent sent) = Unit {0}

-- what a save by path did at this path that was to give it these bytes, and failed (`IsUnsaved`)
abbrev pub IsUnsavedAt : {F : Type 0} → List ℕ → List ℕ → SaveFailed F → Type 0
IsUnsavedAt path bytes failed = IsUnsaved path bytes failed.done

-- there was no memory for the buffer of 8192 bytes of what was opened to be written to
abbrev pub IsBufferless : List Call → CedarPersistenceError → Type 0
IsBufferless opened e = (opened ≡ was_opened ∷ []) × (e ≡ AllocationFailed 8192)

-- why a save by path failed, by what it did. Where nothing was begun: the system's error, or, if there is none, that there was no
-- memory for the buffer (`IsBufferless`). Once something was made or opened there: an error of the system
abbrev pub IsErrorOf : {F : Type 0} → Unsaved F → CedarPersistenceError → Type 0
IsErrorOf (unsaved.NotBegun failed) e = MatchOption failed.error (IsBufferless (not_begun_opened failed) e) (λ cause. e ≡ Io cause)
IsErrorOf (unsaved.Made calls) e = IsIo e
IsErrorOf (unsaved.Sent sent) e = IsIo e

-- a save by path that failed tells the error of what it did (`IsErrorOf`)
abbrev pub TellsError : {F : Type 0} → SaveFailed F → Type 0
TellsError failed = IsErrorOf failed.done failed.error
