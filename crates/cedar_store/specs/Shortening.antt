-- What a change does about the length of its file, by the rule of its store.
use Rattle.std.specs.Prelude.{◌≡◌, ◌⊎◌, ℕ, ◌+◌, Bool, false, true, List, length, Ok, Err, Some}
use Rattle.cedar_journal.specs.Formats.{overhead}
use Rattle.cedarwood.specs.Queries.{walk}
use Rattle.cedarwood.specs.State.{State}
use Rattle.cedar_store.specs.Causes.{IsOfDevice}
use Rattle.cedar_store.specs.Compactions.{CompactCause, compacted_length, is_beyond}
use Rattle.cedar_store.specs.declared.compaction.CompactError.{CompactError}
use Rattle.cedar_store.specs.declared.compaction.CompactError.TheVariants.{Failed}
use Rattle.cedar_store.specs.declared.compaction.Compaction.TheVariants.{Never}
use Rattle.cedar_store.specs.declared.error.DurableError.{DurableError}
use Rattle.cedar_store.specs.declared.store.Store.{Store}
use Rattle.cedar_store.specs.Files.{record_count}

-- the file's length wasn't looked at, and no compaction is reported
abbrev pub IsUnlooked : {T A D : Type 0} → Store T A D → Store T A D → Type 0
IsUnlooked old new = (new.base ≡ old.base) × (new.last_compaction ≡ old.last_compaction)

-- whether a change is to look at the file's length, after which the records end there: the file is too long for what it
-- had at the last look
abbrev pub is_due : {T A D : Type 0} → Store T A D → ℕ → Bool
is_due store end = is_beyond store.compaction store.base end

-- the file's length wasn't looked at, nor had it to be (`is_due`): the records end where the change's record does
abbrev pub IsNotDue : {T A D : Type 0} → ℕ → Store T A D → Store T A D → Type 0
IsNotDue end old new = IsUnlooked old new × (new.journal.end ≡ end) × (is_due old end ≡ false)

-- the file isn't too long for its entries
abbrev pub IsShortEnough : {T A D : Type 0} → (T → State) → Store T A D → Store T A D → Type 0
IsShortEnough state old new =
    (new.last_compaction ≡ old.last_compaction) × (is_beyond old.compaction (compacted_length (walk (state new.words).tree)) new.journal.end ≡ false)

-- the file was made short: it has a record for each entry, and no more bytes than these take. Only a rule other than
-- `Never` does so, and `last_compaction` reports it
abbrev pub IsShortened : {T A D : Type 0} → (D → List ℕ) → (T → State) → Store T A D → Store T A D → Type 0
IsShortened seen state old new =
    (old.compaction ≡ Never → ⊥) × (new.last_compaction ≡ Some (Ok tt)) × (length (seen new.journal.device) ≡ compacted_length (walk (state new.words).tree))
    × (record_count (seen new.journal.device) ≡ Some (length (walk (state new.words).tree)))

-- the file was made short (`IsShortened`) by a change that was to look at its length (`is_due`)
abbrev pub IsShortenedIfDue : {T A D : Type 0} → (D → List ℕ) → (T → State) → ℕ → Store T A D → Store T A D → Type 0
IsShortenedIfDue seen state end old new = (is_due old end ≡ true) × IsShortened seen state old new

-- why a file is the old one: no new one was made in memory, or the device kept the old one
abbrev pub KeptCause : ℕ → ℕ → CompactError → Type 0
KeptCause before now Failed = ⊥
KeptCause before now e = CompactCause before now ⊥ e

-- the file was kept as it was, and `last_compaction` has the reason
abbrev pub IsKeptLong : {T A D : Type 0} → (D → ℕ) → Store T A D → Store T A D → Type 0
IsKeptLong faults old new =
    (e : CompactError) × (new.last_compaction ≡ Some (Err e)) × KeptCause (faults old.journal.device) (faults new.journal.device) e

-- a file whose records end there is too long for its entries
abbrev pub IsTooLong : {T A D : Type 0} → (T → State) → ℕ → Store T A D → Store T A D → Type 0
IsTooLong state end old new = is_beyond old.compaction (compacted_length (walk (state new.words).tree)) end ≡ true

-- what came of a look at the length of a file whose records ended there: it is short enough; or it was too long for its
-- entries, and was made short; or it was kept, which is reported
abbrev pub IsSeenTo : {T A D : Type 0} → (D → List ℕ) → (D → ℕ) → (T → State) → ℕ → Store T A D → Store T A D → Type 0
IsSeenTo seen faults state end old new =
    (new.base ≡ new.journal.end) × (IsShortEnough state old new ⊎ (IsTooLong state end old new × IsShortened seen state old new) ⊎ IsKeptLong faults old new)

-- the file's length was looked at (`IsSeenTo`), and had to be (`is_due`)
abbrev pub IsLookedAt : {T A D : Type 0} → (D → List ℕ) → (D → ℕ) → (T → State) → ℕ → Store T A D → Store T A D → Type 0
IsLookedAt seen faults state end old new = (is_due old end ≡ true) × IsSeenTo seen faults state end old new

-- where the records end once one more is behind them, whose payload has n bytes
abbrev pub end_behind : {T A D : Type 0} → Store T A D → ℕ → ℕ
end_behind store n = store.journal.end + (overhead store.journal.format + n)

-- what a change has done about the length of its file, whose records ended there once it was recorded: it wasn't due
-- to be looked at (`IsNotDue`), or it was looked at (`IsLookedAt`)
abbrev pub IsLookedAfter : {T A D : Type 0} → (D → List ℕ) → (D → ℕ) → (T → State) → ℕ → Store T A D → Store T A D → Type 0
IsLookedAfter seen faults state end old new = IsNotDue end old new ⊎ IsLookedAt seen faults state end old new

-- the same of a change whose record has a payload of n bytes, and is the last one of its file
abbrev pub IsLookedAfterRecord : {T A D : Type 0} → (D → List ℕ) → (D → ℕ) → (T → State) → ℕ → Store T A D → Store T A D → Type 0
IsLookedAfterRecord seen faults state n old new = IsLookedAfter seen faults state (end_behind old n) old new

-- the device failed in a compaction, so that it isn't known which file is there, and `last_compaction` reports that
abbrev pub IsFailureTold : {T A D : Type 0} → (D → Type 0) → Store T A D → Type 0
IsFailureTold is_lost new = (new.base ≡ new.journal.end) × (new.last_compaction ≡ Some (Err Failed)) × is_lost new.journal.device

-- what a change that wasn't acknowledged, with this error, has done about the length of its file: nothing; or the
-- device failed, and `last_compaction` reports that (`IsFailureTold`)
abbrev pub IsLookedAfterError : {T A D : Type 0} → (D → ℕ) → (D → Type 0) → Store T A D → Store T A D → DurableError → Type 0
IsLookedAfterError faults is_lost old new e =
    IsUnlooked old new ⊎ (IsOfDevice (faults old.journal.device) (faults new.journal.device) e × IsFailureTold is_lost new)
