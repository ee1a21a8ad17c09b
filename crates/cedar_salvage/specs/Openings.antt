-- Why a store wasn't opened whose opening keeps what it cuts, and what that leaves.
use Rattle.std.specs.Prelude.{◌<◌, ℕ, List}
use Rattle.cedar_store.specs.Causes.{IsBeforeWrites}
use Rattle.cedar_store.specs.Promises.{IsOpenCause}
use Rattle.cedar_salvage.specs.declared.keep.KeepError.{KeepError}
use Rattle.cedar_salvage.specs.declared.keep.KeepError.TheVariants.{Unread}
use Rattle.cedar_salvage.specs.declared.opening.OpeningError.{OpeningError}
use Rattle.cedar_salvage.specs.declared.opening.OpeningError.TheVariants.{Keep, Open}

-- the store's device could be read, or there was no memory for its bytes
abbrev pub IsReadable : KeepError → Type 0
IsReadable Unread = ⊥
IsReadable _ = Unit {0}

-- why what an opening would cut off wasn't kept: if the store's device couldn't be read, a call of it has failed.
-- `before` and `now` are how often it has
abbrev pub KeepCause : ℕ → ℕ → KeepError → Type 0
KeepCause before now Unread = before < now
KeepCause before now _ = Unit {0}

-- the opening was tried, and failed
abbrev pub IsOfOpening : OpeningError → Type 0
IsOfOpening (Keep e) = ⊥
IsOfOpening (Open e) = Unit {0}

-- the store's file wasn't written to: what the opening would cut off it wasn't kept, or the opening's error isn't the
-- device's
abbrev pub IsBeforeWriting : OpeningError → Type 0
IsBeforeWriting (Keep e) = Unit {0}
IsBeforeWriting (Open e) = IsBeforeWrites e

-- the error isn't that of the store's device
abbrev pub IsUnfailed : OpeningError → Type 0
IsUnfailed (Keep e) = IsReadable e
IsUnfailed (Open e) = IsBeforeWrites e

-- why nothing was kept (`KeepCause`), or why the opening failed, if it was tried (`IsOpenCause`)
abbrev pub IsOpeningCause : {D : Type 0} → (D → List ℕ) → (D → ℕ) → (D → ℕ) → D → D → OpeningError → Type 0
IsOpeningCause seen faults full old new (Keep e) = KeepCause (faults old) (faults new) e
IsOpeningCause seen faults full old new (Open e) = IsOpenCause seen faults full old new e
