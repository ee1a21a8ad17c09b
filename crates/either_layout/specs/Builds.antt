-- Why a build fails.
use Rattle.std.specs.Prelude.{◌≡◌, ◌⊎◌, ◌*◌, ◌≤◌, ℕ, List, length}
use Rattle.cedarwood.specs.declared.error.CedarError.{CedarError}
use Rattle.cedarwood.specs.declared.error.CedarError.TheVariants.{Memory, SlotLimit}
use Rattle.cedarwood.specs.Queries.{Entry, asc, prefixes}

-- 256 slots for each prefix of the keys of these entries are as many as `slots` or more
abbrev pub MayWantSlots : ℕ → List Entry → Type 0
MayWantSlots slots entries = slots ≤ 256 * length (prefixes (asc entries))

-- why a build of these entries, of which none has a fault, fails: for lack of memory, or, only if there might not be
-- enough, of slots
abbrev pub IsBuildShortage : ℕ → List Entry → CedarError → Type 0
IsBuildShortage slots entries e = (e ≡ Memory) ⊎ ((e ≡ SlotLimit) × MayWantSlots slots entries)
