-- What keeps a pair from being stored.
use Rattle.std.specs.Prelude.{◌≡◌, ℕ, ◌&&◌, ◌==◌, pos, int_le, if◌then◌else◌, ℤ, List, [], ◌∷◌}
use Rattle.std.specs.Prelude.{Option, Some, None, position, option_map}
use Rattle.cedarwood.specs.declared.error.CedarError.{CedarError}
use Rattle.cedarwood.specs.declared.error.CedarError.TheVariants.{EmptyKey, NulByte, InvalidValue}
use Rattle.cedarwood.specs.declared.error.CedarError.TheVariants.{Memory, SlotLimit}

-- the fault of a key: it is empty (`EmptyKey`), or it has a byte 0 (`NulByte`, with the position of the first one)
abbrev pub key_fault : List ℕ → Option CedarError
key_fault [] = Some EmptyKey
key_fault (b ∷ rest) = option_map NulByte (position (λ c. c == 0) (b ∷ rest))

-- the fault of a value that is out of range (`InvalidValue`)
abbrev pub value_fault : ℤ → Option CedarError
value_fault v = if int_le (pos 0) v && int_le v (pos 2147483645) then None else Some (InvalidValue v)

-- the first of two faults, if there is one
abbrev pub or_else : Option CedarError → Option CedarError → Option CedarError
or_else (Some e) other = Some e
or_else None other = other

-- the fault of a pair: the key's, or else the value's
abbrev pub fault : List ℕ → ℤ → Option CedarError
fault key v = or_else (key_fault key) (value_fault v)

-- a value from 0 to 2147483645
abbrev pub IsInRange : ℤ → Type 0
IsInRange v = value_fault v ≡ None

-- the error is `Memory` or `SlotLimit`: neither the pair nor the dictionary is at fault
abbrev pub IsShortage : CedarError → Type 0
IsShortage Memory = Unit {0}
IsShortage SlotLimit = Unit {0}
IsShortage _ = ⊥
