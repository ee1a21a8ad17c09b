-- What a table lacked, as a call on a dictionary reports it.
use Rattle.cedar_slots.specs.declared.shortage.Shortage.{Shortage}
use Rattle.cedar_slots.specs.declared.shortage.Shortage.TheVariants as shortage
use Rattle.cedarwood.specs.declared.error.CedarError.{CedarError}
use Rattle.cedarwood.specs.declared.error.CedarError.TheVariants.{Memory, SlotLimit}

-- the error that a table's shortage is reported as
abbrev pub error_of_shortage : Shortage → CedarError
error_of_shortage shortage.Memory = Memory
error_of_shortage shortage.SlotLimit = SlotLimit
