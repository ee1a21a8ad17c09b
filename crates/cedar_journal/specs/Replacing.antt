-- What the replacement of a file returns.
use Rattle.std.specs.Prelude.{Result, Ok, Err}
use Rattle.cedar_journal.specs.declared.device.DeviceError.{DeviceError}
use Rattle.cedar_journal.specs.declared.device.DeviceError.TheVariants.{Memory}
use Rattle.cedar_journal.specs.declared.replace.ReplaceError.{ReplaceError}
use Rattle.cedar_journal.specs.declared.replace.ReplaceError.TheVariants.{Kept, Failed}

-- P holds if it is reported that the old file was kept
abbrev pub IfKept : {T : Type 0} → Result T ReplaceError → Type 0 → Type 0
IfKept (Ok done) P = Unit {0}
IfKept (Err (Kept why)) P = P
IfKept (Err Failed) P = Unit {0}

-- lack of memory, as a device reports it
abbrev pub device_memory : DeviceError
device_memory = Memory
