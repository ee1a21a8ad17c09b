-- How an error of the system is reported.
use Rattle.std.specs.Prelude.{◌≡◌, ◌≢◌}
use Rattle.std_io.specs.declared.io.error.Error.{Error}
use Rattle.std_io.specs.declared.io.kind.ErrorKind.TheVariants.{OutOfMemory}
use Rattle.std_io.specs.IoError.{error_kind}
use Rattle.cedar_disk.specs.declared.system.OpenError.{OpenError}
use Rattle.cedar_disk.specs.declared.system.OpenError.TheVariants.{Io, Locked, Memory}

-- an error of the system of the kind `OutOfMemory` is reported as lack of memory, and any other itself
pub record TellsKind (error : Error) (gives : OpenError) : Type 0 where
  pub memory : error_kind error ≡ OutOfMemory → gives ≡ Memory
  pub other : error_kind error ≢ OutOfMemory → gives ≡ Io error

-- the error isn't that another opening has the file
abbrev pub IsUnlocked : OpenError → Type 0
IsUnlocked Locked = ⊥
IsUnlocked _ = Unit {0}
