-- An error of the system is never reported as a lock.
use Rattle.std.specs.Prelude.{Result, Err, IfErr}
use Rattle.std.proofs.Common.{◌≡◌, ◌≢◌, subst, sym}
use Rattle.std_io.specs.declared.io.error.Error.{Error}
use Rattle.std_io.specs.declared.io.kind.ErrorKind.TheVariants.{OutOfMemory}
use Rattle.std_io.specs.IoError.{error_kind}
use Rattle.cedar_disk.specs.declared.system.OpenError.{OpenError}
use Rattle.cedar_disk.specs.declared.system.OpenError.TheVariants as refusal
use Rattle.cedar_disk.specs.Errors.{IsUnlocked, TellsKind}

pub unlocked : (error : Error) (gives : OpenError) → TellsKind error gives → IsUnlocked gives
unlocked error refusal.Memory tells = tt
unlocked error (refusal.Io e) tells = tt
unlocked error refusal.Locked tells =
    let other : error_kind error ≢ OutOfMemory = λ is. subst IsUnlocked (sym (tells.memory is)) tt in
    subst IsUnlocked (sym (tells.other other)) tt
