-- What was written by a call below, told as a fault of the script.
use Rattle.std.proofs.Common.{◌≡◌, Ok, Err, List, Option, ℕ, ap}
use Rattle.std.specs.Prelude.{Result}
use Rattle.std.specs.Result.{IsErrAnd}
use Rattle.cedarwood.specs.Words.{Watched}
use Rattle.device_lines.specs.Written.{WritesBytes}
use Rattle.device_lines.specs.declared.write.WriteFault.{WriteFault}
use Rattle.device_lines.specs.declared.write.WriteFault.TheVariants.{Write as Unwritten}
use Rattle.cedar_cli.specs.declared.script.ScriptError.{ScriptError}
use Rattle.cedar_cli.specs.declared.script.ScriptError.TheVariants.{Write}

module _ {X Y D : Type 0} {contents : D → Option (List ℕ)} {a c : Watched D} {bytes : List ℕ} where
  -- all was written
  pub written_whole : {x : X} {y : Y} → WritesBytes {X = X} {E = WriteFault} contents Unwritten a c bytes (Ok x) → WritesBytes {X = Y} {E = ScriptError} contents Write a c bytes (Ok y)
  written_whole w = record { ok = w.ok; err = tt; faults = record { unfailed = w.faults.unfailed; cause = tt } }

  -- a part was written
  pub written_part : {e : WriteFault} {r : Result Y ScriptError} → IsErrAnd r (λ y. y ≡ Write) → WritesBytes {X = X} {E = WriteFault} contents Unwritten a c bytes (Err e)
      → WritesBytes {X = Y} {E = ScriptError} contents Write a c bytes r
  written_part {r = Ok x} is w = absurd is
  written_part {r = Err y} is w = record { ok = tt; err = w.err; faults = record { unfailed = tt; cause = (ap Err is, w.faults.cause.1) } }
