-- What a reported fault says of a run of the program.
use Rattle.std.proofs.Common.{◌≡◌, ◌++◌, ℕ, Bool, true, List, Option, Ok, Err, OnErr, arith, inl, inr}
use Rattle.std.specs.Prelude.{OnOk, Result}
use Rattle.cedar_cli.specs.Options.{Request}
use Rattle.cedar_cli.specs.Statuses.{AsksForFile, EndsBy, IsReported, TellsCause, WritesOrFailed}
use Rattle.cedarwood.specs.WatchedDevice.{device_of, has_failed}
use Rattle.device_lines.specs.Written.{Writes}
use Rattle.device_lines.proofs.Bytes.{Appends-append}
use Rattle.cedarwood.specs.Words.{Watched}
use Rattle.cedar_cli.specs.declared.program.Fault.{Fault}
use Rattle.cedar_cli.specs.declared.program.Fault.TheVariants.{Load, Save, Script}

-- at status 1 the line of a fault that shows its cause is written
pub tells_cause : {E : Type 0} (name : List ℕ) (contents : E → Option (List ℕ)) (before after : Watched E) (asked : Request) (unread read written : Bool) (fault : Fault) (status : ℕ)
    → EndsBy asked unread read written fault → IsReported name contents before after fault status → status ≡ 1 → TellsCause name contents before after unread read written
tells_cause name contents before after asked unread read written (Script fault) status ends told is = (fault, ends, told.1)
tells_cause name contents before after asked unread read written (Load e) status ends told is = absurd (omega (arith, told, is))
tells_cause name contents before after asked unread read written (Save e) status ends told is = absurd (omega (arith, told, is))

-- and at status 3 a load or a save was asked for
pub asks_for_file : {E : Type 0} (name : List ℕ) (contents : E → Option (List ℕ)) (before after : Watched E) (asked : Request) (unread read written : Bool) (fault : Fault) (status : ℕ)
    → EndsBy asked unread read written fault → IsReported name contents before after fault status → status ≡ 3 → AsksForFile asked
asks_for_file name contents before after asked unread read written (Script fault) status ends told is = absurd (let one = told.0 in omega (arith, one, is))
asks_for_file name contents before after asked unread read written (Load e) status ends told is = inl ends
asks_for_file name contents before after asked unread read written (Save e) status ends told is = inr ends

-- a part was written, and then what follows it, or a call of the writer failed
pub told_further : {E : Type 0} (contents : E → Option (List ℕ)) (a b c : Watched E) (first second : List ℕ)
    → Writes contents a b first → WritesOrFailed contents b c second → WritesOrFailed contents a c (first ++ second)
told_further contents a b c first second p (inl q) = inl (Appends-append (contents (device_of a)) (contents (device_of b)) (contents (device_of c)) first second p q)
told_further contents a b c first second p (inr failed) = inr failed

-- a call wrote all, or failed
pub told_or_failed : {E X F : Type 0} (contents : E → Option (List ℕ)) (b c : Watched E) (bytes : List ℕ) (r : Result X F)
    → OnOk r (Writes contents b c bytes) → OnErr r (has_failed c ≡ true) → WritesOrFailed contents b c bytes
told_or_failed contents b c bytes (Ok x) q failed = inl q
told_or_failed contents b c bytes (Err e) q failed = inr failed
