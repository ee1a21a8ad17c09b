-- What one call more counts.
use Rattle.std.specs.Prelude.{Ok, Err}
use Rattle.std.proofs.Common.{◌≡◌, suc, List, ◌∷◌, ◌∙◌, ap, arith, refl}
use Rattle.cedar_journal.specs.declared.device.DeviceError.TheVariants.{Failed}
use Rattle.cedar_journal.specs.Device.{HasCause}
use Rattle.cedar_journal.proofs.Causes.{caused}
use Rattle.whole_files.specs.Calls.{Call, faults_in, full_in}

module _ (call : Call) (old new : List Call) (is : new ≡ call ∷ old) (still : full_in (call ∷ old) ≡ full_in old) where
  pub call_done : faults_in (call ∷ old) ≡ faults_in old → HasCause {T = Unit {0}} (faults_in old) (faults_in new) (full_in old) (full_in new) (Ok tt)
  call_done same =
      let faults = ap faults_in is ∙ same in
      let full = ap full_in is ∙ still in
      caused {T = Unit {0}} _ _ _ _ (Ok tt) (omega (arith, faults)) (omega (arith, full)) faults tt

  pub call_failed : faults_in (call ∷ old) ≡ suc (faults_in old) → HasCause {T = Unit {0}} (faults_in old) (faults_in new) (full_in old) (full_in new) (Err Failed)
  call_failed more =
      let faults = ap faults_in is ∙ more in
      let full = ap full_in is ∙ still in
      caused _ _ _ _ (Err Failed) (omega (arith, faults)) (omega (arith, full)) tt (omega (arith, faults))

-- no call more
pub none_done : (calls : List Call) → HasCause {T = Unit {0}} (faults_in calls) (faults_in calls) (full_in calls) (full_in calls) (Ok tt)
none_done calls = caused {T = Unit {0}} _ _ _ _ (Ok tt) (omega arith) (omega arith) refl tt
