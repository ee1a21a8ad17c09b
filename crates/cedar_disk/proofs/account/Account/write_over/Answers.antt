use Rattle.std.specs.Prelude.{Err}
use Rattle.std.proofs.Common.{◌≡◌, ap, arith, List, subst, suc, sym}
use Rattle.cedar_journal.specs.declared.device.DeviceError.TheVariants.{Failed}
use Rattle.cedar_journal.specs.Device.{HasCause}
use Rattle.cedar_journal.proofs.Causes.{caused}
use Rattle.cedar_disk.specs.Accounts.{calls_of}
use Rattle.whole_files.specs.Calls.{Call, faults_in, full_in, refused_call}
use Rattle.cedar_disk.specs.Runs.{TimePasses}
use Rattle.cedar_disk.proofs.Steps.{elapses_on, refused_keeps}
use Rattle.cedar_disk.proofs.account.Account.write_over.Goals as goal

pub returns-in-Err-clause-crash : goal.returns-in-Err-clause-crash
returns-in-Err-clause-crash g c = λ d left. c.write.ensures.crash d (refused_keeps (calls_of c.write.new.self) (calls_of c.fail.new.self) c.fail.ensures.calls d left)

pub returns-in-Err-clause-time : goal.returns-in-Err-clause-time
returns-in-Err-clause-time g c =
    let old = calls_of c.args.self.now in
    subst (λ (l : List Call). TimePasses old l) (sym c.fail.ensures.calls) (elapses_on refused_call old (calls_of c.write.new.self) c.write.ensures.time (λ d left. left))

pub returns-in-Err-clause-cause : goal.returns-in-Err-clause-cause
returns-in-Err-clause-cause g c =
    let old = calls_of c.args.self.now in
    let mid = calls_of c.write.new.self in
    let new = calls_of c.fail.new.self in
    let more : faults_in new ≡ suc (faults_in mid) = ap faults_in c.fail.ensures.calls in
    let still : full_in new ≡ full_in mid = ap full_in c.fail.ensures.calls in
    let cause = c.write.ensures.cause in
    subst (λ e. HasCause (faults_in old) (faults_in new) (full_in old) (full_in new) (Err e)) (sym c.fail.ensures.failed)
    (caused _ _ _ _ (Err Failed) (omega (arith, more, cause.later)) (omega (arith, still, cause.no_less)) tt (omega (arith, more, cause.later)))
