use Rattle.std.proofs.Common.{◌∙◌, rules, subst, sym}
use Rattle.std.specs.Prelude.{IsErrOf}
use Rattle.cedar_journal.specs.declared.device.DeviceError.TheVariants.{NoRoom}
use Rattle.cedar_journal.specs.Device.{HasCause}
use Rattle.whole_files.specs.Calls.{faults_in, full_in}
use Rattle.cedar_disk.specs.NotedFiles.{noted_calls}
use Rattle.std.proofs.lemmas.Bool.{false≢true}
use Rattle.cedar_disk.proofs.Writing.{torn_in_part}
use Rattle.cedar_disk.proofs.account.Account.write.Goals as goal

pub invariant_of-self : goal.invariant_of-self
invariant_of-self g c = record {
  usable = λ _. c.in-Ok.ensures.written.usable c.requires.usable;
  known = λ is. c.in-Ok.ensures.spoils.named ∙ c.args.self.now.known is;
  lost = λ is. c.in-Ok.ensures.spoils.named ∙ c.args.self.now.lost is;
  clean = λ is. absurd (false≢true (sym is));
  within = c.in-Ok.ensures.spoils.within c.args.self.now.within;
  placed = c.in-Ok.ensures.name ∙ c.args.self.now.placed;
}

pub invariant_of-self-in-Err-NoRoom : goal.invariant_of-self-in-Err-NoRoom
invariant_of-self-in-Err-NoRoom g c =
    let none : IsErrOf c.write_all.result NoRoom = search rules in
    record {
      usable = λ _. (c.write_all.ensures.no_room none).2.usable c.requires.usable;
      known = λ is. c.write_all.ensures.spoils.named ∙ c.args.self.now.known is;
      lost = λ is. c.write_all.ensures.spoils.named ∙ c.args.self.now.lost is;
      clean = λ is. absurd (false≢true (sym is));
      within = c.write_all.ensures.spoils.within c.args.self.now.within;
      placed = c.write_all.ensures.name ∙ c.args.self.now.placed;
    }

pub returns-in-Err-NoRoom-clause-no_room : goal.returns-in-Err-NoRoom-clause-no_room
returns-in-Err-NoRoom-clause-no_room g c = λ _.
    let none : IsErrOf c.write_all.result NoRoom = search rules in
    torn_in_part c.args.at c.args.bytes.now (noted_calls c.args.self.now.file) (noted_calls c.write_all.new.file) c.requires.within (c.write_all.ensures.no_room none)

pub invariant_of-self-in-Err : goal.invariant_of-self-in-Err
invariant_of-self-in-Err g c = record {
  usable = λ is. absurd (false≢true (sym is));
  known = λ is. c.in-Err.ensures.spoils.named ∙ c.args.self.now.known is;
  lost = λ is. c.in-Err.ensures.spoils.named ∙ c.args.self.now.lost is;
  clean = λ is. absurd (false≢true (sym is));
  within = c.in-Err.ensures.spoils.within c.args.self.now.within;
  placed = c.in-Err.ensures.name ∙ c.args.self.now.placed;
}

pub returns-in-Ok-clause-written : goal.returns-in-Ok-clause-written
returns-in-Ok-clause-written g c = c.in-Ok.ensures.written.seen

pub returns-in-Ok-clause-crash : goal.returns-in-Ok-clause-crash
returns-in-Ok-clause-crash g c = c.in-Ok.ensures.spoils.crash

pub returns-in-Ok-clause-time : goal.returns-in-Ok-clause-time
returns-in-Ok-clause-time g c = c.in-Ok.ensures.spoils.time

pub returns-in-Ok-clause-cause : goal.returns-in-Ok-clause-cause
returns-in-Ok-clause-cause g c = c.in-Ok.ensures.cause

pub returns-in-Err-clause-crash : goal.returns-in-Err-clause-crash
returns-in-Err-clause-crash g c = c.in-Err.ensures.spoils.crash

pub returns-in-Err-clause-time : goal.returns-in-Err-clause-time
returns-in-Err-clause-time g c = c.in-Err.ensures.spoils.time

pub returns-in-Err-clause-cause : goal.returns-in-Err-clause-cause
returns-in-Err-clause-cause g c = c.in-Err.ensures.cause

pub returns-in-Err-NoRoom-clause-cause : goal.returns-in-Err-NoRoom-clause-cause
returns-in-Err-NoRoom-clause-cause g c =
    let none : IsErrOf c.write_all.result NoRoom = search rules in
    let old = noted_calls c.args.self.now.file in
    let new = noted_calls c.write_all.new.file in
    subst (λ r. HasCause (faults_in old) (faults_in new) (full_in old) (full_in new) r) none c.write_all.ensures.cause
