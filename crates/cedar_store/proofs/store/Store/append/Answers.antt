use Rattle.std.specs.Prelude.{IsErrOf, option_map}
use Rattle.std.proofs.Common.{◌∙◌, ap, arith, length, refl, rules, sym}
use Rattle.std.proofs.lemmas.Bool.{false≢true}
use Rattle.cedar_journal.specs.declared.journal.JournalError.TheVariants as journal
use Rattle.cedar_journal.specs.Frames.{payload_of}
use Rattle.cedar_store.proofs.Counted.{counted_more, few_settled}
use Rattle.cedar_store.proofs.store.Store.append.Goals as goal

pub returns-in-Err-Full-clause-err : goal.returns-in-Err-Full-clause-err
returns-in-Err-Full-clause-err g c =
    let is : IsErrOf c.append.result journal.Full = search rules in
    let far = c.append.ensures.full is in
    absurd (omega (arith, far, c.requires.room))

pub returns-in-Err-NoRoom-clause-err : goal.returns-in-Err-NoRoom-clause-err
returns-in-Err-NoRoom-clause-err g c =
    let is : IsErrOf c.append.result journal.NoRoom = search rules in
    (c.append.ensures.wanting is, refl)

pub returns-in-Ok-clause-counted : goal.returns-in-Ok-clause-counted
returns-in-Ok-clause-counted g c = λ was usable.
    let seen = g.D.Device.seen in
    let old = c.args.self.now in
    let settled = c.requires.settled in
    let counted = was usable in
    let few = few_settled (seen old.journal.device) old.journal.format old.journal.end old.records settled.split settled.front counted in
    counted_more (seen old.journal.device) (seen c.append.new.self.device) (payload_of c.args.frame.now) old.records c.saturating_add-records.result counted c.in-Ok.ensures.acknowledged
    (omega (arith, few, c.requires.room, c.saturating_add-records.ensures))

pub returns-in-Err-Full-clause-counted : goal.returns-in-Err-Full-clause-counted
returns-in-Err-Full-clause-counted g c = λ was usable.
    let is : IsErrOf c.append.result journal.Full = search rules in
    let far = c.append.ensures.full is in
    absurd (omega (arith, far, c.requires.room))

pub returns-in-Err-NoRoom-clause-counted : goal.returns-in-Err-NoRoom-clause-counted
returns-in-Err-NoRoom-clause-counted g c = λ was usable.
    let is : IsErrOf c.append.result journal.NoRoom = search rules in
    ap (option_map length) (c.append.ensures.same_left is) ∙ was usable

pub returns-in-Err-Device-clause-counted : goal.returns-in-Err-Device-clause-counted
returns-in-Err-Device-clause-counted g c = λ was usable. absurd (false≢true (sym usable))

pub returns-in-Err-Device-clause-err : goal.returns-in-Err-Device-clause-err
returns-in-Err-Device-clause-err g c =
    let is : IsErrOf c.append.result (journal.Device c.in-Err-Device.error) = search rules in
    (c.append.ensures.failed c.in-Err-Device.error is, refl)
