use Rattle.std.specs.Prelude.{option_and_then, option_map}
use Rattle.std.proofs.Common.{◌≡◌, [], ◌∷◌, false, length, ◌+◌, ◌∙◌, ap, inl, refl, rules, subst}
use Rattle.cedar_journal.specs.Frames.{payload_of}
use Rattle.cedarwood.specs.State.{after_erase}
use Rattle.cedar_store.specs.Changes.{after, all_changed, erase_at}
use Rattle.cedar_store.specs.Promises.{DeviceFails, DeviceIsFull, IsRecordedIn}
use Rattle.cedar_store.specs.Shortening.{end_behind, IsLookedAfter}
use Rattle.cedar_store.proofs.Compacted.{on_each_err, recorded_in}
use Rattle.cedar_store.proofs.Payloads.{handed_on}
use Rattle.cedar_store.proofs.Unwritten.{erase_unwritten, leaves_so, ready_unwritten}
use Rattle.cedar_store.proofs.store.Store.erase_bytes.Goals as goal

pub acknowledge-requires-clause-ordered : goal.acknowledge-requires-clause-ordered
acknowledge-requires-clause-ordered g c = c.requires.ready.ordered

pub acknowledge-requires-clause-stands : goal.acknowledge-requires-clause-stands
acknowledge-requires-clause-stands g c =
    let s = (g.T.Words.state c.args.self.now.words) in
    let ready : c.args.self.now.failed ≡ false = search rules in
    let told = ap (option_map (all_changed s)) c.in_ok-erasure.ensures.change in
    ap (option_and_then (λ t. after t (payload_of c.in_ok-erasure.erasure))) (c.requires.ready.consistent ready).same ∙ told

pub returns-in_err-acknowledge-clause-any_moment : goal.returns-in_err-acknowledge-clause-any_moment
returns-in_err-acknowledge-clause-any_moment g c = λ ready. c.acknowledge.ensures.any_moment (g.T.Words.state c.args.self.now.words) (c.requires.ready.consistent ready).same

pub returns-clause-any_moment : goal.returns-clause-any_moment
returns-clause-any_moment g c = λ ready. c.acknowledge.ensures.any_moment (g.T.Words.state c.args.self.now.words) (c.requires.ready.consistent ready).same

pub returns-in_err-acknowledge-clause-cause : goal.returns-in_err-acknowledge-clause-cause
returns-in_err-acknowledge-clause-cause g c =
    let d = g.D.Device in
    let old = c.args.self.now in
    let new = c.acknowledge.new.self in
    let e = c.in_err-acknowledge.field-0.0 in
    handed_on c.from_residual-in_err-acknowledge.result e _ c.from_residual-in_err-acknowledge.ensures.1
    (erase_unwritten old.failed new.failed old.journal.end (length c.args.key.now + 1) (DeviceFails d.faults old new) (DeviceIsFull d.faults d.full old new) e c.in_err-acknowledge.ensures.err)

pub returns-in_err-erasure-clause-told : goal.returns-in_err-erasure-clause-told
returns-in_err-erasure-clause-told g c = on_each_err c.from_residual.result (λ e. inl (refl, refl))

pub returns-in_err-acknowledge-clause-told : goal.returns-in_err-acknowledge-clause-told
returns-in_err-acknowledge-clause-told g c =
    handed_on c.from_residual-in_err-acknowledge.result c.in_err-acknowledge.field-0.0 _ c.from_residual-in_err-acknowledge.ensures.1 c.in_err-acknowledge.ensures.told

pub returns-in_err-acknowledge-clause-err : goal.returns-in_err-acknowledge-clause-err
returns-in_err-acknowledge-clause-err g c =
    let d = g.D.Device in
    let state = g.T.Words.state in
    let old = c.args.self.now in
    let new = c.acknowledge.new.self in
    let usable : old.failed ≡ false = search rules in
    let e = c.in_err-acknowledge.field-0.0 in
    handed_on c.from_residual-in_err-acknowledge.result e _ c.from_residual-in_err-acknowledge.ensures.1
    (leaves_so (DeviceFails d.faults old new) (DeviceIsFull d.faults d.full old new) old.failed new.failed e _ _ _ _ _ c.in_err-acknowledge.ensures.err c.in_err-acknowledge.ensures.left
    (λ broken made. (broken, made)) (λ still room. (still ∙ usable, room.end, ap state room.words)))

pub returns-in_err-acknowledge-clause-ready : goal.returns-in_err-acknowledge-clause-ready
returns-in_err-acknowledge-clause-ready g c =
    let d = g.D.Device in
    let state = g.T.Words.state in
    let old = c.args.self.now in
    let new = c.acknowledge.new.self in
    let usable : old.failed ≡ false = search rules in
    ready_unwritten d.seen d.may_leave state old new (DeviceFails d.faults old new) (DeviceIsFull d.faults d.full old new) (after_erase (state old.words) c.args.key.now) c.in_err-acknowledge.field-0.0 c.requires.ready.ordered c.requires.ready usable
    c.in_err-acknowledge.ensures.err c.in_err-acknowledge.ensures.left

pub returns-clause-recorded : goal.returns-clause-recorded
returns-clause-recorded g c = λ _.
    let seen = g.D.Device.seen in
    let changes = erase_at c.args.key.now ∷ [] in
    subst (λ n. IsRecordedIn seen g.T.Words.state n c.args.self.now c.acknowledge.new.self changes) c.in_ok-erasure.ensures.length
    (recorded_in (seen c.args.self.now.journal.device) (seen c.acknowledge.new.self.journal.device) (payload_of c.in_ok-erasure.erasure) changes c.in_ok-erasure.ensures.change c.in_ok-acknowledge.ensures.recorded)

pub returns-in_err-acknowledge-clause-counted : goal.returns-in_err-acknowledge-clause-counted
returns-in_err-acknowledge-clause-counted g c = λ was. c.acknowledge.ensures.counted was

pub returns-clause-counted : goal.returns-clause-counted
returns-clause-counted g c = λ was. c.acknowledge.ensures.counted was

pub returns-clause-looked_after : goal.returns-clause-looked_after
returns-clause-looked_after g c = λ _.
    subst (λ n. IsLookedAfter g.D.Device.seen g.D.Device.faults g.T.Words.state (end_behind c.args.self.now n) c.args.self.now c.acknowledge.new.self) c.in_ok-erasure.ensures.length c.in_ok-acknowledge.ensures.looked_after
