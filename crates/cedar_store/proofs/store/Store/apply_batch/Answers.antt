use Rattle.std.specs.Prelude.{nat_eq, option_and_then, option_map, Some}
use Rattle.std.specs.List.{AllByRecursion}
use Rattle.std.proofs.Common.{◌≡◌, false, true, ◌∙◌, ap, inl, length, refl, subst, sym, rules}
use Rattle.std.proofs.lemmas.Bool.{false≢true}
use Rattle.cedar_journal.specs.Device.{LeavesOnly}
use Rattle.cedar_journal.specs.Frames.{payload_of}
use Rattle.cedar_store.specs.Batches.{AreHeld, IsFaultless, all_erased_late, first_refused}
use Rattle.cedar_store.specs.Changes.{after, all_changed}
use Rattle.cedar_store.specs.Files.{IsEither}
use Rattle.cedar_store.specs.Promises.{DeviceFails, DeviceIsFull, IsRecordedIn}
use Rattle.cedar_store.specs.Shortening.{end_behind, IsLookedAfter}
use Rattle.cedar_store.specs.Told.{changes_told}
use Rattle.cedar_store.proofs.Compacted.{failed_ready, on_each_err, recorded_in}
use Rattle.cedar_store.proofs.FirstFaults.{first_handed, none_refused, nothing_told_of}
use Rattle.cedar_store.proofs.Ordered.{stays_ordered}
use Rattle.cedar_store.proofs.Payloads.{handed_on}
use Rattle.cedar_store.proofs.Refused.{batch_cause, stays_prepared}
use Rattle.cedar_store.proofs.Unwritten.{batch_unwritten, has_failed, lacks_room, leaves_unwritten}
use Rattle.cedar_store.proofs.Withdrawn.{no_changes, nothing_told}
use Rattle.cedar_store.proofs.store.Store.apply_batch.Goals as goal

pub make-requires : goal.make-requires
make-requires g c = c.requires.ready.ordered

pub returns-then-is_empty-clause-made : goal.returns-then-is_empty-clause-made
returns-then-is_empty-clause-made g c =
    let s = (g.T.Words.state c.args.self.now.words) in
    let none_told = nothing_told c.args.changes.now (sym c.if-is_empty.ensures) in
    let ready : c.args.self.now.failed ≡ false = search rules in
    (ready, ap (all_changed s) (sym none_told))

pub returns-then-is_empty-clause-faulty : goal.returns-then-is_empty-clause-faulty
returns-then-is_empty-clause-faulty g c = λ _. subst (AllByRecursion IsFaultless) (sym (nothing_told c.args.changes.now (sym c.if-is_empty.ensures))) tt

pub returns-in-Ok-clause-nothing : goal.returns-in-Ok-clause-nothing
returns-in-Ok-clause-nothing g c = λ none. absurd (false≢true (c.if-is_empty.ensures ∙ ap (λ l. nat_eq (length l) 0) none))

pub returns-in_err-batch-clause-told : goal.returns-in_err-batch-clause-told
returns-in_err-batch-clause-told g c = on_each_err c.from_residual.result (λ e. inl (refl, refl))

pub returns-in_err-batch-clause-cause : goal.returns-in_err-batch-clause-cause
returns-in_err-batch-clause-cause g c =
    let d = g.D.Device in
    let old = c.args.self.now in
    let new = record old { words = c.make.new.words } in
    handed_on c.from_residual.result c.in_err-batch.field-0.0 _ c.from_residual.ensures.1
    (batch_cause c.args.self.now.failed (changes_told c.args.changes.now) c.args.self.now.journal.end (DeviceFails d.faults old new) (DeviceIsFull d.faults d.full old new) c.in_err-batch.field-0.0 c.in_err-batch.ensures.cause)

pub returns-in_err-batch-clause-err : goal.returns-in_err-batch-clause-err
returns-in_err-batch-clause-err g c =
    handed_on c.from_residual.result c.in_err-batch.field-0.0 _ c.from_residual.ensures.1
    (stays_prepared (changes_told c.args.changes.now) c.args.self.now.journal.end c.in_err-batch.field-0.0 _ _ _ c.in_err-batch.ensures.cause (refl, refl, c.in_err-batch.ensures.err))

pub acknowledge-requires-clause-ordered : goal.acknowledge-requires-clause-ordered
acknowledge-requires-clause-ordered g c =
    let s = g.T.Words.state c.args.self.now.words in
    let told = changes_told c.args.changes.now in
    let kept : all_erased_late (g.T.Words.state c.make.new.words) told ≡ all_changed s told = c.in_ok-batch.ensures.made in
    ap (λ t. t.ordered) kept ∙ stays_ordered told s c.requires.ready.ordered

pub acknowledge-requires-clause-stands : goal.acknowledge-requires-clause-stands
acknowledge-requires-clause-stands g c =
    let s = g.T.Words.state c.args.self.now.words in
    let told = changes_told c.args.changes.now in
    let kept : all_erased_late (g.T.Words.state c.make.new.words) told ≡ all_changed s told = c.in_ok-batch.ensures.made in
    let ready : c.args.self.now.failed ≡ false = search rules in
    let change = ap (option_map (all_changed s)) c.in_ok-batch.ensures.change in
    ap (option_and_then (λ t. after t (payload_of c.in_ok-batch.batch.frame))) (c.requires.ready.consistent ready).same ∙ change ∙ ap Some (sym kept)

pub returns-in-Ok-clause-any_moment : goal.returns-in-Ok-clause-any_moment
returns-in-Ok-clause-any_moment g c = λ ready.
    let s = g.T.Words.state c.args.self.now.words in
    let told = changes_told c.args.changes.now in
    let kept : all_erased_late (g.T.Words.state c.make.new.words) told ≡ all_changed s told = c.in_ok-batch.ensures.made in
    subst (λ t. LeavesOnly g.D.Device.moment g.D.Device.left_since c.args.self.now.journal.device c.acknowledge.new.self.journal.device (IsEither s t)) kept
    (c.acknowledge.ensures.any_moment s (c.requires.ready.consistent ready).same)

pub returns-then-self-2-clause-any_moment : goal.returns-then-self-2-clause-any_moment
returns-then-self-2-clause-any_moment g c = λ ready.
    let s = g.T.Words.state c.args.self.now.words in
    let told = changes_told c.args.changes.now in
    let kept : all_erased_late (g.T.Words.state c.make.new.words) told ≡ all_changed s told = c.in_ok-batch.ensures.made in
    subst (λ t. LeavesOnly g.D.Device.moment g.D.Device.left_since c.args.self.now.journal.device c.acknowledge.new.self.journal.device (IsEither s t)) kept
    (c.acknowledge.ensures.any_moment s (c.requires.ready.consistent ready).same)

pub returns-clause-any_moment : goal.returns-clause-any_moment
returns-clause-any_moment g c = λ ready.
    let s = g.T.Words.state c.args.self.now.words in
    let told = changes_told c.args.changes.now in
    let kept : all_erased_late (g.T.Words.state c.make.new.words) told ≡ all_changed s told = c.in_ok-batch.ensures.made in
    subst (λ t. LeavesOnly g.D.Device.moment g.D.Device.left_since c.args.self.now.journal.device c.acknowledge.new.self.journal.device (IsEither s t)) kept
    (c.acknowledge.ensures.any_moment s (c.requires.ready.consistent ready).same)

pub returns-in-Ok-clause-recorded : goal.returns-in-Ok-clause-recorded
returns-in-Ok-clause-recorded g c = λ _.
    let seen = g.D.Device.seen in
    let changes = changes_told c.args.changes.now in
    subst (λ n. IsRecordedIn seen g.T.Words.state n c.args.self.now c.acknowledge.new.self changes) c.in_ok-batch.ensures.length
    (recorded_in (seen c.args.self.now.journal.device) (seen c.acknowledge.new.self.journal.device) (payload_of c.in_ok-batch.batch.frame) changes c.in_ok-batch.ensures.change c.in-Ok.ensures.recorded)

pub returns-in-Ok-clause-made : goal.returns-in-Ok-clause-made
returns-in-Ok-clause-made g c = (c.in-Ok.ensures.done, c.in-Ok.ensures.made ∙ c.in_ok-batch.ensures.made)

pub returns-then-is_empty-clause-recorded : goal.returns-then-is_empty-clause-recorded
returns-then-is_empty-clause-recorded g c = λ some. absurd (some (no_changes c.args.changes.now (sym c.if-is_empty.ensures)))

pub returns-then-is_empty-clause-first : goal.returns-then-is_empty-clause-first
returns-then-is_empty-clause-first g c = λ _. nothing_told_of (first_refused 0 (changes_told c.args.changes.now)) _ (ap (first_refused 0) (nothing_told c.args.changes.now (sym c.if-is_empty.ensures)))

pub returns-in_err-batch-clause-first : goal.returns-in_err-batch-clause-first
returns-in_err-batch-clause-first g c = λ _.
    first_handed _ (first_refused 0 (changes_told c.args.changes.now)) c.in_err-batch.field-0.0 c.from_residual.result c.from_residual.ensures.1 c.in_err-batch.ensures.faulty

pub returns-in-Ok-clause-first : goal.returns-in-Ok-clause-first
returns-in-Ok-clause-first g c = λ _. nothing_told_of (first_refused 0 (changes_told c.args.changes.now)) _ (none_refused (changes_told c.args.changes.now) 0 c.in_ok-batch.ensures.faultless)

pub returns-then-self-2-clause-first : goal.returns-then-self-2-clause-first
returns-then-self-2-clause-first g c = λ _. nothing_told_of (first_refused 0 (changes_told c.args.changes.now)) _ (none_refused (changes_told c.args.changes.now) 0 c.in_ok-batch.ensures.faultless)

pub returns-clause-first : goal.returns-clause-first
returns-clause-first g c = λ _. nothing_told_of (first_refused 0 (changes_told c.args.changes.now)) _ (none_refused (changes_told c.args.changes.now) 0 c.in_ok-batch.ensures.faultless)

pub returns-then-self-2-clause-ready : goal.returns-then-self-2-clause-ready
returns-then-self-2-clause-ready g c =
    let s = g.T.Words.state c.args.self.now.words in
    let told = changes_told c.args.changes.now in
    let kept : all_erased_late (g.T.Words.state c.make.new.words) told ≡ all_changed s told = c.in_ok-batch.ensures.made in
    let d = g.D.Device in
    let state = g.T.Words.state in
    let old = c.args.self.now in
    let new = c.acknowledge.new.self in
    let usable : old.failed ≡ false = search rules in
    let cause = c.in-Err.ensures.err in
    let left = c.in-Err.ensures.left in
    let broke = DeviceFails d.faults old new in
    let lacked = DeviceIsFull d.faults d.full old new in
    let e = c.in-Err.error in
    let broken : new.failed ≡ true = search rules in
    let done = has_failed broke lacked old.failed new.failed e _ _ cause usable broken left ∙ kept in
    failed_ready d.seen d.may_leave new.journal.device new.journal.format new.journal.end (state new.words) new.failed broken (ap (λ t. t.ordered) done ∙ stays_ordered told s c.requires.ready.ordered)

pub returns-then-self-2-clause-err : goal.returns-then-self-2-clause-err
returns-then-self-2-clause-err g c =
    let s = g.T.Words.state c.args.self.now.words in
    let told = changes_told c.args.changes.now in
    let kept : all_erased_late (g.T.Words.state c.make.new.words) told ≡ all_changed s told = c.in_ok-batch.ensures.made in
    let d = g.D.Device in
    let state = g.T.Words.state in
    let old = c.args.self.now in
    let new = c.acknowledge.new.self in
    let usable : old.failed ≡ false = search rules in
    let cause = c.in-Err.ensures.err in
    let left = c.in-Err.ensures.left in
    let broke = DeviceFails d.faults old new in
    let lacked = DeviceIsFull d.faults d.full old new in
    let e = c.in-Err.error in
    let broken : new.failed ≡ true = search rules in
    let done = has_failed broke lacked old.failed new.failed e _ _ cause usable broken left ∙ kept in
    leaves_unwritten broke lacked old.failed new.failed e _ _ _ cause (λ _. (broken, done)) (λ _ still. absurd (false≢true (sym usable ∙ sym still ∙ broken)))

pub returns-then-self-2-clause-cause : goal.returns-then-self-2-clause-cause
returns-then-self-2-clause-cause g c =
    let s = g.T.Words.state c.args.self.now.words in
    let told = changes_told c.args.changes.now in
    let kept : all_erased_late (g.T.Words.state c.make.new.words) told ≡ all_changed s told = c.in_ok-batch.ensures.made in
    let d = g.D.Device in
    let state = g.T.Words.state in
    let old = c.args.self.now in
    let new = c.acknowledge.new.self in
    let usable : old.failed ≡ false = search rules in
    let cause = c.in-Err.ensures.err in
    let left = c.in-Err.ensures.left in
    let broke = DeviceFails d.faults old new in
    let lacked = DeviceIsFull d.faults d.full old new in
    let e = c.in-Err.error in
    batch_unwritten old.failed new.failed told old.journal.end broke lacked e cause

pub returns-clause-cause : goal.returns-clause-cause
returns-clause-cause g c =
    let s = g.T.Words.state c.args.self.now.words in
    let told = changes_told c.args.changes.now in
    let kept : all_erased_late (g.T.Words.state c.make.new.words) told ≡ all_changed s told = c.in_ok-batch.ensures.made in
    let d = g.D.Device in
    let state = g.T.Words.state in
    let old = c.args.self.now in
    let new = c.acknowledge.new.self in
    let usable : old.failed ≡ false = search rules in
    let cause = c.in-Err.ensures.err in
    let left = c.in-Err.ensures.left in
    let broke = DeviceFails d.faults old new in
    let lacked = DeviceIsFull d.faults d.full old new in
    let e = c.in-Err.error in
    batch_unwritten old.failed new.failed told old.journal.end broke lacked e cause

pub returns-clause-ready : goal.returns-clause-ready
returns-clause-ready g c =
    let s = g.T.Words.state c.args.self.now.words in
    let told = changes_told c.args.changes.now in
    let kept : all_erased_late (g.T.Words.state c.make.new.words) told ≡ all_changed s told = c.in_ok-batch.ensures.made in
    let d = g.D.Device in
    let state = g.T.Words.state in
    let old = c.args.self.now in
    let new = c.acknowledge.new.self in
    let usable : old.failed ≡ false = search rules in
    let cause = c.in-Err.ensures.err in
    let left = c.in-Err.ensures.left in
    let broke = DeviceFails d.faults old new in
    let lacked = DeviceIsFull d.faults d.full old new in
    let e = c.in-Err.error in
    let well : new.failed ≡ false = search rules in
    let room = lacks_room broke lacked old.failed new.failed e _ _ cause well left in
    let updated = ap state room.words ∙ c.in_ok-batch.ensures.updated in
    let lent : c.deref.result.now ≡ c.in_ok-batch.batch.held.items = search rules in
    let back : state c.take_all_back.new.words ≡ s = c.take_all_back.ensures s (subst (AreHeld s told) (sym lent) c.in_ok-batch.ensures.held) updated in
    let was = c.requires.ready.consistent usable in
    record {
      ordered = ap (λ t. t.ordered) back ∙ c.requires.ready.ordered;
      consistent = λ _. record { settled = room.settled; same = room.same ∙ was.same ∙ ap (λ t. Some t) (sym back) };
    }

pub returns-clause-err : goal.returns-clause-err
returns-clause-err g c =
    let s = g.T.Words.state c.args.self.now.words in
    let told = changes_told c.args.changes.now in
    let kept : all_erased_late (g.T.Words.state c.make.new.words) told ≡ all_changed s told = c.in_ok-batch.ensures.made in
    let d = g.D.Device in
    let state = g.T.Words.state in
    let old = c.args.self.now in
    let new = c.acknowledge.new.self in
    let usable : old.failed ≡ false = search rules in
    let cause = c.in-Err.ensures.err in
    let left = c.in-Err.ensures.left in
    let broke = DeviceFails d.faults old new in
    let lacked = DeviceIsFull d.faults d.full old new in
    let e = c.in-Err.error in
    let well : new.failed ≡ false = search rules in
    let room = lacks_room broke lacked old.failed new.failed e _ _ cause well left in
    let updated = ap state room.words ∙ c.in_ok-batch.ensures.updated in
    let lent : c.deref.result.now ≡ c.in_ok-batch.batch.held.items = search rules in
    let back : state c.take_all_back.new.words ≡ s = c.take_all_back.ensures s (subst (AreHeld s told) (sym lent) c.in_ok-batch.ensures.held) updated in
    leaves_unwritten broke lacked old.failed new.failed e _ _ _ cause (λ broken. absurd (false≢true (sym well ∙ broken))) (λ _ _. (well, room.end, back))

pub returns-in-Ok-clause-counted : goal.returns-in-Ok-clause-counted
returns-in-Ok-clause-counted g c = λ was. c.acknowledge.ensures.counted was

pub returns-then-self-2-clause-counted : goal.returns-then-self-2-clause-counted
returns-then-self-2-clause-counted g c = λ was. c.acknowledge.ensures.counted was

pub returns-clause-counted : goal.returns-clause-counted
returns-clause-counted g c = λ was. c.acknowledge.ensures.counted was

pub returns-in-Ok-clause-looked_after : goal.returns-in-Ok-clause-looked_after
returns-in-Ok-clause-looked_after g c = λ _.
    subst (λ n. IsLookedAfter g.D.Device.seen g.D.Device.faults g.T.Words.state (end_behind c.args.self.now n) c.args.self.now c.acknowledge.new.self) c.in_ok-batch.ensures.length c.in-Ok.ensures.looked_after

pub returns-then-is_empty-clause-looked_after : goal.returns-then-is_empty-clause-looked_after
returns-then-is_empty-clause-looked_after g c = λ some. absurd (some (no_changes c.args.changes.now (sym c.if-is_empty.ensures)))
