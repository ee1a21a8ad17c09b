use Rattle.std.specs.Prelude.{IsErrOf, Err, Some, option_and_then}
use Rattle.std.proofs.Common.{◌≡◌, false, true, ◌∙◌, ap, inl, inr, ⊎_elim, rules, subst, sym}
use Rattle.std.proofs.lemmas.Bool.{false≢true}
use Rattle.cedar_journal.specs.Frames.{payload_of}
use Rattle.cedar_journal.proofs.Moments.{joins, weakens}
use Rattle.cedarwood.specs.State.{new_state}
use Rattle.cedar_store.specs.Batches.{all_erased_late}
use Rattle.cedar_store.specs.Changes.{after_payloads}
use Rattle.cedar_store.specs.declared.error.DurableError.TheVariants as error
use Rattle.cedar_store.specs.Files.{state_of, IsEither, StandsFor}
use Rattle.cedar_store.specs.Promises.{DeviceFails, DeviceIsFull}
use Rattle.cedar_store.specs.Shortening.{IsLookedAfter, IsShortenedIfDue}
use Rattle.cedar_store.specs.Told.{changes_told}
use Rattle.cedar_store.proofs.Compacted.{change_of_one, on_err, on_err_too, state_more, still_more}
use Rattle.cedar_store.proofs.Shortened.{looked_since, shortened_since}
use Rattle.cedar_store.proofs.Unwritten.{leaves_unwritten, of_device_since, unwritten_by_device}
use Rattle.cedar_store.proofs.States.{either}
use Rattle.std.proofs.lemmas.Result.{on_ok_weaker}
use Rattle.cedar_store.proofs.store.Store.acknowledge.Goals as goal

pub compact_if_due-requires-clause-consistent : goal.compact_if_due-requires-clause-consistent
compact_if_due-requires-clause-consistent g c =
    let seen = g.D.Device.seen in
    let state = g.T.Words.state in
    let told = changes_told c.args.changes.now in
    record {
      settled = c.in-Ok.ensures.settled;
      same =
          state_more (seen c.args.self.now.journal.device) (seen c.append.new.self.journal.device) (payload_of c.args.frame.now) c.in-Ok.ensures.acknowledged
          ∙ c.requires.stands
          ∙ ap (λ w. Some (all_erased_late (state w) told)) (sym c.append.ensures.words)
          ∙ ap (λ s. Some s) (sym c.erase_rest.ensures);
    }

pub compact_if_due-requires-clause-ordered : goal.compact_if_due-requires-clause-ordered
compact_if_due-requires-clause-ordered g c =
    let state = g.T.Words.state in
    let told = changes_told c.args.changes.now in
    ap (λ s. s.ordered) c.erase_rest.ensures ∙ ap (λ w. (all_erased_late (state w) told).ordered) c.append.ensures.words ∙ c.requires.ordered

pub returns-in-Ok-clause-made : goal.returns-in-Ok-clause-made
returns-in-Ok-clause-made g c =
    let state = g.T.Words.state in
    let told = changes_told c.args.changes.now in
    let made = ap state c.compact_if_due.ensures.words ∙ c.erase_rest.ensures ∙ ap (λ w. all_erased_late (state w) told) c.append.ensures.words in
    on_ok_weaker c.compact_if_due.result (λ (usable : c.compact_if_due.new.self.failed ≡ false). made) c.compact_if_due.ensures.done

pub returns-in-Ok-clause-ready : goal.returns-in-Ok-clause-ready
returns-in-Ok-clause-ready g c =
    on_ok_weaker c.compact_if_due.result (λ (usable : c.compact_if_due.new.self.failed ≡ false). c.compact_if_due.ensures.ready) c.compact_if_due.ensures.done

pub returns-in-Ok-clause-err : goal.returns-in-Ok-clause-err
returns-in-Ok-clause-err g c =
    let faults = g.D.Device.faults in
    let lacked = DeviceIsFull faults g.D.Device.full c.args.self.now c.compact_if_due.new.self in
    on_err c.compact_if_due.result
    (λ e fails.
    unwritten_by_device (faults c.args.self.now.journal.device) (faults c.append.new.self.journal.device) (faults c.compact_if_due.new.self.journal.device) lacked c.args.self.now.failed c.compact_if_due.new.self.failed e
    c.append.ensures.faults fails.0 fails.1) c.compact_if_due.ensures.err

pub returns-in-Ok-clause-left : goal.returns-in-Ok-clause-left
returns-in-Ok-clause-left g c =
    let faults = g.D.Device.faults in
    let state = g.T.Words.state in
    let told = changes_told c.args.changes.now in
    let made = ap state c.compact_if_due.ensures.words ∙ c.erase_rest.ensures ∙ ap (λ w. all_erased_late (state w) told) c.append.ensures.words in
    let lacked = DeviceIsFull faults g.D.Device.full c.args.self.now c.compact_if_due.new.self in
    on_err c.compact_if_due.result
    (λ e fails.
    leaves_unwritten (DeviceFails faults c.args.self.now c.compact_if_due.new.self) lacked c.args.self.now.failed c.compact_if_due.new.self.failed e _ _ _
    (unwritten_by_device (faults c.args.self.now.journal.device) (faults c.append.new.self.journal.device) (faults c.compact_if_due.new.self.journal.device) lacked c.args.self.now.failed c.compact_if_due.new.self.failed e
    c.append.ensures.faults fails.0 fails.1)
    (λ broken. made) (λ is still. absurd (false≢true (sym c.requires.usable ∙ sym still ∙ fails.1)))) c.compact_if_due.ensures.err

pub returns-in-Ok-clause-any_moment : goal.returns-in-Ok-clause-any_moment
returns-in-Ok-clause-any_moment g c = λ s is.
    let file = g.D.Device.seen c.args.self.now.journal.device in
    let told = changes_told c.args.changes.now in
    let t = all_erased_late (g.T.Words.state c.args.self.now.words) told in
    let made = c.erase_rest.ensures ∙ ap (λ w. all_erased_late (g.T.Words.state w) told) c.append.ensures.words in
    let change = change_of_one (state_of file) s t (payload_of c.args.frame.now) c.requires.stands is in
    let first =
    weakens g.D.Device.moment g.D.Device.left_since c.args.self.now.journal.device c.append.new.self.journal.device _ (IsEither s t)
    (λ f. either file f (payload_of c.args.frame.now) s t is change) c.append.ensures.any_moment in
    let second =
    weakens g.D.Device.moment g.D.Device.left_since c.append.new.self.journal.device c.compact_if_due.new.self.journal.device _ (IsEither s t)
    (λ f stands. inr (subst (λ u. StandsFor u f) made stands)) c.compact_if_due.ensures.any_moment in
    joins g.D.Device.moment g.D.Device.left_since c.args.self.now.journal.device c.append.new.self.journal.device c.compact_if_due.new.self.journal.device (IsEither s t) first second

pub returns-in-Ok-clause-recorded : goal.returns-in-Ok-clause-recorded
returns-in-Ok-clause-recorded g c =
    let d = g.D.Device in
    let state = g.T.Words.state in
    let old = c.args.self.now in
    let between = c.append.new.self in
    let new = c.compact_if_due.new.self in
    on_ok_weaker c.compact_if_due.result
    (λ more. ⊎_elim (λ same. inl same)
    (λ short.
    inr
    (subst (λ end. IsShortenedIfDue d.seen state end old new) c.in-Ok.ensures.longer
    (shortened_since d.seen d.faults state old between new between.journal.end c.append.ensures.unlooked c.append.ensures.rule short)))
    (still_more (d.seen old.journal.device) (d.seen between.journal.device) (d.seen new.journal.device) (payload_of c.args.frame.now) c.in-Ok.ensures.acknowledged more))
    c.compact_if_due.ensures.recorded

pub returns-then-not-self-clause-left : goal.returns-then-not-self-clause-left
returns-then-not-self-clause-left g c =
    let faults = g.D.Device.faults in
    let usable : c.append.new.self.failed ≡ false = search rules in
    leaves_unwritten (DeviceFails faults c.args.self.now c.append.new.self) (DeviceIsFull faults g.D.Device.full c.args.self.now c.append.new.self) c.args.self.now.failed c.append.new.self.failed c.in-Err.error _ _ _ c.in-Err.ensures.err
    (λ broken. absurd (false≢true (sym usable ∙ broken)))
    (λ is still.
    let none : IsErrOf c.append.result error.NoRoom = c.in-Err.is ∙ ap (λ e. Err e) is in
    record {
      words = c.append.ensures.words;
      end = c.in-Err.ensures.end;
      settled = c.append.ensures.no_room none;
      same = ap (λ r. option_and_then (after_payloads new_state) r) (c.append.ensures.same_left none);
    })

pub returns-then-not-self-clause-any_moment : goal.returns-then-not-self-clause-any_moment
returns-then-not-self-clause-any_moment g c = λ s is.
    let file = g.D.Device.seen c.args.self.now.journal.device in
    let t = all_erased_late (g.T.Words.state c.args.self.now.words) (changes_told c.args.changes.now) in
    let change = change_of_one (state_of file) s t (payload_of c.args.frame.now) c.requires.stands is in
    weakens g.D.Device.moment g.D.Device.left_since c.args.self.now.journal.device c.append.new.self.journal.device _ _
    (λ f. either file f (payload_of c.args.frame.now) s t is change) c.append.ensures.any_moment

pub returns-else-not-self-clause-left : goal.returns-else-not-self-clause-left
returns-else-not-self-clause-left g c =
    let faults = g.D.Device.faults in
    let broken : c.append.new.self.failed ≡ true = search rules in
    leaves_unwritten (DeviceFails faults c.args.self.now c.append.new.self) (DeviceIsFull faults g.D.Device.full c.args.self.now c.append.new.self) c.args.self.now.failed c.append.new.self.failed c.in-Err.error _ _ _ c.in-Err.ensures.err
    (λ _. c.erase_rest-in-Err.ensures ∙ ap (λ w. all_erased_late (g.T.Words.state w) (changes_told c.args.changes.now)) c.append.ensures.words)
    (λ is still. absurd (false≢true (sym c.requires.usable ∙ sym still ∙ broken)))

pub returns-else-not-self-clause-any_moment : goal.returns-else-not-self-clause-any_moment
returns-else-not-self-clause-any_moment g c = λ s is.
    let file = g.D.Device.seen c.args.self.now.journal.device in
    let t = all_erased_late (g.T.Words.state c.args.self.now.words) (changes_told c.args.changes.now) in
    let change = change_of_one (state_of file) s t (payload_of c.args.frame.now) c.requires.stands is in
    weakens g.D.Device.moment g.D.Device.left_since c.args.self.now.journal.device c.append.new.self.journal.device _ _
    (λ f. either file f (payload_of c.args.frame.now) s t is change) c.append.ensures.any_moment

pub returns-in-Ok-clause-counted : goal.returns-in-Ok-clause-counted
returns-in-Ok-clause-counted g c = λ was. c.compact_if_due.ensures.counted (c.append.ensures.counted was)

pub returns-then-not-self-clause-counted : goal.returns-then-not-self-clause-counted
returns-then-not-self-clause-counted g c = λ was. c.append.ensures.counted was

pub returns-else-not-self-clause-counted : goal.returns-else-not-self-clause-counted
returns-else-not-self-clause-counted g c = λ was. c.append.ensures.counted was

pub returns-in-Ok-clause-looked_after : goal.returns-in-Ok-clause-looked_after
returns-in-Ok-clause-looked_after g c =
    let d = g.D.Device in
    let old = c.args.self.now in
    let between = c.append.new.self in
    let new = c.compact_if_due.new.self in
    on_ok_weaker c.compact_if_due.result
    (λ after.
    subst (λ end. IsLookedAfter d.seen d.faults g.T.Words.state end old new) c.in-Ok.ensures.longer
    (looked_since d.seen d.faults g.T.Words.state old between new between.journal.end c.append.ensures.unlooked c.append.ensures.rule c.append.ensures.faults after))
    c.compact_if_due.ensures.looked_after

pub returns-in-Ok-clause-told : goal.returns-in-Ok-clause-told
returns-in-Ok-clause-told g c =
    let faults = g.D.Device.faults in
    on_err_too c.compact_if_due.result
    (λ e fails told.
    inr (of_device_since (faults c.args.self.now.journal.device) (faults c.append.new.self.journal.device) (faults c.compact_if_due.new.self.journal.device) e c.append.ensures.faults fails.0, told))
    c.compact_if_due.ensures.err c.compact_if_due.ensures.told

pub returns-then-not-self-clause-told : goal.returns-then-not-self-clause-told
returns-then-not-self-clause-told g c = inl c.append.ensures.unlooked

pub returns-else-not-self-clause-told : goal.returns-else-not-self-clause-told
returns-else-not-self-clause-told g c = inl c.append.ensures.unlooked
