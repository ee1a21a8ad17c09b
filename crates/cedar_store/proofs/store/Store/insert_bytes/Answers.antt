use Rattle.std.specs.Prelude.{option_and_then, option_map, FitsSigned, Some}
use Rattle.std.proofs.Common.{◌≡◌, ◌⊎◌, [], ◌∷◌, false, true, length, ◌+◌, ◌∙◌, ap, inl, refl, subst, sym, rules}
use Rattle.std.proofs.lemmas.Bool.{false≢true}
use Rattle.std.proofs.lemmas.Int.{to_z-of_z}
use mir.Syntax.{w32}
use Rattle.cedar_journal.specs.Device.{LeavesOnly}
use Rattle.cedar_journal.specs.Frames.{payload_of}
use Rattle.cedarwood.specs.State.{after_put}
use Rattle.cedarwood.specs.Tree.{number_at}
use Rattle.cedarwood.specs.Words.{outcome}
use Rattle.cedar_store.specs.declared.error.DurableError.TheVariants as error
use Rattle.cedar_store.specs.Causes.{IsWanting}
use Rattle.cedar_store.specs.Changes.{after, all_changed, put_at}
use Rattle.cedar_store.specs.Files.{IsEither}
use Rattle.cedar_store.specs.Promises.{DeviceFails, DeviceIsFull, IsRecordedIn}
use Rattle.cedar_store.specs.Shortening.{end_behind, IsLookedAfter}
use Rattle.cedar_store.specs.Undo.{IsPutOf}
use Rattle.cedarwood.specs.Fault.{fault}
use Rattle.cedar_store.proofs.Compacted.{failed_ready, on_each_err, recorded_in}
use Rattle.cedar_store.proofs.Payloads.{handed_on}
use Rattle.cedar_store.proofs.Unwritten.{change_unwritten, has_failed, lacks_room, leaves_unwritten, refused_put}
use Rattle.cedar_store.proofs.store.Store.insert_bytes.Goals as goal

pub acknowledge-requires-clause-ordered : goal.acknowledge-requires-clause-ordered
acknowledge-requires-clause-ordered g c =
    let kept : (g.T.Words.state c.put.new.self) ≡ after_put (g.T.Words.state c.args.self.now.words) c.args.key.now c.args.value = search rules in
    ap (λ s. s.ordered) kept ∙ c.requires.ready.ordered

pub acknowledge-requires-clause-stands : goal.acknowledge-requires-clause-stands
acknowledge-requires-clause-stands g c =
    let s = (g.T.Words.state c.args.self.now.words) in
    let ready : c.args.self.now.failed ≡ false = search rules in
    let fits : FitsSigned w32 c.args.value = search rules in
    let same = to_z-of_z w32 c.args.value fits in
    let told = ap (option_map (all_changed s)) (c.in-Ok.ensures.change ∙ ap (λ v. Some (put_at c.args.key.now v ∷ [])) same) in
    let kept : (g.T.Words.state c.put.new.self) ≡ after_put s c.args.key.now c.args.value = search rules in
    ap (option_and_then (λ t. after t (payload_of c.in-Ok.frame))) (c.requires.ready.consistent ready).same ∙ told ∙ ap Some (sym kept)

pub returns-in-Ok-acknowledge-clause-any_moment : goal.returns-in-Ok-acknowledge-clause-any_moment
returns-in-Ok-acknowledge-clause-any_moment g c = λ ready.
    let s = (g.T.Words.state c.args.self.now.words) in
    let kept : (g.T.Words.state c.put.new.self) ≡ after_put s c.args.key.now c.args.value = search rules in
    let moment = g.D.Device.moment in
    subst (λ t. LeavesOnly moment g.D.Device.left_since c.args.self.now.journal.device c.acknowledge.new.self.journal.device (IsEither s t)) kept
    (c.acknowledge.ensures.any_moment s (c.requires.ready.consistent ready).same)

pub returns-then-self-2-clause-any_moment : goal.returns-then-self-2-clause-any_moment
returns-then-self-2-clause-any_moment g c = λ ready.
    let s = (g.T.Words.state c.args.self.now.words) in
    let kept : (g.T.Words.state c.put.new.self) ≡ after_put s c.args.key.now c.args.value = search rules in
    let moment = g.D.Device.moment in
    subst (λ t. LeavesOnly moment g.D.Device.left_since c.args.self.now.journal.device c.acknowledge.new.self.journal.device (IsEither s t)) kept
    (c.acknowledge.ensures.any_moment s (c.requires.ready.consistent ready).same)

pub returns-in-Ok-clause-any_moment : goal.returns-in-Ok-clause-any_moment
returns-in-Ok-clause-any_moment g c = λ ready.
    let s = (g.T.Words.state c.args.self.now.words) in
    let kept : (g.T.Words.state c.put.new.self) ≡ after_put s c.args.key.now c.args.value = search rules in
    let moment = g.D.Device.moment in
    subst (λ t. LeavesOnly moment g.D.Device.left_since c.args.self.now.journal.device c.acknowledge.new.self.journal.device (IsEither s t)) kept
    (c.acknowledge.ensures.any_moment s (c.requires.ready.consistent ready).same)

pub returns-in-Ok-acknowledge-clause-recorded : goal.returns-in-Ok-acknowledge-clause-recorded
returns-in-Ok-acknowledge-clause-recorded g c =
    let seen = g.D.Device.seen in
    let fits : FitsSigned w32 c.args.value = search rules in
    let told = c.in-Ok.ensures.change ∙ ap (λ v. Some (put_at c.args.key.now v ∷ [])) (to_z-of_z w32 c.args.value fits) in
    let changes = put_at c.args.key.now c.args.value ∷ [] in
    subst (λ n. IsRecordedIn seen g.T.Words.state n c.args.self.now c.acknowledge.new.self changes) c.in-Ok.ensures.length
    (recorded_in (seen c.args.self.now.journal.device) (seen c.acknowledge.new.self.journal.device) (payload_of c.in-Ok.frame) changes told c.in-Ok-acknowledge.ensures.recorded)

pub returns-then-self-2-clause-ready : goal.returns-then-self-2-clause-ready
returns-then-self-2-clause-ready g c =
    let d = g.D.Device in
    let state = g.T.Words.state in
    let old = c.args.self.now in
    let new = c.acknowledge.new.self in
    let s = state old.words in
    let key = c.args.key.now in
    let usable : old.failed ≡ false = search rules in
    let kept : state c.put.new.self ≡ after_put s key c.args.value = search rules in
    let cause = c.in-Err-acknowledge.ensures.err in
    let left = c.in-Err-acknowledge.ensures.left in
    let broke = DeviceFails d.faults old new in
    let lacked = DeviceIsFull d.faults d.full old new in
    let e = c.in-Err-acknowledge.error in
    let broken : new.failed ≡ true = search rules in
    let done = has_failed broke lacked old.failed new.failed e _ _ cause usable broken left ∙ kept in
    failed_ready d.seen d.may_leave new.journal.device new.journal.format new.journal.end (state new.words) new.failed broken (ap (λ t. t.ordered) done ∙ c.requires.ready.ordered)

pub returns-then-self-2-clause-err : goal.returns-then-self-2-clause-err
returns-then-self-2-clause-err g c =
    let d = g.D.Device in
    let state = g.T.Words.state in
    let old = c.args.self.now in
    let new = c.acknowledge.new.self in
    let s = state old.words in
    let key = c.args.key.now in
    let usable : old.failed ≡ false = search rules in
    let kept : state c.put.new.self ≡ after_put s key c.args.value = search rules in
    let cause = c.in-Err-acknowledge.ensures.err in
    let left = c.in-Err-acknowledge.ensures.left in
    let broke = DeviceFails d.faults old new in
    let lacked = DeviceIsFull d.faults d.full old new in
    let e = c.in-Err-acknowledge.error in
    let broken : new.failed ≡ true = search rules in
    let done = has_failed broke lacked old.failed new.failed e _ _ cause usable broken left ∙ kept in
    leaves_unwritten broke lacked old.failed new.failed e _ _ _ cause (λ _. (broken, done)) (λ _ still. absurd (false≢true (sym usable ∙ sym still ∙ broken)))

pub returns-then-self-2-clause-cause : goal.returns-then-self-2-clause-cause
returns-then-self-2-clause-cause g c =
    let d = g.D.Device in
    let state = g.T.Words.state in
    let old = c.args.self.now in
    let new = c.acknowledge.new.self in
    let s = state old.words in
    let key = c.args.key.now in
    let usable : old.failed ≡ false = search rules in
    let kept : state c.put.new.self ≡ after_put s key c.args.value = search rules in
    let cause = c.in-Err-acknowledge.ensures.err in
    let left = c.in-Err-acknowledge.ensures.left in
    let broke = DeviceFails d.faults old new in
    let lacked = DeviceIsFull d.faults d.full old new in
    let e = c.in-Err-acknowledge.error in
    change_unwritten old.failed new.failed (fault key c.args.value) (number_at s.tree key) old.journal.end (length key + 5) broke lacked e cause

pub returns-in-Ok-clause-cause : goal.returns-in-Ok-clause-cause
returns-in-Ok-clause-cause g c =
    let d = g.D.Device in
    let state = g.T.Words.state in
    let old = c.args.self.now in
    let new = c.acknowledge.new.self in
    let s = state old.words in
    let key = c.args.key.now in
    let usable : old.failed ≡ false = search rules in
    let kept : state c.put.new.self ≡ after_put s key c.args.value = search rules in
    let cause = c.in-Err-acknowledge.ensures.err in
    let left = c.in-Err-acknowledge.ensures.left in
    let broke = DeviceFails d.faults old new in
    let lacked = DeviceIsFull d.faults d.full old new in
    let e = c.in-Err-acknowledge.error in
    change_unwritten old.failed new.failed (fault key c.args.value) (number_at s.tree key) old.journal.end (length key + 5) broke lacked e cause

pub returns-in-Ok-clause-ready : goal.returns-in-Ok-clause-ready
returns-in-Ok-clause-ready g c =
    let d = g.D.Device in
    let state = g.T.Words.state in
    let old = c.args.self.now in
    let new = c.acknowledge.new.self in
    let s = state old.words in
    let key = c.args.key.now in
    let usable : old.failed ≡ false = search rules in
    let kept : state c.put.new.self ≡ after_put s key c.args.value = search rules in
    let cause = c.in-Err-acknowledge.ensures.err in
    let left = c.in-Err-acknowledge.ensures.left in
    let broke = DeviceFails d.faults old new in
    let lacked = DeviceIsFull d.faults d.full old new in
    let e = c.in-Err-acknowledge.error in
    let well : new.failed ≡ false = search rules in
    let room = lacks_room broke lacked old.failed new.failed e _ _ cause well left in
    let put : IsPutOf s key c.in_ok-held.held (state c.put.new.self) = search rules in
    let back : state c.take_back.new.words ≡ s = c.take_back.ensures s (subst (λ w. IsPutOf s key c.in_ok-held.held (state w)) (sym room.words) put) in
    let was = c.requires.ready.consistent usable in
    record {
      ordered = ap (λ t. t.ordered) back ∙ c.requires.ready.ordered;
      consistent = λ _. record { settled = room.settled; same = room.same ∙ was.same ∙ ap (λ t. Some t) (sym back) };
    }

pub returns-in-Ok-clause-err : goal.returns-in-Ok-clause-err
returns-in-Ok-clause-err g c =
    let d = g.D.Device in
    let state = g.T.Words.state in
    let old = c.args.self.now in
    let new = c.acknowledge.new.self in
    let s = state old.words in
    let key = c.args.key.now in
    let usable : old.failed ≡ false = search rules in
    let kept : state c.put.new.self ≡ after_put s key c.args.value = search rules in
    let cause = c.in-Err-acknowledge.ensures.err in
    let left = c.in-Err-acknowledge.ensures.left in
    let broke = DeviceFails d.faults old new in
    let lacked = DeviceIsFull d.faults d.full old new in
    let e = c.in-Err-acknowledge.error in
    let well : new.failed ≡ false = search rules in
    let room = lacks_room broke lacked old.failed new.failed e _ _ cause well left in
    let put : IsPutOf s key c.in_ok-held.held (state c.put.new.self) = search rules in
    let back : state c.take_back.new.words ≡ s = c.take_back.ensures s (subst (λ w. IsPutOf s key c.in_ok-held.held (state w)) (sym room.words) put) in
    leaves_unwritten broke lacked old.failed new.failed e _ _ _ cause (λ broken. absurd (false≢true (sym well ∙ broken))) (λ _ _. (well, room.end, back))

pub returns-in-Ok-acknowledge-clause-counted : goal.returns-in-Ok-acknowledge-clause-counted
returns-in-Ok-acknowledge-clause-counted g c = λ was. c.acknowledge.ensures.counted was

pub returns-then-self-2-clause-counted : goal.returns-then-self-2-clause-counted
returns-then-self-2-clause-counted g c = λ was. c.acknowledge.ensures.counted was

pub returns-in-Ok-clause-counted : goal.returns-in-Ok-clause-counted
returns-in-Ok-clause-counted g c = λ was. c.acknowledge.ensures.counted was

pub returns-in_err-held-clause-told : goal.returns-in_err-held-clause-told
returns-in_err-held-clause-told g c = on_each_err c.from_residual.result (λ e. inl (refl, refl))

pub returns-in-Ok-acknowledge-clause-looked_after : goal.returns-in-Ok-acknowledge-clause-looked_after
returns-in-Ok-acknowledge-clause-looked_after g c =
    subst (λ n. IsLookedAfter g.D.Device.seen g.D.Device.faults g.T.Words.state (end_behind c.args.self.now n) c.args.self.now c.acknowledge.new.self) c.in-Ok.ensures.length c.in-Ok-acknowledge.ensures.looked_after

pub returns-in_err-held-clause-cause : goal.returns-in_err-held-clause-cause
returns-in_err-held-clause-cause g c =
    let s = g.T.Words.state c.args.self.now.words in
    let key = c.args.key.now in
    let put = c.put.ensures.updated in
    let e = c.in_err-held.field-0.0 in
    let fits : FitsSigned w32 c.args.value = search rules in
    handed_on c.from_residual.result (error.Refused e) _ c.from_residual.ensures.1
    (subst (λ v. (fault key v ≡ Some e) ⊎ IsWanting (number_at s.tree key) e) (to_z-of_z w32 c.args.value fits)
    (refused_put _ (number_at s.tree key) (outcome c.put.result) e put.faulty put.refused (ap outcome c.in_err-held.was)))
