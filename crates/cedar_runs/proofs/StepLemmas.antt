-- What a call of a store leaves, by the store's own clauses.
use Rattle.std.specs.Prelude.{Bool, Result, Ok, Err, if◌then◌else◌}
use Rattle.std.proofs.Common.{◌≡◌, ◌≤◌, inr, ⊎_elim, ℕ, true, false, List, refl, sym, ◌∙◌, ap, subst}
use Rattle.std.proofs.lemmas.Bool.{false≢true}
use Rattle.cedar_journal.specs.declared.journal.Journal.{Journal}
use Rattle.cedar_store.specs.State.{State}
use Rattle.cedar_store.specs.declared.compaction.CompactError.{CompactError}
use Rattle.cedar_store.specs.declared.compaction.CompactError.TheVariants as compact
use Rattle.cedar_store.specs.declared.error.DurableError.{DurableError}
use Rattle.cedar_store.specs.declared.error.DurableError.TheVariants as error
use Rattle.cedar_store.specs.declared.store.Store.{Store}
use Rattle.cedar_store.specs.Compactions.{LeavesFile}
use Rattle.cedar_store.specs.Files.{IsEither, state_of}
use Rattle.cedar_store.specs.Promises.{CrashLeavesEither, CrashLeavesStateOrOld, IsReadyStore, KeepsFile, LeavesStore}
use Rattle.cedar_runs.specs.Steps.{IsCallStep, IsKnown, outcome_of, outcome_of_compaction, outcome_of_erasure, point_of, under_way}
use Rattle.cedar_runs.specs.declared.call.Outcome.TheVariants.{Made, Nothing, Failed}

same_way : (failed : Bool) (held : State) → under_way failed held held ≡ held
same_way true held = refl
same_way false held = refl

module _ {T A D : Type 0} (seen : D → List ℕ) (moment : D → ℕ) (left_since : D → ℕ → List ℕ → Type 0) (may_leave : D → List ℕ → Type 0) (state : T → State)
    (counts_now : (d : D) (t : ℕ) (c : List ℕ) → t ≤ moment d → may_leave d c → left_since d t c) (only_now : (d : D) (c : List ℕ) → left_since d (moment d) c → may_leave d c)
    (old new : Store T A D) where
  -- what a crash at any moment of a call leaves that would make this state
  abbrev pub IsLeft : State → Type 0
  IsLeft after = (sure : State) → IsKnown may_leave sure (point_of state old) → (file : List ℕ) → left_since new.journal.device (moment old.journal.device) file
      → IsEither sure (under_way old.failed (state old.words) after) file

  left_by : (b : Bool) → old.failed ≡ b → (after : State) → CrashLeavesEither moment left_since state old new after → (old.failed ≡ true → new ≡ old) → (sure : State)
      → IsKnown may_leave sure (point_of state old) → (file : List ℕ) → left_since new.journal.device (moment old.journal.device) file
      → IsEither sure (under_way b (state old.words) after) file
  left_by false is after leaves same sure known file left = subst (λ s. IsEither s after file) (sym (known.one is)) ((leaves is).each file left)
  left_by true is after leaves same sure known file left =
      known.left file (only_now old.journal.device file (subst (λ (n : Store T A D). left_since n.journal.device (moment old.journal.device) file) (same is) left))

  pub change_left : (after : State) → CrashLeavesEither moment left_since state old new after → (old.failed ≡ true → new ≡ old) → IsLeft after
  change_left after leaves same = λ sure known file left. left_by old.failed refl after leaves same sure known file left

  pub compact_left : CrashLeavesStateOrOld moment left_since may_leave state old new → IsLeft (state old.words)
  compact_left leaves = λ sure known file left.
      subst (λ s. IsEither sure s file) (sym (same_way old.failed (state old.words))) (⊎_elim (known.left file) (λ stands. inr stands) (leaves.each file left))

  pub made_step : (after : State) → new.failed ≡ false → state new.words ≡ after → IsReadyStore seen may_leave state new → IsLeft after
      → IsCallStep moment left_since may_leave (point_of state old) after Made (point_of state new)
  made_step after usable is ready left = record {
    held = is;
    failed = usable;
    known = λ sure known. record {
      one = λ _. sym is;
      left = λ file now. let there = ready.consistent usable in inr (ap state_of (there.settled.durable file now) ∙ there.same);
    };
    crash = left;
  }

  pub nothing_step : (after : State) → new.failed ≡ old.failed → state new.words ≡ state old.words → ((file : List ℕ) → may_leave new.journal.device file → may_leave old.journal.device file)
      → IsLeft after → IsCallStep moment left_since may_leave (point_of state old) after Nothing (point_of state new)
  nothing_step after still is fewer left = record {
    held = is;
    failed = still;
    known = λ sure known. record {
      one = λ usable. known.one (sym still ∙ usable) ∙ sym is;
      left = λ file now. subst (λ s. IsEither sure s file) (sym is) (known.left file (fewer file now));
    };
    crash = left;
  }

  -- there was no room, and the file represents the dictionary as it was
  pub withdrawn_step : (after : State) → old.failed ≡ false → new.failed ≡ false → state new.words ≡ state old.words → IsReadyStore seen may_leave state new → IsLeft after
      → IsCallStep moment left_since may_leave (point_of state old) after Nothing (point_of state new)
  withdrawn_step after usable still is ready left = record {
    held = is;
    failed = still ∙ sym usable;
    known = λ sure known. record {
      one = λ _. known.one usable ∙ sym is;
      left = λ file now. let there = ready.consistent still in inr (ap state_of (there.settled.durable file now) ∙ there.same);
    };
    crash = left;
  }

  pub failed_step : (after : State) → new.failed ≡ true → state new.words ≡ after → moment old.journal.device ≤ moment new.journal.device
      → under_way old.failed (state old.words) after ≡ after → IsLeft after → IsCallStep moment left_since may_leave (point_of state old) after Failed (point_of state new)
  failed_step after broken is later way left = record {
    held = is;
    failed = broken;
    known = λ sure known. record {
      one = λ usable. absurd (false≢true (sym usable ∙ broken));
      left = λ file now.
          subst (λ s. IsEither sure s file) (way ∙ sym is) (left sure known file (counts_now new.journal.device (moment old.journal.device) file later now));
    };
    crash = left;
  }

  -- ---- a compaction that returned an error

  pub compaction_step : (e : CompactError) → new.words ≡ old.words → CrashLeavesStateOrOld moment left_since may_leave state old new
      → LeavesFile e (new.failed ≡ true) (KeepsFile seen may_leave old new) ((new.failed ≡ old.failed) × (new.journal ≡ old.journal))
      → IsCallStep moment left_since may_leave (point_of state old) (state old.words) (outcome_of_compaction e) (point_of state new)
  compaction_step compact.Failed same leaves broken =
      failed_step (state old.words) broken (ap state same) leaves.later (same_way old.failed (state old.words)) (compact_left leaves)
  compaction_step (compact.Kept e) same leaves kept = nothing_step (state old.words) kept.0 (ap state same) kept.2 (compact_left leaves)
  compaction_step compact.Memory same leaves stays =
      nothing_step (state old.words) stays.0 (ap state same) (λ file now. subst (λ (j : Journal D). may_leave j.device file) stays.1 now) (compact_left leaves)
  compaction_step compact.TooLong same leaves stays =
      nothing_step (state old.words) stays.0 (ap state same) (λ file now. subst (λ (j : Journal D). may_leave j.device file) stays.1 now) (compact_left leaves)

  -- ---- an erasure that returned whether it found its key

  usable_then : (b : Bool) → old.failed ≡ b → (held : Bool) (r : Result Bool DurableError) → r ≡ Ok held → (old.failed ≡ true → r ≡ Err error.Failed) → old.failed ≡ false
  usable_then false is held r told refused = is
  usable_then true is held r told refused = let apart : Ok held ≡ Err error.Failed = sym told ∙ refused is in cc

  pub erasure_step : (after : State) (held : Bool) (r : Result Bool DurableError) → r ≡ Ok held → (old.failed ≡ true → r ≡ Err error.Failed)
      → (new.failed ≡ false) × (state new.words ≡ (if held then after else state old.words)) → IsReadyStore seen may_leave state new → (held ≡ false → new ≡ old) → IsLeft after
      → IsCallStep moment left_since may_leave (point_of state old) after (outcome_of_erasure held) (point_of state new)
  erasure_step after true r told refused done ready missed left = made_step after done.0 done.1 ready left
  erasure_step after false r told refused done ready missed left =
      nothing_step after (done.0 ∙ sym (usable_then old.failed refl false r told refused)) done.1 (λ file now. subst (λ (s : Store T A D). may_leave s.journal.device file) (missed refl) now) left

  -- ---- a change that returned an error

  module _ {X : Type 0} (after : State) (r : Result X DurableError) (leaves : CrashLeavesEither moment left_since state old new after) (same : old.failed ≡ true → new ≡ old)
      (refused : old.failed ≡ true → r ≡ Err error.Failed) (ready : IsReadyStore seen may_leave state new) where
    usable_at : (b : Bool) → old.failed ≡ b → (e : DurableError) → r ≡ Err e → (e ≡ error.Failed → ⊥) → old.failed ≡ false
    usable_at false is e told other = is
    usable_at true is e told other = let both : ◌≡◌ {A = Result X DurableError} (Err e) (Err error.Failed) = sym told ∙ refused is in absurd (other (let one : e ≡ error.Failed = cc in one))

    kept : (e : DurableError) → (new.failed ≡ old.failed) × (new.journal ≡ old.journal) × (state new.words ≡ state old.words)
        → IsCallStep moment left_since may_leave (point_of state old) after Nothing (point_of state new)
    kept e stays =
        nothing_step after stays.0 stays.2 (λ file now. subst (λ (j : Journal D). may_leave j.device file) stays.1 now) (change_left after leaves same)

    pub error_step : (e : DurableError) → r ≡ Err e → LeavesStore state old new after e → IsCallStep moment left_since may_leave (point_of state old) after (outcome_of e) (point_of state new)
    error_step (error.Device d) told left =
        let usable = usable_at old.failed refl (error.Device d) told (λ other. let apart : error.Device d ≡ error.Failed = other in cc) in
        failed_step after left.0 left.1 (leaves usable).later (ap (λ b. under_way b (state old.words) after) usable) (change_left after leaves same)
    error_step error.NoRoom told left =
        let usable = usable_at old.failed refl error.NoRoom told (λ other. let apart : error.NoRoom ≡ error.Failed = other in cc) in
        withdrawn_step after usable left.0 left.2 ready (change_left after leaves same)
    error_step error.Foreign told left = kept error.Foreign left
    error_step (error.Damaged place) told left = kept (error.Damaged place) left
    error_step error.Corrupt told left = kept error.Corrupt left
    error_step (error.Refused e) told left = kept (error.Refused e) left
    error_step (error.RefusedAt index e) told left = kept (error.RefusedAt index e) left
    error_step error.TooLong told left = kept error.TooLong left
    error_step error.Full told left = kept error.Full left
    error_step error.Failed told left = kept error.Failed left
