-- What a life of sessions leaves.
use Rattle.std.specs.Prelude.{Bool, Option, None, Some}
use Rattle.std.proofs.Common.{◌≡◌, inl, ⊎_elim, ℕ, suc, true, false, List, [], ◌∷◌, length, refl, sym, ◌∙◌, ap, subst}
use Rattle.cedar_store.specs.State.{State}
use Rattle.cedar_store.specs.Files.{IsEither, state_of}
use Rattle.cedar_runs.specs.Lives.{CrashesIn, IsLife, IsSession, Session, after_session, calling, after_life, while_opening, with_last}
use Rattle.cedar_runs.specs.Runs.{IsStoreRun, failed_after_all, sure_after_all}
use Rattle.cedar_runs.specs.Steps.{IsKnown, Point, after_call, under_way}
use Rattle.cedar_runs.specs.declared.call.StoreCall.{StoreCall}
use Rattle.cedar_runs.specs.declared.call.Outcome.{Outcome}
use Rattle.cedar_runs.proofs.RunLemmas.{run_failed, run_held, run_known}

one_state : (a b : State) → Some a ≡ Some b → a ≡ b
one_state a b is = cc

-- a file represents the one end of a session or the other
abbrev Ends : State → Session → List ℕ → Type 0
Ends s session file = (has_last : Bool) × (state_of file ≡ Some (after_session s session has_last))

either_end : (s : State) (calls : List StoreCall) (outcomes : List Outcome) (last : Option StoreCall) (file : List ℕ)
    → IsEither (sure_after_all s s calls outcomes) (with_last s calls outcomes last) file → Ends s (calling calls outcomes last) file
either_end s calls outcomes last file = ⊎_elim (λ sure. (false, sure)) (λ more. (true, more))

module _ {D : Type 0} (seen : D → List ℕ) (moment : D → ℕ) (left_since : D → ℕ → List ℕ → Type 0) (may_leave : D → List ℕ → Type 0) where
  -- behind a run from an opened store
  crashed : (first end : Point D) (calls : List StoreCall) (outcomes : List Outcome) (last : Option StoreCall) (file : List ℕ) → first.failed ≡ false
      → IsStoreRun moment left_since may_leave first calls outcomes end → IsKnown may_leave (sure_after_all first.held first.held calls outcomes) end
      → CrashesIn seen moment left_since may_leave end last file → IsEither (sure_after_all first.held first.held calls outcomes) (with_last first.held calls outcomes last) file
  crashed first end calls outcomes None file usable run known left =
      subst (λ s. IsEither (sure_after_all first.held first.held calls outcomes) s file) (run_held moment left_since may_leave first calls outcomes end run) (known.left file left)
  crashed first end calls outcomes (Some c) file usable run known left =
      let sure = sure_after_all first.held first.held calls outcomes in
      let held = run_held moment left_since may_leave first calls outcomes end run in
      let failed : end.failed ≡ failed_after_all false outcomes =
      run_failed moment left_since may_leave first calls outcomes end run ∙ ap (λ b. failed_after_all b outcomes) usable in
      subst (λ s. IsEither sure s file) (λ i. under_way (failed i) (held i) (after_call (held i) c)) (left.2.crash sure known file left.3)

  session_ends : (session : Session) (before after : List ℕ) (s : State) → state_of before ≡ Some s → IsSession seen moment left_since may_leave session before after → Ends s session after
  session_ends while_opening before after s is h = (false, h.3 after h.4 ∙ ap state_of h.2 ∙ is)
  session_ends (calling calls outcomes last) before after s is h =
      let first = h.1 in
      let end = h.2 in
      let begins = h.4 in
      let same : first.held ≡ s = one_state first.held s (sym begins.made ∙ ap state_of h.3 ∙ is) in
      let known : IsKnown may_leave first.held first = record { one = λ _. refl; left = λ file left. inl (begins.left file left) } in
      let later = run_known moment left_since may_leave first calls outcomes end first.held h.5 known in
      subst (λ t. Ends t (calling calls outcomes last) after) same (either_end first.held calls outcomes last after (crashed first end calls outcomes last after begins.usable h.5 later h.6))

  pub lives_on : (sessions : List Session) (before after : List ℕ) (s : State) → state_of before ≡ Some s → IsLife seen moment left_since may_leave sessions before after
      → (ends : List Bool) × (length ends ≡ length sessions) × (state_of after ≡ Some (after_life s sessions ends))
  lives_on [] before after s is h = ([], refl, ap state_of h ∙ is)
  lives_on (session ∷ sessions) before after s is h =
      let one = session_ends session before h.0 s is h.1 in
      let more = lives_on sessions h.0 after (after_session s session one.0) one.1 h.2 in
      (one.0 ∷ more.0, ap (λ n. suc n) more.1, more.2)
