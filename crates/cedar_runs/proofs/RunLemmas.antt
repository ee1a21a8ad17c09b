-- Runs that go one call further, and what is known behind a run.
use Rattle.std.specs.Prelude.{pos}
use Rattle.std.proofs.Common.{◌≡◌, ℕ, List, [], ◌∷◌, ◌++◌, append_assoc, ap, refl, sym, subst, ◌∙◌}
use Rattle.cedar_store.specs.State.{State}
use Rattle.cedar_runs.specs.Runs.{AddsStoreRun, IsStoreRun, failed_after_all, held_after_all, sure_after_all}
use Rattle.cedar_runs.specs.Steps.{IsKnown, IsCallStep, Point, after_call, sure_once}
use Rattle.cedar_runs.specs.declared.call.StoreCall.{StoreCall}
use Rattle.cedar_runs.specs.declared.call.StoreCall.TheVariants as call
use Rattle.cedar_runs.specs.declared.call.Outcome.{Outcome}

-- what follows the calls of a list
abbrev pub blank_call : StoreCall
blank_call = call.Update (record { ref_ptr = (0, 0); now = [] }) (pos 0)

module _ {D : Type 0} (moment : D → ℕ) (left_since : D → ℕ → List ℕ → Type 0) (may_leave : D → List ℕ → Type 0) where
  -- a run with one call more
  pub run_more : (s : Point D) (calls : List StoreCall) (outcomes : List Outcome) (m : Point D) (c : StoreCall) (o : Outcome) (t : Point D)
      → IsStoreRun moment left_since may_leave s calls outcomes m → IsCallStep moment left_since may_leave m (after_call m.held c) o t
      → IsStoreRun moment left_since may_leave s (calls ++ c ∷ []) (outcomes ++ o ∷ []) t
  run_more s [] [] m c o t h step = (t, subst (λ (x : Point D). IsCallStep moment left_since may_leave x (after_call x.held c) o t) h step, refl)
  run_more s [] (p ∷ outcomes) m c o t h step = absurd h
  run_more s (d ∷ calls) [] m c o t h step = absurd h
  run_more s (d ∷ calls) (p ∷ outcomes) m c o t h step = (h.0, h.1, run_more h.0 calls outcomes m c o t h.2 step)

  -- the outcomes that it added, with one more
  pub adds_more : (s : Point D) (calls : List StoreCall) (earlier all : List Outcome) (m : Point D) (c : StoreCall) (o : Outcome) (t : Point D)
      → AddsStoreRun moment left_since may_leave s calls earlier all m → IsCallStep moment left_since may_leave m (after_call m.held c) o t
      → AddsStoreRun moment left_since may_leave s (calls ++ c ∷ []) earlier (all ++ o ∷ []) t
  adds_more s calls earlier all m c o t h step =
      (h.0 ++ o ∷ [], ap (λ xs. xs ++ o ∷ []) h.1 ∙ append_assoc earlier h.0 (o ∷ []), run_more s calls h.0 m c o t h.2 step)

  pub run_held : (old : Point D) (calls : List StoreCall) (outcomes : List Outcome) (new : Point D) → IsStoreRun moment left_since may_leave old calls outcomes new
      → new.held ≡ held_after_all old.held calls outcomes
  run_held old [] [] new h = ap (λ (p : Point D). p.held) h
  run_held old [] (o ∷ outcomes) new h = absurd h
  run_held old (c ∷ calls) [] new h = absurd h
  run_held old (c ∷ calls) (o ∷ outcomes) new h = run_held h.0 calls outcomes new h.2 ∙ ap (λ s. held_after_all s calls outcomes) h.1.held

  pub run_failed : (old : Point D) (calls : List StoreCall) (outcomes : List Outcome) (new : Point D) → IsStoreRun moment left_since may_leave old calls outcomes new
      → new.failed ≡ failed_after_all old.failed outcomes
  run_failed old [] [] new h = ap (λ (p : Point D). p.failed) h
  run_failed old [] (o ∷ outcomes) new h = absurd h
  run_failed old (c ∷ calls) [] new h = absurd h
  run_failed old (c ∷ calls) (o ∷ outcomes) new h = run_failed h.0 calls outcomes new h.2 ∙ ap (λ b. failed_after_all b outcomes) h.1.failed

  pub run_known : (old : Point D) (calls : List StoreCall) (outcomes : List Outcome) (new : Point D) (sure : State) → IsStoreRun moment left_since may_leave old calls outcomes new
      → IsKnown may_leave sure old → IsKnown may_leave (sure_after_all sure old.held calls outcomes) new
  run_known old [] [] new sure h known = subst (IsKnown may_leave sure) (sym h) known
  run_known old [] (o ∷ outcomes) new sure h known = absurd h
  run_known old (c ∷ calls) [] new sure h known = absurd h
  run_known old (c ∷ calls) (o ∷ outcomes) new sure h known =
      let between = h.0 in
      let step = h.1 in
      let next = sure_once o sure (after_call old.held c) in
      subst (λ s. IsKnown may_leave (sure_after_all next s calls outcomes) new) step.held (run_known between calls outcomes new next h.2 (step.known sure known))
