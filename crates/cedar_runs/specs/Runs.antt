-- Calls of a store one after another.
use Rattle.std.specs.Prelude.{◌≡◌, ℕ, Bool, List, [], ◌∷◌, ◌++◌}
use Rattle.cedar_store.specs.State.{State}
use Rattle.cedar_store.specs.declared.store.Store.{Store}
use Rattle.cedar_runs.specs.Steps.{IsCallStep, Point, after_call, failed_once, held_once, point_of}
use Rattle.cedar_runs.specs.Steps.{sure_once}
use Rattle.cedar_runs.specs.declared.call.StoreCall.{StoreCall}
use Rattle.cedar_runs.specs.declared.call.Outcome.{Outcome}

module _ {D : Type 0} (moment : D → ℕ) (left_since : D → ℕ → List ℕ → Type 0) (may_leave : D → List ℕ → Type 0) where
  -- calls one after another: there is one outcome for each, and each begins where the one before it ended
  abbrev pub IsStoreRun : Point D → List StoreCall → List Outcome → Point D → Type 0
  IsStoreRun old [] [] new = new ≡ old
  IsStoreRun old (c ∷ calls) (o ∷ outcomes) new = (between : Point D) × IsCallStep moment left_since may_leave old (after_call old.held c) o between × IsStoreRun between calls outcomes new
  IsStoreRun old calls outcomes new = ⊥

  -- the outcomes of a run were added to those that were there
  abbrev pub AddsStoreRun : Point D → List StoreCall → List Outcome → List Outcome → Point D → Type 0
  AddsStoreRun old calls earlier all new = (outcomes : List Outcome) × (all ≡ earlier ++ outcomes) × IsStoreRun old calls outcomes new

-- calls of a store were made, one after another, and what came of them was added to the outcomes that were there
abbrev pub MakesStoreCalls : {T A D : Type 0} → (D → ℕ) → (D → ℕ → List ℕ → Type 0) → (D → List ℕ → Type 0) → (T → State) → Store T A D → List StoreCall → List Outcome → List Outcome → Store T A D → Type 0
MakesStoreCalls moment left_since may_leave state old calls earlier all new =
    AddsStoreRun moment left_since may_leave (point_of state old) calls earlier all (point_of state new)

-- the dictionary after some calls with these outcomes
abbrev pub held_after_all : State → List StoreCall → List Outcome → State
held_after_all held [] outcomes = held
held_after_all held (c ∷ calls) [] = held
held_after_all held (c ∷ calls) (o ∷ outcomes) = held_after_all (held_once o held (after_call held c)) calls outcomes

-- what counts for sure after some calls with these outcomes
abbrev pub sure_after_all : State → State → List StoreCall → List Outcome → State
sure_after_all sure held [] outcomes = sure
sure_after_all sure held (c ∷ calls) [] = sure
sure_after_all sure held (c ∷ calls) (o ∷ outcomes) = sure_after_all (sure_once o sure (after_call held c)) (held_once o held (after_call held c)) calls outcomes

-- whether the store has failed after some calls with these outcomes
abbrev pub failed_after_all : Bool → List Outcome → Bool
failed_after_all failed [] = failed
failed_after_all failed (o ∷ outcomes) = failed_after_all (failed_once o failed) outcomes
