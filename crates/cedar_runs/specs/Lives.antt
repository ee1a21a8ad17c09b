-- A store that is opened, called and stopped, again and again.
use Rattle.std.specs.Prelude.{◌≡◌, ℕ, Bool, false, cond, List, [], ◌∷◌, length, Option, Some, None}
use Rattle.cedar_store.specs.State.{State}
use Rattle.cedar_store.specs.Files.{StandsFor, state_of}
use Rattle.cedar_runs.specs.Steps.{IsCallStep, Point, after_call, under_way}
use Rattle.cedar_runs.specs.Runs.{IsStoreRun, failed_after_all, held_after_all, sure_after_all}
use Rattle.cedar_runs.specs.declared.call.StoreCall.{StoreCall}
use Rattle.cedar_runs.specs.declared.call.Outcome.{Outcome}

-- a crash while a device is opened leaves a file that represents the same dictionary
abbrev pub KeepsState : {D : Type 0} → (D → List ℕ) → (D → ℕ) → (D → ℕ → List ℕ → Type 0) → D → D → Type 0
KeepsState seen moment left_since device end = (file : List ℕ) → left_since end (moment device) file → state_of file ≡ state_of (seen device)

-- the store of a device was opened. The file represents its dictionary, and so does what a crash leaves, then and
-- while it is opened
pub record BeginsSession {D : Type 0} (seen : D → List ℕ) (moment : D → ℕ) (left_since : D → ℕ → List ℕ → Type 0) (may_leave : D → List ℕ → Type 0) (device : D) (first : Point D) : Type 0 where
  pub usable : first.failed ≡ false
  pub made : state_of (seen device) ≡ Some first.held
  pub left : (file : List ℕ) → may_leave first.device file → StandsFor first.held file
  pub crash : KeepsState seen moment left_since device first.device

-- what happens between an opening and a crash
pub data Session : Type 0 where
  -- the crash came while the device was opened
  while_opening : Session
  -- the crash came behind these calls, of which these were the outcomes, in one more call or between two
  calling : List StoreCall → List Outcome → Option StoreCall → Session

module _ {D : Type 0} (seen : D → List ℕ) (moment : D → ℕ) (left_since : D → ℕ → List ℕ → Type 0) (may_leave : D → List ℕ → Type 0) where
  -- a crash leaves this file, in a call or between two
  abbrev pub CrashesIn : Point D → Option StoreCall → List ℕ → Type 0
  CrashesIn p None file = may_leave p.device file
  CrashesIn p (Some c) file =
      (next : Point D) × (outcome : Outcome) × IsCallStep moment left_since may_leave p (after_call p.held c) outcome next × left_since next.device (moment p.device) file

  -- a session that found the file `before`, and left the file `after`
  abbrev pub IsSession : Session → List ℕ → List ℕ → Type 0
  IsSession while_opening before after =
      (device : D) × (end : D) × (seen device ≡ before) × KeepsState seen moment left_since device end × left_since end (moment device) after
  IsSession (calling calls outcomes last) before after =
      (device : D) × (first : Point D) × (end : Point D) × (seen device ≡ before) × BeginsSession seen moment left_since may_leave device first
      × IsStoreRun moment left_since may_leave first calls outcomes end × CrashesIn end last after

  -- sessions one after another, each of which finds the file that the one before it left
  abbrev pub IsLife : List Session → List ℕ → List ℕ → Type 0
  IsLife [] before after = after ≡ before
  IsLife (session ∷ sessions) before after = (between : List ℕ) × IsSession session before between × IsLife sessions between after

-- the dictionary after a session's calls and the one that was under way, or in which the device had failed
abbrev pub with_last : State → List StoreCall → List Outcome → Option StoreCall → State
with_last s calls outcomes None = held_after_all s calls outcomes
with_last s calls outcomes (Some c) =
    under_way (failed_after_all false outcomes) (held_after_all s calls outcomes) (after_call (held_after_all s calls outcomes) c)

-- what a session makes of a dictionary: with the call that was under way, or without it
abbrev pub after_session : State → Session → Bool → State
after_session s while_opening has_last = s
after_session s (calling calls outcomes last) has_last = cond has_last (with_last s calls outcomes last) (sure_after_all s s calls outcomes)

-- what some sessions, one after another, make of a dictionary
abbrev pub after_life : State → List Session → List Bool → State
after_life s [] ends = s
after_life s (session ∷ sessions) [] = s
after_life s (session ∷ sessions) (has_last ∷ ends) = after_life (after_session s session has_last) sessions ends

-- the file at the end of a life represents what the life made of the dictionary that the first file represented
abbrev pub AcknowledgedCallsStay : {D : Type 0} → (D → List ℕ) → (D → ℕ) → (D → ℕ → List ℕ → Type 0) → (D → List ℕ → Type 0) → Type 0
AcknowledgedCallsStay seen moment left_since may_leave = (sessions : List Session) (before after : List ℕ) (s : State) → state_of before ≡ Some s
    → IsLife seen moment left_since may_leave sessions before after
    → (ends : List Bool) × (length ends ≡ length sessions) × (state_of after ≡ Some (after_life s sessions ends))
