-- Calls one after another on any number of dictionaries: what each returns, and the dictionaries after it.
use Rattle.std.specs.Prelude.{◌≡◌, ℕ, List, [], ◌∷◌, ◌++◌, slice_get, slice_set, Some, None}
use Rattle.std.specs.List.{remove}
use Rattle.cedarwood.specs.Layouts.{LayoutKind}
use Rattle.cedarwood.specs.Dictionary.{Dictionary, IsValid}
use Rattle.cedarwood.specs.OnTable.{IsOnTable}
use Rattle.cedarwood.specs.Words.{entries_of}
use Rattle.cedarwood.specs.Making.{IsNew, IsSortedBuild}
use Rattle.cedarwood.specs.Unsorted.{IsUnsortedBuild}
use Rattle.cedar_calls.specs.Making.{IsCopy, IsLoad, Makes}
use Rattle.cedar_calls.specs.Changes.{IsChange}
use Rattle.cedar_replies.specs.Replies.{IsReply}
use Rattle.cedar_calls.specs.declared.call.Call.{Call}
use Rattle.cedar_calls.specs.declared.call.Call.TheVariants as call
use Rattle.cedar_calls.specs.declared.answer.Answer.{Answer}
use Rattle.cedar_calls.specs.declared.answer.Answer.TheVariants as answer

-- the dictionary at an index has become another one, and each other one is as it was
abbrev pub ChangesAt : List Dictionary → ℕ → (Dictionary → Dictionary → Type 0) → List Dictionary → Type 0
ChangesAt before index Step after =
    (d : Dictionary) × (changed : Dictionary) × (slice_get before index ≡ Some d) × Step d changed × (after ≡ slice_set before index changed)

-- the dictionary at an index was asked, and all are as they were
abbrev pub AsksAt : List Dictionary → ℕ → (Dictionary → Type 0) → List Dictionary → Type 0
AsksAt before index Reply after = (d : Dictionary) × (slice_get before index ≡ Some d) × Reply d × (after ≡ before)

-- there is no dictionary at an index, and all are as they were
abbrev pub MissesAt : List Dictionary → ℕ → List Dictionary → Type 0
MissesAt before index after = (slice_get before index ≡ None) × (after ≡ before)

-- the dictionary at an index was dropped, and those after it have come one earlier
abbrev pub DropsAt : List Dictionary → ℕ → List Dictionary → Type 0
DropsAt before index after = (d : Dictionary) × (slice_get before index ≡ Some d) × (after ≡ remove before index)

-- what a call may return of these dictionaries, of one layout and with at most `slots` slots each, and the
-- dictionaries after it. Of a change also that its dictionary was valid before it (`IsValid`)
abbrev pub IsStep : {A : Type 0} → LayoutKind → ℕ → List Dictionary → Call → Answer A → List Dictionary → Type 0
IsStep layout slots before (call.New settings) (answer.Made result) after = Makes (IsNew settings) before result after
IsStep layout slots before (call.Sorted settings pairs) (answer.Made result) after = Makes (IsSortedBuild layout slots settings (entries_of pairs.now)) before result after
IsStep layout slots before (call.Unsorted settings pairs) (answer.Made result) after = Makes (IsUnsortedBuild layout slots settings (entries_of pairs.now)) before result after
IsStep layout slots before (call.Load bytes limit) (answer.Loaded result) after = Makes (IsLoad layout slots limit bytes.now) before result after
IsStep layout slots before (call.Clone index) (answer.Made result) after = (d : Dictionary) × (slice_get before index ≡ Some d) × Makes (IsCopy d) before result after
IsStep layout slots before (call.Clone index) answer.Missing after = MissesAt before index after
IsStep layout slots before (call.Drop index) answer.Dropped after = DropsAt before index after
IsStep layout slots before (call.Drop index) answer.Missing after = MissesAt before index after
IsStep layout slots before (call.Change index change) (answer.Changed result) after = ChangesAt before index (λ d changed. IsValid slots d × IsChange layout slots d change result changed) after
IsStep layout slots before (call.Change index change) answer.Missing after = MissesAt before index after
IsStep layout slots before (call.Ask index question) (answer.Replied reply) after = AsksAt before index (λ d. IsOnTable slots d × IsReply layout slots d question reply) after
IsStep layout slots before (call.Ask index question) answer.Missing after = MissesAt before index after
IsStep layout slots before c a after = ⊥

-- there is one answer for each call, and each call begins with the dictionaries that the one before it left
abbrev pub IsRun : {A : Type 0} → LayoutKind → ℕ → List Dictionary → List Call → List (Answer A) → List Dictionary → Type 0
IsRun layout slots before [] [] after = after ≡ before
IsRun layout slots before (c ∷ calls) (a ∷ answers) after = (between : List Dictionary) × IsStep layout slots before c a between × IsRun layout slots between calls answers after
IsRun layout slots before calls answers after = ⊥

-- the answers of a run were added to those that were there
abbrev pub AddsRun : {A : Type 0} → LayoutKind → ℕ → List Dictionary → List Call → List (Answer A) → List (Answer A) → List Dictionary → Type 0
AddsRun {A} layout slots before calls earlier all after = (answers : List (Answer A)) × (all ≡ earlier ++ answers) × IsRun layout slots before calls answers after
