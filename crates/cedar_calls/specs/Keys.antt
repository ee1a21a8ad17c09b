-- What a key holds after some changes of a dictionary: only changes of that key have a part in it, and the last of
-- them decides.
use Rattle.std.specs.Prelude.{◌≡◌, ◌<◌, ℕ, ℤ, List, [], ◌∷◌, ◌++◌, length, take, map, slice_get}
use Rattle.std.specs.Prelude.{slice_set, Option, Some, None, IsSome, fold, nat_eq, if◌then◌else◌}
use Rattle.std.specs.Prelude.{Result, Ok, Err, OnOk, MatchResult}
use Rattle.std.specs.List.{remove, starts_with}
use Rattle.cedarwood.specs.Tree.{number_at, IsSoundBelow}
use Rattle.cedarwood.specs.Queries.{is_path, last_at}
use Rattle.cedarwood.specs.State.{State}
use Rattle.cedarwood.specs.Words.{entries_of, keys_of}
use Rattle.cedarwood.specs.WellFormed.{tree_of}
use Rattle.cedarwood.specs.Layouts.{LayoutKind}
use Rattle.cedarwood.specs.TableFields.{Fields}
use Rattle.cedarwood.specs.Tables.{IsTableFile}
use Rattle.cedarwood.specs.Builds.{first_fault}
use Rattle.cedarwood.specs.Dictionary.{Dictionary}
use Rattle.cedarwood.specs.Fault.{fault}
use Rattle.cedar_calls.specs.Plain.{changed_state, faultless_front, kept_at_fault}
use Rattle.cedar_calls.specs.Runs.{IsRun}
use Rattle.cedar_calls.specs.declared.call.Call.{Call}
use Rattle.cedar_calls.specs.declared.call.Call.TheVariants as call
use Rattle.cedar_calls.specs.declared.call.Change.{Change}
use Rattle.cedar_calls.specs.declared.call.Change.TheVariants as change
use Rattle.cedar_calls.specs.declared.answer.Answer.{Answer}
use Rattle.cedar_calls.specs.declared.answer.Answer.TheVariants as answer
use Rattle.cedar_calls.specs.declared.answer.Changed.{Changed}
use Rattle.cedar_calls.specs.declared.answer.Changed.TheVariants as changed

-- what a key holds after the removal of some keys, of what it held before
abbrev pub held_unless_among : List ℕ → Option ℤ → List (List ℕ) → Option ℤ
held_unless_among key now [] = now
held_unless_among key now (k ∷ keys) = held_unless_among key (if is_path key k then None else now) keys

-- what a key holds after a change, of what it held before
abbrev pub held_after : List ℕ → Option ℤ → Change → Option ℤ
held_after key now (change.Update k v) = kept_at_fault (fault k.now v) now (if is_path key k.now then Some v else now)
held_after key now (change.Insert k v) = kept_at_fault (fault k.now v) now (if is_path key k.now then Some v else now)
held_after key now (change.Erase k) = if is_path key k.now then None else now
held_after key now (change.EraseFound k) = if is_path key k.now then None else now
held_after key now (change.EraseBatch keys) = held_unless_among key now (keys_of keys.now)
held_after key now (change.ErasePrefix prefix) = if starts_with nat_eq key prefix.now then None else now
held_after key now change.Clear = None
held_after key now change.Shrink = now
held_after key now (change.Renew settings) = None
held_after key now (change.Reserve n) = now
held_after key now (change.SetSearchLimit n) = now
held_after key now (change.UpdateBatch pairs) = last_at key now (faultless_front (entries_of pairs.now))
held_after key now (change.Build pairs) = kept_at_fault (first_fault (entries_of pairs.now)) now (last_at key now (entries_of pairs.now))

-- the trees on the way through some changes are sound, as those of dictionaries are
abbrev pub AreSoundAlong : State → List Change → Type 0
AreSoundAlong s [] = Unit {0}
AreSoundAlong s (c ∷ changes) = IsSoundBelow s.tree.children × AreSoundAlong (changed_state s c) changes

-- what a key holds after some changes follows from what it held before, change by change (`held_after`). Of a change
-- of another key nothing is read
abbrev pub KeysStandAlone : Type 0
KeysStandAlone = (s : State) (changes : List Change) (key : List ℕ) → AreSoundAlong s changes
    → number_at (fold changed_state s changes).tree key ≡ fold (held_after key) (number_at s.tree key) changes

-- ---- in runs of any calls

-- what some dictionaries hold at a key
abbrev pub numbers_at : List ℕ → List Dictionary → List (Option ℤ)
numbers_at key ds = map (λ d. number_at d.state.tree key) ds

-- what a call that succeeded gave, else what was so
abbrev pub if_made : {E X Y : Type 0} → Result X E → Y → Y → Y
if_made (Ok x) made before = made
if_made (Err e) made before = before

-- what a key holds after a change with this result. Of a build that was refused for memory or slots some first pairs
-- count, never all; of one with a fault none
abbrev pub IsHeldAfter : {A : Type 0} → List ℕ → Option ℤ → Change → Changed A → Option ℤ → Type 0
IsHeldAfter key now (change.Update k v) (changed.Updated result) after = after ≡ if_made result (if is_path key k.now then Some v else now) now
IsHeldAfter key now (change.Insert k v) (changed.Inserted result) after = after ≡ if_made result (if is_path key k.now then Some v else now) now
IsHeldAfter key now (change.Erase k) (changed.Erased held) after = after ≡ (if is_path key k.now then None else now)
IsHeldAfter key now (change.EraseFound k) (changed.ErasedFound value) after = after ≡ (if is_path key k.now then None else now)
IsHeldAfter key now (change.EraseBatch keys) (changed.ErasedBatch result) after = after ≡ if_made result (held_unless_among key now (keys_of keys.now)) now
IsHeldAfter key now (change.ErasePrefix prefix) (changed.ErasedPrefix n) after = after ≡ (if starts_with nat_eq key prefix.now then None else now)
IsHeldAfter key now change.Clear changed.Cleared after = after ≡ None
IsHeldAfter key now change.Shrink (changed.Shrunk result) after = after ≡ now
IsHeldAfter key now (change.Renew settings) (changed.Renewed result) after = after ≡ if_made result None now
IsHeldAfter key now (change.Build pairs) (changed.Built result) after =
    MatchResult result (λ _. after ≡ last_at key now (entries_of pairs.now))
    (λ _. (n : ℕ) × (n < length (entries_of pairs.now)) × (IsSome (first_fault (entries_of pairs.now)) → n ≡ 0) × (after ≡ last_at key now (take n (entries_of pairs.now))))
IsHeldAfter key now (change.UpdateBatch pairs) (changed.UpdatedBatch result) after =
    MatchResult result (λ _. after ≡ last_at key now (entries_of pairs.now))
    (λ refusal. (refusal.index < length (entries_of pairs.now)) × (after ≡ last_at key now (take refusal.index (entries_of pairs.now))))
IsHeldAfter key now (change.Reserve n) (changed.Reserved result) after = after ≡ now
IsHeldAfter key now (change.SetSearchLimit n) changed.SearchLimitSet after = after ≡ now
IsHeldAfter key now c result after = ⊥

-- a well-formed table whose bytes these are holds this number at the key
abbrev pub IsNumberInFile : ℕ → List ℕ → List ℕ → Option ℤ → Type 0
IsNumberInFile slots bytes key number = (version : ℕ) × (T : Fields) × IsTableFile version slots T bytes × (number ≡ number_at (tree_of T) key)

-- what all dictionaries hold at a key after a call, by what they held before. A new one begins with what it was made
-- of, or with nothing. If one was dropped, the others hold what they held
abbrev pub IsKeyStep : {A : Type 0} → ℕ → List ℕ → List (Option ℤ) → Call → Answer A → List (Option ℤ) → Type 0
IsKeyStep slots key before (call.New settings) (answer.Made result) after = after ≡ if_made result (before ++ None ∷ []) before
IsKeyStep slots key before (call.Sorted settings pairs) (answer.Made result) after = after ≡ if_made result (before ++ last_at key None (entries_of pairs.now) ∷ []) before
IsKeyStep slots key before (call.Unsorted settings pairs) (answer.Made result) after = after ≡ if_made result (before ++ last_at key None (entries_of pairs.now) ∷ []) before
IsKeyStep slots key before (call.Load bytes limit) (answer.Loaded result) after =
    (number : Option ℤ) × OnOk result (IsNumberInFile slots bytes.now key number) × (after ≡ if_made result (before ++ number ∷ []) before)
IsKeyStep slots key before (call.Clone i) (answer.Made result) after = (number : Option ℤ) × (slice_get before i ≡ Some number) × (after ≡ if_made result (before ++ number ∷ []) before)
IsKeyStep slots key before (call.Drop i) answer.Dropped after = after ≡ remove before i
IsKeyStep slots key before (call.Change i c) (answer.Changed result) after =
    (number : Option ℤ) × (changed : Option ℤ) × (slice_get before i ≡ Some number) × IsHeldAfter key number c result changed × (after ≡ slice_set before i changed)
IsKeyStep slots key before c a after = after ≡ before

-- what all dictionaries hold at a key after some calls, by what they held before
abbrev pub IsKeyRun : {A : Type 0} → ℕ → List ℕ → List (Option ℤ) → List Call → List (Answer A) → List (Option ℤ) → Type 0
IsKeyRun slots key before [] [] after = after ≡ before
IsKeyRun slots key before (c ∷ calls) (a ∷ answers) after = (between : List (Option ℤ)) × IsKeyStep slots key before c a between × IsKeyRun slots key between calls answers after
IsKeyRun slots key before calls answers after = ⊥

-- what the dictionaries of a run hold at a key after some calls follows from what they held at it before, call by
-- call. Nothing is read of any other key
abbrev pub KeysStandAloneInRuns : {A : Type 0} → List Call → List (Answer A) → Type 0
KeysStandAloneInRuns calls answers =
    (layout : LayoutKind) (slots : ℕ) (before after : List Dictionary) (key : List ℕ) → IsRun layout slots before calls answers after
    → IsKeyRun slots key (numbers_at key before) calls answers (numbers_at key after)
