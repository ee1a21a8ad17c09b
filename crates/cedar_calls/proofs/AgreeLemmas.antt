-- That two runs of the same calls agree.
use Rattle.std.proofs.Common.{◌≡◌, ◌⊎◌, inl, inr, Bool, true, ℕ, List, [], ◌∷◌, ◌++◌, length, map, take, Option, Some, None, is_some, Ok, Err, IfOk, refl, ap, sym, subst, ◌∙◌, append-nil, slice_set}
use Rattle.std.specs.Prelude.{MatchOption}
use Rattle.std.specs.List.{remove, slice_get, AllByRecursion}
use Rattle.std.specs.declared.result.Result.{Result}
use Rattle.std.proofs.lemmas.List.{map-append}
use Rattle.cedarwood.specs.Tree.{Tree, empty_tree, number_at}
use Rattle.cedarwood.specs.Queries.{asc, exact, front, predict}
use Rattle.cedarwood.specs.State.{State, after_erase, after_put}
use Rattle.cedarwood.specs.Words.{entries_of}
use Rattle.cedarwood.specs.Ranges.{entries_since, entries_with, longest_front}
use Rattle.cedarwood.specs.RangeWalks.{entries_between}
use Rattle.cedarwood.specs.WellFormed.{tree_of}
use Rattle.cedarwood.specs.Layouts.{LayoutKind, default_layout, layout_byte}
use Rattle.cedarwood.specs.TableFields.{Fields}
use Rattle.cedarwood.specs.CedarPersistenceError.{CedarPersistenceError}
use Rattle.cedarwood.specs.CedarPersistenceError.TheVariants as errors
use Rattle.cedarwood.specs.Header.{Header}
use Rattle.cedarwood.specs.Format.{header_answer, header_at}
use Rattle.cedarwood.specs.Reading.{LacksTable}
use Rattle.cedarwood.specs.Refusal.{Refusal, refusal, refusal_of}
use Rattle.cedarwood.proofs.OneTable.{one_formed_table}
use Rattle.cedarwood.specs.Batches.{held_in_turn, keys_erased}
use Rattle.cedarwood.specs.Builds.{all_stored, first_fault}
use Rattle.cedarwood.specs.Dictionary.{Dictionary}
use Rattle.cedarwood.specs.Erasures.{erased_under}
use Rattle.cedarwood.specs.Fault.{fault}
use Rattle.cedarwood.specs.Loading.{IsDecided, LoadAnswers}
use Rattle.cedarwood.specs.OnTable.{IsOnTable}
use Rattle.cedarwood.specs.SortedInput.{fault_from}
use Rattle.cedar_calls.specs.Agreement.{AreSameCalls, IsSameCall, IsSameChange, IsSameQuestion}
use Rattle.cedar_calls.specs.Making.{IsLoad, Joins}
use Rattle.cedar_calls.specs.Plain.{PlainAnswer, plain_answers, at_state, batch_says, faultless_front, held_each, call_says, change_says, changed_state, counted, done, found, held, listed, IsLoadless, IsMet, kept_at_fault, matched, missing, reply_says, plain_answer, plain_load, selected, states_after, states_of, text_says, unless_fault, unloaded, numbered, walked, was}
use Rattle.cedar_replies.specs.Replies.{in_order}
use Rattle.cedar_calls.specs.Runs.{IsRun, IsStep}
use Rattle.cedar_calls.specs.declared.call.Call.{Call}
use Rattle.cedar_calls.specs.declared.call.Call.TheVariants as call
use Rattle.cedar_calls.specs.declared.call.Change.{Change}
use Rattle.cedar_calls.specs.declared.call.Change.TheVariants as change
use Rattle.cedar_replies.specs.declared.question.Question.{Question}
use Rattle.cedar_replies.specs.declared.question.Question.TheVariants as question
use Rattle.cedar_calls.specs.declared.answer.Answer.{Answer}
use Rattle.cedar_calls.specs.declared.answer.Answer.TheVariants as answer
use Rattle.cedar_calls.proofs.BufferLemmas.{buffer_alike}
use Rattle.cedar_calls.proofs.CompletionLemmas.{completion_alike}
use Rattle.cedar_calls.proofs.InTextLemmas.{text_alike}
use Rattle.cedar_calls.proofs.PlainRunLemmas.{step_goes}

abbrev table_in : Dictionary → Fields
table_in d = d.table

abbrev state_with : Tree → Bool → State
state_with t o = record { tree = t; ordered = o }

-- ---- what the same calls say of the same trees

change_alike : (s : State) (c d : Change) → IsSameChange c d → (change_says s c ≡ change_says s d) × (changed_state s c ≡ changed_state s d)
change_alike s (change.Update k v) (change.Update l w) h = (
  ap (λ x. unless_fault (fault x v) done) h.0 ∙ ap (λ y. unless_fault (fault l.now y) done) h.1,
  ap (λ x. kept_at_fault (fault x v) s (after_put s x v)) h.0 ∙ ap (λ y. kept_at_fault (fault l.now y) s (after_put s l.now y)) h.1,
)
change_alike s (change.Insert k v) (change.Insert l w) h = (
  ap (λ x. unless_fault (fault x v) (was (number_at s.tree x))) h.0 ∙ ap (λ y. unless_fault (fault l.now y) (was (number_at s.tree l.now))) h.1,
  ap (λ x. kept_at_fault (fault x v) s (after_put s x v)) h.0 ∙ ap (λ y. kept_at_fault (fault l.now y) s (after_put s l.now y)) h.1,
)
change_alike s (change.Erase k) (change.Erase l) h = (ap (λ x. held (is_some (number_at s.tree x))) h, ap (after_erase s) h)
change_alike s (change.EraseFound k) (change.EraseFound l) h = (ap (λ x. was (number_at s.tree x)) h, ap (after_erase s) h)
change_alike s (change.EraseBatch k) (change.EraseBatch l) h = (ap (λ keys. held_each (held_in_turn s keys)) h, ap (keys_erased s) h)
change_alike s (change.ErasePrefix k) (change.ErasePrefix l) h = (ap (λ x. counted (length (entries_with s.tree x))) h, ap (erased_under s) h)
change_alike s change.Clear change.Clear h = (refl, refl)
change_alike s change.Shrink change.Shrink h = (refl, refl)
change_alike s (change.Renew x) (change.Renew y) h = (refl, ap (λ o. state_with empty_tree o) h)
change_alike s (change.Build p) (change.Build q) h = (ap (λ es. unless_fault (first_fault es) done) h, ap (λ es. kept_at_fault (first_fault es) s (all_stored s es)) h)
change_alike s (change.UpdateBatch p) (change.UpdateBatch q) h = (ap (batch_says 0) h, ap (λ es. all_stored s (faultless_front es)) h)
change_alike s (change.Reserve n) (change.Reserve m) h = (refl, refl)
change_alike s (change.SetSearchLimit n) (change.SetSearchLimit m) h = (refl, refl)
change_alike s c d h = absurd h

reply_alike : (b : Bool) (s : State) (q r : Question) → IsSameQuestion q r → reply_says b s q ≡ reply_says b s r
reply_alike b s (question.Exact k) (question.Exact l) h = ap (λ x. found (exact s.tree x)) h
reply_alike b s (question.Get k) (question.Get l) h = ap (λ x. numbered (number_at s.tree x)) h
reply_alike b s (question.ContainsKey k) (question.ContainsKey l) h = ap (λ x. held (is_some (number_at s.tree x))) h
reply_alike b s (question.Longest k) (question.Longest l) h = ap (λ x. found (longest_front s.tree x)) h
reply_alike b s (question.Batch k) (question.Batch l) h = ap (λ keys. matched (map (exact s.tree) keys)) h
reply_alike b s (question.Prefixes k) (question.Prefixes l) h = ap (λ x. listed (front s.tree x)) h
reply_alike b s (question.Predictions k) (question.Predictions l) h = ap (λ x. listed (predict s.tree x)) h
reply_alike b s question.First question.First h = refl
reply_alike b s question.Last question.Last h = refl
reply_alike b s question.Entries question.Entries h = refl
reply_alike b s question.TextEntries question.TextEntries h = refl
reply_alike b s (question.EntriesWith k) (question.EntriesWith l) h = ap (λ x. walked (entries_with s.tree x)) h
reply_alike b s (question.EntriesFrom k) (question.EntriesFrom l) h = ap (λ x. selected (in_order s.ordered (entries_since s.tree x))) h
reply_alike b s (question.Range k l) (question.Range x y) h =
    ap (λ z. selected (in_order s.ordered (entries_between s.tree z l.now))) h.0 ∙ ap (λ z. selected (in_order s.ordered (entries_between s.tree x.now z))) h.1
reply_alike b s (question.CountPrefix k) (question.CountPrefix l) h = ap (λ x. counted (length (entries_with s.tree x))) h
reply_alike b s (question.InBuffer q) (question.InBuffer r) h = buffer_alike s.tree q r h
reply_alike b s (question.InText k q) (question.InText l r) h = ap (λ x. text_says s.tree x q) h.0 ∙ text_alike s.tree l.now q r h.1
reply_alike b s (question.Complete q) (question.Complete r) h = completion_alike s q r h
reply_alike b s question.Len question.Len h = refl
reply_alike b s (question.Figure f) (question.Figure g) h = ap (λ x. reply_says b s (question.Figure x)) h
reply_alike b s question.IsEmpty question.IsEmpty h = refl
reply_alike b s question.Stats question.Stats h = refl
reply_alike b s question.Save question.Save h = refl
reply_alike b s question.SaveV1_0 question.SaveV1_0 h = refl
reply_alike b s q r h = absurd h

-- what is said of the state that is found
at_alike : {X : Type 0} (o : Option State) (without : X) (f g : State → X) → ((s : State) → f s ≡ g s) → at_state o without f ≡ at_state o without g
at_alike None without f g h = refl
at_alike (Some s) without f g h = h s

call_alike : (b : Bool) (ss : List State) (c d : Call) → IsSameCall c d → IsLoadless c → (call_says b ss c ≡ call_says b ss d) × (states_after ss c ≡ states_after ss d) × IsLoadless d
call_alike b ss (call.New x) (call.New y) h loadless = (refl, ap (λ o. ss ++ state_with empty_tree o ∷ []) h, tt)
call_alike b ss (call.Sorted x p) (call.Sorted y q) h loadless = (
  ap (λ es. unless_fault (fault_from 0 [] es) done) h.1,
  ap (λ es. kept_at_fault (fault_from 0 [] es) ss (ss ++ state_with (asc es) x.ordered ∷ [])) h.1
      ∙ ap (λ o. kept_at_fault (fault_from 0 [] (entries_of q.now)) ss (ss ++ state_with (asc (entries_of q.now)) o ∷ [])) h.0,
  tt,
)
call_alike b ss (call.Unsorted x p) (call.Unsorted y q) h loadless = (
  ap (λ es. unless_fault (first_fault es) done) h.1,
  ap (λ es. kept_at_fault (first_fault es) ss (ss ++ state_with (asc es) x.ordered ∷ [])) h.1
      ∙ ap (λ o. kept_at_fault (first_fault (entries_of q.now)) ss (ss ++ state_with (asc (entries_of q.now)) o ∷ [])) h.0,
  tt,
)
call_alike b ss (call.Clone i) (call.Clone j) h loadless =
    (ap (λ k. at_state (slice_get ss k) missing (λ _. done)) h, ap (λ k. at_state (slice_get ss k) ss (λ s. ss ++ s ∷ [])) h, tt)
call_alike b ss (call.Drop i) (call.Drop j) h loadless =
    (ap (λ k. at_state (slice_get ss k) missing (λ _. done)) h, ap (λ k. at_state (slice_get ss k) ss (λ _. remove ss k)) h, tt)
call_alike b ss (call.Change i c) (call.Change j d) h loadless = (
  at_alike (slice_get ss i) missing (λ s. change_says s c) (λ s. change_says s d) (λ s. (change_alike s c d h.1).0) ∙ ap (λ k. at_state (slice_get ss k) missing (λ s. change_says s d)) h.0,
  at_alike (slice_get ss i) ss (λ s. slice_set ss i (changed_state s c)) (λ s. slice_set ss i (changed_state s d)) (λ s. ap (slice_set ss i) (change_alike s c d h.1).1)
      ∙ ap (λ k. at_state (slice_get ss k) ss (λ s. slice_set ss k (changed_state s d))) h.0,
  tt,
)
call_alike b ss (call.Ask i q) (call.Ask j r) h loadless = (
  at_alike (slice_get ss i) missing (λ s. reply_says b s q) (λ s. reply_says b s r) (λ s. reply_alike b s q r h.1) ∙ ap (λ k. at_state (slice_get ss k) missing (λ s. reply_says b s r)) h.0,
  refl,
  tt,
)
call_alike b ss (call.Load x m) d h loadless = absurd loadless
call_alike b ss c d h loadless = absurd h

-- ---- what two loads of the same bytes say

loaded_states : Result Dictionary CedarPersistenceError → List State
loaded_states (Ok d) = d.state ∷ []
loaded_states (Err e) = []

-- both get the same results, and both make the same state or none
LoadsAlike : Result Dictionary CedarPersistenceError → Result Dictionary CedarPersistenceError → Type 0
LoadsAlike one two = (plain_load one ≡ plain_load two) × (loaded_states one ≡ loaded_states two)

module _ (slots : ℕ) (bytes : List ℕ) where
  decided_alike : (one two : Result Dictionary CedarPersistenceError) → IsDecided table_in slots bytes one → IsDecided table_in slots bytes two
      → IfOk one (IsOnTable slots) → IfOk two (IsOnTable slots) → LoadsAlike one two
  unfolding LoadsAlike loaded_states
  decided_alike (Ok d) (Ok e) h g on also =
      let same = one_formed_table slots h.0 g.0 d.table e.table h.1.formed g.1.formed h.1.fits g.1.fits (sym h.1.spelled ∙ g.1.spelled) in
      (refl, ap (λ s. s ∷ []) (on.state ∙ ap (λ T. state_with (tree_of T) T.ordered) same.0 ∙ sym also.state))
  decided_alike (Ok d) (Err e) h g on also = absurd (g.1 h.0 d.table h.1)
  decided_alike (Err e) (Ok d) h g on also = absurd (h.1 g.0 d.table g.1)
  decided_alike (Err e) (Err f) h g on also = (ap unloaded (h.0 ∙ sym g.0), refl)

unloaded_of : Option Refusal → PlainAnswer
unloaded_of None = missing
unloaded_of (Some r) = unloaded r

refused_as : (made : Result Dictionary CedarPersistenceError) (r : Refusal) → refusal made ≡ Some r → (plain_load made ≡ unloaded r) × (loaded_states made ≡ [])
unfolding loaded_states unloaded_of
refused_as (Ok d) r h = absurd cc
refused_as (Err e) r h = (ap unloaded_of h, refl)

Told : ℕ → List ℕ → Option Refusal → Result Dictionary CedarPersistenceError → Type 0
Told slots bytes o made = MatchOption o (IsDecided table_in slots bytes made) (λ r. refusal made ≡ Some r)

told_alike : (slots : ℕ) (bytes : List ℕ) (o : Option Refusal) (one two : Result Dictionary CedarPersistenceError) → Told slots bytes o one → Told slots bytes o two
    → IfOk one (IsOnTable slots) → IfOk two (IsOnTable slots) → LoadsAlike one two
unfolding Told LoadsAlike
told_alike slots bytes None one two h g on also = decided_alike slots bytes one two h g on also
told_alike slots bytes (Some r) one two h g on also =
    let p = refused_as one r h in
    let q = refused_as two r g in (p.0 ∙ sym q.0, p.1 ∙ sym q.1)

-- a load that was refused memory isn't met
lacks_met : (h : Header) (e : CedarPersistenceError) → LacksTable h e → IsMet (unloaded (refusal_of e)) → ⊥
lacks_met h (errors.AllocationFailed n) lacks met = met tt
lacks_met h e lacks met = absurd lacks

told : (kind : LayoutKind) (slots limit : ℕ) (bytes : List ℕ) (made : Result Dictionary CedarPersistenceError) → LoadAnswers table_in kind slots limit bytes made → IsMet (plain_load made)
    → Told slots bytes (header_answer (layout_byte kind) slots limit bytes) made
unfolding Told
told kind slots limit bytes (Ok d) (inl lacks) met = absurd lacks.0
told kind slots limit bytes (Err e) (inl lacks) met = absurd (lacks_met (header_at (take 88 bytes)) e lacks.0 met)
told kind slots limit bytes made (inr h) met = h

loads_alike : (kind : LayoutKind) (slots limit : ℕ) (bytes : List ℕ) (one two : Result Dictionary CedarPersistenceError) → IsLoad kind slots limit bytes one → IsLoad kind slots limit bytes two
    → IsMet (plain_load one) → IsMet (plain_load two) → LoadsAlike one two
loads_alike kind slots limit bytes one two h g met also =
    told_alike slots bytes (header_answer (layout_byte kind) slots limit bytes) one two (told kind slots limit bytes one h.0 met) (told kind slots limit bytes two g.0 also) h.1 g.1

-- what was loaded comes after the others
load_joins : (before after : List Dictionary) (made : Result Dictionary CedarPersistenceError) (r : Result (Unit {0}) CedarPersistenceError) → Joins before made r after
    → (plain_load r ≡ plain_load made) × (states_of after ≡ states_of before ++ loaded_states made)
unfolding loaded_states
load_joins before after (Ok d) r j = (ap plain_load j.0, ap states_of j.1 ∙ map-append (λ x. x.state) before (d ∷ []))
load_joins before after (Err e) r j = (ap plain_load j.0, ap states_of j.1 ∙ sym (append-nil (states_of before)))

-- ---- one step, and a run

load_or_not : (c : Call) → IsLoadless c ⊎ (IsLoadless c → ⊥)
load_or_not (call.Load x m) = inr (λ h. h)
load_or_not c = inl tt

first_loadless : (c : Call) (calls : List Call) (S : Type 0) → AllByRecursion IsLoadless (c ∷ calls) ⊎ S → IsLoadless c ⊎ S
first_loadless c calls S (inl h) = inl h.0
first_loadless c calls S (inr s) = inr s

later_loadless : (c : Call) (calls : List Call) (S : Type 0) → AllByRecursion IsLoadless (c ∷ calls) ⊎ S → AllByRecursion IsLoadless calls ⊎ S
later_loadless c calls S (inl h) = inl h.1
later_loadless c calls S (inr s) = inr s

module _ {A B : Type 0} (b : Bool) where
  Agree : Call → Answer A → List Dictionary → Call → Answer B → List Dictionary → Type 0
  Agree c a after d e end = (plain_answer b c a ≡ plain_answer b d e) × (states_of after ≡ states_of end)

  load_step : (layout : LayoutKind) (slots : ℕ) (before after start end : List Dictionary) (c d : Call) (a : Answer A) (e : Answer B) → IsStep layout slots before c a after
      → IsStep layout slots start d e end → IsSameCall c d → states_of before ≡ states_of start → (IsLoadless c → ⊥) → IsMet (plain_answer b c a) → IsMet (plain_answer b d e) → Agree c a after d e end
  unfolding Agree LoadsAlike
  load_step layout slots before after start end (call.Load x m) (call.Load y n) (answer.Loaded r) (answer.Loaded q) h g same states load met also =
      let again : IsLoad layout slots m x.now g.0 = subst (λ bytes. IsLoad layout slots m bytes g.0) (sym same.0) (subst (λ limit. IsLoad layout slots limit y.now g.0) (sym same.1) g.1) in
      let j = load_joins before after h.0 r h.2 in
      let k = load_joins start end g.0 q g.2 in
      let both = loads_alike layout slots m x.now h.0 g.0 h.1 again (subst IsMet j.0 met) (subst IsMet k.0 also) in
      (j.0 ∙ both.0 ∙ sym k.0, j.1 ∙ ap (λ l. states_of before ++ l) both.1 ∙ ap (λ l. l ++ loaded_states g.0) states ∙ sym k.1)
  load_step layout slots before after start end (call.Load x m) (call.Load y n) (answer.Loaded r) e h g same states load met also = absurd g
  load_step layout slots before after start end (call.Load x m) (call.Load y n) a e h g same states load met also = absurd h
  load_step layout slots before after start end (call.Load x m) d a e h g same states load met also = absurd same
  load_step layout slots before after start end c d a e h g same states load met also = absurd (load tt)

  plain_step : (layout other : LayoutKind) (slots most : ℕ) (before after start end : List Dictionary) (c d : Call) (a : Answer A) (e : Answer B) → IsStep layout slots before c a after
      → IsStep other most start d e end → IsSameCall c d → states_of before ≡ states_of start → IsLoadless c → (b ≡ true → layout ≡ default_layout) → (b ≡ true → other ≡ default_layout)
      → IsMet (plain_answer b c a) → IsMet (plain_answer b d e) → Agree c a after d e end
  unfolding Agree
  plain_step layout other slots most before after start end c d a e h g same states loadless k l met also =
      let both = call_alike b (states_of start) c d same loadless in
      let one = step_goes b layout slots before c a after k h loadless met in
      let two = step_goes b other most start d e end l g both.2 also in
      (one.0 ∙ ap (λ ss. call_says b ss c) states ∙ both.0 ∙ sym two.0, one.1 ∙ ap (λ ss. states_after ss c) states ∙ both.1 ∙ sym two.1)

  step_agrees : (layout other : LayoutKind) (slots most : ℕ) (before after start end : List Dictionary) (c d : Call) (a : Answer A) (e : Answer B) → IsStep layout slots before c a after
      → IsStep other most start d e end → IsSameCall c d → states_of before ≡ states_of start → IsLoadless c ⊎ ((layout ≡ other) × (slots ≡ most))
      → (b ≡ true → layout ≡ default_layout) → (b ≡ true → other ≡ default_layout) → IsMet (plain_answer b c a) → IsMet (plain_answer b d e) → Agree c a after d e end
  step_agrees layout other slots most before after start end c d a e h g same states (inl loadless) k l met also =
      plain_step layout other slots most before after start end c d a e h g same states loadless k l met also
  step_agrees layout other slots most before after start end c d a e h g same states (inr one) k l met also = elim (load_or_not c) [
    | inl loadless ↦ plain_step layout other slots most before after start end c d a e h g same states loadless k l met also
    | inr load ↦
        let again : IsStep layout slots start d e end = subst (λ x. IsStep x slots start d e end) (sym one.0) (subst (λ n. IsStep other n start d e end) (sym one.1) g) in
        load_step layout slots before after start end c d a e h again same states load met also
  ]

  pub runs_agree_on : (layout other : LayoutKind) (slots most : ℕ) (before after start end : List Dictionary) (calls others : List Call) (answers : List (Answer A)) (replies : List (Answer B))
      → IsRun layout slots before calls answers after → IsRun other most start others replies end → AreSameCalls calls others → states_of before ≡ states_of start
      → AllByRecursion IsLoadless calls ⊎ ((layout ≡ other) × (slots ≡ most)) → (b ≡ true → (layout ≡ default_layout) × (other ≡ default_layout))
      → AllByRecursion IsMet (plain_answers b calls answers) → AllByRecursion IsMet (plain_answers b others replies)
      → (plain_answers b calls answers ≡ plain_answers b others replies) × (states_of after ≡ states_of end)
  unfolding Agree
  runs_agree_on layout other slots most before after start end [] [] [] [] h g same states loads k met also = (refl, ap states_of h ∙ states ∙ sym (ap states_of g))
  runs_agree_on layout other slots most before after start end (c ∷ calls) (d ∷ others) (a ∷ answers) (e ∷ replies) h g same states loads k met also =
      let s = step_agrees layout other slots most before h.0 start g.0 c d a e h.1 g.1 same.0 states (first_loadless c calls ((layout ≡ other) × (slots ≡ most)) loads) (λ t. (k t).0) (λ t. (k t).1) met.0 also.0 in
      let r = runs_agree_on layout other slots most h.0 after g.0 end calls others answers replies h.2 g.2 same.1 s.1 (later_loadless c calls ((layout ≡ other) × (slots ≡ most)) loads) k met.1 also.1 in
      (ap (λ x. x ∷ plain_answers b calls answers) s.0 ∙ ap (λ xs. plain_answer b d e ∷ xs) r.0, r.1)
  runs_agree_on layout other slots most before after start end [] [] (a ∷ answers) replies h g same states loads k met also = absurd h
  runs_agree_on layout other slots most before after start end [] [] [] (e ∷ replies) h g same states loads k met also = absurd g
  runs_agree_on layout other slots most before after start end (c ∷ calls) others [] replies h g same states loads k met also = absurd h
  runs_agree_on layout other slots most before after start end calls (d ∷ others) answers [] h g same states loads k met also = absurd g
  runs_agree_on layout other slots most before after start end calls others answers replies h g same states loads k met also = absurd same
