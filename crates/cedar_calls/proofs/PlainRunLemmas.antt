-- What calls and runs say as far as trees go.
use Rattle.std.proofs.Common.{◌≡◌, Bool, true, ◌⊎◌, inl, inr, ◌*◌, ◌≤◌, ℕ, List, [], ◌∷◌, ◌++◌, length, Option, option_map, Some, None, Ok, Err, IfSome, refl, ap, sym, subst, ◌∙◌, slice_set}
use Rattle.std.specs.List.{remove, slice_get, AllByRecursion}
use Rattle.std.specs.declared.result.Result.{Result}
use Rattle.std.proofs.lemmas.List.{map-append, map-set}
use Rattle.std.proofs.lemmas.Option.{slice_get-map}
use Rattle.cedarwood.specs.Tree.{empty_tree}
use Rattle.cedarwood.specs.Queries.{Entry, asc, prefixes}
use Rattle.cedarwood.specs.State.{State}
use Rattle.cedarwood.specs.declared.error.CedarError.{CedarError}
use Rattle.cedarwood.specs.declared.error.CedarError.TheVariants.{Memory, SlotLimit}
use Rattle.cedarwood.specs.Words.{Pair, entries_of}
use Rattle.cedarwood.specs.Layouts.{LayoutKind, default_layout}
use Rattle.cedarwood.specs.declared.builder.CedarBuilder.{CedarBuilder}
use Rattle.cedarwood.specs.Builds.{first_fault}
use Rattle.cedarwood.specs.Dictionary.{Dictionary}
use Rattle.cedarwood.specs.Fault.{IsShortage}
use Rattle.cedarwood.specs.SortedInput.{sorted_fault}
use Rattle.cedarwood.specs.Making.{IsNew, IsSortedBuild}
use Rattle.cedarwood.specs.Unsorted.{IsUnsortedBuild}
use Rattle.cedar_calls.specs.Making.{IsCopy, Joins}
use Rattle.cedar_calls.specs.Plain.{at_state, call_says, change_says, changed_state, done, IsLoadless, IsMet, kept_at_fault, missing, plain_answer, plain_answers, plain_result, reply_says, run_says, states_after, states_left, states_of, unless_fault}
use Rattle.cedar_calls.specs.Runs.{IsRun, IsStep}
use Rattle.cedar_calls.specs.declared.call.Call.{Call}
use Rattle.cedar_calls.specs.declared.call.Call.TheVariants as call
use Rattle.cedar_calls.specs.declared.answer.Answer.{Answer}
use Rattle.cedar_calls.specs.declared.answer.Answer.TheVariants as answer
use Rattle.cedar_calls.proofs.PlaceLemmas.{map-remove}
use Rattle.cedar_replies.proofs.CollectLemmas.{short}
use Rattle.cedar_calls.proofs.PlainLemmas.{change_goes, reply_goes, state_is}

short_of : (e : CedarError) (P : Type 0) → (e ≡ Memory) ⊎ ((e ≡ SlotLimit) × P) → IsShortage e
short_of e P (inl h) = short e h
short_of e P (inr h) = subst IsShortage (sym h.0) tt

-- a further dictionary's state behind the others
pub joined : (before after : List Dictionary) (d : Dictionary) (s : State) → after ≡ before ++ d ∷ [] → d.state ≡ s → states_of after ≡ states_of before ++ s ∷ []
joined before after d s e same = ap states_of e ∙ map-append (λ x. x.state) before (d ∷ []) ∙ ap (λ x. states_of before ++ x ∷ []) same

-- what a making says
module _ (before after : List Dictionary) (r : Result (Unit {0}) CedarError) where
  met_at : (e : CedarError) → r ≡ Err e → IsMet (plain_result (λ _. done) r) → IsShortage e → ⊥
  met_at e h met = subst (λ x. IsMet (plain_result (λ _. done) x)) h met

  new_goes : (settings : CedarBuilder) (made : Result Dictionary CedarError) → IsNew settings made → Joins before made r after → IsMet (plain_result (λ _. done) r)
      → (plain_result (λ _. done) r ≡ done) × (states_of after ≡ states_of before ++ record { tree = empty_tree; ordered = settings.ordered } ∷ [])
  new_goes settings (Ok d) p j met = (ap (plain_result (λ _. done)) j.0, joined before after d _ j.1 (state_is d.state empty_tree settings.ordered p.tree p.ordered))
  new_goes settings (Err e) p j met = absurd (met_at e j.0 met (short e p))

  copy_goes : (d : Dictionary) (made : Result Dictionary CedarError) → IsCopy d made → Joins before made r after → IsMet (plain_result (λ _. done) r)
      → (plain_result (λ _. done) r ≡ done) × (states_of after ≡ states_of before ++ d.state ∷ [])
  copy_goes d (Ok copy) p j met = (ap (plain_result (λ _. done)) j.0, joined before after copy d.state j.1 (ap (λ x. x.state) p))
  copy_goes d (Err e) p j met = absurd (met_at e j.0 met (short e p))

  sorted_goes : (layout : LayoutKind) (slots : ℕ) (settings : CedarBuilder) (pairs : List Pair) (f : Option CedarError) → sorted_fault pairs ≡ f → (made : Result Dictionary CedarError)
      → IsSortedBuild layout slots settings (entries_of pairs) made → Joins before made r after → IsMet (plain_result (λ _. done) r)
      → (plain_result (λ _. done) r ≡ unless_fault f done)
      × (states_of after ≡ kept_at_fault f (states_of before) (states_of before ++ record { tree = asc (entries_of pairs); ordered = settings.ordered } ∷ []))
  sorted_goes layout slots settings pairs (Some e) same made p j met =
      let faulty : made ≡ Err e = subst (λ f. IfSome f (λ e. made ≡ Err e)) same p.faulty in
      let none_made : Joins before (Err e) r after = subst (λ m. Joins before m r after) faulty j in (ap (plain_result (λ _. done)) none_made.0, ap states_of none_made.1)
  sorted_goes layout slots settings pairs None same (Ok d) p j met =
      (ap (plain_result (λ _. done)) j.0, joined before after d _ j.1 (state_is d.state (asc (entries_of pairs)) settings.ordered p.sorted.tree p.sorted.ordered))
  sorted_goes layout slots settings pairs None same (Err e) p j met = absurd (met_at e j.0 met (short_of e (slots ≤ 256 * length (prefixes (asc (entries_of pairs)))) (p.refused same)))

  unsorted_goes : (layout : LayoutKind) (slots : ℕ) (settings : CedarBuilder) (pairs : List Entry) (f : Option CedarError) → first_fault pairs ≡ f → (made : Result Dictionary CedarError)
      → IsUnsortedBuild layout slots settings pairs made → Joins before made r after → IsMet (plain_result (λ _. done) r)
      → (plain_result (λ _. done) r ≡ unless_fault f done)
      × (states_of after ≡ kept_at_fault f (states_of before) (states_of before ++ record { tree = asc pairs; ordered = settings.ordered } ∷ []))
  unsorted_goes layout slots settings pairs (Some e) same made p j met =
      let faulty : made ≡ Err e = subst (λ f. IfSome f (λ e. made ≡ Err e)) same p.faulty in
      let none_made : Joins before (Err e) r after = subst (λ m. Joins before m r after) faulty j in (ap (plain_result (λ _. done)) none_made.0, ap states_of none_made.1)
  unsorted_goes layout slots settings pairs None same (Ok d) p j met =
      (ap (plain_result (λ _. done)) j.0, joined before after d _ j.1 (state_is d.state (asc pairs) settings.ordered p.stored.tree p.stored.ordered))
  unsorted_goes layout slots settings pairs None same (Err e) p j met = absurd (met_at e j.0 met (short_of e (slots ≤ 256 * length (prefixes (asc pairs))) (p.refused same)))

pub found_state : (ds : List Dictionary) (i : ℕ) (d : Dictionary) → slice_get ds i ≡ Some d → slice_get (states_of ds) i ≡ Some d.state
found_state ds i d h = slice_get-map (λ x. x.state) ds i ∙ ap (option_map (λ x. x.state)) h

missed_state : (ds : List Dictionary) (i : ℕ) → slice_get ds i ≡ None → slice_get (states_of ds) i ≡ None
missed_state ds i h = slice_get-map (λ x. x.state) ds i ∙ ap (option_map (λ x. x.state)) h

-- a step
pub step_goes : {A : Type 0} (b : Bool) (layout : LayoutKind) (slots : ℕ) (before : List Dictionary) (c : Call) (a : Answer A) (after : List Dictionary) → (b ≡ true → layout ≡ default_layout)
    → IsStep layout slots before c a after → IsLoadless c → IsMet (plain_answer b c a) → (plain_answer b c a ≡ call_says b (states_of before) c) × (states_of after ≡ states_after (states_of before) c)
step_goes b layout slots before (call.New settings) (answer.Made r) after k h loadless met = new_goes before after r settings h.0 h.1 h.2 met
step_goes b layout slots before (call.Sorted settings pairs) (answer.Made r) after k h loadless met =
    sorted_goes before after r layout slots settings pairs.now (sorted_fault pairs.now) refl h.0 h.1 h.2 met
step_goes b layout slots before (call.Unsorted settings pairs) (answer.Made r) after k h loadless met =
    unsorted_goes before after r layout slots settings (entries_of pairs.now) (first_fault (entries_of pairs.now)) refl h.0 h.1 h.2 met
step_goes b layout slots before (call.Clone i) (answer.Made r) after k h loadless met =
    let s = found_state before i h.0 h.1 in
    let g = copy_goes before after r h.0 h.2.0 h.2.1 h.2.2 met in
    (g.0 ∙ ap (λ o. at_state o missing (λ _. done)) (sym s), g.1 ∙ ap (λ o. at_state o (states_of before) (λ x. states_of before ++ x ∷ [])) (sym s))
step_goes b layout slots before (call.Clone i) answer.Missing after k h loadless met =
    let s = missed_state before i h.0 in
    (ap (λ o. at_state o missing (λ _. done)) (sym s), ap states_of h.1 ∙ ap (λ o. at_state o (states_of before) (λ x. states_of before ++ x ∷ [])) (sym s))
step_goes b layout slots before (call.Drop i) answer.Dropped after k h loadless met =
    let s = found_state before i h.0 h.1 in (
      ap (λ o. at_state o missing (λ _. done)) (sym s),
      ap states_of h.2 ∙ map-remove (λ x. x.state) before i ∙ ap (λ o. at_state o (states_of before) (λ _. remove (states_of before) i)) (sym s),
    )
step_goes b layout slots before (call.Drop i) answer.Missing after k h loadless met =
    let s = missed_state before i h.0 in
    (ap (λ o. at_state o missing (λ _. done)) (sym s), ap states_of h.1 ∙ ap (λ o. at_state o (states_of before) (λ _. remove (states_of before) i)) (sym s))
step_goes b layout slots before (call.Change i c) (answer.Changed a) after k h loadless met =
    let s = found_state before i h.0 h.2 in
    let g = change_goes layout slots h.0 h.1 c a h.3.1 met in (
      g.0 ∙ ap (λ o. at_state o missing (λ x. change_says x c)) (sym s),
      ap states_of h.4 ∙ map-set (λ x. x.state) before i h.1 ∙ ap (λ x. slice_set (states_of before) i x) g.1
          ∙ ap (λ o. at_state o (states_of before) (λ x. slice_set (states_of before) i (changed_state x c))) (sym s),
    )
step_goes b layout slots before (call.Change i c) answer.Missing after k h loadless met =
    let s = missed_state before i h.0 in (
      ap (λ o. at_state o missing (λ x. change_says x c)) (sym s),
      ap states_of h.1 ∙ ap (λ o. at_state o (states_of before) (λ x. slice_set (states_of before) i (changed_state x c))) (sym s),
    )
step_goes b layout slots before (call.Ask i q) (answer.Replied a) after k h loadless met =
    let s = found_state before i h.0 h.1 in (reply_goes b layout slots h.0 q a k h.2.1 met ∙ ap (λ o. at_state o missing (λ x. reply_says b x q)) (sym s), ap states_of h.3)
step_goes b layout slots before (call.Ask i q) answer.Missing after k h loadless met =
    let s = missed_state before i h.0 in (ap (λ o. at_state o missing (λ x. reply_says b x q)) (sym s), ap states_of h.1)
step_goes b layout slots before (call.Load bytes limit) a after k h loadless met = absurd loadless
step_goes b layout slots before c a after k h loadless met = absurd h

-- a run
pub run_goes : {A : Type 0} (b : Bool) (layout : LayoutKind) (slots : ℕ) (before : List Dictionary) (calls : List Call) (answers : List (Answer A)) (after : List Dictionary)
    → IsRun layout slots before calls answers after → (b ≡ true → layout ≡ default_layout) → AllByRecursion IsLoadless calls → AllByRecursion IsMet (plain_answers b calls answers)
    → (plain_answers b calls answers ≡ run_says b (states_of before) calls) × (states_of after ≡ states_left (states_of before) calls)
run_goes b layout slots before [] [] after h k loadless met = (refl, ap states_of h)
run_goes b layout slots before [] (a ∷ answers) after h k loadless met = absurd h
run_goes b layout slots before (c ∷ calls) [] after h k loadless met = absurd h
run_goes b layout slots before (c ∷ calls) (a ∷ answers) after h k loadless met =
    let g = step_goes b layout slots before c a h.0 k h.1 loadless.0 met.0 in
    let r = run_goes b layout slots h.0 calls answers after h.2 k loadless.1 met.1 in (
      ap (λ x. x ∷ plain_answers b calls answers) g.0 ∙ ap (λ xs. call_says b (states_of before) c ∷ xs) (r.0 ∙ ap (λ ss. run_says b ss calls) g.1),
      r.1 ∙ ap (λ ss. states_left ss calls) g.1,
    )
