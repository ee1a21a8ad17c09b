-- What a change and a reply say as far as trees go.
use Rattle.std.proofs.Common.{◌≡◌, ◌+◌, ◌<◌, inl, inr, Bool, true, false, ℕ, zero, suc, ℤ, List, [], ◌∷◌, arith, length, take, Option, Some, None, is_some, Ok, Err, IfSome, IfOk, IsSome, OnErr, ◌↔◌, refl, ap, sym, subst, ◌∙◌}
use Rattle.std.specs.List.{AllByRecursion}
use Rattle.std.specs.declared.result.Result.{Result}
use Rattle.cedarwood.specs.Tree.{Tree, empty_tree, number_at}
use Rattle.cedarwood.specs.Queries.{Entry, slots_of_tree, walk}
use Rattle.cedarwood.specs.State.{after_put, State}
use Rattle.cedarwood.specs.declared.batches.RefusedPair.{RefusedPair}
use Rattle.cedarwood.specs.declared.error.CedarError.{CedarError}
use Rattle.cedarwood.specs.declared.error.CedarError.TheVariants.{Memory, SlotLimit}
use Rattle.cedarwood.specs.Words.{entries_of}
use Rattle.cedarwood.specs.Layouts.{LayoutKind, default_layout}
use Rattle.cedarwood.specs.Batches.{pair_at}
use Rattle.cedarwood.specs.Builds.{all_stored, first_fault, IsBuild, outcome}
use Rattle.cedarwood.specs.Dictionary.{Dictionary}
use Rattle.cedarwood.specs.Fault.{fault, IsShortage}
use Rattle.cedarwood.specs.Room.{LacksRoom}
use Rattle.cedarwood.specs.Shrinking.{LacksPlaces}
use Rattle.cedarwood.specs.Updates.{IsUpdate}
use Rattle.cedar_calls.specs.Changes.{IsChange, IsUpdatedBatch, IsWholeBuild}
use Rattle.cedar_replies.specs.Replies.{IsReply}
use Rattle.cedar_calls.specs.Plain.{batch_says, comparable_count, counted, done, ended, faultless_front, faulty_at, found, held, held_each, slots_held_of_tree, listed, matched, measured, selected, numbered, walked, was, worded, change_says, changed_state, is_none_left, IsMet, kept_at_fault, refused_at, reply_says, plain_batch, plain_effect, plain_reply, plain_result, unless_fault}
use Rattle.cedar_calls.specs.declared.call.Change.{Change}
use Rattle.cedar_calls.specs.declared.call.Change.TheVariants as change
use Rattle.cedar_replies.specs.declared.question.Figure.TheVariants.{AllocatedBytes, Capacity, SearchLimit, SpareBlocks, UsedSlots}
use Rattle.cedar_replies.specs.declared.question.Question.{Question}
use Rattle.cedar_replies.specs.declared.question.Question.TheVariants as question
use Rattle.cedar_calls.specs.declared.answer.Changed.{Changed}
use Rattle.cedar_calls.specs.declared.answer.Changed.TheVariants as changed
use Rattle.cedar_replies.specs.declared.answer.Reply.{Reply}
use Rattle.cedar_replies.specs.declared.answer.Reply.TheVariants as reply
use Rattle.cedar_calls.proofs.BufferLemmas.{buffer_goes}
use Rattle.cedar_replies.proofs.CollectLemmas.{short}
use Rattle.cedar_calls.proofs.CompletionLemmas.{completion_goes}
use Rattle.cedar_calls.proofs.InTextLemmas.{text_goes}
use Rattle.cedar_calls.proofs.TextLemmas.{texts_are}

pub bool_same : (b c : Bool) → ((b ≡ true) ↔ (c ≡ true)) → b ≡ c
bool_same true true h = refl
bool_same true false h = sym (h.0 refl)
bool_same false true h = h.1 refl
bool_same false false h = refl

pub none_same : (b : Bool) (es : List Entry) → ((b ≡ true) ↔ (es ≡ [])) → b ≡ is_none_left es
none_same true [] h = refl
none_same true (e ∷ es) h = sym (ap is_none_left (h.0 refl))
none_same false [] h = h.1 refl
none_same false (e ∷ es) h = refl

made_state : Tree → Bool → State
made_state t o = record { tree = t; ordered = o }

pub state_is : (s : State) (t : Tree) (o : Bool) → s.tree ≡ t → s.ordered ≡ o → s ≡ record { tree = t; ordered = o }
unfolding made_state
state_is s t o p q = ap (λ x. made_state x s.ordered) p ∙ ap (λ x. made_state t x) q

none_ok : (e : CedarError) → ◌≡◌ {A = Result (Unit {0}) CedarError} (Ok tt) (Err e) → ⊥
none_ok e h = cc

-- an update without shortage
module _ (layout : LayoutKind) (slots : ℕ) (d d' : Dictionary) (key : List ℕ) (v : ℤ) where
  update_goes : (f : Option CedarError) → fault key v ≡ f → (r : Result (Unit {0}) CedarError) → IsUpdate layout slots d d' key v r → IsMet (plain_result (λ _. done) r)
      → (plain_result (λ _. done) r ≡ unless_fault f done) × (d'.state ≡ kept_at_fault f d.state (after_put d.state key v))
  update_goes (Some e) same r h met =
      let err : r ≡ Err e = subst (λ f. IfSome f (λ e. r ≡ Err e)) same h.faulty in
      (ap (plain_result (λ _. done)) err, subst (λ r. OnErr r (d'.state ≡ d.state)) err h.err)
  update_goes None same (Ok x) h met = (refl, h.ok)
  update_goes None same (Err e) h met = absurd (met (h.refused same).0)

  insert_goes : (f : Option CedarError) → fault key v ≡ f → (r : Result (Option ℤ) CedarError) → IsUpdate layout slots d d' key v (outcome r)
      → IfOk r (λ x. x ≡ number_at d.state.tree key) → IsMet (plain_result was r)
      → (plain_result was r ≡ unless_fault f (was (number_at d.state.tree key))) × (d'.state ≡ kept_at_fault f d.state (after_put d.state key v))
  insert_goes (Some e) same (Ok x) h was_held met = absurd (none_ok e (subst (λ f. IfSome f (λ e. Ok tt ≡ Err e)) same h.faulty))
  insert_goes (Some e) same (Err e') h was_held met =
      let err : Err e' ≡ Err e = subst (λ f. IfSome f (λ e. outcome {X = Option ℤ} (Err e') ≡ Err e)) same h.faulty in
      (ap (plain_result (λ (x : Unit {0}). done)) err, h.err)
  insert_goes None same (Ok x) h was_held met = (ap was was_held, h.ok)
  insert_goes None same (Err e) h was_held met = absurd (met (h.refused same).0)

build_goes : (layout : LayoutKind) (slots : ℕ) (d d' : Dictionary) (es : List Entry) (f : Option CedarError) → first_fault es ≡ f → (r : Result (Unit {0}) CedarError)
    → IsWholeBuild layout slots d d' es r → IsMet (plain_result (λ _. done) r)
    → (plain_result (λ _. done) r ≡ unless_fault f done) × (d'.state ≡ kept_at_fault f d.state (all_stored d.state es))
build_goes layout slots d d' es (Some e) same r h met =
    let err : r ≡ Err e = subst (λ f. IfSome f (λ e. r ≡ Err e)) same h.faulty in
    let faulty : IsSome (first_fault es) = subst (λ f. IsSome f) (sym same) refl in
    (ap (plain_result (λ _. done)) err, ap (λ x. x.state) (h.unchanged faulty))
build_goes layout slots d d' es None same (Ok x) h met = (refl, h.stored)
build_goes layout slots d d' es None same (Err e) h met = absurd (met (h.refused same).shortage)

-- ---- pairs that are stored one after another

-- the error of a result that has one
abbrev error_in : CedarError → Result (Unit {0}) CedarError → CedarError
error_in without (Ok x) = without
error_in without (Err e) = e

-- no pair has a fault
abbrev AreFaultless : List Entry → Type 0
AreFaultless es = AllByRecursion (λ (e : Entry). fault e.0 e.1 ≡ None) es

-- an update that was accepted has no fault, and one that was refused, though not for memory or slots, has the fault that is returned
module _ (layout : LayoutKind) (slots : ℕ) (d d' : Dictionary) (key : List ℕ) (v : ℤ) where
  accepted : (f : Option CedarError) → fault key v ≡ f → IsUpdate layout slots d d' key v (Ok tt) → f ≡ None
  accepted None same h = refl
  accepted (Some e) same h = absurd (none_ok e (subst (λ f. IfSome f (λ e. Ok tt ≡ Err e)) same h.faulty))

  stopped : (f : Option CedarError) → fault key v ≡ f → (x : CedarError) → IsUpdate layout slots d d' key v (Err x) → (IsShortage x → ⊥) → f ≡ Some x
  stopped None same x h met = absurd (met (h.refused same).0)
  stopped (Some e) same x h met =
      let told : ◌≡◌ {A = Result (Unit {0}) CedarError} (Err x) (Err e) = subst (λ f. IfSome f (λ e. ◌≡◌ {A = Result (Unit {0}) CedarError} (Err x) (Err e))) same h.faulty in
      ap Some (sym (ap (error_in x) told))

built_faultless : (layout : LayoutKind) (slots : ℕ) (d d' : Dictionary) (es : List Entry) → IsBuild layout slots d es (Ok tt) d' → AreFaultless es
built_faultless layout slots d d' [] h = tt
built_faultless layout slots d d' (e ∷ es) (inl h) = (accepted layout slots d h.0 e.0 e.1 (fault e.0 e.1) refl h.1, built_faultless layout slots h.0 d' es h.2)
built_faultless layout slots d d' (e ∷ es) (inr h) = absurd (none_ok h.0 h.1)

-- what such pairs say without a fault, and with the first one at an index
faultless_says : (n : ℕ) (es : List Entry) → AreFaultless es → (batch_says n es ≡ done) × (faultless_front es ≡ es)
faultless_says n [] h = (refl, refl)
faultless_says n (e ∷ es) h =
    let later = faultless_says (n + 1) es h.1 in (
      ap (λ f. faulty_at n f (batch_says (n + 1) es)) h.0 ∙ later.0,
      ap (λ f. kept_at_fault f [] (e ∷ faultless_front es)) h.0 ∙ ap (λ xs. e ∷ xs) later.1,
    )

fault_says : (n i : ℕ) (es : List Entry) (x : CedarError) → i < length es → AreFaultless (take i es) → fault (pair_at es i).0 (pair_at es i).1 ≡ Some x
    → (batch_says n es ≡ refused_at (n + i) x) × (faultless_front es ≡ take i es)
fault_says n i [] x within h faulty = absurd (omega (arith, within))
fault_says n zero (e ∷ es) x within h faulty =
    let here : n ≡ n + 0 = omega arith in
    (ap (λ f. faulty_at n f (batch_says (n + 1) es)) faulty ∙ ap (λ k. refused_at k x) here, ap (λ f. kept_at_fault f [] (e ∷ faultless_front es)) faulty)
fault_says n (suc i) (e ∷ es) x within h faulty =
    let later = fault_says (n + 1) i es x (omega (arith, within)) h.1 faulty in
    let there : n + 1 + i ≡ n + suc i = omega arith in (
      ap (λ f. faulty_at n f (batch_says (n + 1) es)) h.0 ∙ later.0 ∙ ap (λ k. refused_at k x) there,
      ap (λ f. kept_at_fault f [] (e ∷ faultless_front es)) h.0 ∙ ap (λ xs. e ∷ xs) later.1,
    )

batch_goes : (layout : LayoutKind) (slots : ℕ) (d d' : Dictionary) (es : List Entry) (r : Result (Unit {0}) RefusedPair) → IsUpdatedBatch layout slots d d' es r → IsMet (plain_batch r)
    → (plain_batch r ≡ batch_says 0 es) × (d'.state ≡ all_stored d.state (faultless_front es))
batch_goes layout slots d d' es (Ok x) h met =
    let says = faultless_says 0 es (built_faultless layout slots d d' es h.updates) in (sym says.0, h.stored ∙ ap (all_stored d.state) (sym says.1))
batch_goes layout slots d d' es (Err r) h met =
    let s = h.updates.steps in
    let pair = pair_at es r.index in
    let faulty = stopped layout slots s.0 d' pair.0 pair.1 (fault pair.0 pair.1) refl r.error s.2 met in
    let says = fault_says 0 r.index es r.error h.updates.within (built_faultless layout slots d s.0 (take r.index es) s.1) faulty in
    let here : r.index ≡ 0 + r.index = omega arith in (ap (λ k. refused_at k r.error) here ∙ sym says.0, h.refused ∙ ap (all_stored d.state) (sym says.1))

-- room is refused only for memory or slots
room_short : (slots : ℕ) (d : Dictionary) (n : ℕ) (e : CedarError) → LacksRoom slots d n e → IsShortage e
room_short slots d n Memory h = tt
room_short slots d n SlotLimit h = tt
room_short slots d n e h = absurd h

-- a dictionary isn't shrunk only for want of memory or slots
places_short : (slots : ℕ) (es : List Entry) (e : CedarError) → LacksPlaces slots es e → IsShortage e
places_short slots es e (inl is) = subst IsShortage (sym is) tt
places_short slots es e (inr is) = subst IsShortage (sym is.0) tt

pub change_goes : {A : Type 0} (layout : LayoutKind) (slots : ℕ) (d d' : Dictionary) (c : Change) (a : Changed A) → IsChange layout slots d c a d' → IsMet (plain_effect a)
    → (plain_effect a ≡ change_says d.state c) × (d'.state ≡ changed_state d.state c)
change_goes layout slots d d' (change.Update key v) (changed.Updated r) h met = update_goes layout slots d d' key.now v (fault key.now v) refl r h met
change_goes layout slots d d' (change.Insert key v) (changed.Inserted r) h met = insert_goes layout slots d d' key.now v (fault key.now v) refl r h.0 h.1 met
change_goes layout slots d d' (change.Erase key) (changed.Erased b) h met = (ap held (bool_same b (is_some (number_at d.state.tree key.now)) h.0), h.1.state)
change_goes layout slots d d' (change.EraseFound key) (changed.ErasedFound value) h met = (ap was h.told, h.erased.state)
change_goes layout slots d d' (change.EraseBatch keys) (changed.ErasedBatch (Ok v)) h met = (ap held_each h.held, h.state)
change_goes layout slots d d' (change.EraseBatch keys) (changed.ErasedBatch (Err e)) h met = absurd (met (subst IsShortage (sym h.refused.0) tt))
change_goes layout slots d d' (change.ErasePrefix prefix) (changed.ErasedPrefix n) h met = (ap counted h.count, h.state)
change_goes layout slots d d' change.Clear changed.Cleared h met = (refl, state_is d'.state empty_tree d.state.ordered h.tree h.ordered)
change_goes layout slots d d' change.Shrink (changed.Shrunk (Ok x)) h met = (refl, h.state)
change_goes layout slots d d' change.Shrink (changed.Shrunk (Err e)) h met = absurd (met (places_short slots (walk d.state.tree) e h.refused))
change_goes layout slots d d' (change.Renew settings) (changed.Renewed (Ok x)) h met = (refl, state_is d'.state empty_tree settings.ordered h.tree h.ordered)
change_goes layout slots d d' (change.Renew settings) (changed.Renewed (Err e)) h met = absurd (met (subst IsShortage (sym h.0) tt))
change_goes layout slots d d' (change.Build pairs) (changed.Built r) h met = build_goes layout slots d d' (entries_of pairs.now) (first_fault (entries_of pairs.now)) refl r h met
change_goes layout slots d d' (change.UpdateBatch pairs) (changed.UpdatedBatch r) h met = batch_goes layout slots d d' (entries_of pairs.now) r h met
change_goes layout slots d d' (change.Reserve n) (changed.Reserved (Ok x)) h met = (refl, h.state)
change_goes layout slots d d' (change.Reserve n) (changed.Reserved (Err e)) h met = absurd (met (room_short slots d n e h.refused))
change_goes layout slots d d' (change.SetSearchLimit n) changed.SearchLimitSet h met = (refl, ap (λ (x : Dictionary). x.state) h)
change_goes layout slots d d' c a h met = absurd h

same_use : (by_default : Bool) (layout : LayoutKind) (n m : ℕ) → (by_default ≡ true → layout ≡ default_layout) → (layout ≡ default_layout → n ≡ m) → comparable_count by_default n ≡ comparable_count by_default m
same_use true layout n m h same = ap Some (same (h refl))
same_use false layout n m h same = refl

pub reply_goes : {A : Type 0} (by_default : Bool) (layout : LayoutKind) (slots : ℕ) (d : Dictionary) (q : Question) (a : Reply A) → (by_default ≡ true → layout ≡ default_layout)
    → IsReply layout slots d q a → IsMet (plain_reply by_default q a) → plain_reply by_default q a ≡ reply_says by_default d.state q
reply_goes b layout slots d (question.Exact key) (reply.Exact x) k h met = ap found h
reply_goes b layout slots d (question.Get key) (reply.Value x) k h met = ap numbered h
reply_goes b layout slots d (question.ContainsKey key) (reply.IsHeld x) k h met = ap held h
reply_goes b layout slots d (question.Longest text) (reply.Longest x) k h met = ap found h
reply_goes b layout slots d (question.Batch keys) (reply.Batch (Ok v)) k h met = ap matched h
reply_goes b layout slots d (question.Batch keys) (reply.Batch (Err e)) k h met = absurd (met (short e h.0))
reply_goes b layout slots d (question.Prefixes query) (reply.Prefixes (Ok v)) k h met = ap listed h
reply_goes b layout slots d (question.Prefixes query) (reply.Prefixes (Err e)) k h met = absurd (met (short e h.0))
reply_goes b layout slots d (question.Predictions query) (reply.Predictions (Ok v)) k h met = ap listed h
reply_goes b layout slots d (question.Predictions query) (reply.Predictions (Err e)) k h met = absurd (met (short e h.0))
reply_goes b layout slots d question.First (reply.End (Ok o)) k h met = ap ended h
reply_goes b layout slots d question.First (reply.End (Err e)) k h met = absurd (met (short e h.0))
reply_goes b layout slots d question.Last (reply.End (Ok o)) k h met = ap ended h
reply_goes b layout slots d question.Last (reply.End (Err e)) k h met = absurd (met (short e h.0))
reply_goes b layout slots d question.Entries (reply.Entries (Ok v)) k h met = ap walked h
reply_goes b layout slots d question.Entries (reply.Entries (Err e)) k h met = absurd (met (short e h.0))
reply_goes b layout slots d question.TextEntries (reply.TextEntries (Ok v)) k h met = ap worded (texts_are v.items (walk d.state.tree) h)
reply_goes b layout slots d question.TextEntries (reply.TextEntries (Err e)) k h met = absurd (met (short e h.0))
reply_goes b layout slots d (question.EntriesWith prefix) (reply.Entries (Ok v)) k h met = ap walked h
reply_goes b layout slots d (question.EntriesWith prefix) (reply.Entries (Err e)) k h met = absurd (met (short e h.0))
reply_goes b layout slots d (question.EntriesFrom key) (reply.Range (Ok o)) k h met = ap selected h
reply_goes b layout slots d (question.EntriesFrom key) (reply.Range (Err e)) k h met = absurd (met (short e h.0))
reply_goes b layout slots d (question.Range from to) (reply.Range (Ok o)) k h met = ap selected h
reply_goes b layout slots d (question.Range from to) (reply.Range (Err e)) k h met = absurd (met (short e h.0))
reply_goes b layout slots d (question.CountPrefix prefix) (reply.Count n) k h met = ap counted h
reply_goes b layout slots d (question.InBuffer q) (reply.InBuffer a) k h met = buffer_goes d.state.tree q a h met
reply_goes b layout slots d (question.InText text q) (reply.InText a) k h met = text_goes d.state.tree text.now q a h met
reply_goes b layout slots d (question.Complete q) (reply.Completed a) k h met = completion_goes d.state q a h met
reply_goes b layout slots d question.Len (reply.Len n) k h met = ap counted h
reply_goes b layout slots d (question.Figure UsedSlots) (reply.Figure n) k h met = ap slots_held_of_tree (same_use b layout n (slots_of_tree d.state.tree) k h.1)
reply_goes b layout slots d (question.Figure Capacity) (reply.Figure n) k h met = refl
reply_goes b layout slots d (question.Figure AllocatedBytes) (reply.Figure n) k h met = refl
reply_goes b layout slots d (question.Figure SpareBlocks) (reply.Figure n) k h met = refl
reply_goes b layout slots d (question.Figure SearchLimit) (reply.Figure n) k h met = refl
reply_goes b layout slots d question.IsEmpty (reply.IsEmpty x) k h met = ap held (none_same x (walk d.state.tree) h)
reply_goes b layout slots d question.Stats (reply.Stats stats) k h met =
    ap (λ n. measured n (comparable_count b stats.used_node_slots)) h.entries
    ∙ ap (measured (length (walk d.state.tree))) (same_use b layout stats.used_node_slots (slots_of_tree d.state.tree) k h.used.1)
reply_goes b layout slots d question.Save (reply.Saved r) k h met = refl
reply_goes b layout slots d question.SaveV1_0 (reply.Saved r) k h met = refl
reply_goes b layout slots d q a k h met = absurd h
