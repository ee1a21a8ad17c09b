-- What runs return as far as trees go: places, bytes and settings but the order have no part in it.
use Rattle.std.specs.Prelude.{◌≡◌, Bool, true, false, ℕ, ℤ, List, [], ◌∷◌, ◌++◌, ◌+◌, drop, filter, length, map, nat_lt}
use Rattle.std.specs.Prelude.{slice_get, slice_set, Option, option_map, Some, None, is_some}
use Rattle.std.specs.Prelude.{string_bytes, if◌then◌else◌, Result, Ok, Err, unsigned_abs}
use Rattle.std.specs.List.{AllByRecursion, remove}
use Rattle.std.specs.Str.{is_utf8}
use Rattle.cedarwood.specs.Tree.{empty_tree, number_at, Tree}
use Rattle.cedarwood.specs.Queries.{Entry, asc, exact, front, predict, slots_of_tree, walk}
use Rattle.cedarwood.specs.State.{State, after_erase, after_put}
use Rattle.cedarwood.specs.declared.batches.RefusedPair.{RefusedPair}
use Rattle.cedarwood.specs.declared.error.CedarError.{CedarError}
use Rattle.cedarwood.specs.declared.error.CedarError.TheVariants.{Memory}
use Rattle.cedarwood.specs.Words.{entries_of, keys_of}
use Rattle.cedarwood.specs.Ranges.{entries_since, entries_with, longest_front}
use Rattle.cedarwood.specs.RangeWalks.{entries_between}
use Rattle.cedarwood.specs.Ends.{first_entry, last_entry}
use Rattle.cedarwood.specs.Erasures.{erased_under}
use Rattle.cedarwood.specs.Layouts.{LayoutKind, default_layout}
use Rattle.cedarwood.specs.CedarPersistenceError.{CedarPersistenceError}
use Rattle.cedarwood.specs.Refusal.{Refusal, AllocationFailed, refusal_of}
use Rattle.cedarwood.specs.Batches.{held_in_turn, keys_erased}
use Rattle.cedarwood.specs.Builds.{all_stored, first_fault}
use Rattle.cedarwood.specs.Dictionary.{Dictionary}
use Rattle.cedarwood.specs.Fault.{fault, IsShortage}
use Rattle.cedarwood.specs.SortedInput.{sorted_fault}
use Rattle.cedar_scan.specs.Words.{earliest, leftmost, overlapping}
use Rattle.cedar_words.specs.declared.edges.Edge.{Edge}
use Rattle.cedar_words.specs.Runs.{cost_in_table}
use Rattle.cedar_words.specs.Words.{byte_run, character_price, edges_from}
use Rattle.cedar_words.specs.Words.{keywords_from, keywords_in, lists_of, longest}
use Rattle.cedar_words.specs.Words.{segments, Spot, spots_from, Token, tokens_behind}
use Rattle.best_few.specs.Orders.{best, found_entry}
use Rattle.byte_automata.specs.Patterns.{fits}
use Rattle.last_entries.specs.Nearness.{entry_told}
use Rattle.cedar_replies.specs.Completions.{edits_counted, entries_between_ends, first_of_list}
use Rattle.cedar_replies.specs.Completions.{if_ascending, is_close, last_of_list}
use Rattle.cedar_replies.specs.Replies.{in_order}
use Rattle.cedar_calls.specs.Runs.{IsRun}
use Rattle.cedar_replies.specs.Texts.{model_cut_of, model_cuts_of, run_in_table}
use Rattle.cedar_calls.specs.declared.call.Call.{Call}
use Rattle.cedar_calls.specs.declared.call.Call.TheVariants as call
use Rattle.cedar_calls.specs.declared.call.Change.{Change}
use Rattle.cedar_calls.specs.declared.call.Change.TheVariants as change
use Rattle.cedar_replies.specs.declared.question.Figure.TheVariants.{UsedSlots}
use Rattle.cedar_replies.specs.declared.question.Question.{Question}
use Rattle.cedar_replies.specs.declared.question.Question.TheVariants as question
use Rattle.cedar_replies.specs.declared.question.BufferQuery.{BufferQuery}
use Rattle.cedar_replies.specs.declared.question.BufferQuery.TheVariants as buffer_query
use Rattle.cedar_replies.specs.declared.question.CompletionQuery.{CompletionQuery}
use Rattle.cedar_replies.specs.declared.question.CompletionQuery.TheVariants as completion_query
use Rattle.cedar_replies.specs.declared.question.TextQuery.{TextQuery}
use Rattle.cedar_replies.specs.declared.question.TextQuery.TheVariants as text_query
use Rattle.cedar_calls.specs.declared.answer.Answer.{Answer}
use Rattle.cedar_calls.specs.declared.answer.Answer.TheVariants as answer
use Rattle.cedar_calls.specs.declared.answer.Changed.{Changed}
use Rattle.cedar_calls.specs.declared.answer.Changed.TheVariants as changed
use Rattle.cedar_replies.specs.declared.answer.Reply.{Reply}
use Rattle.cedar_replies.specs.declared.answer.Reply.TheVariants as reply
use Rattle.cedar_replies.specs.declared.answer.BufferReply.{BufferReply}
use Rattle.cedar_replies.specs.declared.answer.BufferReply.TheVariants as buffer_reply
use Rattle.cedar_replies.specs.declared.answer.CompletionReply.{CompletionReply}
use Rattle.cedar_replies.specs.declared.answer.CompletionReply.TheVariants as completion_reply
use Rattle.cedar_replies.specs.declared.answer.TextReply.{TextReply}
use Rattle.cedar_replies.specs.declared.answer.TextReply.TheVariants as text_reply

-- an answer as far as trees decide it
pub data PlainAnswer : Type 0 where
  missing : PlainAnswer
  done : PlainAnswer
  refused : CedarError → PlainAnswer
  refused_at : ℕ → CedarError → PlainAnswer
  unloaded : Refusal → PlainAnswer
  was : Option ℤ → PlainAnswer
  held : Bool → PlainAnswer
  held_each : List Bool → PlainAnswer
  found : Option (ℤ × ℕ) → PlainAnswer
  numbered : Option ℤ → PlainAnswer
  matched : List (Option (ℤ × ℕ)) → PlainAnswer
  listed : List (ℤ × ℕ) → PlainAnswer
  walked : List Entry → PlainAnswer
  selected : Option (List Entry) → PlainAnswer
  ended : Option Entry → PlainAnswer
  selected_end : Option (Option Entry) → PlainAnswer
  -- a pattern that is too long
  unfit : PlainAnswer
  worded : List (Option Entry) → PlainAnswer
  cut_into : List Token → PlainAnswer
  cut_in_turn : List (List Token) → PlainAnswer
  spotted : List Spot → PlainAnswer
  edged : List Edge → PlainAnswer
  counted : ℕ → PlainAnswer
  slots_held_of_tree : Option ℕ → PlainAnswer
  measured : ℕ → Option ℕ → PlainAnswer
  -- an answer of which trees say nothing: all figures but the held slots, and a file's bytes
  unsaid : PlainAnswer

-- what a result says: what `say` makes of its value, or its error
abbrev pub plain_result : {X : Type 0} → (X → PlainAnswer) → Result X CedarError → PlainAnswer
plain_result say (Ok x) = say x
plain_result say (Err e) = refused e

-- what a batch says: it is done, or which pair was refused
abbrev pub plain_batch : Result (Unit {0}) RefusedPair → PlainAnswer
plain_batch (Ok x) = done
plain_batch (Err refusal) = refused_at refusal.index refusal.error

-- what a change returned, as far as trees decide it
abbrev pub plain_effect : {A : Type 0} → Changed A → PlainAnswer
plain_effect (changed.Updated result) = plain_result (λ _. done) result
plain_effect (changed.Inserted result) = plain_result was result
plain_effect (changed.Erased result) = held result
plain_effect (changed.ErasedFound value) = was value
plain_effect (changed.ErasedBatch result) = plain_result (λ v. held_each v.items) result
plain_effect (changed.ErasedPrefix n) = counted n
plain_effect changed.Cleared = done
plain_effect (changed.Shrunk result) = plain_result (λ _. done) result
plain_effect (changed.Renewed result) = plain_result (λ _. done) result
plain_effect (changed.Built result) = plain_result (λ _. done) result
plain_effect (changed.UpdatedBatch result) = plain_batch result
plain_effect (changed.Reserved result) = plain_result (λ _. done) result
plain_effect changed.SearchLimitSet = done

-- how many slots are held, if that is compared: trees alone say it in the default layout
abbrev pub comparable_count : Bool → ℕ → Option ℕ
comparable_count true n = Some n
comparable_count false n = None

-- what a figure says: only the held slots, since the others depend on places or settings
abbrev pub plain_figure : Bool → Question → ℕ → PlainAnswer
plain_figure by_default (question.Figure UsedSlots) n = slots_held_of_tree (comparable_count by_default n)
plain_figure by_default q n = unsaid

-- what a question about entries in a buffer returned
abbrev pub plain_buffer_reply : {A : Type 0} → BufferReply A → PlainAnswer
plain_buffer_reply buffer_reply.NoBuffer = refused Memory
plain_buffer_reply (buffer_reply.End result) = plain_result (λ o. ended (option_map (λ e. (e.0.items, e.1)) o)) result
plain_buffer_reply (buffer_reply.Entries result) = plain_result (λ v. walked (map (λ e. (e.0.items, e.1)) v.items)) result

-- what a question about completions returned
abbrev pub plain_completion_reply : {A : Type 0} → CompletionReply A → PlainAnswer
plain_completion_reply (completion_reply.Best result) = plain_result (λ v. walked (map found_entry v.items)) result
plain_completion_reply (completion_reply.Range result) = plain_result (λ o. selected (option_map (λ v. map (λ e. (e.0.items, e.1)) v.items) o)) result
plain_completion_reply (completion_reply.End result) = plain_result (λ o. selected_end (option_map entry_told o)) result
plain_completion_reply (completion_reply.Wanted result) = plain_result (λ v. walked (map (λ e. (e.0.items, e.1)) v.items)) result
plain_completion_reply completion_reply.PatternTooLong = unfit

-- what a question about a text returned
abbrev pub plain_text_reply : {A : Type 0} → TextReply A → PlainAnswer
plain_text_reply (text_reply.Longest result) = found result
plain_text_reply (text_reply.Fronts result) = plain_result (λ v. listed v.items) result
plain_text_reply (text_reply.Tokens result) = plain_result (λ v. cut_into v.items) result
plain_text_reply (text_reply.Cuts result) = plain_result (λ v. cut_in_turn (lists_of v.items)) result
plain_text_reply (text_reply.Keys result) = plain_result (λ v. spotted v.items) result
plain_text_reply (text_reply.Edges result) = plain_result (λ v. edged v.items) result

-- what a question returned, as far as trees decide it. The bytes of a file depend on places
abbrev pub plain_reply : {A : Type 0} → Bool → Question → Reply A → PlainAnswer
plain_reply by_default q (reply.Exact result) = found result
plain_reply by_default q (reply.Value result) = numbered result
plain_reply by_default q (reply.IsHeld result) = held result
plain_reply by_default q (reply.Longest result) = found result
plain_reply by_default q (reply.Batch result) = plain_result (λ v. matched v.items) result
plain_reply by_default q (reply.Prefixes result) = plain_result (λ v. listed v.items) result
plain_reply by_default q (reply.Predictions result) = plain_result (λ v. listed v.items) result
plain_reply by_default q (reply.Entries result) = plain_result (λ v. walked (map (λ e. (e.0.items, e.1)) v.items)) result
plain_reply by_default q (reply.Range result) = plain_result (λ o. selected (option_map (λ v. map (λ e. (e.0.items, e.1)) v.items) o)) result
plain_reply by_default q (reply.End result) = plain_result (λ o. ended (option_map (λ e. (e.0.items, e.1)) o)) result
plain_reply by_default q (reply.TextEntries result) = plain_result (λ v. worded (map (option_map (λ e. (string_bytes e.0, e.1))) v.items)) result
plain_reply by_default q (reply.InBuffer result) = plain_buffer_reply result
plain_reply by_default q (reply.InText result) = plain_text_reply result
plain_reply by_default q (reply.Completed result) = plain_completion_reply result
plain_reply by_default q (reply.Len n) = counted n
plain_reply by_default q (reply.Count n) = counted n
plain_reply by_default q (reply.Figure n) = plain_figure by_default q n
plain_reply by_default q (reply.IsEmpty result) = held result
plain_reply by_default q (reply.Stats stats) = measured stats.entries (comparable_count by_default stats.used_node_slots)
plain_reply by_default q (reply.Saved result) = unsaid

-- what a call that asks a question returned, as far as trees decide it
abbrev pub plain_reply_to : {A : Type 0} → Bool → Call → Reply A → PlainAnswer
plain_reply_to by_default (call.Ask index question) result = plain_reply by_default question result
plain_reply_to by_default c result = unsaid

-- what a load returned, as far as trees decide it
abbrev pub plain_load : {X : Type 0} → Result X CedarPersistenceError → PlainAnswer
plain_load (Ok x) = done
plain_load (Err e) = unloaded (refusal_of e)

-- what a call returned, as far as trees decide it
abbrev pub plain_answer : {A : Type 0} → Bool → Call → Answer A → PlainAnswer
plain_answer by_default c answer.Missing = missing
plain_answer by_default c (answer.Made result) = plain_result (λ _. done) result
plain_answer by_default c (answer.Loaded result) = plain_load result
plain_answer by_default c answer.Dropped = done
plain_answer by_default c (answer.Changed result) = plain_effect result
plain_answer by_default c (answer.Replied result) = plain_reply_to by_default c result

-- what some calls returned, as far as trees decide it
abbrev pub plain_answers : {A : Type 0} → Bool → List Call → List (Answer A) → List PlainAnswer
plain_answers by_default [] answers = []
plain_answers by_default (c ∷ calls) [] = []
plain_answers by_default (c ∷ calls) (a ∷ answers) = plain_answer by_default c a ∷ plain_answers by_default calls answers

-- a load was refused memory
abbrev pub IsLacking : Refusal → Type 0
IsLacking (AllocationFailed n) = Unit {0}
IsLacking _ = ⊥

-- nothing was refused for memory or slots
abbrev pub IsMet : PlainAnswer → Type 0
IsMet (refused e) = IsShortage e → ⊥
IsMet (refused_at n e) = IsShortage e → ⊥
IsMet (unloaded r) = IsLacking r → ⊥
IsMet _ = Unit {0}

-- what is said without a fault, or else the fault
abbrev pub unless_fault : Option CedarError → PlainAnswer → PlainAnswer
unless_fault None without = without
unless_fault (Some e) without = refused e

-- what is said without a fault, or else the fault of the pair at an index
abbrev pub faulty_at : ℕ → Option CedarError → PlainAnswer → PlainAnswer
faulty_at n None without = without
faulty_at n (Some e) without = refused_at n e

-- what is so after a change without a fault, or else what was so before
abbrev pub kept_at_fault : {X : Type 0} → Option CedarError → X → X → X
kept_at_fault None before after = after
kept_at_fault (Some e) before after = before

-- what a batch says of some pairs that are stored one after another, the first of which has this index: it is done,
-- or which pair has a fault
abbrev pub batch_says : ℕ → List Entry → PlainAnswer
batch_says n [] = done
batch_says n (e ∷ es) = faulty_at n (fault e.0 e.1) (batch_says (n + 1) es)

-- the pairs before the first one with a fault
abbrev pub faultless_front : List Entry → List Entry
faultless_front [] = []
faultless_front (e ∷ es) = kept_at_fault (fault e.0 e.1) [] (e ∷ faultless_front es)

-- whether there is no entry
abbrev pub is_none_left : List Entry → Bool
is_none_left [] = true
is_none_left (e ∷ es) = false

-- what a change says of a state
abbrev pub change_says : State → Change → PlainAnswer
change_says s (change.Update key v) = unless_fault (fault key.now v) done
change_says s (change.Insert key v) = unless_fault (fault key.now v) (was (number_at s.tree key.now))
change_says s (change.Erase key) = held (is_some (number_at s.tree key.now))
change_says s (change.EraseFound key) = was (number_at s.tree key.now)
change_says s (change.EraseBatch keys) = held_each (held_in_turn s (keys_of keys.now))
change_says s (change.ErasePrefix prefix) = counted (length (entries_with s.tree prefix.now))
change_says s change.Clear = done
change_says s change.Shrink = done
change_says s (change.Renew settings) = done
change_says s (change.Build pairs) = unless_fault (first_fault (entries_of pairs.now)) done
change_says s (change.UpdateBatch pairs) = batch_says 0 (entries_of pairs.now)
change_says s (change.Reserve n) = done
change_says s (change.SetSearchLimit n) = done

-- the state after a change
abbrev pub changed_state : State → Change → State
changed_state s (change.Update key v) = kept_at_fault (fault key.now v) s (after_put s key.now v)
changed_state s (change.Insert key v) = kept_at_fault (fault key.now v) s (after_put s key.now v)
changed_state s (change.Erase key) = after_erase s key.now
changed_state s (change.EraseFound key) = after_erase s key.now
changed_state s (change.EraseBatch keys) = keys_erased s (keys_of keys.now)
changed_state s (change.ErasePrefix prefix) = erased_under s prefix.now
changed_state s change.Clear = record { tree = empty_tree; ordered = s.ordered }
changed_state s change.Shrink = s
changed_state s (change.Renew settings) = record { tree = empty_tree; ordered = settings.ordered }
changed_state s (change.Build pairs) = kept_at_fault (first_fault (entries_of pairs.now)) s (all_stored s (entries_of pairs.now))
changed_state s (change.UpdateBatch pairs) = all_stored s (faultless_front (entries_of pairs.now))
changed_state s (change.Reserve n) = s
changed_state s (change.SetSearchLimit n) = s

-- each entry in its turn as a text, and nothing instead of one whose key isn't UTF-8
abbrev pub text_entries_of : List Entry → List (Option Entry)
text_entries_of es = map (λ e. if is_utf8 e.0 then Some e else None) es

-- what a question about entries in a buffer returns
abbrev pub buffer_says : Tree → BufferQuery → PlainAnswer
buffer_says tree (buffer_query.First room) = ended (first_entry tree)
buffer_says tree (buffer_query.Last room) = ended (last_entry tree)
buffer_says tree (buffer_query.EntriesWith prefix room) = walked (entries_with tree prefix.now)
buffer_says tree (buffer_query.ByCursor prefix) = walked (entries_with tree prefix.now)

-- what a question about completions returns
abbrev pub completion_says : State → CompletionQuery → PlainAnswer
completion_says s (completion_query.Best prefix most order) = walked (best order most (entries_with s.tree prefix.now))
completion_says s (completion_query.InRange ends) = selected (if_ascending s.ordered (entries_between_ends s.tree ends))
completion_says s (completion_query.FirstIn ends) = selected_end (if_ascending s.ordered (first_of_list (entries_between_ends s.tree ends)))
completion_says s (completion_query.LastIn ends) = selected_end (if_ascending s.ordered (last_of_list (entries_between_ends s.tree ends)))
completion_says s (completion_query.Near text two_edits is_beginning) = walked (filter (λ e. is_close is_beginning (edits_counted two_edits) text.now e.0) (walk s.tree))
completion_says s (completion_query.Fitting pattern) = if nat_lt 63 (length pattern.now) then unfit else walked (filter (λ e. fits pattern.now e.0) (walk s.tree))

-- what a question about a text returns
abbrev pub text_says : Tree → List ℕ → TextQuery → PlainAnswer
text_says tree text text_query.LongestPrefix = found (longest tree text)
text_says tree text text_query.Fronts = listed (front tree text)
text_says tree text text_query.Segment = cut_into (segments tree text)
text_says tree text (text_query.SegmentFrom place) = cut_into (tokens_behind tree 0 place (drop place text))
text_says tree text text_query.LeftmostLongest = spotted (keywords_in tree text)
text_says tree text (text_query.LeftmostLongestFrom place) = spotted (keywords_from tree place (drop place text))
text_says tree text text_query.Matches = spotted (spots_from tree 0 text)
text_says tree text (text_query.MatchesFrom place) = spotted (spots_from tree place (drop place text))
text_says tree text text_query.Overlapping = spotted (overlapping tree text)
text_says tree text text_query.Earliest = spotted (earliest tree text)
text_says tree text (text_query.Leftmost kind) = spotted (leftmost kind tree text)
text_says tree text (text_query.Cheapest unknown) = cut_into (model_cut_of tree unsigned_abs (λ _. byte_run unknown) text)
text_says tree text (text_query.CheapestByCharacters unknown) = cut_into (model_cut_of tree unsigned_abs (λ place. byte_run (character_price unknown text place)) text)
text_says tree text (text_query.CheapestBy model) = cut_into (model_cut_of tree (cost_in_table model.costs.now model.beyond) (run_in_table model.runs.now model.beyond) text)
text_says tree text (text_query.CheapestCuts model most) =
    cut_in_turn (model_cuts_of most tree (cost_in_table model.costs.now model.beyond) (run_in_table model.runs.now model.beyond) text)
text_says tree text (text_query.Lattice model) = edged (edges_from tree (cost_in_table model.costs.now model.beyond) (run_in_table model.runs.now model.beyond) 0 text)

-- what a question says of a state
abbrev pub reply_says : Bool → State → Question → PlainAnswer
reply_says by_default s (question.Exact key) = found (exact s.tree key.now)
reply_says by_default s (question.Get key) = numbered (number_at s.tree key.now)
reply_says by_default s (question.ContainsKey key) = held (is_some (number_at s.tree key.now))
reply_says by_default s (question.Longest text) = found (longest_front s.tree text.now)
reply_says by_default s (question.Batch keys) = matched (map (exact s.tree) (keys_of keys.now))
reply_says by_default s (question.Prefixes query) = listed (front s.tree query.now)
reply_says by_default s (question.Predictions query) = listed (predict s.tree query.now)
reply_says by_default s question.First = ended (first_entry s.tree)
reply_says by_default s question.Last = ended (last_entry s.tree)
reply_says by_default s question.Entries = walked (walk s.tree)
reply_says by_default s question.TextEntries = worded (text_entries_of (walk s.tree))
reply_says by_default s (question.EntriesWith prefix) = walked (entries_with s.tree prefix.now)
reply_says by_default s (question.EntriesFrom key) = selected (in_order s.ordered (entries_since s.tree key.now))
reply_says by_default s (question.Range from to) = selected (in_order s.ordered (entries_between s.tree from.now to.now))
reply_says by_default s (question.CountPrefix prefix) = counted (length (entries_with s.tree prefix.now))
reply_says by_default s (question.InBuffer q) = buffer_says s.tree q
reply_says by_default s (question.InText text q) = text_says s.tree text.now q
reply_says by_default s (question.Complete q) = completion_says s q
reply_says by_default s question.Len = counted (length (walk s.tree))
reply_says by_default s (question.Figure UsedSlots) = slots_held_of_tree (comparable_count by_default (slots_of_tree s.tree))
reply_says by_default s question.IsEmpty = held (is_none_left (walk s.tree))
reply_says by_default s question.Stats = measured (length (walk s.tree)) (comparable_count by_default (slots_of_tree s.tree))
reply_says by_default s _ = unsaid

-- what is said of the state at an index, or else what is said if there is none
abbrev pub at_state : {X : Type 0} → Option State → X → (State → X) → X
at_state None without with_one = without
at_state (Some s) without with_one = with_one s

-- what a call says of the states
abbrev pub call_says : Bool → List State → Call → PlainAnswer
call_says by_default states (call.New settings) = done
call_says by_default states (call.Sorted settings pairs) = unless_fault (sorted_fault pairs.now) done
call_says by_default states (call.Unsorted settings pairs) = unless_fault (first_fault (entries_of pairs.now)) done
call_says by_default states (call.Load bytes limit) = unsaid
call_says by_default states (call.Clone index) = at_state (slice_get states index) missing (λ _. done)
call_says by_default states (call.Drop index) = at_state (slice_get states index) missing (λ _. done)
call_says by_default states (call.Change index change) = at_state (slice_get states index) missing (λ s. change_says s change)
call_says by_default states (call.Ask index question) = at_state (slice_get states index) missing (λ s. reply_says by_default s question)

-- the states after a call
abbrev pub states_after : List State → Call → List State
states_after states (call.New settings) = states ++ record { tree = empty_tree; ordered = settings.ordered } ∷ []
states_after states (call.Sorted settings pairs) =
    kept_at_fault (sorted_fault pairs.now) states (states ++ record { tree = asc (entries_of pairs.now); ordered = settings.ordered } ∷ [])
states_after states (call.Unsorted settings pairs) =
    kept_at_fault (first_fault (entries_of pairs.now)) states (states ++ record { tree = asc (entries_of pairs.now); ordered = settings.ordered } ∷ [])
states_after states (call.Load bytes limit) = states
states_after states (call.Clone index) = at_state (slice_get states index) states (λ s. states ++ s ∷ [])
states_after states (call.Drop index) = at_state (slice_get states index) states (λ _. remove states index)
states_after states (call.Change index change) = at_state (slice_get states index) states (λ s. slice_set states index (changed_state s change))
states_after states (call.Ask index question) = states

-- what some calls say one after another
abbrev pub run_says : Bool → List State → List Call → List PlainAnswer
run_says by_default states [] = []
run_says by_default states (c ∷ calls) = call_says by_default states c ∷ run_says by_default (states_after states c) calls

-- the states after some calls
abbrev pub states_left : List State → List Call → List State
states_left states [] = states
states_left states (c ∷ calls) = states_left (states_after states c) calls

-- the call is no load
abbrev pub IsLoadless : Call → Type 0
IsLoadless (call.Load bytes limit) = ⊥
IsLoadless _ = Unit {0}

-- the states of some dictionaries
abbrev pub states_of : List Dictionary → List State
states_of ds = map (λ d. d.state) ds

-- a run of calls without a load, of which none was refused for memory or slots, says what `run_says` says of its
-- states and leaves `states_left`, whatever the layout, the limit of slots, the settings but the order, the marks and
-- the tables. The held slots are compared where this is asked for, which the default layout allows
abbrev pub TreesDecide : {A : Type 0} → List Call → List (Answer A) → Type 0
TreesDecide calls answers =
    (by_default : Bool) (layout : LayoutKind) (slots : ℕ) (before after : List Dictionary) → IsRun layout slots before calls answers after
    → (by_default ≡ true → layout ≡ default_layout) → AllByRecursion IsLoadless calls → AllByRecursion IsMet (plain_answers by_default calls answers)
    → (plain_answers by_default calls answers ≡ run_says by_default (states_of before) calls) × (states_of after ≡ states_left (states_of before) calls)
