-- What a question to a dictionary returns.
use Rattle.std.specs.Prelude.{◌≡◌, Bool, true, false, ℕ, ℤ, ◌+◌, ◌-◌, ◌*◌, ◌/◌, ◌<◌, ◌≤◌, List, [], ◌∷◌}
use Rattle.std.specs.Prelude.{drop, filter, length, map, Option, option_map, Some, None, is_some, IsTrue, ◌↔◌}
use Rattle.std.specs.Prelude.{IfSome, MatchResult, Result, string_bytes, Vec}
use Rattle.std.specs.Str.{IsUtf8}
use Rattle.cedarwood.specs.State.{State}
use Rattle.cedarwood.specs.Tree.{number_at, Tree}
use Rattle.cedarwood.specs.Queries.{Entry, exact, front, predict, slots_of_tree, walk}
use Rattle.cedarwood.specs.declared.error.CedarError.{CedarError}
use Rattle.cedarwood.specs.declared.error.CedarError.TheVariants.{Memory}
use Rattle.cedarwood.specs.Layouts.{LayoutKind, default_layout}
use Rattle.cedarwood.specs.Words.{keys_of}
use Rattle.cedarwood.specs.Ranges.{entries_since, entries_with, longest_front}
use Rattle.cedarwood.specs.RangeWalks.{entries_between}
use Rattle.cedarwood.specs.Ends.{first_entry, last_entry}
use Rattle.cedarwood.specs.Tables.{IsTableFile}
use Rattle.cedarwood.specs.Words.{KeyOutgrows}
use Rattle.cedarwood.specs.Dictionary.{Dictionary, held_slots}
use Rattle.cedarwood.specs.declared.figures.MemoryStats.{MemoryStats}
use Rattle.cedar_replies.specs.declared.question.Figure.{Figure}
use Rattle.cedar_replies.specs.declared.question.Figure.TheVariants.{AllocatedBytes, Capacity}
use Rattle.cedar_replies.specs.declared.question.Figure.TheVariants.{SearchLimit, SpareBlocks, UsedSlots}
use Rattle.cedar_replies.specs.declared.question.Question.{Question}
use Rattle.cedar_replies.specs.declared.question.Question.TheVariants as question
use Rattle.cedar_replies.specs.declared.question.BufferQuery.{BufferQuery}
use Rattle.cedar_replies.specs.declared.question.BufferQuery.TheVariants as buffer_query
use Rattle.cedar_replies.specs.declared.question.CompletionQuery.{CompletionQuery}
use Rattle.cedar_replies.specs.declared.question.CompletionQuery.TheVariants as completion_query
use Rattle.cedar_replies.specs.declared.question.TextQuery.{TextQuery}
use Rattle.cedar_replies.specs.declared.question.TextQuery.TheVariants as text_query
use Rattle.cedar_replies.specs.declared.answer.Reply.{Reply}
use Rattle.cedar_replies.specs.declared.answer.Reply.TheVariants as reply
use Rattle.cedar_replies.specs.declared.answer.BufferReply.{BufferReply}
use Rattle.cedar_replies.specs.declared.answer.BufferReply.TheVariants as buffer_reply
use Rattle.cedar_replies.specs.declared.answer.CompletionReply.{CompletionReply}
use Rattle.cedar_replies.specs.declared.answer.CompletionReply.TheVariants as completion_reply
use Rattle.cedar_replies.specs.declared.answer.TextReply.{TextReply}
use Rattle.cedar_replies.specs.declared.answer.TextReply.TheVariants as text_reply
use Rattle.best_few.specs.Orders.{best, found_entry}
use Rattle.byte_automata.specs.Patterns.{fits}
use Rattle.last_entries.specs.Nearness.{entry_told}
use Rattle.cedar_replies.specs.Completions.{edits_counted, entries_between_ends, first_of_list}
use Rattle.cedar_replies.specs.Completions.{if_ascending, is_close, last_of_list}
use Rattle.cedar_replies.specs.Texts.{IsCheapCut, run_in_table}
use Rattle.cedar_scan.specs.Words.{earliest, leftmost, overlapping}
use Rattle.cedar_words.specs.Runs.{cost_in_table}
use Rattle.cedar_words.specs.Words.{character_price, edges_from, IsBestCut, IsBestCuts}
use Rattle.cedar_words.specs.Words.{keywords_from, keywords_in, lists_of, longest}
use Rattle.cedar_words.specs.Words.{segments, spots_from, tokens_behind}

-- what was asked for, or there was no memory to collect it
abbrev pub Collects : {X : Type 0} → Result X CedarError → (X → Type 0) → Type 0
Collects result P = MatchResult result P (λ e. e ≡ Memory)

-- what was asked for, or there was no memory to collect it; this only if there is something to collect
abbrev pub CollectsSome : {X Y : Type 0} → Result X CedarError → (X → Type 0) → List Y → Type 0
CollectsSome result P items = MatchResult result P (λ e. (e ≡ Memory) × (0 < length items))

-- each entry in its turn as a text and its number, and nothing in the place of one whose key isn't UTF-8
abbrev pub AreTexts : List (Option (List ℕ × ℤ)) → List Entry → Type 0
AreTexts [] [] = Unit {0}
AreTexts (Some text ∷ texts) (e ∷ es) = (text ≡ e) × AreTexts texts es
AreTexts (None ∷ texts) (e ∷ es) = (IsUtf8 e.0 → ⊥) × AreTexts texts es
AreTexts texts es = ⊥

-- the entries of a range where labels ascend, and else nothing
abbrev pub in_order : Bool → List Entry → Option (List Entry)
in_order true es = Some es
in_order false es = None

-- the entries of a range, or there was no memory to collect them; this only if labels ascend and there is an entry
abbrev pub CollectsRange : {X : Type 0} → Result (Option X) CedarError → (X → List Entry) → Bool → List Entry → Type 0
CollectsRange result entries ordered es = MatchResult result (λ found. option_map entries found ≡ in_order ordered es) (λ e. (e ≡ Memory) × (ordered ≡ true) × (0 < length es))

-- the bytes that so many slots take, with their blocks and the reject values
abbrev pub bytes_of : ℕ → ℕ
bytes_of capacity = 10 * capacity + 20 * (capacity / 256) + 514

-- what a figure returns. In the default layout the tree alone says how many slots are held, since each number has a
-- slot of its own
abbrev pub IsFigure : LayoutKind → Dictionary → Figure → ℕ → Type 0
IsFigure layout d UsedSlots n = (n ≡ held_slots d) × (layout ≡ default_layout → n ≡ slots_of_tree d.state.tree)
IsFigure layout d Capacity n = n ≡ d.capacity
IsFigure layout d AllocatedBytes n = n ≡ bytes_of d.capacity
IsFigure layout d SpareBlocks n = n ≡ (d.capacity - d.size) / 256
IsFigure layout d SearchLimit n = n ≡ d.search_limit

-- all figures, from one moment
pub record AreStats (layout : LayoutKind) (d : Dictionary) (stats : MemoryStats) : Type 0 where
  pub entries : stats.entries ≡ length (walk d.state.tree)
  pub used : IsFigure layout d UsedSlots stats.used_node_slots
  pub capacity : IsFigure layout d Capacity stats.node_capacity
  pub bytes : IsFigure layout d AllocatedBytes stats.allocated_bytes

-- what is collected from a list, if it isn't empty
abbrev pub CollectsAll : {X A : Type 0} → Result (Vec X A) CedarError → List X → Type 0
CollectsAll result items = CollectsSome result (λ found. found.items ≡ items) items

-- some entries are collected, each its key and its value; or there was no memory for them, which is so only if there are some
abbrev pub CollectsEntries : {A : Type 0} → Result (Vec (Vec ℕ A × ℤ) A) CedarError → List Entry → Type 0
CollectsEntries result es = CollectsSome result (λ found. map (λ e. (e.0.items, e.1)) found.items ≡ es) es

-- what was asked for, or there was no memory to collect it; this only if some are wanted
abbrev pub CollectsFew : {X : Type 0} → Result X CedarError → (X → Type 0) → ℕ → Type 0
CollectsFew result P most = MatchResult result P (λ e. (e ≡ Memory) × (0 < most))

-- what is returned of the entries of a tree where keys are written into a buffer: one that has no room is asked for no memory, and one that
-- has room for the key is enough for the entry at an end
abbrev pub IsBufferReply : {A : Type 0} → Tree → BufferQuery → BufferReply A → Type 0
IsBufferReply tree (buffer_query.First room) buffer_reply.NoBuffer = 0 < room
IsBufferReply tree (buffer_query.First room) (buffer_reply.End result) =
    MatchResult result (λ found. option_map (λ e. (e.0.items, e.1)) found ≡ first_entry tree) (λ e. (e ≡ Memory) × KeyOutgrows room (walk tree))
IsBufferReply tree (buffer_query.Last room) buffer_reply.NoBuffer = 0 < room
IsBufferReply tree (buffer_query.Last room) (buffer_reply.End result) =
    MatchResult result (λ found. option_map (λ e. (e.0.items, e.1)) found ≡ last_entry tree) (λ e. (e ≡ Memory) × IfSome (last_entry tree) (λ entry. room < length entry.0))
IsBufferReply tree (buffer_query.EntriesWith prefix room) buffer_reply.NoBuffer = 0 < room
IsBufferReply tree (buffer_query.EntriesWith prefix room) (buffer_reply.Entries result) =
    CollectsSome result (λ found. map (λ e. (e.0.items, e.1)) found.items ≡ entries_with tree prefix.now) (entries_with tree prefix.now)
IsBufferReply tree (buffer_query.ByCursor prefix) (buffer_reply.Entries result) =
    CollectsSome result (λ found. map (λ e. (e.0.items, e.1)) found.items ≡ entries_with tree prefix.now) (entries_with tree prefix.now)
IsBufferReply tree q r = ⊥

-- what is told where labels ascend, and else nothing; or there was no memory for it
abbrev pub CollectsAscending : {X Y : Type 0} → Result (Option X) CedarError → (X → Y) → Bool → Y → Type 0
CollectsAscending result told ordered wanted = MatchResult result (λ found. option_map told found ≡ if_ascending ordered wanted) (λ e. e ≡ Memory)

-- what is returned of the entries that fit a pattern, unless it is too long
abbrev pub IsFittingReply : {A : Type 0} → Tree → List ℕ → CompletionReply A → Type 0
IsFittingReply tree pattern (completion_reply.Wanted result) =
    (length pattern ≤ 63) × Collects result (λ found. map (λ e. (e.0.items, e.1)) found.items ≡ filter (λ e. fits pattern e.0) (walk tree))
IsFittingReply tree pattern completion_reply.PatternTooLong = 63 < length pattern
IsFittingReply tree pattern r = ⊥

-- what is returned of completions, and of what is in a range
abbrev pub IsCompletionReply : {A : Type 0} → State → CompletionQuery → CompletionReply A → Type 0
IsCompletionReply s (completion_query.Best prefix most order) (completion_reply.Best result) =
    Collects result (λ found. map found_entry found.items ≡ best order most (entries_with s.tree prefix.now))
IsCompletionReply s (completion_query.InRange ends) (completion_reply.Range result) =
    CollectsAscending result (λ v. map (λ e. (e.0.items, e.1)) v.items) s.ordered (entries_between_ends s.tree ends)
IsCompletionReply s (completion_query.FirstIn ends) (completion_reply.End result) = CollectsAscending result entry_told s.ordered (first_of_list (entries_between_ends s.tree ends))
IsCompletionReply s (completion_query.LastIn ends) (completion_reply.End result) = CollectsAscending result entry_told s.ordered (last_of_list (entries_between_ends s.tree ends))
IsCompletionReply s (completion_query.Near text two_edits is_beginning) (completion_reply.Wanted result) =
    Collects result (λ found. map (λ e. (e.0.items, e.1)) found.items ≡ filter (λ e. is_close is_beginning (edits_counted two_edits) text.now e.0) (walk s.tree))
IsCompletionReply s (completion_query.Fitting pattern) r = IsFittingReply s.tree pattern.now r
IsCompletionReply s q r = ⊥

-- what is returned of a text, by the keys of a tree
abbrev pub IsTextReply : {A : Type 0} → Tree → List ℕ → TextQuery → TextReply A → Type 0
IsTextReply tree text text_query.LongestPrefix (text_reply.Longest found) = found ≡ longest tree text
IsTextReply tree text text_query.Fronts (text_reply.Fronts result) = CollectsAll result (front tree text)
IsTextReply tree text text_query.Segment (text_reply.Tokens result) = CollectsAll result (segments tree text)
IsTextReply tree text (text_query.SegmentFrom place) (text_reply.Tokens result) = CollectsAll result (tokens_behind tree 0 place (drop place text))
IsTextReply tree text text_query.LeftmostLongest (text_reply.Keys result) = CollectsAll result (keywords_in tree text)
IsTextReply tree text (text_query.LeftmostLongestFrom place) (text_reply.Keys result) = CollectsAll result (keywords_from tree place (drop place text))
IsTextReply tree text text_query.Matches (text_reply.Keys result) = CollectsAll result (spots_from tree 0 text)
IsTextReply tree text (text_query.MatchesFrom place) (text_reply.Keys result) = CollectsAll result (spots_from tree place (drop place text))
IsTextReply tree text text_query.Overlapping (text_reply.Keys result) = CollectsSome result (λ found. found.items ≡ overlapping tree text) text
IsTextReply tree text text_query.Earliest (text_reply.Keys result) = CollectsSome result (λ found. found.items ≡ earliest tree text) text
IsTextReply tree text (text_query.Leftmost kind) (text_reply.Keys result) = CollectsSome result (λ found. found.items ≡ leftmost kind tree text) text
IsTextReply tree text (text_query.Cheapest unknown) (text_reply.Tokens result) = CollectsSome result (λ found. IsCheapCut tree (λ _. unknown) text found.items) text
IsTextReply tree text (text_query.CheapestByCharacters unknown) (text_reply.Tokens result) =
    CollectsSome result (λ found. IsCheapCut tree (character_price unknown text) text found.items) text
IsTextReply tree text (text_query.CheapestBy model) (text_reply.Tokens result) =
    CollectsSome result (λ found. IsBestCut tree (cost_in_table model.costs.now model.beyond) (run_in_table model.runs.now model.beyond) text found.items) text
IsTextReply tree text (text_query.CheapestCuts model most) (text_reply.Cuts result) =
    CollectsFew result (λ found. IsBestCuts tree (cost_in_table model.costs.now model.beyond) (run_in_table model.runs.now model.beyond) text most (lists_of found.items)) most
IsTextReply tree text (text_query.Lattice model) (text_reply.Edges result) =
    CollectsAll result (edges_from tree (cost_in_table model.costs.now model.beyond) (run_in_table model.runs.now model.beyond) 0 text)
IsTextReply tree text q r = ⊥

-- what a question returns of a dictionary of this layout with at most `slots` slots
abbrev pub IsReply : {A : Type 0} → LayoutKind → ℕ → Dictionary → Question → Reply A → Type 0
IsReply layout slots d (question.Exact key) (reply.Exact found) = found ≡ exact d.state.tree key.now
IsReply layout slots d (question.Get key) (reply.Value found) = found ≡ number_at d.state.tree key.now
IsReply layout slots d (question.ContainsKey key) (reply.IsHeld result) = result ≡ is_some (number_at d.state.tree key.now)
IsReply layout slots d (question.Longest text) (reply.Longest found) = found ≡ longest_front d.state.tree text.now
IsReply layout slots d (question.Batch keys) (reply.Batch result) = CollectsSome result (λ found. found.items ≡ map (exact d.state.tree) (keys_of keys.now)) (keys_of keys.now)
IsReply layout slots d (question.Prefixes query) (reply.Prefixes result) = CollectsSome result (λ found. found.items ≡ front d.state.tree query.now) (front d.state.tree query.now)
IsReply layout slots d (question.Predictions query) (reply.Predictions result) = CollectsSome result (λ found. found.items ≡ predict d.state.tree query.now) (predict d.state.tree query.now)
IsReply layout slots d question.First (reply.End result) = CollectsSome result (λ found. option_map (λ e. (e.0.items, e.1)) found ≡ first_entry d.state.tree) (walk d.state.tree)
IsReply layout slots d question.Last (reply.End result) = CollectsSome result (λ found. option_map (λ e. (e.0.items, e.1)) found ≡ last_entry d.state.tree) (walk d.state.tree)
IsReply layout slots d question.Entries (reply.Entries result) = CollectsSome result (λ found. map (λ e. (e.0.items, e.1)) found.items ≡ walk d.state.tree) (walk d.state.tree)
IsReply layout slots d question.TextEntries (reply.TextEntries result) =
    CollectsSome result (λ found. AreTexts (map (option_map (λ e. (string_bytes e.0, e.1))) found.items) (walk d.state.tree)) (walk d.state.tree)
IsReply layout slots d (question.EntriesWith prefix) (reply.Entries result) =
    CollectsSome result (λ found. map (λ e. (e.0.items, e.1)) found.items ≡ entries_with d.state.tree prefix.now) (entries_with d.state.tree prefix.now)
IsReply layout slots d (question.EntriesFrom key) (reply.Range result) =
    CollectsRange result (λ v. map (λ e. (e.0.items, e.1)) v.items) d.state.ordered (entries_since d.state.tree key.now)
IsReply layout slots d (question.Range from to) (reply.Range result) =
    CollectsRange result (λ v. map (λ e. (e.0.items, e.1)) v.items) d.state.ordered (entries_between d.state.tree from.now to.now)
IsReply layout slots d (question.CountPrefix prefix) (reply.Count n) = n ≡ length (entries_with d.state.tree prefix.now)
IsReply layout slots d (question.InBuffer q) (reply.InBuffer result) = IsBufferReply d.state.tree q result
IsReply layout slots d (question.InText text q) (reply.InText result) = IsTextReply d.state.tree text.now q result
IsReply layout slots d (question.Complete q) (reply.Completed result) = IsCompletionReply d.state q result
IsReply layout slots d question.Len (reply.Len n) = n ≡ length (walk d.state.tree)
IsReply layout slots d (question.Figure which) (reply.Figure n) = IsFigure layout d which n
IsReply layout slots d question.IsEmpty (reply.IsEmpty result) = IsTrue result ↔ (walk d.state.tree ≡ [])
IsReply layout slots d question.Stats (reply.Stats stats) = AreStats layout d stats
IsReply layout slots d question.Save (reply.Saved result) = Collects result (λ bytes. IsTableFile 1 slots d.table bytes.items)
IsReply layout slots d question.SaveV1_0 (reply.Saved result) = Collects result (λ bytes. IsTableFile 0 slots d.table bytes.items)
IsReply layout slots d q r = ⊥
