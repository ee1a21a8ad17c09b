-- That two runs of the same calls agree, loads among them.
use Rattle.std.specs.Prelude.{◌≡◌, ◌⊎◌, ℕ, Bool, true, List, [], ◌∷◌}
use Rattle.std.specs.List.{AllByRecursion}
use Rattle.cedarwood.specs.Words.{entries_of, keys_of}
use Rattle.cedarwood.specs.Layouts.{LayoutKind, default_layout}
use Rattle.cedarwood.specs.Dictionary.{Dictionary}
use Rattle.cedar_replies.specs.Completions.{AreSameEnds}
use Rattle.cedar_calls.specs.Plain.{plain_answers, states_of, IsLoadless, IsMet}
use Rattle.cedar_calls.specs.Runs.{IsRun}
use Rattle.cedar_calls.specs.declared.call.Call.{Call}
use Rattle.cedar_calls.specs.declared.call.Call.TheVariants as call
use Rattle.cedar_calls.specs.declared.call.Change.{Change}
use Rattle.cedar_calls.specs.declared.call.Change.TheVariants as change
use Rattle.cedar_replies.specs.declared.question.Question.{Question}
use Rattle.cedar_replies.specs.declared.question.Question.TheVariants as question
use Rattle.cedar_replies.specs.declared.question.BufferQuery.{BufferQuery}
use Rattle.cedar_replies.specs.declared.question.BufferQuery.TheVariants as buffer_query
use Rattle.cedar_replies.specs.declared.question.CompletionQuery.{CompletionQuery}
use Rattle.cedar_replies.specs.declared.question.CompletionQuery.TheVariants as completion_query
use Rattle.cedar_replies.specs.declared.question.TextQuery.{TextQuery}
use Rattle.cedar_replies.specs.declared.question.TextQuery.TheVariants as text_query
use Rattle.cedar_replies.specs.declared.model.ModelTables.{ModelTables}
use Rattle.cedar_calls.specs.declared.answer.Answer.{Answer}

-- two changes are the same, whatever `max_trial` and search limit they set and wherever their bytes lie
abbrev pub IsSameChange : Change → Change → Type 0
IsSameChange (change.Update k v) (change.Update l w) = (k.now ≡ l.now) × (v ≡ w)
IsSameChange (change.Insert k v) (change.Insert l w) = (k.now ≡ l.now) × (v ≡ w)
IsSameChange (change.Erase k) (change.Erase l) = k.now ≡ l.now
IsSameChange (change.EraseFound k) (change.EraseFound l) = k.now ≡ l.now
IsSameChange (change.EraseBatch k) (change.EraseBatch l) = keys_of k.now ≡ keys_of l.now
IsSameChange (change.ErasePrefix k) (change.ErasePrefix l) = k.now ≡ l.now
IsSameChange change.Clear change.Clear = Unit {0}
IsSameChange change.Shrink change.Shrink = Unit {0}
IsSameChange (change.Renew s) (change.Renew z) = s.ordered ≡ z.ordered
IsSameChange (change.Build p) (change.Build q) = entries_of p.now ≡ entries_of q.now
IsSameChange (change.UpdateBatch p) (change.UpdateBatch q) = entries_of p.now ≡ entries_of q.now
IsSameChange (change.Reserve n) (change.Reserve m) = n ≡ m
IsSameChange (change.SetSearchLimit n) (change.SetSearchLimit m) = Unit {0}
IsSameChange c d = ⊥

-- the same question about entries in a buffer, whatever room that has and wherever its bytes lie
abbrev pub IsSameBufferQuery : BufferQuery → BufferQuery → Type 0
IsSameBufferQuery (buffer_query.First room) (buffer_query.First other) = Unit {0}
IsSameBufferQuery (buffer_query.Last room) (buffer_query.Last other) = Unit {0}
IsSameBufferQuery (buffer_query.EntriesWith k room) (buffer_query.EntriesWith l other) = k.now ≡ l.now
IsSameBufferQuery (buffer_query.ByCursor k) (buffer_query.ByCursor l) = k.now ≡ l.now
IsSameBufferQuery q r = ⊥

-- the same model, wherever its tables lie
abbrev pub AreSameTables : ModelTables → ModelTables → Type 0
AreSameTables m n = (m.costs.now ≡ n.costs.now) × (m.beyond ≡ n.beyond) × (m.runs.now ≡ n.runs.now)

-- the same question about a text, wherever its tables lie
abbrev pub IsSameTextQuery : TextQuery → TextQuery → Type 0
IsSameTextQuery (text_query.CheapestBy m) (text_query.CheapestBy n) = AreSameTables m n
IsSameTextQuery (text_query.CheapestCuts m most) (text_query.CheapestCuts n other) = AreSameTables m n × (most ≡ other)
IsSameTextQuery (text_query.Lattice m) (text_query.Lattice n) = AreSameTables m n
IsSameTextQuery q r = q ≡ r

-- the same question about completions, wherever its bytes lie
abbrev pub IsSameCompletionQuery : CompletionQuery → CompletionQuery → Type 0
IsSameCompletionQuery (completion_query.Best k m o) (completion_query.Best l n p) = (k.now ≡ l.now) × (m ≡ n) × (o ≡ p)
IsSameCompletionQuery (completion_query.InRange m) (completion_query.InRange n) = AreSameEnds m n
IsSameCompletionQuery (completion_query.FirstIn m) (completion_query.FirstIn n) = AreSameEnds m n
IsSameCompletionQuery (completion_query.LastIn m) (completion_query.LastIn n) = AreSameEnds m n
IsSameCompletionQuery (completion_query.Near k t b) (completion_query.Near l u c) = (k.now ≡ l.now) × (t ≡ u) × (b ≡ c)
IsSameCompletionQuery (completion_query.Fitting k) (completion_query.Fitting l) = k.now ≡ l.now
IsSameCompletionQuery q r = ⊥

-- two questions are the same, wherever their bytes lie and whatever room a buffer has
abbrev pub IsSameQuestion : Question → Question → Type 0
IsSameQuestion (question.Exact k) (question.Exact l) = k.now ≡ l.now
IsSameQuestion (question.Get k) (question.Get l) = k.now ≡ l.now
IsSameQuestion (question.ContainsKey k) (question.ContainsKey l) = k.now ≡ l.now
IsSameQuestion (question.Longest k) (question.Longest l) = k.now ≡ l.now
IsSameQuestion (question.Batch k) (question.Batch l) = keys_of k.now ≡ keys_of l.now
IsSameQuestion (question.Prefixes k) (question.Prefixes l) = k.now ≡ l.now
IsSameQuestion (question.Predictions k) (question.Predictions l) = k.now ≡ l.now
IsSameQuestion question.First question.First = Unit {0}
IsSameQuestion question.Last question.Last = Unit {0}
IsSameQuestion question.Entries question.Entries = Unit {0}
IsSameQuestion question.TextEntries question.TextEntries = Unit {0}
IsSameQuestion (question.EntriesWith k) (question.EntriesWith l) = k.now ≡ l.now
IsSameQuestion (question.EntriesFrom k) (question.EntriesFrom l) = k.now ≡ l.now
IsSameQuestion (question.Range a b) (question.Range c d) = (a.now ≡ c.now) × (b.now ≡ d.now)
IsSameQuestion (question.CountPrefix k) (question.CountPrefix l) = k.now ≡ l.now
IsSameQuestion (question.InBuffer q) (question.InBuffer r) = IsSameBufferQuery q r
IsSameQuestion (question.InText k q) (question.InText l r) = (k.now ≡ l.now) × IsSameTextQuery q r
IsSameQuestion (question.Complete q) (question.Complete r) = IsSameCompletionQuery q r
IsSameQuestion question.Len question.Len = Unit {0}
IsSameQuestion (question.Figure f) (question.Figure g) = f ≡ g
IsSameQuestion question.IsEmpty question.IsEmpty = Unit {0}
IsSameQuestion question.Stats question.Stats = Unit {0}
IsSameQuestion question.Save question.Save = Unit {0}
IsSameQuestion question.SaveV1_0 question.SaveV1_0 = Unit {0}
IsSameQuestion q r = ⊥

-- two calls are the same, whatever `max_trial` and search limit they set, whatever room a buffer has and wherever their
-- bytes lie
abbrev pub IsSameCall : Call → Call → Type 0
IsSameCall (call.New s) (call.New z) = s.ordered ≡ z.ordered
IsSameCall (call.Sorted s p) (call.Sorted z q) = (s.ordered ≡ z.ordered) × (entries_of p.now ≡ entries_of q.now)
IsSameCall (call.Unsorted s p) (call.Unsorted z q) = (s.ordered ≡ z.ordered) × (entries_of p.now ≡ entries_of q.now)
IsSameCall (call.Load b m) (call.Load c n) = (b.now ≡ c.now) × (m ≡ n)
IsSameCall (call.Clone i) (call.Clone j) = i ≡ j
IsSameCall (call.Drop i) (call.Drop j) = i ≡ j
IsSameCall (call.Change i c) (call.Change j d) = (i ≡ j) × IsSameChange c d
IsSameCall (call.Ask i q) (call.Ask j r) = (i ≡ j) × IsSameQuestion q r
IsSameCall c d = ⊥

-- two lists of calls are the same, one by one (`IsSameCall`)
abbrev pub AreSameCalls : List Call → List Call → Type 0
AreSameCalls [] [] = Unit {0}
AreSameCalls (c ∷ calls) (d ∷ others) = IsSameCall c d × AreSameCalls calls others
AreSameCalls calls others = ⊥

-- two runs of the same calls from the same states, none of them refused for memory or slots, say the same and leave
-- the same states, whatever `max_trial`, the search limit, the room of buffers and the tables are. If a load is among
-- the calls, layout and limit of slots are the same, since a file is of one layout
abbrev pub RunsAgree : {A B : Type 0} → List Call → List (Answer A) → List Call → List (Answer B) → Type 0
RunsAgree calls answers others replies =
    (by_default : Bool) (layout other : LayoutKind) (slots most : ℕ) (before after start end : List Dictionary)
    → IsRun layout slots before calls answers after → IsRun other most start others replies end
    → AreSameCalls calls others → states_of before ≡ states_of start
    → AllByRecursion IsLoadless calls ⊎ ((layout ≡ other) × (slots ≡ most))
    → (by_default ≡ true → (layout ≡ default_layout) × (other ≡ default_layout))
    → AllByRecursion IsMet (plain_answers by_default calls answers) → AllByRecursion IsMet (plain_answers by_default others replies)
    → (plain_answers by_default calls answers ≡ plain_answers by_default others replies) × (states_of after ≡ states_of end)
