-- What trees say of completions.
use Rattle.std.proofs.Common.{◌≡◌, ◌∙◌, ℕ, ltb, List, length, Ok, Err, sym, ap, le-ltb, lt-ltb}
use Rattle.std.specs.Prelude.{filter, if◌then◌else◌}
use Rattle.byte_automata.specs.Patterns.{fits}
use Rattle.best_few.specs.Orders.{best}
use Rattle.cedarwood.specs.Queries.{Entry, walk}
use Rattle.cedarwood.specs.Ranges.{entries_with}
use Rattle.cedarwood.specs.State.{State}
use Rattle.cedarwood.specs.Tree.{Tree}
use Rattle.key_ranges.proofs.EntryRangeLemmas.{same_tests}
use Rattle.cedar_replies.specs.Completions.{AreSameEnds, comes_between, edits_counted, entries_between_ends, first_of_list}
use Rattle.cedar_replies.specs.Completions.{if_ascending, is_between_ends, is_close, last_of_list}
use Rattle.cedar_replies.specs.Replies.{IsCompletionReply, IsFittingReply}
use Rattle.cedar_replies.specs.declared.question.CompletionQuery.{CompletionQuery}
use Rattle.cedar_replies.specs.declared.question.CompletionQuery.TheVariants as completion_query
use Rattle.cedar_replies.specs.declared.answer.CompletionReply.{CompletionReply}
use Rattle.cedar_replies.specs.declared.answer.CompletionReply.TheVariants as completion_reply
use Rattle.cedar_replies.specs.declared.ends.KeyEnds.{KeyEnds}
use Rattle.cedar_replies.proofs.CollectLemmas.{short}
use Rattle.cedar_calls.specs.Agreement.{IsSameCompletionQuery}
use Rattle.cedar_calls.specs.Plain.{completion_says, IsMet, plain_completion_reply, PlainAnswer, selected, selected_end, unfit, walked}

-- ---- what trees say

fitting_goes : {A : Type 0} (t : Tree) (pattern : List ℕ) (a : CompletionReply A) → IsFittingReply t pattern a → IsMet (plain_completion_reply a)
    → plain_completion_reply a ≡ (if ltb 63 (length pattern) then unfit else walked (filter (λ e. fits pattern e.0) (walk t)))
fitting_goes t pattern (completion_reply.Wanted (Ok v)) h met = ap walked h.1 ∙ sym (ap (λ b. if b then unfit else walked (filter (λ e. fits pattern e.0) (walk t))) (le-ltb 63 (length pattern) h.0))
fitting_goes t pattern (completion_reply.Wanted (Err e)) h met = absurd (met (short e h.1))
fitting_goes t pattern completion_reply.PatternTooLong h met = sym (ap (λ b. if b then unfit else walked (filter (λ e. fits pattern e.0) (walk t))) (lt-ltb 63 (length pattern) h))
fitting_goes t pattern a h met = absurd h

-- what is returned is what the tree and the order say
pub completion_goes : {A : Type 0} (s : State) (q : CompletionQuery) (a : CompletionReply A) → IsCompletionReply s q a → IsMet (plain_completion_reply a) → plain_completion_reply a ≡ completion_says s q
completion_goes s (completion_query.Best prefix most order) (completion_reply.Best (Ok v)) h met = ap walked h
completion_goes s (completion_query.Best prefix most order) (completion_reply.Best (Err e)) h met = absurd (met (short e h))
completion_goes s (completion_query.InRange ends) (completion_reply.Range (Ok o)) h met = ap selected h
completion_goes s (completion_query.InRange ends) (completion_reply.Range (Err e)) h met = absurd (met (short e h))
completion_goes s (completion_query.FirstIn ends) (completion_reply.End (Ok o)) h met = ap selected_end h
completion_goes s (completion_query.FirstIn ends) (completion_reply.End (Err e)) h met = absurd (met (short e h))
completion_goes s (completion_query.LastIn ends) (completion_reply.End (Ok o)) h met = ap selected_end h
completion_goes s (completion_query.LastIn ends) (completion_reply.End (Err e)) h met = absurd (met (short e h))
completion_goes s (completion_query.Near text two is_beginning) (completion_reply.Wanted (Ok v)) h met = ap walked h
completion_goes s (completion_query.Near text two is_beginning) (completion_reply.Wanted (Err e)) h met = absurd (met (short e h))
completion_goes s (completion_query.Fitting pattern) a h met = fitting_goes s.tree pattern.now a h met
completion_goes s q a h met = absurd h

-- ---- the same question

-- what is said of two ends that are the same, wherever their bytes lie
by_ends : (t : Tree) (say : List Entry → PlainAnswer) (m n : KeyEnds) → AreSameEnds m n → say (entries_between_ends t m) ≡ say (entries_between_ends t n)
by_ends t say m n h = ap say (same_tests (is_between_ends m) (is_between_ends n) (walk t) (λ w.
    ap (λ from. comes_between w from m.from_included m.to.now m.to_included) h.0
    ∙ ap (λ included. comes_between w n.from.now included m.to.now m.to_included) h.1
    ∙ ap (λ to. comes_between w n.from.now n.from_included to m.to_included) h.2
    ∙ ap (λ included. comes_between w n.from.now n.from_included n.to.now included) h.3))

-- of the same question, wherever its bytes lie, tree and order say the same
pub completion_alike : (s : State) (q r : CompletionQuery) → IsSameCompletionQuery q r → completion_says s q ≡ completion_says s r
completion_alike s (completion_query.Best k m o) (completion_query.Best l n p) h =
    ap (λ x. walked (best o m (entries_with s.tree x))) h.0 ∙ ap (λ x. walked (best o x (entries_with s.tree l.now))) h.1 ∙ ap (λ x. walked (best x n (entries_with s.tree l.now))) h.2
completion_alike s (completion_query.InRange m) (completion_query.InRange n) h = by_ends s.tree (λ es. selected (if_ascending s.ordered es)) m n h
completion_alike s (completion_query.FirstIn m) (completion_query.FirstIn n) h = by_ends s.tree (λ es. selected_end (if_ascending s.ordered (first_of_list es))) m n h
completion_alike s (completion_query.LastIn m) (completion_query.LastIn n) h = by_ends s.tree (λ es. selected_end (if_ascending s.ordered (last_of_list es))) m n h
completion_alike s (completion_query.Near k t b) (completion_query.Near l u c) h =
    ap (λ x. walked (filter (λ e. is_close b (edits_counted t) x e.0) (walk s.tree))) h.0
    ∙ ap (λ x. walked (filter (λ e. is_close b (edits_counted x) l.now e.0) (walk s.tree))) h.1
    ∙ ap (λ x. walked (filter (λ e. is_close x (edits_counted u) l.now e.0) (walk s.tree))) h.2
completion_alike s (completion_query.Fitting k) (completion_query.Fitting l) h =
    ap (λ x. if ltb 63 (length x) then unfit else walked (filter (λ e. fits x e.0) (walk s.tree))) h
completion_alike s q r h = absurd h
