-- What is said about texts, as far as trees go: the best cut by a model is the one that the tree decides.
use Rattle.std.proofs.Common.{◌≡◌, ◌+◌, ◌-◌, ◌<◌, ◌≤◌, ℕ, zero, suc, ℤ, unsigned_abs, List, [], ◌∷◌, ◌++◌, arith, drop, length, Ok, Err, refl, ap, ◌∙◌}
use Rattle.std.proofs.lemmas.List.{length_push}
use Rattle.cedarwood.specs.Tree.{Tree}
use Rattle.cedarwood.specs.Queries.{front}
use Rattle.cedar_words.specs.Cuts.{character_price}
use Rattle.cedar_words.specs.Lattice.{edges_from}
use Rattle.cedar_words.specs.Models.{IsBestCut}
use Rattle.cedar_words.specs.ModelSteps.{AreCostsBy, AreCostsUpTo, best_by}
use Rattle.cedar_words.specs.Ranked.{lists_of}
use Rattle.cedar_words.specs.Runs.{byte_run, cost_in_table}
use Rattle.cedar_words.specs.Tokens.{Token}
use Rattle.cedar_words.specs.declared.models.UnknownRun.{UnknownRun}
use Rattle.cedar_words.proofs.ModelCutLemmas.{steps_best}
use Rattle.cedar_words.proofs.ModelStepLemmas.{costs_up}
use Rattle.cedar_words.proofs.OneLemmas.{best_same}
use Rattle.cedar_calls.specs.Agreement.{AreSameTables, IsSameTextQuery}
use Rattle.cedar_calls.specs.Plain.{cut_in_turn, cut_into, edged, found, IsMet, listed, plain_text_reply, PlainAnswer, spotted, text_says}
use Rattle.cedar_replies.specs.Replies.{IsTextReply}
use Rattle.cedar_replies.specs.Texts.{costs_by_model, model_cut_of, model_cuts_of, run_in_table}
use Rattle.cedar_replies.specs.declared.question.TextQuery.{TextQuery}
use Rattle.cedar_replies.specs.declared.question.TextQuery.TheVariants as text_query
use Rattle.cedar_replies.specs.declared.model.ModelTables.{ModelTables}
use Rattle.cedar_replies.specs.declared.answer.TextReply.{TextReply}
use Rattle.cedar_replies.specs.declared.answer.TextReply.TheVariants as text_reply
use Rattle.cedar_replies.proofs.CollectLemmas.{short}
use Rattle.cedar_replies.proofs.FewCutsLemmas.{same_cuts}

module _ (t : Tree) (key : ℤ → ℕ) (run : ℕ → UnknownRun) (text : List ℕ) where
  -- the costs that the tree decides are those of the best steps
  costs_so_far : (left : ℕ) → (length (costs_by_model t key run text left) ≡ suc left) × AreCostsUpTo t key run text (costs_by_model t key run text left)
  costs_so_far zero = (refl, record { begin = refl; best = λ left some low. absurd (omega (arith, some, low)) })
  costs_so_far (suc left) =
      let fewer = costs_so_far left in
      let costs : List ℕ = costs_by_model t key run text left in
      let cost : ℕ = (best_by key costs (run (length text - suc left)) (front t (drop (length text - suc left) text))).cost in
      let some : 0 < suc left = omega arith in
      (length_push costs cost ∙ omega (arith, fewer.0), costs_up t key run text costs cost (suc left) some fewer.0 refl fewer.1)

  all_costs : AreCostsBy t key run text (costs_by_model t key run text (length text))
  all_costs = let all = costs_so_far (length text) in (omega (arith, all.0), all.1)

  -- so the best cut is the one along these steps
  pub same_cut : (tokens : List Token) → IsBestCut t key run text tokens → tokens ≡ model_cut_of t key run text
  same_cut tokens h = best_same t key run text tokens (model_cut_of t key run text) h (steps_best t key run text (costs_by_model t key run text (length text)) all_costs)

-- what is returned of a text is what the tree says
pub text_goes : {A : Type 0} (t : Tree) (text : List ℕ) (q : TextQuery) (a : TextReply A) → IsTextReply t text q a → IsMet (plain_text_reply a) → plain_text_reply a ≡ text_says t text q
text_goes t text text_query.LongestPrefix (text_reply.Longest x) h met = ap found h
text_goes t text text_query.Fronts (text_reply.Fronts (Ok v)) h met = ap listed h
text_goes t text text_query.Fronts (text_reply.Fronts (Err e)) h met = absurd (met (short e h.0))
text_goes t text text_query.Segment (text_reply.Tokens (Ok v)) h met = ap cut_into h
text_goes t text text_query.Segment (text_reply.Tokens (Err e)) h met = absurd (met (short e h.0))
text_goes t text (text_query.SegmentFrom place) (text_reply.Tokens (Ok v)) h met = ap cut_into h
text_goes t text (text_query.SegmentFrom place) (text_reply.Tokens (Err e)) h met = absurd (met (short e h.0))
text_goes t text text_query.LeftmostLongest (text_reply.Keys (Ok v)) h met = ap spotted h
text_goes t text text_query.LeftmostLongest (text_reply.Keys (Err e)) h met = absurd (met (short e h.0))
text_goes t text (text_query.LeftmostLongestFrom place) (text_reply.Keys (Ok v)) h met = ap spotted h
text_goes t text (text_query.LeftmostLongestFrom place) (text_reply.Keys (Err e)) h met = absurd (met (short e h.0))
text_goes t text text_query.Matches (text_reply.Keys (Ok v)) h met = ap spotted h
text_goes t text text_query.Matches (text_reply.Keys (Err e)) h met = absurd (met (short e h.0))
text_goes t text (text_query.MatchesFrom place) (text_reply.Keys (Ok v)) h met = ap spotted h
text_goes t text (text_query.MatchesFrom place) (text_reply.Keys (Err e)) h met = absurd (met (short e h.0))
text_goes t text text_query.Overlapping (text_reply.Keys (Ok v)) h met = ap spotted h
text_goes t text text_query.Overlapping (text_reply.Keys (Err e)) h met = absurd (met (short e h.0))
text_goes t text text_query.Earliest (text_reply.Keys (Ok v)) h met = ap spotted h
text_goes t text text_query.Earliest (text_reply.Keys (Err e)) h met = absurd (met (short e h.0))
text_goes t text (text_query.Leftmost kind) (text_reply.Keys (Ok v)) h met = ap spotted h
text_goes t text (text_query.Leftmost kind) (text_reply.Keys (Err e)) h met = absurd (met (short e h.0))
text_goes t text (text_query.Cheapest unknown) (text_reply.Tokens (Ok v)) h met = ap cut_into (same_cut t unsigned_abs (λ _. byte_run unknown) text v.items h.best)
text_goes t text (text_query.Cheapest unknown) (text_reply.Tokens (Err e)) h met = absurd (met (short e h.0))
text_goes t text (text_query.CheapestByCharacters unknown) (text_reply.Tokens (Ok v)) h met =
    ap cut_into (same_cut t unsigned_abs (λ place. byte_run (character_price unknown text place)) text v.items h.best)
text_goes t text (text_query.CheapestByCharacters unknown) (text_reply.Tokens (Err e)) h met = absurd (met (short e h.0))
text_goes t text (text_query.CheapestBy m) (text_reply.Tokens (Ok v)) h met =
    ap cut_into (same_cut t (cost_in_table m.costs.now m.beyond) (run_in_table m.runs.now m.beyond) text v.items h)
text_goes t text (text_query.CheapestBy m) (text_reply.Tokens (Err e)) h met = absurd (met (short e h.0))
text_goes t text (text_query.CheapestCuts m most) (text_reply.Cuts (Ok v)) h met =
    ap cut_in_turn (same_cuts most t (cost_in_table m.costs.now m.beyond) (run_in_table m.runs.now m.beyond) text (lists_of v.items) h)
text_goes t text (text_query.CheapestCuts m most) (text_reply.Cuts (Err e)) h met = absurd (met (short e h.0))
text_goes t text (text_query.Lattice m) (text_reply.Edges (Ok v)) h met = ap edged h
text_goes t text (text_query.Lattice m) (text_reply.Edges (Err e)) h met = absurd (met (short e h.0))
text_goes t text q a h met = absurd h

-- what is said by two models that are the same, wherever their tables lie
by_tables : (say : (ℤ → ℕ) → (ℕ → UnknownRun) → PlainAnswer) (m n : ModelTables) → AreSameTables m n
    → say (cost_in_table m.costs.now m.beyond) (run_in_table m.runs.now m.beyond) ≡ say (cost_in_table n.costs.now n.beyond) (run_in_table n.runs.now n.beyond)
by_tables say m n h =
    ap (λ costs. say (cost_in_table costs m.beyond) (run_in_table m.runs.now m.beyond)) h.0
    ∙ ap (λ beyond. say (cost_in_table n.costs.now beyond) (run_in_table m.runs.now beyond)) h.1
    ∙ ap (λ runs. say (cost_in_table n.costs.now n.beyond) (run_in_table runs n.beyond)) h.2

-- of the same question, wherever its tables lie, the tree says the same
pub text_alike : (t : Tree) (text : List ℕ) (q r : TextQuery) → IsSameTextQuery q r → text_says t text q ≡ text_says t text r
text_alike t text (text_query.CheapestBy m) (text_query.CheapestBy n) h = by_tables (λ key run. cut_into (model_cut_of t key run text)) m n h
text_alike t text (text_query.CheapestCuts m most) (text_query.CheapestCuts n other) h =
    by_tables (λ key run. cut_in_turn (model_cuts_of most t key run text)) m n h.0
    ∙ ap (λ few. cut_in_turn (model_cuts_of few t (cost_in_table n.costs.now n.beyond) (run_in_table n.runs.now n.beyond) text)) h.1
text_alike t text (text_query.Lattice m) (text_query.Lattice n) h = by_tables (λ key run. edged (edges_from t key run 0 text)) m n h
text_alike t text q r h = ap (λ x. text_says t text x) h
