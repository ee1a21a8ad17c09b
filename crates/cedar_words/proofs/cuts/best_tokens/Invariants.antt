use Rattle.std.proofs.Common.{◌≡◌, ◌-◌, ◌≤◌, ◌++◌, length}
use Rattle.cedar_words.specs.ModelSteps.{step_by}
use Rattle.cedar_words.specs.Steps.{cut_along}
use Rattle.cedar_words.proofs.cuts.best_tokens.Given as goal

-- the tokens so far, and then those from here on, are all
abbrev pub invariant-loop-place : goal.invariant-loop-place
invariant-loop-place g l =
    (l.place ≤ length l.text)
    × (l.tokens.items ++ cut_along (step_by (g.T.Fronts.fronts_of l.trie) (g.M.CostModel.key_cost l.model) (g.M.CostModel.unknown_at l.model l.text) l.text l.costs) 0 l.place (length l.text - l.place)
    ≡ cut_along (step_by (g.T.Fronts.fronts_of l.trie) (g.M.CostModel.key_cost l.model) (g.M.CostModel.unknown_at l.model l.text) l.text l.costs) 0 0 (length l.text))

abbrev pub decreases-loop-place : goal.decreases-loop-place
decreases-loop-place g l = length l.text - l.place
