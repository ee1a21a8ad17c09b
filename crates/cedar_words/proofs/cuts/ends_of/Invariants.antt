use Rattle.std.proofs.Common.{◌≡◌, length}
use Rattle.cedar_words.specs.ModelSteps.{AreCostsUpTo, AreKeptUpTo}
use Rattle.cedar_words.proofs.cuts.ends_of.Given as goal

-- the costs so far are those of fewer bytes than these, and what is kept says what their steps are
abbrev pub invariant-loop-left : goal.invariant-loop-left
invariant-loop-left g l =
    ((length l.costs.items ≡ l.left) × AreCostsUpTo (g.T.Fronts.fronts_of l.trie) (g.M.CostModel.key_cost l.model) (g.M.CostModel.unknown_at l.model l.text) l.text l.costs.items)
    × (length l.kept.items ≡ l.left)
    × AreKeptUpTo (g.T.Fronts.fronts_of l.trie) (g.M.CostModel.key_cost l.model) (g.M.CostModel.unknown_at l.model l.text) l.text l.costs.items l.kept.items
