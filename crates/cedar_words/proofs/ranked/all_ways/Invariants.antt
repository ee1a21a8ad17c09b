use Rattle.std.proofs.Common.{◌≡◌, length}
use Rattle.cedar_words.specs.Ranked.{AreWays, lists_of}
use Rattle.cedar_words.proofs.ranked.all_ways.Given as goal

-- the ways so far are those of fewer bytes than these
abbrev pub invariant-loop-left : goal.invariant-loop-left
invariant-loop-left g l =
    (length l.table.items ≡ l.left) × AreWays l.most (g.T.Fronts.fronts_of l.trie) (g.M.CostModel.key_cost l.model) (g.M.CostModel.unknown_at l.model l.text) l.text (lists_of l.table.items)
