use Rattle.std.proofs.Common.{◌≡◌, length}
use Rattle.cedar_words.specs.Steps.{AreCostsOver, AreMarksOver}
use Rattle.cedar_words.proofs.costs.costs_of.Given as goal

-- the costs so far are those of fewer bytes than these, and the marks say what their steps are
abbrev pub invariant-loop-left : goal.invariant-loop-left
invariant-loop-left g l =
    ((length l.costs.items ≡ l.left) × AreCostsOver (g.T.FirstStep.tree l.trie) (g.P.BytePrice.price_at l.unknown l.text) l.text l.costs.items)
    × (length l.marks.items ≡ l.left) × AreMarksOver (g.T.FirstStep.tree l.trie) (g.P.BytePrice.price_at l.unknown l.text) l.text l.costs.items l.marks.items
