use Rattle.std.proofs.Common.{◌≡◌, length}
use Rattle.cedar_words.specs.Ranked.{key_ways, lists_of, put_ways}
use Rattle.cedar_words.specs.Steps.{AreWithin}
use Rattle.cedar_words.proofs.ranked.put_keys.Given as goal

-- the best so far and those over keys that are still to come make the best over all keys
abbrev pub invariant-loop-front : goal.invariant-loop-front
invariant-loop-front g l =
    (put_ways l.most l.ways.items (key_ways (g.M.CostModel.key_cost l.model) (lists_of l.later) (g.F.NextFront.left l.walk)) ≡ put_ways l.most l.fn.ways.items (key_ways (g.M.CostModel.key_cost l.model) (lists_of l.later) (g.F.NextFront.left l.fn.walk)))
    × AreWithin (length l.later) (g.F.NextFront.left l.walk)

abbrev pub decreases-loop-front : goal.decreases-loop-front
decreases-loop-front g l = length (g.F.NextFront.left l.walk)
