use Rattle.std.proofs.Common.{◌≡◌, ◌-◌, length, map}
use Rattle.std.specs.List.{range_with_len}
use Rattle.cedar_words.specs.Ranked.{lists_of, way_along}
use Rattle.cedar_words.proofs.ranked.tokens_of_all.Given as goal

-- the cuts so far are those along the first ways
abbrev pub invariant-loop-rank : goal.invariant-loop-rank
invariant-loop-rank g l = lists_of l.cuts.items ≡ map (way_along (lists_of l.table) 0 0 (length l.table - 1)) (range_with_len 0 l.rank)
