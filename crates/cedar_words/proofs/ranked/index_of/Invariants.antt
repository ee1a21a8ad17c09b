use Rattle.std.proofs.Common.{◌≡◌, ◌++◌, drop, take}
use Rattle.cedar_words.specs.Ranked.{insert_way}
use Rattle.cedar_words.proofs.ranked.index_of.Given as goal

-- the way comes before none of those so far
abbrev pub invariant-loop-index : goal.invariant-loop-index
invariant-loop-index l = insert_way l.way l.ways ≡ take l.index l.ways ++ insert_way l.way (drop l.index l.ways)
