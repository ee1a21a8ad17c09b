use Rattle.std.proofs.Common.{◌≡◌, map, take}
use Rattle.cedar_c.specs.Pairs.{taken_pair}
use Rattle.cedar_c.proofs.pairs.take_pairs.Given as goal

abbrev pub invariant-loop-index : goal.invariant-loop-index
invariant-loop-index l = l.taken.items ≡ map taken_pair (take l.index l.pairs)
