use Rattle.std.proofs.Common.{◌≡◌, map, take}
use Rattle.best_few.specs.Orders.{found_entry}
use Rattle.cedar_c.specs.Pairs.{keys_in}
use Rattle.cedar_c.proofs.best.joined_keys.Given as goal

-- the keys so far are joined
abbrev pub invariant-loop-index : goal.invariant-loop-index
invariant-loop-index l = l.keys.items ≡ keys_in (take l.index (map found_entry l.entries))
