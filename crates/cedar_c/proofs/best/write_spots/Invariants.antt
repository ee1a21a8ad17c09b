use Rattle.std.proofs.Common.{◌≡◌, ◌++◌, drop, length, map, take}
use Rattle.best_few.specs.Orders.{found_entry}
use Rattle.cedar_c.specs.Entries.{spots_of}
use Rattle.cedar_c.specs.Pairs.{keys_in}
use Rattle.cedar_c.proofs.best.write_spots.Given as goal

-- the entries so far are written, and the other elements are as they were
abbrev pub invariant-loop-index : goal.invariant-loop-index
invariant-loop-index l =
    (l.found ≡ spots_of 0 (take l.index (map found_entry l.entries)) ++ drop l.index l.fn.found)
    × (l.place ≡ length (keys_in (take l.index (map found_entry l.entries))))
