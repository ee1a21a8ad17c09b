use Rattle.std.proofs.Common.{◌≡◌, length, map}
use Rattle.best_few.specs.Orders.{found_entry}
use Rattle.best_few.proofs.TurnLemmas.{turned_front}
use Rattle.best_few.proofs.few.turn_back.Given as goal

-- those so far are turn_of, and the others are as they were
abbrev pub invariant-loop-index : goal.invariant-loop-index
invariant-loop-index g l =
    (length l.found.items ≡ length l.initial.found.items)
    × (map found_entry l.found.items ≡ turned_front l.order l.index (map found_entry l.initial.found.items))
