use Rattle.std.proofs.Common.{◌≡◌, ◌≤◌, ◌++◌, length, map}
use Rattle.best_few.specs.Orders.{best, found_entry, turned_entry}
use Rattle.best_few.specs.Words.{heap_items, heap_len, IsHeap, kept_cmp, LowestFirst}
use Rattle.best_few.proofs.few.best_of.Given as goal

-- the best of those that are kept and those that are left are the best of all
abbrev pub invariant-loop-kept : goal.invariant-loop-kept
invariant-loop-kept g l =
    IsHeap kept_cmp (heap_items l.kept) × (heap_len l.kept ≤ l.most)
    × (best LowestFirst l.most (map (turned_entry l.order) (g.W.EntryWalk.left l.walk) ++ map found_entry (heap_items l.kept)) ≡ best LowestFirst l.most (map (turned_entry l.order) (g.W.EntryWalk.left l.initial.walk)))

abbrev pub decreases-loop-kept : goal.decreases-loop-kept
decreases-loop-kept g l = length (g.W.EntryWalk.left l.walk)
