use Rattle.std.proofs.Common.{◌≡◌, ℕ, ◌+◌, ◌-◌, ◌≤◌, length, List}
use Rattle.cedar_scan.specs.Automata.{slot_of_path}
use Rattle.cedar_scan.specs.Scans.{IsCursor, all_left, steps_left}
use Rattle.cedar_scan.proofs.scan.next_found.Given as goal

-- nothing was given, and nothing is lost
abbrev pub invariant-loop-cursor : goal.invariant-loop-cursor
invariant-loop-cursor g l = record {
  goes : (before : List ℕ) (offset : ℕ) → IsCursor (g.T.Placed.tree l.trie) (slot_of_path l.states) l.keys before l.piece l.initial.cursor
      → IsCursor (g.T.Placed.tree l.trie) (slot_of_path l.states) l.keys before l.piece l.cursor
      × (all_left (g.T.Placed.tree l.trie) l.keys before offset l.piece l.initial.cursor ≡ all_left (g.T.Placed.tree l.trie) l.keys before offset l.piece l.cursor);
  cost : l.ticks + steps_left (g.T.Placed.tree l.trie) l.states l.piece l.cursor ≤ l.initial.ticks + steps_left (g.T.Placed.tree l.trie) l.states l.piece l.initial.cursor;
}

abbrev pub decreases-loop-cursor : goal.decreases-loop-cursor
decreases-loop-cursor g l = length l.piece - l.cursor.place
