use Rattle.std.proofs.Common.{◌≡◌, ◌+◌, ◌≤◌}
use Rattle.cedar_scan.specs.Automata.{slot_of_path}
use Rattle.cedar_scan.specs.Keywords.{IsKeywordCursor, keywords_left, tests_left}
use Rattle.cedar_scan.proofs.leftmost.next_keyword.Given as goal

-- nothing is lost
abbrev pub invariant-loop-cursor : goal.invariant-loop-cursor
invariant-loop-cursor g l = record {
  cursor : IsKeywordCursor (g.T.Placed.tree l.trie) (slot_of_path l.states) l.states l.popped l.text l.cursor;
  keywords : keywords_left (g.T.Placed.tree l.trie) l.states l.popped l.text l.initial.cursor ≡ keywords_left (g.T.Placed.tree l.trie) l.states l.popped l.text l.cursor;
  cost : l.ticks + tests_left (g.T.Placed.tree l.trie) l.states l.text l.cursor ≤ l.initial.ticks + tests_left (g.T.Placed.tree l.trie) l.states l.text l.initial.cursor;
}

abbrev pub decreases-loop-cursor : goal.decreases-loop-cursor
decreases-loop-cursor g l = tests_left (g.T.Placed.tree l.trie) l.states l.text l.cursor
