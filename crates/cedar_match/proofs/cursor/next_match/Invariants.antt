use Rattle.std.proofs.Common.{◌≡◌, ◌+◌, ◌≤◌}
use Rattle.cedar_match.specs.Matching.{entries_to_come, IsMatchPlace, leads_on, nodes_to_come}
use Rattle.cedar_match.proofs.cursor.next_match.Given as goal

-- no entry that is wanted was passed, and each node that it came to was counted
abbrev pub invariant-loop-next : goal.invariant-loop-next
invariant-loop-next g l = record {
  at : IsMatchPlace (g.T.Nodes.stands l.trie) (g.M.Automaton.after l.automaton) (g.M.Automaton.may_match l.automaton) (g.M.Automaton.initial l.automaton) l.key.items l.states.items l.slot;
  entries : entries_to_come (g.T.Nodes.tree l.trie) (g.M.Automaton.accepts l.automaton) l.initial.key.items ≡ entries_to_come (g.T.Nodes.tree l.trie) (g.M.Automaton.accepts l.automaton) l.key.items;
  nodes : l.ticks + nodes_to_come (g.T.Nodes.tree l.trie) (leads_on (g.M.Automaton.after l.automaton) (g.M.Automaton.may_match l.automaton) (g.M.Automaton.initial l.automaton)) l.key.items
      ≡ l.initial.ticks + nodes_to_come (g.T.Nodes.tree l.trie) (leads_on (g.M.Automaton.after l.automaton) (g.M.Automaton.may_match l.automaton) (g.M.Automaton.initial l.automaton)) l.initial.key.items;
  fewer : nodes_to_come (g.T.Nodes.tree l.trie) (leads_on (g.M.Automaton.after l.automaton) (g.M.Automaton.may_match l.automaton) (g.M.Automaton.initial l.automaton)) l.key.items
      ≤ nodes_to_come (g.T.Nodes.tree l.trie) (leads_on (g.M.Automaton.after l.automaton) (g.M.Automaton.may_match l.automaton) (g.M.Automaton.initial l.automaton)) l.initial.key.items;
}

abbrev pub decreases-loop-next : goal.decreases-loop-next
decreases-loop-next g l = nodes_to_come (g.T.Nodes.tree l.trie) (leads_on (g.M.Automaton.after l.automaton) (g.M.Automaton.may_match l.automaton) (g.M.Automaton.initial l.automaton)) l.key.items
