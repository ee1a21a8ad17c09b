use Rattle.std.proofs.Common.{◌≡◌, ℕ, List, length, true}
use Rattle.cedar_scan.specs.Automata.{path_in, slot_of_path}
use Rattle.cedar_scan.specs.Suffixes.{is_node}
use Rattle.cedar_scan.proofs.StepLemmas.{IsOnWay}
use Rattle.cedar_scan.proofs.step.step.Given as goal

abbrev pub invariant-loop-child : goal.invariant-loop-child
invariant-loop-child g l =
    (u : List ℕ) → is_node (g.T.Placed.tree l.trie) u ≡ true → l.fn.from ≡ slot_of_path l.states u
    → IsOnWay (g.T.Placed.tree l.trie) (slot_of_path l.states) u l.label l.slot l.initial.ticks l.ticks

abbrev pub decreases-loop-child : goal.decreases-loop-child
decreases-loop-child g l = length (path_in (g.T.Placed.tree l.trie) l.states l.slot)
