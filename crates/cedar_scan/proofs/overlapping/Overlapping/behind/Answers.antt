use Rattle.cedar_scan.specs.Automata.{slot_of_path}
use Rattle.cedar_scan.proofs.ResumedLemmas.{cursor_behind, left_behind, steps_behind}
use Rattle.cedar_scan.proofs.overlapping.Overlapping.behind.Goals as goal

pub invariant_of-result : goal.invariant_of-result
invariant_of-result g c = (
  c.requires.automaton,
  cursor_behind (g.T.Placed.tree c.args.trie.now) (slot_of_path c.args.states.now) c.args.states.now c.args.keys.now c.requires.automaton c.args.text.now c.args.place c.args.state c.requires.place c.requires.state,
)

pub returns-clause-rest : goal.returns-clause-rest
returns-clause-rest g c = left_behind (g.T.Placed.tree c.args.trie.now) (slot_of_path c.args.states.now) c.args.states.now c.args.keys.now c.requires.automaton c.args.text.now c.args.place c.args.state c.requires.place c.requires.state

pub returns-clause-steps : goal.returns-clause-steps
returns-clause-steps g c = steps_behind (g.T.Placed.tree c.args.trie.now) (slot_of_path c.args.states.now) c.args.states.now c.args.keys.now c.requires.automaton c.args.text.now c.args.place c.args.state c.requires.place c.requires.state
