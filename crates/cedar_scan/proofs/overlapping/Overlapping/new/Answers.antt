use Rattle.std.proofs.Common.{arith, refl, sym}
use Rattle.cedar_scan.specs.Automata.{slot_of_path}
use Rattle.cedar_scan.proofs.ResumedLemmas.{cursor_behind, left_behind, steps_at_first}
use Rattle.cedar_scan.proofs.overlapping.Overlapping.new.Goals as goal

pub invariant_of-result : goal.invariant_of-result
invariant_of-result g c = (
  c.requires,
  cursor_behind (g.T.Placed.tree c.args.trie.now) (slot_of_path c.args.states.now) c.args.states.now c.args.keys.now c.requires c.args.text.now 0 0 (omega arith) (sym c.requires.placing.root),
)

pub returns-clause-rest : goal.returns-clause-rest
returns-clause-rest g c = left_behind (g.T.Placed.tree c.args.trie.now) (slot_of_path c.args.states.now) c.args.states.now c.args.keys.now c.requires c.args.text.now 0 0 (omega arith) (sym c.requires.placing.root)

pub returns-clause-steps : goal.returns-clause-steps
returns-clause-steps g c = steps_at_first (g.T.Placed.tree c.args.trie.now) (slot_of_path c.args.states.now) c.args.states.now c.args.keys.now c.requires c.args.text.now 0 0 (omega arith) (sym c.requires.placing.root) refl
