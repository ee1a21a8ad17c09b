use Rattle.cedar_scan.specs.Automata.{slot_of_path}
use Rattle.cedar_scan.proofs.KeywordLemmas.{first_cursor, first_left, first_tests}
use Rattle.cedar_scan.proofs.leftmost.Leftmost.new.Goals as goal

pub invariant_of-result : goal.invariant_of-result
invariant_of-result g c = (c.requires, first_cursor (g.T.Placed.tree c.args.trie.now) (slot_of_path c.args.states.now) c.args.states.now c.args.falls.now c.args.popped.now c.requires c.args.text.now)

pub returns-clause-rest : goal.returns-clause-rest
returns-clause-rest g c = first_left (g.T.Placed.tree c.args.trie.now) (slot_of_path c.args.states.now) c.args.states.now c.args.falls.now c.args.popped.now c.requires c.args.text.now

pub returns-clause-steps : goal.returns-clause-steps
returns-clause-steps g c = first_tests (g.T.Placed.tree c.args.trie.now) (slot_of_path c.args.states.now) c.args.states.now c.args.falls.now c.args.popped.now c.requires c.args.text.now
