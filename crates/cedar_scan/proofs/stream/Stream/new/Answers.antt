use Rattle.cedar_scan.specs.Automata.{slot_of_path}
use Rattle.cedar_scan.proofs.StreamLemmas.{seen_first, stream_begins}
use Rattle.cedar_scan.proofs.stream.Stream.new.Goals as goal

pub invariant_of-result : goal.invariant_of-result
invariant_of-result g c = stream_begins (g.T.Placed.tree c.args.trie.now) (slot_of_path c.args.states.now) c.args.states.now c.args.keys.now c.requires

pub returns : goal.returns
returns g c = seen_first (g.T.Placed.tree c.args.trie.now) c.args.states.now c.args.keys.now
