use Rattle.std.proofs.Common.{◌∙◌, ap, length, sym}
use Rattle.cedar_walk.proofs.WalkLemmas.NextNode.{path_length}
use Rattle.cedar_c.proofs.below.begins_in.Goals as goal

pub returns-clause-room : goal.returns-clause-room
returns-clause-room g c = ap length c.write_key.ensures ∙ path_length (g.T.Walked.shown c.args.trie.now) c.args.at.depth c.args.at.slot ∙ sym c.requires.room
