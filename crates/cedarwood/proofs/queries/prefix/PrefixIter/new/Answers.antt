use Rattle.std.proofs.Common.{arith}
use Rattle.cedar_tree.proofs.FrontFromLemmas.{front_begins}
use Rattle.cedar_model.specs.Meaning.WellFormed.{tree_of}
use Rattle.cedar_walk.proofs.WalkLemmas.NextFront.{front_begins_at}
use Rattle.cedarwood.proofs.queries.prefix.PrefixIter.new.Goals as goal

pub invariant_of-result : goal.invariant_of-result
invariant_of-result g c = record {
  table = c.requires;
  within = omega arith;
  on = λ _. front_begins_at _ (g.T.Walked.shown c.args.trie.now) c.args.query.now c.requires;
}

pub returns-clause-rest : goal.returns-clause-rest
returns-clause-rest g c = front_begins (tree_of (g.T.Walked.shown c.args.trie.now)) c.args.query.now
