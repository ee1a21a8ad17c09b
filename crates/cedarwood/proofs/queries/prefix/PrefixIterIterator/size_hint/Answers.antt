use Rattle.std.proofs.Common.{◌≤◌, arith, length, subst}
use Rattle.cedar_tree.proofs.FrontFromLemmas.{front_short}
use Rattle.cedar_model.specs.Meaning.WellFormed.{tree_of}
use Rattle.cedarwood.specs.Walks.{PrefixWalk}
use Rattle.cedarwood.proofs.queries.prefix.PrefixIterIterator.size_hint.Goals as goal

pub returns-clause-upper : goal.returns-clause-upper
returns-clause-upper g c =
    let query = c.self.inside.query.now in
    let few = front_short (tree_of (g.T.Walked.shown c.self.inside.trie.now)) query c.self.inside.place in
    (tt, subst (λ (walk : PrefixWalk). length walk.rest ≤ length query) c.self.view_is (omega (arith, few)))
