use Rattle.std.proofs.Common.{◌∙◌, sym}
use Rattle.cedar_tree.specs.Queries.{node_at, walk}
use Rattle.cedar_model.specs.Meaning.WellFormed.{tree_of}
use Rattle.cedar_walk.proofs.WalkLemmas.Prefixed.{entries_with_node}
use Rattle.cedarwood.proofs.BoundedLemmas.{no_end, unbounded}
use Rattle.cedarwood.proofs.RangeLemmas.{range_place, ranged_is}
use Rattle.cedarwood.proofs.queries.ranged.RangeEntries.with_prefix.Goals as goal

pub invariant_of-result : goal.invariant_of-result
invariant_of-result g c =
    let T = g.T.Walked.shown c.args.trie.now in
    let prefix = c.args.prefix.now in
    (c.requires, range_place T prefix (walk (node_at (tree_of T) prefix)) c.first_numbered.result c.first_numbered.ensures, tt, no_end T prefix c.first_numbered.result)

pub returns : goal.returns
returns g c =
    let T = g.T.Walked.shown c.args.trie.now in
    let prefix = c.args.prefix.now in
    unbounded T prefix c.first_numbered.result ∙ ranged_is T prefix (walk (node_at (tree_of T) prefix)) c.first_numbered.result c.first_numbered.ensures ∙ sym (entries_with_node (tree_of T) prefix c.requires.sound)
