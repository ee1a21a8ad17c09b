use Rattle.std.proofs.Common.{[], ◌∙◌, sym}
use Rattle.cedar_model.specs.Meaning.WellFormed.{tree_of}
use Rattle.cedar_walk.specs.Ranges.{entries_since}
use Rattle.cedar_walk.proofs.WalkLemmas.Since.{behind_none}
use Rattle.cedarwood.proofs.BoundedLemmas.{no_end, unbounded}
use Rattle.cedarwood.proofs.RangeLemmas.{range_place, ranged_is}
use Rattle.cedarwood.proofs.queries.ranged.RangeEntries.since.Goals as goal

pub invariant_of-result : goal.invariant_of-result
invariant_of-result g c =
    let T = g.T.Walked.shown c.args.trie.now in
    (c.requires.well_formed, range_place T [] (entries_since (tree_of T) c.args.key.now) c.first_since.result c.first_since.ensures, tt, no_end T [] c.first_since.result)

pub returns : goal.returns
returns g c =
    let T = g.T.Walked.shown c.args.trie.now in
    let es = entries_since (tree_of T) c.args.key.now in
    unbounded T [] c.first_since.result ∙ ranged_is T [] es c.first_since.result c.first_since.ensures ∙ sym (behind_none es)
