use Rattle.std.proofs.Common.{◌∙◌, sym}
use Rattle.cedar_model.specs.Meaning.WellFormed.{tree_of}
use Rattle.cedarwood.proofs.BoundedLemmas.{between_turned, bounded_ends, bounded_is, bounded_places}
use Rattle.cedarwood.proofs.queries.ranged.RangeEntries.between.Goals as goal

pub returns-then-not-is_before : goal.returns-then-not-is_before
returns-then-not-is_before g c =
    between_turned (tree_of (g.T.Walked.shown c.args.trie.now)) c.args.from.now c.args.to.now (sym c.is_before.ensures ∙ c.if-not-is_before.true)

pub invariant_of-result-2 : goal.invariant_of-result-2
invariant_of-result-2 g c =
    let T = g.T.Walked.shown c.args.trie.now in
    let places = bounded_places T c.args.from.now c.args.to.now c.first_since-next.result c.first_since-end.result c.first_since-next.ensures c.first_since-end.ensures in
    let ends = bounded_ends T c.args.from.now c.args.to.now c.first_since-next.result c.first_since-end.result c.first_since-next.ensures c.first_since-end.ensures (sym c.is_before.ensures ∙ c.if-not-is_before.false) in
    (c.requires.well_formed, places.0, places.1, ends)

pub returns : goal.returns
returns g c =
    let T = g.T.Walked.shown c.args.trie.now in
    bounded_is T c.args.from.now c.args.to.now c.first_since-next.result c.first_since-end.result c.first_since-next.ensures c.first_since-end.ensures
