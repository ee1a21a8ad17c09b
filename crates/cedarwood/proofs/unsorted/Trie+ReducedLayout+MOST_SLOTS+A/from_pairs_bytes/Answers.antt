use Rattle.cedar_model.specs.Table.Layouts.{reduced_layout}
use Rattle.cedar_bulk.specs.Sorted.{entries_of}
use Rattle.cedarwood.specs.Making.{default_settings}
use Rattle.cedarwood.proofs.MakingLemmas.{unsorted_alike}
use Rattle.cedarwood.proofs.unsorted.Trie+ReducedLayout+MOST_SLOTS+A.from_pairs_bytes.Goals as goal

pub returns-clause-built : goal.returns-clause-built
returns-clause-built g c =
    let s = c.builder in
    unsorted_alike s.result default_settings s.ensures.ordered s.ensures.max_trial s.ensures.search_limit reduced_layout 1073741824 (entries_of c.args.pairs.now) c.from_pairs_bytes_reduced.result c.from_pairs_bytes_reduced.ensures.built
