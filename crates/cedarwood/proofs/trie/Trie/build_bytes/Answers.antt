use Rattle.cedar_bulk.specs.Sorted.{entries_of}
use Rattle.cedarwood.proofs.BuildLemmas.{all_are_stored, front_is_stored, limit_is_kept, trial_is_kept}
use Rattle.cedarwood.proofs.trie.Trie.build_bytes.Goals as goal

pub returns-clause-stored : goal.returns-clause-stored
returns-clause-stored g c =
    let e = c.store_all.ensures in
    all_are_stored g.L.Layout.kind g.row.SLOTS c.args.self.now (entries_of c.args.pairs.now) c.store_all.result c.store_all.new.self e.faulty e.updates

pub returns-clause-refused : goal.returns-clause-refused
returns-clause-refused g c = λ fine. front_is_stored g.L.Layout.kind g.row.SLOTS c.args.self.now (entries_of c.args.pairs.now) c.store_all.result c.store_all.new.self fine c.store_all.ensures.updates

pub returns-clause-max_trial : goal.returns-clause-max_trial
returns-clause-max_trial g c =
    let e = c.store_all.ensures in
    trial_is_kept g.L.Layout.kind g.row.SLOTS c.args.self.now (entries_of c.args.pairs.now) c.store_all.result c.store_all.new.self e.unchanged e.updates

pub returns-clause-search_limit : goal.returns-clause-search_limit
returns-clause-search_limit g c =
    let e = c.store_all.ensures in
    limit_is_kept g.L.Layout.kind g.row.SLOTS c.args.self.now (entries_of c.args.pairs.now) c.store_all.result c.store_all.new.self e.unchanged e.updates
