use Rattle.std.proofs.Common.{◌∙◌, FitsSigned, of_z, rules, to_z, w32}
use Rattle.std.proofs.lemmas.Int.{to_z-of_z}
use Rattle.cedar_table.specs.Table.Views.{fields}
use Rattle.cedarwood.proofs.ShrinkLemmas.{is_rebuilt}
use Rattle.cedarwood.proofs.MemoryLemmas.{table_fits}
use Rattle.cedarwood.proofs.trie.Trie.rebuild.Goals as goal

pub returns : goal.returns
returns g c =
    let fits : FitsSigned w32 c.max_trial.result = search rules in
    is_rebuilt g.L.Layout.kind g.row.SLOTS c.self.inside.search_limit (fields c.self.inside.table) c.args.self.now c.ordered.result (to_z w32 (of_z w32 c.max_trial.result)) c.with_entries.result c.self.view_is c.self.invariant c.ordered.ensures (to_z-of_z w32 c.max_trial.result fits ∙ c.max_trial.ensures) c.with_entries.ensures

pub allocator-alloc-requires : goal.allocator-alloc-requires
allocator-alloc-requires g c = search table_fits

pub entries-requires : goal.entries-requires
entries-requires g c = search table_fits

pub ordered-requires : goal.ordered-requires
ordered-requires g c = search table_fits

pub max_trial-requires : goal.max_trial-requires
max_trial-requires g c = search table_fits
