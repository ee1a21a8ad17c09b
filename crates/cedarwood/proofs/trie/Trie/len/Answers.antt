use Rattle.std.proofs.Common.{subst}
use Rattle.cedar_table.specs.Table.Views.{fields}
use Rattle.cedarwood.specs.Dictionary.{IsValid}
use Rattle.cedarwood.proofs.ValidLemmas.{is_valid}
use Rattle.cedarwood.proofs.MemoryLemmas.{table_fits}
use Rattle.cedarwood.proofs.trie.Trie.len.Goals as goal

pub returns-clause-valid : goal.returns-clause-valid
returns-clause-valid g c = subst (IsValid g.row.SLOTS) c.self.view_is (is_valid g.row.SLOTS c.self.inside.search_limit (fields c.self.inside.table) c.self.invariant)

pub entries-requires : goal.entries-requires
entries-requires g c = search table_fits
