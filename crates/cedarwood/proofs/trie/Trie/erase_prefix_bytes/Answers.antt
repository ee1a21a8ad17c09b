use Rattle.std.proofs.Common.{subst}
use Rattle.cedar_table.specs.Table.Views.{fields}
use Rattle.cedarwood.specs.Dictionary.{Dictionary}
use Rattle.cedarwood.specs.Erasures.{IsErasedUnder}
use Rattle.cedarwood.specs.OnTable.{dictionary_of}
use Rattle.cedarwood.proofs.MemoryLemmas.{table_fits}
use Rattle.cedarwood.proofs.trie.Trie.erase_prefix_bytes.Goals as goal

pub returns : goal.returns
returns g c = record { erased = subst (λ (d : Dictionary). IsErasedUnder d (dictionary_of c.self.inside.search_limit (fields c.erase_under.new.table)) c.args.prefix.now c.erase_under.result) c.self.view_is (c.erase_under.ensures.erased c.self.inside.search_limit) }

pub erase_under-requires : goal.erase_under-requires
erase_under-requires g c = (search table_fits, c.self.invariant)
