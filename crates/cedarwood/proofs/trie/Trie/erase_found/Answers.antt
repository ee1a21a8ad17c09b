use Rattle.std.proofs.Common.{subst, sym, true}
use Rattle.cedar_table.specs.Table.Views.{fields}
use Rattle.cedarwood.specs.Batches.{IsErasure, IsFound}
use Rattle.cedarwood.specs.Dictionary.{Dictionary}
use Rattle.cedarwood.specs.OnTable.{dictionary_of}
use Rattle.cedarwood.proofs.MemoryLemmas.{table_fits}
use Rattle.cedarwood.proofs.trie.Trie.erase_found.Goals as goal

pub erase_in-requires : goal.erase_in-requires
erase_in-requires g c =
    let is = subst (λ (d : Dictionary). IsFound d c.args.key.now c.args.found) (sym c.self.view_is) c.requires in
    (search table_fits, (c.self.invariant, record { value = is.value; inside = is.inside; at = is.at }))

pub returns : goal.returns
returns g c =
    let n = c.self.inside.search_limit in
    subst (λ (d : Dictionary). IsErasure d (dictionary_of n (fields c.erase_in.new.table)) c.args.key.now true) c.self.view_is (c.erase_in.ensures.erased n)
