use Rattle.std.proofs.Common.{refl, subst}
use Rattle.cedar_table.specs.Table.Views.{fields}
use Rattle.cedarwood.specs.Dictionary.{Dictionary}
use Rattle.cedarwood.specs.Erasures.{IsCleared}
use Rattle.cedarwood.specs.OnTable.{dictionary_of}
use Rattle.cedarwood.proofs.ErasureLemmas.{cleared}
use Rattle.cedarwood.proofs.MemoryLemmas.{table_fits}
use Rattle.cedarwood.proofs.trie.Trie.clear.Goals as goal

pub returns : goal.returns
returns g c =
    let U = fields c.erase_under.new.table in
    record {
      cleared = subst (λ (d : Dictionary). IsCleared d (dictionary_of c.self.inside.search_limit U)) c.self.view_is
          (cleared g.row.SLOTS c.self.inside.search_limit (fields c.self.inside.table) U _ _ refl c.erase_under.ensures.well_formed (c.erase_under.ensures.erased c.self.inside.search_limit));
    }

pub erase_under-requires : goal.erase_under-requires
erase_under-requires g c = (search table_fits, c.self.invariant)
