use Rattle.std.proofs.Common.{subst, refl}
use Rattle.cedar_table.specs.Table.Views.{fields}
use Rattle.cedarwood.specs.OnTable.{IsOnTable}
use Rattle.cedarwood.proofs.trie.Trie.stands_on_its_table.Goals as goal

pub returns : goal.returns
returns g c = subst (IsOnTable g.row.SLOTS) c.self.view_is (record { formed = c.self.invariant; state = refl; marked = refl; max_trial = refl; size = refl; capacity = refl })
