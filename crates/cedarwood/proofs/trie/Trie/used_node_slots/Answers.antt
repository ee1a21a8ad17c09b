use Rattle.std.proofs.Common.{◌∙◌, ◌+◌, ap, length, subst, ◌≡◌}
use Rattle.cedar_tree.specs.Queries.{prefixes, slots_of_tree, walk}
use Rattle.cedar_table.specs.Table.Views.{fields}
use Rattle.cedar_model.proofs.MeaningLemmas.HeldCount.{count_is_marked, count_is_used}
use Rattle.cedar_bulk.proofs.BulkLemmas.SlotsOfNumbers.{all_marked}
use Rattle.cedarwood.specs.Dictionary.{Dictionary}
use Rattle.cedarwood.proofs.MemoryLemmas.{table_fits}
use Rattle.cedarwood.proofs.trie.Trie.used_node_slots.Goals as goal

pub returns : goal.returns
returns g c = record {
  marked =
      c.used_node_slots.ensures.count
      ∙ count_is_marked _ (fields c.self.inside.table) c.self.invariant
      ∙ ap (λ (d : Dictionary). 1 + length (prefixes d.state.tree) + length (walk d.marked)) c.self.view_is;
  by_default = λ layout.
      c.used_node_slots.ensures.count
      ∙ count_is_used _ (fields c.self.inside.table) c.self.invariant layout
      ∙ ap (λ (d : Dictionary). slots_of_tree d.state.tree) c.self.view_is;
  all_marked = λ layout. subst (λ (d : Dictionary). d.marked ≡ d.state.tree) c.self.view_is (all_marked _ (fields c.self.inside.table) c.self.invariant layout);
}

pub used_node_slots-requires : goal.used_node_slots-requires
used_node_slots-requires g c = (search table_fits, c.self.invariant.table)
