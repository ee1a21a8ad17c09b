use Rattle.std.proofs.Common.{ap, length, ◌∙◌}
use Rattle.cedar_model.specs.Meaning.WellFormed.{tree_of}
use Rattle.cedar_table.specs.Table.Views.{fields}
use Rattle.cedar_tree.specs.Queries.{walk}
use Rattle.cedarwood.specs.Dictionary.{Dictionary}
use Rattle.cedarwood.proofs.ValidLemmas.{formed_shown, tree_shown}
use Rattle.cedarwood.proofs.MemoryLemmas.{table_fits}
use Rattle.cedarwood.proofs.trie.Trie.entries.Goals as goal

pub returns-clause-entries : goal.returns-clause-entries
returns-clause-entries g c = c.new.ensures ∙ ap walk (tree_shown c.self.inside.search_limit (fields c.self.inside.table) c.args.self.now c.self.view_is)

pub new-requires : goal.new-requires
new-requires g c = record {
  well_formed = formed_shown c.self.inside.search_limit (fields c.self.inside.table) c.args.self.now c.self.view_is g.row.SLOTS c.self.invariant;
  entries = c.entries.ensures ∙ (c.self.invariant.entries ∙ ap (λ (d : Dictionary). length (walk (tree_of d.table))) c.self.view_is);
}

pub allocator-requires : goal.allocator-requires
allocator-requires g c = search table_fits

pub entries-requires : goal.entries-requires
entries-requires g c = search table_fits
