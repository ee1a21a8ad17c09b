use Rattle.std.proofs.Common.{ap, sym, ◌∙◌}
use Rattle.cedar_table.specs.Table.Views.{fields}
use Rattle.cedarwood.specs.RangeWalks.{entries_between}
use Rattle.cedarwood.specs.Dictionary.{Dictionary}
use Rattle.cedarwood.proofs.ValidLemmas.{formed_shown, tree_shown}
use Rattle.cedarwood.proofs.MemoryLemmas.{table_fits}
use Rattle.cedarwood.proofs.trie.Trie.range_bytes.Goals as goal

pub returns-then-ordered : goal.returns-then-ordered
returns-then-ordered g c = (
  sym (ap (λ (d : Dictionary). d.state.ordered) c.self.view_is) ∙ (sym c.ordered.ensures ∙ c.if-ordered.true),
  c.between.ensures ∙ ap (λ t. entries_between t c.args.from.now c.args.to.now) (tree_shown c.self.inside.search_limit (fields c.self.inside.table) c.args.self.now c.self.view_is),
)

pub between-requires : goal.between-requires
between-requires g c = record {
  well_formed = formed_shown c.self.inside.search_limit (fields c.self.inside.table) c.args.self.now c.self.view_is g.row.SLOTS c.self.invariant;
  ordered = sym (ap (λ (d : Dictionary). d.table.ordered) c.self.view_is) ∙ (sym c.ordered.ensures ∙ c.if-ordered.true);
}

pub allocator-requires : goal.allocator-requires
allocator-requires g c = search table_fits

pub ordered-requires : goal.ordered-requires
ordered-requires g c = search table_fits
