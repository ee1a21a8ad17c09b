use Rattle.std.proofs.Common.{ap, sym, ◌∙◌}
use Rattle.cedar_table.specs.Table.Views.{fields}
use Rattle.cedar_walk.specs.Ranges.{entries_since}
use Rattle.cedarwood.specs.Dictionary.{Dictionary}
use Rattle.cedarwood.proofs.ValidLemmas.{formed_shown, tree_shown}
use Rattle.cedarwood.proofs.MemoryLemmas.{table_fits}
use Rattle.cedarwood.proofs.trie.Trie.entries_from_bytes.Goals as goal

pub returns : goal.returns
returns g c = (
  sym (ap (λ (d : Dictionary). d.state.ordered) c.self.view_is) ∙ (sym c.ordered.ensures ∙ c.if-not-ordered.false),
  c.since.ensures ∙ ap (λ t. entries_since t c.args.key.now) (tree_shown c.self.inside.search_limit (fields c.self.inside.table) c.args.self.now c.self.view_is),
)

pub since-requires : goal.since-requires
since-requires g c = record {
  well_formed = formed_shown c.self.inside.search_limit (fields c.self.inside.table) c.args.self.now c.self.view_is g.row.SLOTS c.self.invariant;
  ordered = sym (ap (λ (d : Dictionary). d.table.ordered) c.self.view_is) ∙ (sym c.ordered.ensures ∙ c.if-not-ordered.false);
}

pub allocator-requires : goal.allocator-requires
allocator-requires g c = search table_fits

pub ordered-requires : goal.ordered-requires
ordered-requires g c = search table_fits
