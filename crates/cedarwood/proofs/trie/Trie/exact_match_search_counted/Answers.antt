use Rattle.std.proofs.Common.{◌≡◌, sym, subst, None, IfSome}
use Rattle.cedar_tree.specs.Tree.{IsSound}
use Rattle.cedar_table.specs.Table.Views.{fields}
use Rattle.cedarwood.specs.Dictionary.{Dictionary}
use Rattle.cedarwood.specs.Fault.{value_fault}
use Rattle.cedarwood.proofs.DictionaryLemmas.{is_sound, found_in_range}
use Rattle.cedarwood.proofs.MemoryLemmas.{table_fits}
use Rattle.cedarwood.proofs.trie.Trie.exact_match_search_counted.Goals as goal

pub returns-clause-sound : goal.returns-clause-sound
returns-clause-sound g c =
    subst (λ (d : Dictionary). IsSound d.state.tree) c.self.view_is (is_sound _ (fields c.self.inside.table) c.self.invariant)

pub returns-clause-in_range : goal.returns-clause-in_range
returns-clause-in_range g c =
    subst (λ o. IfSome o (λ found. value_fault found.0 ≡ None)) (sym c.exact_match_search_counted.ensures.answer)
    (found_in_range _ (fields c.self.inside.table) c.args.key.now c.self.invariant)

pub exact_match_search_counted-requires : goal.exact_match_search_counted-requires
exact_match_search_counted-requires g c = (search table_fits, c.self.invariant)
