-- A walk along a query, a byte at a time.
use Rattle.std.proofs.Common.{◌≡◌, ℕ, ◌+◌, ◌<◌, List, [], ◌∷◌, length, take, get_or, sym, ◌∙◌, ap, subst, arith, Option, Some, None, option_map, false, ℤ}
use Rattle.std.specs.List.{cons_option}
use Rattle.cedar_model.specs.Tree.{Tree, has_label, subtree}
use Rattle.cedar_model.specs.Queries.{node_at}
use Rattle.cedar_model.specs.Walks.{front_from}
use Rattle.cedar_model.proofs.FrontFromLemmas.{front_more, front_off, node_more}
use Rattle.cedar_walk.specs.Fronts.{IsOnQuery}
use Rattle.cedar_model.specs.Meaning.StandsFor.{Stands}
use Rattle.cedar_model.specs.Table.TableFields.{Fields, size_of}
use Rattle.cedar_model.specs.Meaning.WellFormed.{cells_in, IsWellFormed, tree_of}
use Rattle.cedar_model.proofs.MeaningLemmas.TreeOf.{root_place}
use Rattle.cedar_model.proofs.OrderLemmas.{number_of_node}

module _ (T : Fields) (q : List ℕ) (n s : ℕ) (on : IsOnQuery T q n s) (less : n < length q) where
  -- one byte more
  pub on_child : (s' : ℕ) → (s' < size_of T) × Stands (size_of T) (cells_in T) s' (subtree (node_at (tree_of T) (take n q)).children (get_or q n 0)) → IsOnQuery T q (n + 1) s'
  on_child s' child = record {
    within = omega arith;
    inside = child.0;
    stands = subst (Stands (size_of T) (cells_in T) s') (sym (node_more (tree_of T) q n less)) child.1;
  }

  -- a byte that leads nowhere ends the walk
  pub front_gone : ((t : Tree) → Stands (size_of T) (cells_in T) s t → has_label t.children (get_or q n 0) ≡ false) → front_from (tree_of T) q n ≡ []
  front_gone missing = front_off (tree_of T) q n less (missing (node_at (tree_of T) (take n q)) on.stands)

  front_at : (s' : ℕ) (found : Option ℤ) → IsOnQuery T q (n + 1) s' → ((t : Tree) → Stands (size_of T) (cells_in T) s' t → found ≡ t.number)
      → front_from (tree_of T) q n ≡ cons_option (option_map (λ (v : ℤ). (v, n)) found) (front_from (tree_of T) q (n + 1))
  front_at s' found on' reads =
      front_more (tree_of T) q n less
      ∙ ap (λ (o : Option ℤ). cons_option (option_map (λ (v : ℤ). (v, n)) o) (front_from (tree_of T) q (n + 1))) (number_of_node (tree_of T) (take (n + 1) q) ∙ sym (reads (node_at (tree_of T) (take (n + 1) q)) on'.stands))

  pub front_held : (s' : ℕ) (v : ℤ) (m : ℕ) → m ≡ n → IsOnQuery T q (n + 1) s' → ((t : Tree) → Stands (size_of T) (cells_in T) s' t → Some v ≡ t.number)
      → front_from (tree_of T) q n ≡ (v, m) ∷ front_from (tree_of T) q (n + 1)
  front_held s' v m same on' reads = front_at s' (Some v) on' reads ∙ ap (λ x. (v, x) ∷ front_from (tree_of T) q (n + 1)) (sym same)

  pub front_passed : (s' : ℕ) → IsOnQuery T q (n + 1) s' → ((t : Tree) → Stands (size_of T) (cells_in T) s' t → None ≡ t.number) → front_from (tree_of T) q n ≡ front_from (tree_of T) q (n + 1)
  front_passed s' on' reads = front_at s' None on' reads

-- a walk begins at the root
pub front_begins_at : (slots : ℕ) (T : Fields) (q : List ℕ) → IsWellFormed slots T → IsOnQuery T q 0 0
front_begins_at slots T q k = record {
  within = omega arith;
  inside = let some = k.table.sound.shaped.blocks.some in omega arith;
  stands = root_place slots T k;
}
