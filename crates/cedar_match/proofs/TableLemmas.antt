-- What a step of a walk in a dictionary's table says of its tree.
use Rattle.std.proofs.Common.{◌≡◌, ℕ, ◌+◌, ◌-◌, ◌<◌, ◌≤◌, List, [], ◌∷◌, ◌++◌, length, take, None, Option, Some, MatchOption, refl, sym, ◌∙◌, ap, subst}
use Rattle.cedar_tree.specs.Tree.{Tree}
use Rattle.cedar_tree.specs.Walks.{forwards, Visit, visits_after, visits_left}
use Rattle.cedar_model.specs.Meaning.WellFormed.{cells_in, tree_of}
use Rattle.cedar_tree.specs.State.{State}
use Rattle.cedar_walk.specs.declared.visits.Visited.{Visited}
use Rattle.cedar_walk.specs.Visits.{ComesTo, GoesToNode, IsBelow, left_after, left_at, path_to, SkipsToNode, way_up}
use Rattle.cedar_walk.proofs.WalkLemmas.NextNode.{path_length}
use Rattle.cedarwood.specs.Dictionary.{Dictionary}
use Rattle.cedarwood.specs.OnTable.{IsOnTable}
use Rattle.cedar_match.specs.Matching.{ReachesNode, StepsOn, left_from, left_past, path_on}
use Rattle.cedar_match.specs.TableNodes.{as_node, node_of, StandsIn}
use Rattle.cedar_match.proofs.MatchLemmas.{forwards_twice}

module _ (slots : ℕ) (d : Dictionary) where
  -- the way up from a node is its path turned round
  way_is : (path : List ℕ) (slot : ℕ) → StandsIn slots d path slot → way_up (cells_in d.table) (length path) slot ≡ forwards path
  way_is path slot at = sym (forwards_twice (way_up (cells_in d.table) (length path) slot)) ∙ ap forwards at.along

  pub tree_is : IsOnTable slots d → d.state.tree ≡ tree_of d.table
  tree_is on = ap (λ (s : State). s.tree) on.state

  -- so what is left at it is what is left at its path
  left_is : (path : List ℕ) (slot : ℕ) → StandsIn slots d path slot → left_at d.table [] (length path) slot ≡ left_from d.state.tree path
  left_is path slot at = ap (visits_left (tree_of d.table)) (way_is path slot at) ∙ ap (λ (t : Tree). visits_left t (forwards path)) (sym (tree_is at.table))

  past_is : (path : List ℕ) (slot : ℕ) → StandsIn slots d path slot → left_after d.table [] (length path) slot ≡ left_past d.state.tree path
  past_is path slot at = ap (visits_after (tree_of d.table)) (way_is path slot at) ∙ ap (λ (t : Tree). visits_after t (forwards path)) (sym (tree_is at.table))

  -- a node that it comes to
  comes_on : (path : List ℕ) (slot : ℕ) (left : List Visit) (there : List Visit) (next : Visited) → StandsIn slots d path slot → there ≡ left
      → ComesTo d.table [] there (path_to d.table (length path) slot) next → ReachesNode (StandsIn slots d) d.state.tree left path (as_node next)
  comes_on path slot left there next at same comes =
      let key = path_on path (as_node next) in
      let found : path_to d.table next.depth next.slot ≡ key = comes.way ∙ ap (λ w. take (next.depth - 1) w ++ next.label ∷ []) at.along in
      let deep : next.depth ≡ length key = sym (path_length d.table next.depth next.slot) ∙ ap length found in
      let stands : StandsIn slots d key next.slot = record {
        table = at.table;
        below = subst (λ n. IsBelow (cells_in d.table) [] n next.slot) deep comes.below;
        along = ap (λ n. path_to d.table n next.slot) (sym deep) ∙ found;
      } in
      record {
        there = stands;
        visits =
            sym same ∙ comes.visits
            ∙ ap (λ w. (w, next.number) ∷ left_at d.table [] next.depth next.slot) found
            ∙ ap (λ n. (key, next.number) ∷ left_at d.table [] n next.slot) deep
            ∙ ap (λ (vs : List Visit). (key, next.number) ∷ vs) (left_is key next.slot stands);
        deep = subst (λ w. (0 < next.depth) × (next.depth ≤ length w + 1)) at.along comes.deep;
      }

  -- or none
  goes_on : (path : List ℕ) (slot : ℕ) (left : List Visit) (there : List Visit) (next : Option Visited) → StandsIn slots d path slot → there ≡ left
      → MatchOption next (there ≡ []) (ComesTo d.table [] there (path_to d.table (length path) slot))
      → MatchOption (node_of next) (left ≡ []) (ReachesNode (StandsIn slots d) d.state.tree left path)
  goes_on path slot left there None at same ends = sym same ∙ ends
  goes_on path slot left there (Some next) at same comes = comes_on path slot left there next at same comes

  pub goes_after : (slot depth : ℕ) (next : Option Visited) → GoesToNode d.table depth slot next → StepsOn (StandsIn slots d) d.state.tree (left_from d.state.tree) slot depth (node_of next)
  goes_after slot depth next goes path at long =
      let here = subst (λ n. IsBelow (cells_in d.table) [] n slot → MatchOption next (left_at d.table [] n slot ≡ []) (ComesTo d.table [] (left_at d.table [] n slot) (path_to d.table n slot))) (sym long) (goes []) in
      goes_on path slot (left_from d.state.tree path) (left_at d.table [] (length path) slot) next at (left_is path slot at) (here at.below)

  pub goes_past : (slot depth : ℕ) (next : Option Visited) → SkipsToNode d.table depth slot next → StepsOn (StandsIn slots d) d.state.tree (left_past d.state.tree) slot depth (node_of next)
  goes_past slot depth next goes path at long =
      let here = subst (λ n. IsBelow (cells_in d.table) [] n slot → MatchOption next (left_after d.table [] n slot ≡ []) (ComesTo d.table [] (left_after d.table [] n slot) (path_to d.table n slot))) (sym long) (goes []) in
      goes_on path slot (left_past d.state.tree path) (left_after d.table [] (length path) slot) next at (past_is path slot at) (here at.below)

  -- the walk begins at the root
  pub begins : IsOnTable slots d → StandsIn slots d [] 0
  begins on = record { table = on; below = (tt, refl); along = refl }
