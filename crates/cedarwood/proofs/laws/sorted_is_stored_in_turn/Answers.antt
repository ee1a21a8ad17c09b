use Rattle.std.proofs.Common.{◌≡◌, fold, List, [], ◌∷◌, refl, true}
use Rattle.cedar_tree.specs.Tree.{empty_tree, put, Tree}
use Rattle.cedar_tree.specs.Queries.{Entry}
use Rattle.cedar_tree.specs.State.{after_put, State}
use Rattle.cedarwood.proofs.laws.sorted_is_stored_in_turn.Goals as goal

-- from any tree on
in_turn : (t : Tree) (pairs : List Entry) → fold (λ (s : State) (pair : Entry). after_put s pair.0 pair.1) (record { tree = t; ordered = true }) pairs ≡ record { tree = fold (λ u pair. put u true pair.0 pair.1) t pairs; ordered = true }
in_turn t [] = refl
in_turn t (p ∷ ps) = in_turn (put t true p.0 p.1) ps

pub returns : goal.returns
returns c = λ pairs. in_turn empty_tree pairs
