-- How far a walk along a query is in a table.
use Rattle.std.specs.Prelude.{◌≡◌, ℕ, ◌-◌, ◌<◌, ◌≤◌, List, [], ◌∷◌, length}
use Rattle.std.specs.Prelude.{MatchOption, take, Option, Some, None}
use Rattle.cedar_model.specs.Tree.{Tree}
use Rattle.cedar_model.specs.Queries.{node_at}
use Rattle.cedar_model.specs.Walks.{front_from}
use Rattle.cedar_walk.specs.declared.fronts.Front.{Front}
use Rattle.cedar_model.specs.Meaning.StandsFor.{Stands}
use Rattle.cedar_model.specs.Table.TableFields.{Fields, size_of}
use Rattle.cedar_model.specs.Meaning.WellFormed.{cells_in, tree_of}

-- the first `place` bytes of the query lead to slot s
pub record IsOnQuery (T : Fields) (query : List ℕ) (place s : ℕ) : Type 0 where
  pub within : place ≤ length query
  pub inside : s < size_of T
  pub stands : Stands (size_of T) (cells_in T) s (node_at (tree_of T) (take place query))

-- the next front of a query that is held in the tree, behind the first `place` bytes, if one is left
abbrev pub IsNextFront : Tree → List ℕ → ℕ → Option Front → Type 0
IsNextFront t query place next =
    MatchOption next (front_from t query place ≡ [])
    (λ front. (0 < front.len) × (front_from t query place ≡ (front.number, front.len - 1) ∷ front_from t query front.len))

-- how many bytes of a query were looked at
abbrev pub front_length : List ℕ → Option Front → ℕ
front_length query (Some front) = front.len
front_length query None = length query
