-- How far a look-up is that is one of several in step.
use Rattle.std.specs.Prelude.{◌≡◌, ℕ, ◌<◌, List, [], drop, get_or, length, map, Option, Some, None}
use Rattle.std.specs.Borrow.{Bor}
use Rattle.cedar_model.specs.Tree.{Tree, number_at}
use Rattle.cedar_model.specs.Meaning.StandsFor.{Stands}
use Rattle.cedar_model.specs.Table.TableFields.{Fields, size_of}
use Rattle.cedar_model.specs.Meaning.WellFormed.{cells_in, tree_of}

-- the bytes of some keys
abbrev pub keys_of : List (Bor (List ℕ)) → List (List ℕ)
keys_of keys = map (λ key. key.now) keys

-- where one of several look-ups in step is once `passed` bytes of its key are passed: at slot s, from which the rest
-- of the key leads on, or at none, and then the key isn't held
abbrev pub IsLane : Fields → List ℕ → ℕ → Option ℕ → Type 0
IsLane T key passed None = number_at (tree_of T) key ≡ None
IsLane T key passed (Some s) =
    (s < size_of T) × ((u : Tree) × Stands (size_of T) (cells_in T) s u × (number_at (tree_of T) key ≡ number_at u (drop passed key)))

-- each of several look-ups in step is so (`IsLane`)
abbrev pub AreLanes : Fields → List (List ℕ) → ℕ → List (Option ℕ) → Type 0
AreLanes T keys passed lanes = (i : ℕ) → i < length keys → IsLane T (get_or keys i []) passed (get_or lanes i None)
