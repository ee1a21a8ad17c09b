-- What a plain tree lists of itself.
use Rattle.std.specs.Prelude.{ℕ, ℤ, List, map, ◌++◌, Vec}
use Rattle.cedar_tree.specs.Queries.{Entry}

-- an entry of the tree at a path, as one of the whole tree
abbrev pub beneath : List ℕ → Entry → Entry
beneath path entry = (path ++ entry.0, entry.1)

-- the entries whose paths are in vectors
abbrev pub vector_entries : {Z : Type 0} → List (Vec ℕ Z × ℤ) → List Entry
vector_entries entries = map (λ e. (e.0.items, e.1)) entries

-- the paths that are in vectors
abbrev pub paths_of : {Z : Type 0} → List (Vec ℕ Z) → List (List ℕ)
paths_of paths = map (λ p. p.items) paths
