-- What a saved dictionary holds, of either layout.
use Rattle.std.specs.Prelude.{◌≡◌, ℕ, ℤ, false, List, Option, Some, Ok}
use Rattle.cedarwood.specs.Words.{default_load_limit, LoadsBy, most_slots, number_at}
use Rattle.either_layout.specs.Words.{file_layout, inner_dictionary, table_in}
use Rattle.either_layout.specs.declared.any.AnyCedar.{AnyCedar}

-- a dictionary that is loaded of these bytes, of the layout that they name, holds this value at a key, or none
abbrev pub IsValueIn : List ℕ → List ℕ → Option ℤ → Type 0
IsValueIn file key value = (a : AnyCedar) × (left : Option (List ℕ)) × LoadsBy table_in (file_layout file) most_slots default_load_limit (Some file) left false false (Ok a)
    × (value ≡ number_at (inner_dictionary a).state.tree key)
