-- How a dictionary of either layout grows, and as what a pointer has it.
use Rattle.std.specs.Prelude.{◌≡◌, ℕ, ◌+◌, ◌*◌, ◌<◌, ◌≤◌, Bool, true, false}
use Rattle.std.specs.Coded.{Coded, code_by, coded×, coded_bool}
use Rattle.std.proofs.Common.{refl}
use Rattle.cedarwood.specs.Dictionary.{Dictionary, dictionary_code}
use Rattle.cedarwood.specs.Limits.{most_slots}
pub use Rattle.either_layout.specs.Layouts.{HasSameSize, inner_dictionary, inner_layout, layout_for}
use Rattle.either_layout.specs.declared.any.AnyCedar.{AnyCedar}
use Rattle.either_layout.specs.declared.any.AnyCedar.TheVariants.{Default, Reduced}

-- there are fewer slots than for so many more blocks than are in use, and there may be more
abbrev pub HasToGrow : ℕ → ℕ → ℕ → Type 0
HasToGrow size capacity blocks = (capacity < size + 256 * blocks) × (size + 256 * blocks ≤ most_slots)

-- whether a dictionary is of the reduced layout
abbrev pub is_reduced : AnyCedar → Bool
is_reduced (Default d) = false
is_reduced (Reduced d) = true

-- the dictionary of either layout that these parts are: of the reduced one if the flag is true
abbrev pub of_parts : Bool × Dictionary → AnyCedar
of_parts (false, d) = Default d
of_parts (true, d) = Reduced d

-- a dictionary of either layout is the one that its parts make
pub of_parts_back : (a : AnyCedar) → of_parts (is_reduced a, inner_dictionary a) ≡ a
of_parts_back (Default d) = refl
of_parts_back (Reduced d) = refl

-- a dictionary of either layout as plain data, by which a proof distinguishes what a pointer owns
abbrev pub any_code : Coded AnyCedar
any_code = code_by (Bool × Dictionary) (coded× coded_bool dictionary_code) (λ a. (is_reduced a, inner_dictionary a)) of_parts of_parts_back
