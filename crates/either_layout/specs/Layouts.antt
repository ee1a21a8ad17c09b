-- A dictionary of either layout.
use Rattle.std.specs.Prelude.{◌≡◌, Bool, true, false}
use Rattle.cedarwood.specs.Layouts.{LayoutKind, default_layout, reduced_layout}
use Rattle.cedarwood.specs.Dictionary.{Dictionary}
use Rattle.either_layout.specs.declared.any.AnyCedar.{AnyCedar}
use Rattle.either_layout.specs.declared.any.AnyCedar.TheVariants.{Default, Reduced}

-- what is seen of a dictionary of either layout
abbrev pub inner_dictionary : AnyCedar → Dictionary
inner_dictionary (Default d) = d
inner_dictionary (Reduced d) = d

-- the layout of a dictionary of either layout
abbrev pub inner_layout : AnyCedar → LayoutKind
inner_layout (Default d) = default_layout
inner_layout (Reduced d) = reduced_layout

-- the reduced layout if the flag is true, and else the default one
abbrev pub layout_for : Bool → LayoutKind
layout_for false = default_layout
layout_for true = reduced_layout

-- the size and the capacity are what they were
abbrev pub HasSameSize : Dictionary → Dictionary → Type 0
HasSameSize before after = (after.size ≡ before.size) × (after.capacity ≡ before.capacity)
