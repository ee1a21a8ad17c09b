-- Dictionaries of one layout, whichever it is.
use Rattle.std.specs.Prelude.{◌+◌, ◌≤◌, ℕ, List, vec_capacity, vec_len}
use Rattle.cedarwood.specs.Layouts.{LayoutKind, default_layout, reduced_layout}
use Rattle.cedarwood.specs.Dictionary.{Dictionary}
use Rattle.either_calls.specs.declared.tries.AnyTries.{AnyTries}
use Rattle.either_calls.specs.declared.tries.AnyTries.TheVariants.{Default, Reduced}

-- what is seen of the dictionaries
abbrev pub tries_in : AnyTries → List Dictionary
tries_in (Default tries) = tries.items
tries_in (Reduced tries) = tries.items

-- their layout
abbrev pub layout_of : AnyTries → LayoutKind
layout_of (Default tries) = default_layout
layout_of (Reduced tries) = reduced_layout

-- there is room for so many more dictionaries
abbrev pub HasRoomFor : AnyTries → ℕ → Type 0
HasRoomFor (Default tries) count = vec_len tries + count ≤ vec_capacity tries
HasRoomFor (Reduced tries) count = vec_len tries + count ≤ vec_capacity tries
