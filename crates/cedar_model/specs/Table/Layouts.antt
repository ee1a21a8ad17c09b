-- How a layout reads the base field of a node.
use Rattle.std.specs.Prelude.{ℕ, ℤ, pos, negsuc}
use Rattle.cedar_model.specs.declared.layout.Stored.{Stored}
use Rattle.cedar_model.specs.declared.layout.Stored.TheVariants.{AtBase, OwnNumber, Nothing}

-- how a table keeps numbers
pub data LayoutKind : Type 0 where
  -- each number is in a slot of its own
  default_layout : LayoutKind
  -- a number is in its node's own base field as long as the node owns no slot
  reduced_layout : LayoutKind

-- what a base field z says: `AtBase b`, the node's slots begin at b; `OwnNumber v`, the node's own number; or
-- `Nothing`. By default 0 and above is a base, and any other number says nothing. In the reduced layout s below 0 is
-- the base -(s + 1), and any other number is the node's own
abbrev pub reading : LayoutKind → ℤ → Stored
reading default_layout (pos b) = AtBase b
reading default_layout (negsuc n) = Nothing
reading reduced_layout (pos v) = OwnNumber (pos v)
reading reduced_layout (negsuc b) = AtBase b

-- the byte that names a layout in a file, 0 or 1
abbrev pub layout_byte : LayoutKind → ℕ
layout_byte default_layout = 0
layout_byte reduced_layout = 1
