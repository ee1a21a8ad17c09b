-- What a load of the program lacks.
use Rattle.std.specs.Prelude.{ℕ}
use Rattle.cedarwood.specs.Loading.{LacksByPath}
use Rattle.cedar_cli.specs.declared.program.Fault.{Fault}
use Rattle.cedar_cli.specs.declared.program.Fault.TheVariants.{Load}

-- if a load that may ask for `limit` bytes was refused memory, it was for its buffer, or for one of the lists of a
-- header that has passed under that limit
abbrev pub LacksWithin : ℕ → ℕ → ℕ → Fault → Type 0
LacksWithin layout slots limit (Load e) = LacksByPath layout slots limit e
LacksWithin layout slots limit fault = Unit {0}
