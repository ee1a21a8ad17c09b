-- What a reporter is told of the lines of a script.
use Rattle.std.specs.Prelude.{◌≡◌, ℕ, List, ◌++◌, map, Option, Some, None}
use Rattle.cedarwood.specs.Words.{Watched}
use Rattle.cedar_cli.specs.declared.command.BadLine.{BadLine}
use Rattle.cedar_cli.specs.Command.{bad_line_of}
use Rattle.cedar_cli.specs.Devices.{OnInput}
use Rattle.cedar_cli.specs.Lines.{lines_of}
use Rattle.cedar_cli.specs.Script.{Splits}

-- a list goes on with these members, if it is known
abbrev pub Continues : {T : Type 0} → Option (List T) → Option (List T) → List T → Type 0
Continues None after more = Unit {0}
Continues (Some xs) None more = ⊥
Continues (Some xs) (Some ys) more = ys ≡ xs ++ more

-- what is told of some lines: of each why it is bad, or nothing of one that is an order
abbrev pub reasons_of : List (List ℕ) → List (Option BadLine)
reasons_of lines = map bad_line_of lines

-- a reporter was told of the whole lines of a text, and this is left of the text
abbrev pub TellsText : Option (List (Option BadLine)) → Option (List (Option BadLine)) → List ℕ → List ℕ → Type 0
TellsText told tells text left = (finished : List (List ℕ)) × Splits text finished left × Continues told tells (reasons_of finished)

-- a reporter was told of all lines of the input
abbrev pub TellsInput : {R : Type 0} → (R → Option (List ℕ)) → Watched R → Option (List (Option BadLine)) → Option (List (Option BadLine)) → Type 0
TellsInput remaining reader told tells = OnInput remaining reader (λ input. Continues told tells (reasons_of (lines_of input)))
