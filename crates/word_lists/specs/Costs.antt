-- What words cost by their numbers, as lines say it.
use Rattle.std.specs.Prelude.{◌≡◌, ℕ, ℤ, List, ◌∷◌, ◌++◌, length, map, if◌then◌else◌, int_le, pos}
use Rattle.std.specs.Prelude.{unsigned_abs, Option, Some, None}
use Rattle.std.specs.Borrow.{Bor}
use Rattle.std.specs.List.{before_first}
use Rattle.device_lines.specs.Lines.{figures_number}
use Rattle.word_lists.specs.Stored.{is_tab}

-- a number as a cost: none is negative
abbrev pub cost_of_number : Option ℤ → Option ℕ
cost_of_number None = None
cost_of_number (Some v) = if int_le (pos 0) v then Some (unsigned_abs v) else None

-- what a line says that a word costs: the number in figures before its first tab, if there is one that isn't negative
abbrev pub cost_of_line : List ℕ → Option ℕ
cost_of_line line = cost_of_number (figures_number (before_first is_tab line))

-- what each of some lines says
abbrev pub costs_of_lines : List (Bor (List ℕ)) → List (Option ℕ)
costs_of_lines lines = map (λ line. cost_of_line line.now) lines

-- the line at an index is the first one without a cost
abbrev pub IsFirstWithoutCost : List (Bor (List ℕ)) → ℕ → Type 0
IsFirstWithoutCost lines index =
    (costs : List ℕ) × (rest : List (Option ℕ)) × (length costs ≡ index) × (costs_of_lines lines ≡ map Some costs ++ None ∷ rest)
