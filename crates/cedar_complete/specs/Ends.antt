-- The first and the last entry in a range.
use Rattle.std.specs.Prelude.{◌≡◌, ℕ, codes, List, ◌∷◌, [], if◌then◌else◌, MatchOption, None, Option, Some}
use Rattle.std.specs.Cmp.Lexicographic.{slice_cmp}
use Rattle.std.specs.Ordering.{is_lt, nat_cmp}
use Rattle.cedar_tree.specs.Queries.{Entry}
use Rattle.cedar_complete.specs.declared.error.RangeError.{RangeError}
use Rattle.cedar_complete.specs.declared.error.RangeError.TheVariants.{Memory, NotAscending}

-- what was found is the first of some entries, or there is none
abbrev pub IsHeadOf : List Entry → Option Entry → Type 0
IsHeadOf es found = MatchOption found (es ≡ []) (λ first. (rest : List Entry) × (es ≡ first ∷ rest))

-- an entry, unless it comes before a byte string
abbrev pub unless_before : List ℕ → Option Entry → Option Entry
unless_before from None = None
unless_before from (Some e) = if is_lt (slice_cmp nat_cmp e.0 from) then None else Some e

-- the text of an error
abbrev pub range_error_text : RangeError → List ℕ
range_error_text NotAscending = codes "the dictionary's labels don't ascend"
range_error_text Memory = codes "out of memory"
