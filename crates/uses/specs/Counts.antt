-- How often a word comes.
use Rattle.std.specs.Prelude.{ℕ, zero, suc, ℤ, pos, ◌+ℤ◌, int_lt, if◌then◌else◌}
use Rattle.std.specs.Prelude.{List, Option, None, Some}
use Rattle.std.specs.Borrow.{Bor}
use Rattle.std.specs.List.{count_by}
use Rattle.std.specs.Str.{bytes_eq}

-- one more than a count, up to the greatest value
abbrev pub one_more : Option ℤ → ℤ
one_more None = pos 1
one_more (Some n) = if int_lt n (pos 2147483645) then n +ℤ pos 1 else pos 2147483645

-- what a dictionary of counts holds at a word that came n times: nothing if it never came
abbrev pub times : ℕ → Option ℤ
times zero = None
times (suc n) = Some (one_more (times n))

-- what a dictionary of counts holds at a word once these words were counted: nothing if it isn't among them, and else
-- how often it is, up to the greatest value
abbrev pub count_of : List ℕ → List (Bor (List ℕ)) → Option ℤ
count_of word words = times (count_by (λ w. bytes_eq w.now word) words)
