-- The labels for which a node wants slots once it gets one more.
use Rattle.std.specs.Prelude.{Bool, ◌==◌, not, nat_lt, cond, ℕ, List, [], ◌∷◌}

-- the list without its first member
abbrev pub rest_of : List ℕ → List ℕ
rest_of [] = []
rest_of (x ∷ xs) = xs

-- whether a new label l goes before a label m that a node owns: the lower first if ordered, and if not, a new one before
-- all but the 0 of a number
abbrev pub goes_before : Bool → ℕ → ℕ → Bool
goes_before ordered l m = cond ordered (nat_lt l m) (not (m == 0))

-- the labels that a node owns with a new one at its place: the ascending one if ordered, and if not first behind the
-- number's 0
abbrev pub with_label : Bool → ℕ → List ℕ → List ℕ
with_label ordered l [] = l ∷ []
with_label ordered l (m ∷ ms) = cond (goes_before ordered l m) (l ∷ m ∷ ms) (m ∷ with_label ordered l ms)
