-- The first and the last entry of a dictionary of either layout.
use Rattle.std.specs.Prelude.{◌≡◌, ℕ, ℤ, [], MatchOption, Option, Some}
use Rattle.std.specs.declared.vec.Vec.{Vec}
use Rattle.cedarwood.specs.Queries.{Entry, walk}
use Rattle.cedarwood.specs.Tree.{Tree}

-- this entry of a tree is given, as its key and its value, or None if the tree has no entry
abbrev pub GivesEnd : {A : Type 0} → Tree → Option Entry → Option (Vec ℕ A × ℤ) → Type 0
GivesEnd tree end found = MatchOption found (walk tree ≡ []) (λ entry. end ≡ Some (entry.0.items, entry.1))
