-- What may be meant by what somebody types.
use Rattle.std.specs.Prelude.{ℕ, List, [], ◌∷◌, filter}
use Rattle.best_few.specs.Orders.{best}
use Rattle.best_few.specs.declared.order.ByValue.TheVariants.{HighestFirst}
use Rattle.byte_automata.specs.Distances.{is_near}
use Rattle.byte_automata.specs.Fronts.{has_front}
use Rattle.cedarwood.specs.Queries.{Entry, walk}
use Rattle.cedarwood.specs.Ranges.{entries_with}
use Rattle.cedarwood.specs.Tree.{Tree}

-- some entries, or others where there are none of them
abbrev pub first_filled : List Entry → List Entry → List Entry
first_filled [] others = others
first_filled (e ∷ es) others = e ∷ es

-- the best of the entries that begin with a text, or where none does, of those that begin with what is one edit away from it
abbrev pub suggestions : Tree → List ℕ → ℕ → List Entry
suggestions tree typed most =
    first_filled (best HighestFirst most (entries_with tree typed)) (best HighestFirst most (filter (λ e. has_front (is_near typed 1) e.0) (walk tree)))
