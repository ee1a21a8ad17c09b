-- Siblings that a walk keeps, to which it has still to come.
use Rattle.std.specs.Prelude.{◌≡◌, ◌==◌, cond, ℕ, zero, suc, ◌-◌, ◌<◌, List}
use Rattle.std.specs.Prelude.{[], ◌∷◌, get_or, length}
use Rattle.cedar_model.specs.Queries.{Entry}
use Rattle.cedar_model.specs.Walks.{Visit, visited_entries}
use Rattle.cedar_walk.specs.declared.pending.PendingSibling.{PendingSibling}
use Rattle.cedar_walk.specs.declared.visits.Place.{Place}
use Rattle.cedar_model.specs.Meaning.Family.{below}
use Rattle.cedar_model.specs.Table.TableFields.{Fields}
use Rattle.cedar_model.specs.Meaning.WellFormed.{cells_in}
use Rattle.cedar_walk.specs.Visits.{entries_at, IsBelow, left_after, left_at, owner_of}

-- the first n of some siblings, from the last one to the first
abbrev pub nearest_first : List PendingSibling → ℕ → List PendingSibling
nearest_first kept zero = []
nearest_first kept (suc n) = get_or kept n (record { slot = 0; depth = 0; label = 0 }) ∷ nearest_first kept n

-- what stays of some siblings behind a nearer one: all of them, or none if there is no room
abbrev pub kept_behind : List PendingSibling → List PendingSibling
kept_behind siblings = cond (length siblings == 16) [] siblings

-- a walk below the path `start` has come to slot s, n labels below, and not yet been at it; these entries are left
pub record ComesAt (T : Fields) (start : List ℕ) (left : List Entry) (n s : ℕ) : Type 0 where
  pub below : IsBelow (cells_in T) start n s
  pub entries : left ≡ entries_at T start n s

-- a walk that is at slot s, n labels below the node where it began, comes next to slot `next`, m labels below, the
-- last of which is this one
pub record ComesNextTo (T : Fields) (left : Fields → List ℕ → ℕ → ℕ → List Visit) (n s m next label : ℕ) : Type 0 where
  pub deep : 0 < m
  pub last : label ≡ below (cells_in T) (owner_of (cells_in T) next) next
  pub comes : (start : List ℕ) → IsBelow (cells_in T) start n s → ComesAt T start (visited_entries (left T start n s)) m next

-- a walk that is through with all below slot s, n labels below the node where it began, comes to these siblings one
-- after another: to each further one once it is through with all below the node above the one before
abbrev pub IsPending : Fields → List PendingSibling → ℕ → ℕ → Type 0
IsPending T [] n s = Unit {0}
IsPending T (sibling ∷ farther) n s =
    ComesNextTo T left_after n s sibling.depth sibling.slot sibling.label × IsPending T farther (sibling.depth - 1) (owner_of (cells_in T) sibling.slot)

-- a walk that has been at slot s goes to a place, and keeps siblings that are right for the node above that
pub record GoesKeeping (T : Fields) (n s : ℕ) (siblings : List PendingSibling) (place : Place) : Type 0 where
  pub leads : ComesNextTo T left_at n s place.depth place.slot place.label
  pub kept : IsPending T siblings (place.depth - 1) (owner_of (cells_in T) place.slot)

-- the walk has no entry left
abbrev pub NoneLeft : Fields → ℕ → ℕ → Type 0
NoneLeft T n s = (start : List ℕ) → IsBelow (cells_in T) start n s → visited_entries (left_at T start n s) ≡ []
