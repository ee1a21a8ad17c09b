-- A key that a walk keeps in step with its node, and the room that it needs.
use Rattle.std.specs.Prelude.{◌≡◌, ℕ, ◌-◌, ◌<◌, List, [], ◌∷◌, ◌++◌, length}
use Rattle.cedar_model.specs.Queries.{Entry}
use Rattle.cedar_model.specs.Walks.{visited_entries}
use Rattle.cedar_model.specs.Table.TableFields.{Fields}
use Rattle.cedar_model.specs.Meaning.WellFormed.{cells_in}
use Rattle.cedar_walk.specs.declared.visits.Numbered.{Numbered}
use Rattle.cedar_walk.specs.Visits.{entries_at, IsBelow, left_at, path_to}

-- a key that ended in the path to slot s, n labels below the node where the walk began, ends in the path to the next
-- slot, and what is in front of that is as it was
abbrev pub KeyGoesOn : Fields → ℕ → ℕ → List ℕ → List ℕ → Numbered → Type 0
KeyGoesOn T n s old new next = (front : List ℕ) → old ≡ front ++ path_to T n s → new ≡ front ++ path_to T next.depth next.slot

-- there is an entry, and the key of the first one has more than `room` bytes
abbrev pub KeyOutgrows : ℕ → List Entry → Type 0
KeyOutgrows room [] = ⊥
KeyOutgrows room (entry ∷ later) = room < length entry.0

-- a key of `long` bytes ends in the path to slot s, n labels below the node where the walk began. What is in front of
-- that path stays. So the key of the first entry that the walk comes to, at s or further on, is too long for a buffer
-- with a capacity of `room` bytes
abbrev pub FirstKeyOutgrows : Fields → ℕ → ℕ → ℕ → ℕ → Type 0
FirstKeyOutgrows T n s long room = (start : List ℕ) → IsBelow (cells_in T) start n s → KeyOutgrows (room - (long - n)) (entries_at T start n s)

-- the same as `FirstKeyOutgrows` of the next entry, where the walk has been at slot s
abbrev pub NextKeyOutgrows : Fields → ℕ → ℕ → ℕ → ℕ → Type 0
NextKeyOutgrows T n s long room = (start : List ℕ) → IsBelow (cells_in T) start n s → KeyOutgrows (room - (long - n)) (visited_entries (left_at T start n s))
