-- How far walks that are under way are in a table.
use Rattle.std.specs.Prelude.{◌≡◌, ◌==◌, cond, ℕ, ◌<◌, ◌≤◌, ℤ, List, [], ◌∷◌, length}
use Rattle.std.specs.Prelude.{map, MatchOption, Option, Some}
use Rattle.cedar_tree.specs.Queries.{Entry, predict}
use Rattle.cedar_tree.specs.Walks.{visited_entries}
use Rattle.cedar_walk.specs.declared.pending.PendingSibling.{PendingSibling}
use Rattle.cedar_walk.specs.declared.visits.Numbered.{Numbered}
use Rattle.cedar_walk.specs.Fronts.{IsOnQuery}
use Rattle.cedar_walk.specs.Pending.{IsPending}
use Rattle.cedar_model.specs.Table.TableFields.{Fields}
use Rattle.cedar_walk.specs.Visits.{IsBelow, IsNumberedBelow, left_at, number_below, path_to}
use Rattle.cedar_model.specs.Meaning.WellFormed.{cells_in, IsWellFormed, tree_of}
use Rattle.cedarwood.specs.declared.queries.predict.PredictPlace.{PredictPlace}
use Rattle.cedarwood.specs.declared.queries.predict.PredictPlace.TheVariants.{End, Node, Start}

-- a prefix walk has passed the first bytes of its query, which lead to slot s; or it has ended, and passed them all
pub record IsPrefixPlace (slots : ℕ) (T : Fields) (query : List ℕ) (place s : ℕ) : Type 0 where
  pub table : IsWellFormed slots T
  pub within : place ≤ length query
  pub on : place < length query → IsOnQuery T query place s

-- the items that a prediction gives for some entries below its query: their values, and how many bytes follow the query
abbrev pub answers_of : List Entry → List (ℤ × ℕ)
answers_of entries = map (λ entry. (entry.1, length entry.0)) entries

-- the items that a prediction has left at a place
abbrev pub predicted_from : Fields → List ℕ → PredictPlace → List (ℤ × ℕ)
predicted_from T query Start = predict (tree_of T) query
predicted_from T query (Node slot depth) = answers_of (visited_entries (left_at T query depth slot))
predicted_from T query End = []

-- a prediction is at a node with a number below its query, and keeps siblings that are right for it
abbrev pub IsPredictPlace : Fields → List ℕ → PredictPlace → List PendingSibling → Type 0
IsPredictPlace T query Start siblings = Unit {0}
IsPredictPlace T query (Node slot depth) siblings = IsNumberedBelow T query depth slot × IsPending T siblings depth slot
IsPredictPlace T query End siblings = Unit {0}

-- from a place the walk comes to a node with a number: its item is the first of those left
pub record GoesOnTo (T : Fields) (query : List ℕ) (place : PredictPlace) (siblings : List PendingSibling) (next : Numbered) : Type 0 where
  pub stands : IsPredictPlace T query (Node next.slot next.depth) siblings
  pub rest : predicted_from T query place ≡ (next.number, next.depth) ∷ predicted_from T query (Node next.slot next.depth)

-- the entries that a walk over all keys has left, where it has been at slot s, at the end of the path `key`, and `left` entries are
-- still to come
abbrev pub entries_from : Fields → List ℕ → ℕ → ℕ → List Entry
entries_from T key s left = cond (left == 0) [] (visited_entries (left_at T [] (length key) s))

-- a walk over all keys is at the root or at a node with a number, as long as it has an entry left
pub record IsEntriesPlace (T : Fields) (key : List ℕ) (s : ℕ) : Type 0 where
  pub below : IsBelow (cells_in T) [] (length key) s
  pub path : path_to T (length key) s ≡ key
  pub number : (s ≡ 0 → ⊥) → (v : ℤ) × (number_below T [] (length key) s ≡ Some v)

-- a walk over all keys comes to an entry: the first of those left
pub record ComesToEntry (T : Fields) (left : List Entry) (key : List ℕ) (found : ℕ × ℤ) : Type 0 where
  pub place : IsEntriesPlace T key found.0
  pub entries : left ≡ (key, found.1) ∷ visited_entries (left_at T [] (length key) found.0)

-- a walk that has been at slot s, at the end of a key, goes to the next entry, at the end of another key, unless none is left
abbrev pub GoesToEntry : Fields → ℕ → List ℕ → List ℕ → Option (ℕ × ℤ) → Type 0
GoesToEntry T s before after next =
    MatchOption next (visited_entries (left_at T [] (length before) s) ≡ []) (ComesToEntry T (visited_entries (left_at T [] (length before) s)) after)

-- the same as `GoesToEntry`, with a copy of that key, whose bytes `bytes_of` gives
abbrev pub GoesToCopied : {X : Type 0} → (X → List ℕ) → Fields → ℕ → List ℕ → List ℕ → Option (ℕ × ℤ × X) → Type 0
GoesToCopied bytes_of T s before after next =
    MatchOption next (visited_entries (left_at T [] (length before) s) ≡ [])
    (λ entry. (bytes_of entry.2 ≡ after) × ComesToEntry T (visited_entries (left_at T [] (length before) s)) after (entry.0, entry.1))
