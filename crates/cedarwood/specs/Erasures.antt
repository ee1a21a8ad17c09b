-- What an erasure of all keys that begin with a prefix returns, and what it leaves.
use Rattle.std.specs.Prelude.{◌≡◌, ◌↔◌, ℕ, nat_eq, not, false, if◌then◌else◌, List}
use Rattle.std.specs.Prelude.{[], filter, fold, length, None}
use Rattle.std.specs.List.{starts_with}
use Rattle.cedar_tree.specs.Tree.{Tree, empty_tree, number_at}
use Rattle.cedar_tree.specs.Queries.{Entry, walk}
use Rattle.cedar_tree.specs.State.{State, after_erase}
use Rattle.cedar_model.specs.Meaning.Marks.{HasMark}
use Rattle.cedar_walk.specs.Ranges.{entries_with}
use Rattle.cedarwood.specs.Dictionary.{Dictionary, IsMarked}

-- the state after the keys of some entries were erased one after another
abbrev pub all_erased : State → List Entry → State
all_erased s entries = fold (λ t entry. after_erase t entry.0) s entries

-- the state with the keys that begin with q cut one after another
abbrev pub erased_under : State → List ℕ → State
erased_under s q = all_erased s (entries_with s.tree q)

-- of the walk the entries whose path doesn't begin with q
abbrev pub entries_without : Tree → List ℕ → List Entry
entries_without t q = filter (λ e. not (starts_with nat_eq e.0 q)) (walk t)

-- what an erasure of all keys that begin with q does to trees of marks: it takes away the marks of these keys alone
abbrev pub MarksCutUnder : Tree → Tree → List ℕ → Type 0
MarksCutUnder m m' q = (w : List ℕ) → HasMark m' w ↔ ((starts_with nat_eq w q ≡ false) × HasMark m w)

-- all keys that begin with q are erased, and n is how many these were
pub record IsErasedUnder (before after : Dictionary) (q : List ℕ) (n : ℕ) : Type 0 where
  pub count : n ≡ length (entries_with before.state.tree q)
  pub state : after.state ≡ erased_under before.state q
  -- the walk has the other entries, in their order. At each key that begins with q nothing is held, and at any other
  -- what was
  pub others : walk after.state.tree ≡ entries_without before.state.tree q
  pub gone : entries_with after.state.tree q ≡ []
  pub held : (key : List ℕ) → number_at after.state.tree key ≡ (if starts_with nat_eq key q then None else number_at before.state.tree key)
  pub ordered : after.state.ordered ≡ before.state.ordered
  pub marks : MarksCutUnder before.marked after.marked q
  pub marked : IsMarked after
  pub size : (after.size ≡ before.size) × (after.capacity ≡ before.capacity)
  pub max_trial : after.max_trial ≡ before.max_trial
  pub search_limit : after.search_limit ≡ before.search_limit

-- no key is held any more. The slots in use, those there are and the settings are as before
pub record IsCleared (before after : Dictionary) : Type 0 where
  pub tree : after.state.tree ≡ empty_tree
  pub unmarked : after.marked ≡ empty_tree
  pub ordered : after.state.ordered ≡ before.state.ordered
  pub size : (after.size ≡ before.size) × (after.capacity ≡ before.capacity)
  pub max_trial : after.max_trial ≡ before.max_trial
  pub search_limit : after.search_limit ≡ before.search_limit
