-- What a caller sees of a dictionary.
use Rattle.std.specs.Prelude.{◌≡◌, ℕ, zero, suc, ◌+◌, ◌*◌, ◌^◌, ◌<◌, ◌≤◌, ◌==◌, Bool, true, cond}
use Rattle.std.specs.Prelude.{List, [], ◌∷◌, length, ℤ, None, is_some}
use Rattle.std.specs.Coded.{Coded, code_by, coded×, coded_ℕ, coded_ℤ}
use Rattle.std.proofs.Common.{refl}
use Rattle.cedar_tree.specs.Queries.{prefixes, walk}
use Rattle.cedar_tree.specs.State.{State, state_code}
use Rattle.cedar_tree.specs.Stored.{coded_tree}
use Rattle.cedar_tree.specs.Tree.{AllNumbers, Forest, none, child, IsAscending}
use Rattle.cedar_tree.specs.Tree.{IsSound, number_at, Tree}
use Rattle.cedar_model.specs.Meaning.StandsFor.{labels}
use Rattle.cedar_model.specs.Table.TableFields.{Fields}
use Rattle.cedarwood.specs.TableCode.{fields_code}
use Rattle.cedarwood.specs.declared.figures.MemoryStats.{MemoryStats}
use Rattle.cedar_model.specs.Meaning.WellFormed.{is_value}

-- what a contract sees of a dictionary, which is kept in its `table`
pub record Dictionary : Type 0 where
  -- the tree that its results come from, and whether labels ascend
  pub state : State
  -- the tree of marks: with just those numbers that have slots of their own
  pub marked : Tree
  -- how many failed searches for places close a block
  pub max_trial : ℤ
  -- how many blocks one search for places tries at most
  pub search_limit : ℕ
  -- how many slots are in use, held and free: 256 times the number of blocks in use
  pub size : ℕ
  -- how many slots there are
  pub capacity : ℕ
  -- the fields of its table, as a file has them
  pub table : Fields

-- the bound of a search that nothing bounds: 2^64 - 1 blocks
abbrev pub no_search_limit : ℕ
no_search_limit = 18446744073709551615

-- a dictionary as plain data, for `impl Model` alone
abbrev pub dictionary_code : Coded Dictionary
dictionary_code =
    code_by ((((State × Tree) × (ℤ × ℕ)) × (ℕ × ℕ)) × Fields) (coded× (coded× (coded× (coded× state_code coded_tree) (coded× coded_ℤ coded_ℕ)) (coded× coded_ℕ coded_ℕ)) fields_code)
    (λ d. ((((d.state, d.marked), (d.max_trial, d.search_limit)), (d.size, d.capacity)), d.table))
    (λ p. record { state = p.0.0.0.0; marked = p.0.0.0.1; max_trial = p.0.0.1.0; search_limit = p.0.0.1.1; size = p.0.1.0; capacity = p.0.1.1; table = p.1 })
    (λ _. refl)

-- how many slots there are once n blocks more are in use: twice as many where all are in use
unfoldable pub capacity_after : ℕ → ℕ → ℕ → ℕ
capacity_after zero size capacity = capacity
capacity_after (suc n) size capacity = capacity_after n (size + 256) (cond (size == capacity) (2 * capacity) capacity)

-- n more blocks of 256 slots are in use, and the slots have doubled exactly if all were in use (`capacity_after`)
pub record Grows (n : ℕ) (before after : Dictionary) : Type 0 where
  pub size : after.size ≡ before.size + 256 * n
  pub capacity : after.capacity ≡ capacity_after n before.size before.capacity

-- how many bytes begin a key: so many children has the root of the tree t
abbrev pub first_bytes : Tree → ℕ
first_bytes t = length (labels t.children)

-- how many slots are held: one for the root, one for each prefix, and one for each number that has a slot of its own
abbrev pub held_slots : Dictionary → ℕ
held_slots d = 1 + length (prefixes d.state.tree) + length (walk d.marked)

-- siblings with just those of their numbers whose paths pass a test
abbrev pub with_some : (List ℕ → Bool) → Forest → Forest
with_some test none = none
with_some test (child l n below rest) = child l (cond (test (l ∷ [])) n None) (with_some (λ path. test (l ∷ path)) below) (with_some test rest)

-- a tree with all of its nodes, and just those of its numbers whose paths pass a test
abbrev pub some_numbers : (List ℕ → Bool) → Tree → Tree
some_numbers test t = record { number = None; children = with_some test t.children }

-- the tree of marks has all nodes, and those numbers of the tree whose keys have marks: so it is known once these
-- keys are
abbrev pub IsMarked : Dictionary → Type 0
IsMarked d = d.marked ≡ some_numbers (λ path. is_some (number_at d.marked path)) d.state.tree

-- what holds of each dictionary that may have `slots` slots: the tree is sound, labels ascend if it is ordered, marks
-- are as `IsMarked` says, and values are in range
pub record IsValid (slots : ℕ) (d : Dictionary) : Type 0 where
  pub sound : IsSound d.state.tree
  pub ascending : d.state.ordered ≡ true → IsAscending d.state.tree.children
  pub marked : IsMarked d
  pub values : AllNumbers (λ v. is_value v ≡ true) d.state.tree.children
  -- the slots in use are whole blocks, one or more, and no more than there are; there are 256 times a power of two,
  -- and no more than `slots`
  pub blocks : (n : ℕ) × (0 < n) × (d.size ≡ 256 * n)
  pub doubled : (k : ℕ) × (d.capacity ≡ 256 * 2 ^ k)
  pub room : d.size ≤ d.capacity
  pub within : d.capacity ≤ slots

-- all four figures are the same
abbrev pub AreSameFigures : MemoryStats → MemoryStats → Type 0
AreSameFigures one other =
    (one.entries ≡ other.entries) × (one.used_node_slots ≡ other.used_node_slots) × (one.node_capacity ≡ other.node_capacity) × (one.allocated_bytes ≡ other.allocated_bytes)
