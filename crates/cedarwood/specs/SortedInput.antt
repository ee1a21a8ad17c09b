-- What keeps pairs from being a sorted input.
use Rattle.std.specs.Prelude.{◌≡◌, ◌≢◌, ◌≤◌, ℕ, zero, suc, ◌+◌, ℤ, List, [], ◌∷◌, ◌<◌}
use Rattle.std.specs.Prelude.{get_or, length, Option, Some, None}
use Rattle.std.specs.Cmp.Lexicographic.{slice_cmp}
use Rattle.std.specs.Ordering.{nat_cmp}
use Rattle.std.specs.declared.cmp.Ordering.{Ordering}
use Rattle.std.specs.declared.cmp.Ordering.TheVariants.{Equal, Greater, Less}
use Rattle.cedarwood.specs.declared.error.CedarError.{CedarError}
use Rattle.cedarwood.specs.declared.error.CedarError.TheVariants.{DuplicateKey, KeysNotSorted}
use Rattle.cedar_tree.specs.Queries.{Entry}
use Rattle.cedar_bulk.specs.Sorted.{Pair, entries_of}
use Rattle.cedarwood.specs.Fault.{fault, or_else}

-- the fault of a key that isn't above the one before it, with the pair's index: `DuplicateKey` or `KeysNotSorted`
abbrev pub fault_of_order : ℕ → Ordering → Option CedarError
fault_of_order index Less = None
fault_of_order index Equal = Some (DuplicateKey index)
fault_of_order index Greater = Some (KeysNotSorted index)

-- the fault of a pair that comes behind a key: its own, or else that of its order
abbrev pub fault_behind : ℕ → List ℕ → List ℕ → ℤ → Option CedarError
fault_behind index before key v = or_else (fault key v) (fault_of_order index (slice_cmp nat_cmp before key))

-- the first fault of pairs that come behind a key, counted from an index on
abbrev pub fault_from : ℕ → List ℕ → List Entry → Option CedarError
fault_from index before [] = None
fault_from index before (e ∷ es) = or_else (fault_behind index before e.0 e.1) (fault_from (index + 1) e.0 es)

-- the first fault of a sorted input, pair by pair: the pair's own, or else that of its order. The first key has the
-- empty one before it, which no key repeats and none is below
abbrev pub sorted_fault : List Pair → Option CedarError
sorted_fault pairs = fault_from 0 [] (entries_of pairs)

-- the last key of the first i of some pairs that come behind a key
abbrev pub key_at : List ℕ → List Entry → ℕ → List ℕ
key_at before entries zero = before
key_at before [] (suc i) = before
key_at before (e ∷ es) (suc i) = key_at e.0 es i

-- the bytes of keys are below 256, as their type says
abbrev pub AreBytes : List Entry → Type 0
AreBytes [] = Unit {0}
AreBytes (e ∷ es) = ((i : ℕ) → get_or e.0 i 0 < 256) × AreBytes es

-- ---- what a quick test reads

-- no byte is 0
abbrev pub HasNoNul : List ℕ → Type 0
HasNoNul key = (i : ℕ) → i < length key → get_or key i 0 ≢ 0

-- two keys share their first n bytes, and no more
pub record IsSharedFront (before key : List ℕ) (n : ℕ) : Type 0 where
  pub in_before : n ≤ length before
  pub in_key : n ≤ length key
  pub same : (i : ℕ) → i < n → get_or before i 0 ≡ get_or key i 0
  pub ends : n < length before → n < length key → get_or before n 0 ≢ get_or key n 0
