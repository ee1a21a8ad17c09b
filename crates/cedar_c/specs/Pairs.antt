-- Pairs and keys of C's.
use Rattle.std.specs.Prelude.{◌≡◌, ◌<◌, ◌≤◌, ℕ, Bool, true, false, ℤ, List, [], ◌∷◌}
use Rattle.std.specs.Prelude.{◌++◌, length, map, take, Option, None}
use Rattle.std.specs.Borrow.{Bor}
use Rattle.cedarwood.specs.declared.error.CedarError.{CedarError}
use Rattle.cedarwood.specs.Tree.{number_at}
use Rattle.cedarwood.specs.Queries.{Entry}
use Rattle.cedarwood.specs.Builds.{all_stored, first_fault, path_at}
use Rattle.cedarwood.specs.SortedInput.{fault_from}
use Rattle.cedarwood.specs.State.{State}
use Rattle.cedar_c.specs.declared.erasures.Key.{Key}
use Rattle.cedar_c.specs.declared.pairs.Pair.{Pair}

-- C's pairs as entries of a tree
abbrev pub entries_in : List Pair → List Entry
entries_in pairs = map (λ p. (p.key.now, p.value)) pairs

-- one of C's pairs as the dictionary's own calls take it
abbrev pub taken_pair : Pair → Bor (List ℕ) × ℤ
taken_pair p = (p.key, p.value)

-- the first fault of a build's pairs, which come sorted or in any order
abbrev pub build_fault : Bool → List Entry → Option CedarError
build_fault true entries = fault_from 0 [] entries
build_fault false entries = first_fault entries

-- the bytes of C's keys, each a list
abbrev pub named_keys : List Key → List (List ℕ)
named_keys keys = map (λ k. k.key.now) keys

-- the bytes of the keys of some entries, one after another
abbrev pub keys_in : List Entry → List ℕ
keys_in [] = []
keys_in (e ∷ es) = e.0 ++ keys_in es

-- the first ones of some entries are stored, and nothing else
abbrev pub StoresFront : State → State → List Entry → Type 0
StoresFront before after entries = (m : ℕ) × (m ≤ length entries) × (after ≡ all_stored before (take m entries))

-- the entries before one whose key isn't held then are stored, and nothing else
abbrev pub StoresPart : State → State → List Entry → Type 0
StoresPart before after entries =
    (m : ℕ) × (m < length entries) × (after ≡ all_stored before (take m entries)) × (number_at after.tree (path_at entries m) ≡ None)
