-- The laws of the labelled tree, each as a statement. Functions of this crate have them as their contracts.
use Rattle.std.specs.Prelude.{◌≡◌, ◌≢◌, ℕ, ℤ, ◌+◌, ◌-◌, Bool, true, false, not, List, []}
use Rattle.std.specs.Prelude.{◌∷◌, ◌++◌, ◌<◌, length, take, map, None, Some, IfSome}
use Rattle.std.specs.Prelude.{is_some, ◌↔◌, if◌then◌else◌}
use Rattle.std.specs.List.{Contains, filter, AllByRecursion}
use Rattle.std.specs.List.Sorted.{IsStrictlySortedBy}
use Rattle.std.specs.Ordering.{nat_cmp}
use Rattle.cedar_tree.specs.Tree.{Tree, IsPath, IsKey, IsSound, IsSoundBelow, IsAscending}
use Rattle.cedar_tree.specs.Tree.{AllNumbers, number_at, put, is_bare, cut}
use Rattle.cedar_tree.specs.Laws.{ArePathsAscending, ArePathsKeys, IsTreeOf, ComesBefore}
use Rattle.cedar_tree.specs.Laws.{IsPartOf, fronts, missing_nodes, bare_nodes}
use Rattle.cedar_tree.specs.Queries.{Entry, asc, last_at, walk, front, predict, node_at, prefixes}
use Rattle.cedar_tree.specs.Queries.{slots_of_tree, is_path, entry_at, IsFront}

-- a put number is at its path
abbrev pub PutIsReadBack : Type 0
PutIsReadBack =
    (t : Tree) (ordered : Bool) (k : List ℕ) (v : ℤ) → number_at (put t ordered k v) k ≡ Some v

-- a put leaves each other path's number
abbrev pub PutStaysLocal : Type 0
PutStaysLocal =
    (t : Tree) (ordered : Bool) (k : List ℕ) (v : ℤ) (q : List ℕ) → (q ≢ k) → number_at (put t ordered k v) q ≡ number_at t q

-- after a cut nothing is at its path
abbrev pub CutIsReadBack : Type 0
CutIsReadBack =
    (t : Tree) (k : List ℕ) → IsSoundBelow t.children → number_at (cut t k) k ≡ None

-- a cut leaves each other path's number
abbrev pub CutStaysLocal : Type 0
CutStaysLocal =
    (t : Tree) (k : List ℕ) (q : List ℕ) → IsSoundBelow t.children → (q ≢ k) → number_at (cut t k) q ≡ number_at t q

-- of two puts at a path the later one counts
abbrev pub LaterPutStands : Type 0
LaterPutStands =
    (t : Tree) (ordered : Bool) (k : List ℕ) (v : ℤ) (w : ℤ) → put (put t ordered k v) ordered k w ≡ put t ordered k w

-- a put of what is held changes nothing
abbrev pub HeldPutChangesNothing : Type 0
HeldPutChangesNothing =
    (t : Tree) (ordered : Bool) (k : List ℕ) (v : ℤ) → number_at t k ≡ Some v → put t ordered k v ≡ t

-- a cut of what isn't held changes nothing
abbrev pub MissedCutChangesNothing : Type 0
MissedCutChangesNothing =
    (t : Tree) (k : List ℕ) → IsSoundBelow t.children → number_at t k ≡ None → cut t k ≡ t

-- a put of a path that isn't held is taken back by a cut
abbrev pub CutUndoesPut : Type 0
CutUndoesPut =
    (t : Tree) (ordered : Bool) (k : List ℕ) (v : ℤ) → IsSoundBelow t.children → number_at t k ≡ None → cut (put t ordered k v) k ≡ t

-- after a cut a tree is as if it had been cut without the put before
abbrev pub CutForgetsPut : Type 0
CutForgetsPut =
    (t : Tree) (ordered : Bool) (k : List ℕ) (v : ℤ) → IsSoundBelow t.children → cut (put t ordered k v) k ≡ cut t k

-- a put at a key keeps a tree sound
abbrev pub PutKeepsSound : Type 0
PutKeepsSound =
    (t : Tree) (ordered : Bool) (k : List ℕ) (v : ℤ) → IsKey k → IsSound t → IsSound (put t ordered k v)

-- a cut keeps a tree sound
abbrev pub CutKeepsSound : Type 0
CutKeepsSound =
    (t : Tree) (k : List ℕ) → IsSound t → IsSound (cut t k)

-- where each number passes a test, this stays so after a put of one that passes
abbrev pub PutKeepsPassing : Type 0
PutKeepsPassing =
    (test : ℤ → Bool) (t : Tree) (ordered : Bool) (k : List ℕ) (v : ℤ) → test v ≡ true
    → AllNumbers (λ w. test w ≡ true) t.children → AllNumbers (λ w. test w ≡ true) (put t ordered k v).children

-- where each number passes a test, this stays so after a cut
abbrev pub CutKeepsPassing : Type 0
CutKeepsPassing =
    (test : ℤ → Bool) (t : Tree) (k : List ℕ) → AllNumbers (λ w. test w ≡ true) t.children → AllNumbers (λ w. test w ≡ true) (cut t k).children

-- where each number passes a test, each number that is found passes it
abbrev pub FoundPasses : Type 0
FoundPasses =
    (test : ℤ → Bool) (t : Tree) (k : List ℕ) → t.number ≡ None → AllNumbers (λ w. test w ≡ true) t.children
    → IfSome (number_at t k) (λ w. test w ≡ true)

-- an ordered put keeps the labels ascending
abbrev pub PutKeepsAscending : Type 0
PutKeepsAscending =
    (t : Tree) (k : List ℕ) (v : ℤ) → IsAscending t.children → IsAscending (put t true k v).children

-- a cut keeps the labels ascending
abbrev pub CutKeepsAscending : Type 0
CutKeepsAscending =
    (t : Tree) (k : List ℕ) → IsAscending t.children → IsAscending (cut t k).children

-- an entry is in the walk exactly if it is held
abbrev pub WalkHasHeld : Type 0
WalkHasHeld =
    (t : Tree) (k : List ℕ) (v : ℤ) → IsSoundBelow t.children → (Contains (walk t) (k, v) ↔ (number_at t k ≡ Some v))

-- for each path the walk has its one entry, or none
abbrev pub WalkHasEachOnce : Type 0
WalkHasEachOnce =
    (t : Tree) (k : List ℕ) → IsSoundBelow t.children → filter (λ entry. is_path k entry.0) (walk t) ≡ entry_at k (number_at t k)

-- a put leaves the entries at other paths, in their order
abbrev pub PutKeepsOtherEntries : Type 0
PutKeepsOtherEntries =
    (t : Tree) (ordered : Bool) (k : List ℕ) (v : ℤ) → IsPath k → IsSoundBelow t.children
    → filter (λ entry. not (is_path k entry.0)) (walk (put t ordered k v)) ≡ filter (λ entry. not (is_path k entry.0)) (walk t)

-- a cut takes out the entry at its path, and no other
abbrev pub CutKeepsOtherEntries : Type 0
CutKeepsOtherEntries =
    (t : Tree) (k : List ℕ) → IsSoundBelow t.children → walk (cut t k) ≡ filter (λ entry. not (is_path k entry.0)) (walk t)

-- a key comes before its extensions in the walk, whatever the order of labels
abbrev pub KeysComeBeforeExtensions : Type 0
KeysComeBeforeExtensions =
    (t : Tree) (k : List ℕ) (rest : List ℕ) (v : ℤ) (w : ℤ) → IsSoundBelow t.children → 0 < length rest
    → number_at t k ≡ Some v → number_at t (k ++ rest) ≡ Some w → ComesBefore (walk t) (k, v) (k ++ rest, w)

-- the prefix walk has v at n exactly if the first n + 1 bytes of the query are held with v
abbrev pub FrontHasHeld : Type 0
FrontHasHeld =
    (t : Tree) (q : List ℕ) (v : ℤ) (n : ℕ) → (Contains (front t q) (v, n) ↔ ((n < length q) × (number_at t (take (n + 1) q) ≡ Some v)))

-- the positions of a prefix walk ascend, so it has each once
abbrev pub FrontAscends : Type 0
FrontAscends =
    (t : Tree) (q : List ℕ) → IsStrictlySortedBy nat_cmp (map (λ found. found.1) (front t q))

-- a prediction has v with m exactly if some key of m bytes more than the query begins with it and holds v
abbrev pub PredictHasHeld : Type 0
PredictHasHeld =
    (t : Tree) (q : List ℕ) (v : ℤ) (m : ℕ) → IsSoundBelow t.children
    → (Contains (predict t q) (v, m) ↔ ((p : List ℕ) × (length p ≡ m) × (number_at t (q ++ p) ≡ Some v)))

-- the predictions are some of the walk, in its order
abbrev pub PredictIsPartOfWalk : Type 0
PredictIsPartOfWalk =
    (t : Tree) (q : List ℕ) → IsPartOf (predict t q) (map (λ entry. (entry.1, length entry.0 - length q)) (walk t))

-- the predictions are the walk of the query's node
abbrev pub PredictIsWalkOfNode : Type 0
PredictIsWalkOfNode =
    (t : Tree) (q : List ℕ) → IsSoundBelow t.children → predict t q ≡ map (λ entry. (entry.1, length entry.0)) (walk (node_at t q))

-- for the empty query the predictions are the whole walk
abbrev pub PredictOfNothingIsWalk : Type 0
PredictOfNothingIsWalk =
    (t : Tree) → predict t [] ≡ map (λ entry. (entry.1, length entry.0)) (walk t)

-- the prefixes have each nonempty front of a key, once
abbrev pub PrefixesHaveFronts : Type 0
PrefixesHaveFronts =
    (t : Tree) (p : List ℕ) → IsSoundBelow t.children → IsFront t p → filter (is_path p) (prefixes t) ≡ p ∷ []

-- the prefixes have no path but the nonempty fronts of keys
abbrev pub PrefixesHaveNoOther : Type 0
PrefixesHaveNoOther =
    (t : Tree) (p : List ℕ) → IsSoundBelow t.children → (IsFront t p → ⊥) → filter (is_path p) (prefixes t) ≡ []

-- a put adds an entry where its path isn't held
abbrev pub PutCountsEntries : Type 0
PutCountsEntries =
    (t : Tree) (ordered : Bool) (k : List ℕ) (v : ℤ) → length (walk (put t ordered k v)) ≡ length (walk t) + (if is_some (number_at t k) then 0 else 1)

-- a cut takes one entry away where its path is held
abbrev pub CutCountsEntries : Type 0
CutCountsEntries =
    (t : Tree) (k : List ℕ) → length (walk (cut t k)) + (if is_some (number_at t k) then 1 else 0) ≡ length (walk t)

-- a put adds a prefix for each node of its path that the tree doesn't have
abbrev pub PutCountsPrefixes : Type 0
PutCountsPrefixes =
    (t : Tree) (ordered : Bool) (k : List ℕ) (v : ℤ) → length (prefixes (put t ordered k v)) ≡ length (prefixes t) + missing_nodes t k

-- a cut takes away the prefixes of the nodes that it leaves bare
abbrev pub CutCountsPrefixes : Type 0
CutCountsPrefixes =
    (t : Tree) (k : List ℕ) → length (prefixes (cut t k)) + bare_nodes t k ≡ length (prefixes t)

-- a put takes a slot more for each new node, and one for a new number
abbrev pub PutCountsSlots : Type 0
PutCountsSlots =
    (t : Tree) (ordered : Bool) (k : List ℕ) (v : ℤ) →
    slots_of_tree (put t ordered k v) ≡ slots_of_tree t + missing_nodes t k + (if is_some (number_at t k) then 0 else 1)

-- a cut gives back a slot for each node that it leaves bare, and one for the number
abbrev pub CutCountsSlots : Type 0
CutCountsSlots =
    (t : Tree) (k : List ℕ) →
    slots_of_tree (cut t k) + bare_nodes t k + (if is_some (number_at t k) then 1 else 0) ≡ slots_of_tree t

-- the missing nodes of a path are its fronts that lead to no node
abbrev pub MissingAreBareFronts : Type 0
MissingAreBareFronts =
    (t : Tree) (k : List ℕ) → IsSoundBelow t.children → missing_nodes t k ≡ length (filter (λ p. is_bare (node_at t p)) (fronts k))

-- a front leads to a node exactly if some key begins with it
abbrev pub NodesAreFronts : Type 0
NodesAreFronts =
    (t : Tree) (p : List ℕ) → IsSoundBelow t.children → 0 < length p → ((is_bare (node_at t p) ≡ false) ↔ IsFront t p)

-- of a path that is held no node is missing
abbrev pub HeldMissesNone : Type 0
HeldMissesNone =
    (t : Tree) (k : List ℕ) (v : ℤ) → number_at t k ≡ Some v → missing_nodes t k ≡ 0

-- after a cut those nodes are missing too that it left bare
abbrev pub CutMissesMore : Type 0
CutMissesMore =
    (t : Tree) (k : List ℕ) → IsSoundBelow t.children → missing_nodes (cut t k) k ≡ bare_nodes t k + missing_nodes t k

-- the paths of the walk ascend by bytes where the labels do
abbrev pub WalkAscends : Type 0
WalkAscends =
    (t : Tree) → IsAscending t.children → ArePathsAscending (walk t)

-- two sound trees whose labels ascend, and which hold the same, are one
abbrev pub OneTree : Type 0
OneTree =
    (t : Tree) (u : Tree) → IsSound t → IsSound u → IsAscending t.children → IsAscending u.children
    → ((k : List ℕ) → number_at t k ≡ number_at u k) → t ≡ u

-- the tree of pairs whose paths are keys is sound
abbrev pub BuiltIsSound : Type 0
BuiltIsSound =
    (pairs : List Entry) → ArePathsKeys pairs → IsSound (asc pairs)

-- the tree of some pairs has ascending labels
abbrev pub BuiltIsAscending : Type 0
BuiltIsAscending =
    (pairs : List Entry) → IsAscending (asc pairs).children

-- the numbers of the tree of some pairs pass a test that those of the pairs pass
abbrev pub BuiltPasses : Type 0
BuiltPasses =
    (test : ℤ → Bool) (pairs : List Entry) → AllByRecursion (λ pair. test pair.1 ≡ true) pairs
    → AllNumbers (λ w. test w ≡ true) (asc pairs).children

-- at each path the tree of some pairs holds what the last pair with this path has
abbrev pub BuiltHoldsLast : Type 0
BuiltHoldsLast =
    (pairs : List Entry) (k : List ℕ) → number_at (asc pairs) k ≡ last_at k None pairs

-- pairs at keys that ascend by bytes have a tree: the one that putting them in order makes
abbrev pub SortedPairsHaveTree : Type 0
SortedPairsHaveTree =
    (pairs : List Entry) → ArePathsKeys pairs → ArePathsAscending pairs → IsTreeOf pairs (asc pairs)

-- pairs at keys that ascend by bytes have no other tree than that one
abbrev pub PairsHaveOneTree : Type 0
PairsHaveOneTree =
    (pairs : List Entry) (t : Tree) (u : Tree) → IsTreeOf pairs t → IsTreeOf pairs u → t ≡ u

-- the entries of a sound tree are at keys
abbrev pub EntriesAreKeys : Type 0
EntriesAreKeys =
    (t : Tree) → IsSound t → ArePathsKeys (walk t)

-- putting the entries of a sound tree whose labels ascend makes that tree again
abbrev pub EntriesMakeTree : Type 0
EntriesMakeTree =
    (t : Tree) → IsSound t → IsAscending t.children → asc (walk t) ≡ t
