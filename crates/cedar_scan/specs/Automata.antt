-- What the states of an automaton stand for.
use Rattle.std.specs.Prelude.{◌≡◌, ◌⊎◌, ℕ, zero, suc, ◌+◌, ◌*◌, ◌%◌, ◌^◌, ◌<◌, ◌≤◌, Bool, ◌&&◌, ◌==◌, true, nat_lt, if◌then◌else◌}
use Rattle.std.specs.Prelude.{List, [], ◌∷◌, ◌++◌, length, bit_or, bit_xor, slice_index_or, slice_set}
use Rattle.std.specs.Prelude.{Option, None, Some, unwrap_or}
use Rattle.std.specs.Int.{bit_at}
use Rattle.std.specs.List.{All, Contains}
use Rattle.std.specs.List.Sorted.{IsNonDecreasingBy}
use Rattle.cedar_tree.specs.Tree.{number_at, Tree}
use Rattle.cedar_tree.specs.Walks.{forwards}
use Rattle.cedar_scan.specs.Counts.{count_below}
use Rattle.cedar_scan.specs.Listed.{AreListedKeys, keys_from}
use Rattle.cedar_scan.specs.Suffixes.{failure, held_suffix, is_node, keys_ending}
use Rattle.cedar_scan.specs.declared.state.ListedKey.{ListedKey}
use Rattle.cedar_scan.specs.declared.state.PlacedNode.{PlacedNode}
use Rattle.cedar_scan.specs.declared.state.State.{State}

-- each node of a tree in a slot of its own: the slots of a node's children are found from one base by their labels
pub record IsPlacing (t : Tree) (slot_of : List ℕ → ℕ) : Type 0 where
  pub root : slot_of [] ≡ 0
  pub base : List ℕ → ℕ
  pub below : (w : List ℕ) (l : ℕ) → is_node t (w ++ l ∷ []) ≡ true → slot_of (w ++ l ∷ []) ≡ bit_xor (base w) l
  pub one : (w v : List ℕ) → is_node t w ≡ true → is_node t v ≡ true → slot_of w ≡ slot_of v → w ≡ v
  pub small : (w : List ℕ) → is_node t w ≡ true → slot_of w < 2 ^ 30

-- a node below the root, as it is listed; `path` leads to the one above it
pub record IsListedNode (t : Tree) (slot_of : List ℕ → ℕ) (n : PlacedNode) : Type 0 where
  pub path : List ℕ
  pub node : is_node t (path ++ n.label ∷ []) ≡ true
  pub slot : n.slot ≡ slot_of (path ++ n.label ∷ [])
  pub parent : n.parent ≡ slot_of path
  pub depth : n.depth ≡ length path + 1
  pub number : n.number ≡ number_at t (path ++ n.label ∷ [])

-- the nodes below the root, in any order
pub record AreNodes (t : Tree) (slot_of : List ℕ → ℕ) (nodes : List PlacedNode) : Type 0 where
  pub each : All (IsListedNode t slot_of) nodes
  pub all : (w : List ℕ) (l : ℕ) → is_node t (w ++ l ∷ []) ≡ true → (n : PlacedNode) × Contains nodes n × (n.slot ≡ slot_of (w ++ l ∷ []))

-- what a slot has where no node is
abbrev pub blank : State
blank = record { base = 0; owner = 4294967295; labels = 0; failure = 0; output = 0 }

-- what a slot has, and zeros past the end
abbrev pub state_at : List State → ℕ → State
state_at states s = slice_index_or states s (record { base = 0; owner = 0; labels = 0; failure = 0; output = 0 })

-- whether a child of a node may have a label: one has a label with the same last five bits
abbrev pub may_have : State → ℕ → Bool
may_have state l = bit_at state.labels (l % 32) == 1

-- the child of the node in a slot under a label
abbrev pub child_in : List State → ℕ → ℕ → Option ℕ
child_in states s l =
    let slot = bit_xor (state_at states s).base l in
    if may_have (state_at states s) l && (nat_lt slot (length states) && (state_at states slot).owner == s) then Some slot else None

-- a node's state with where a child of it is, and that a child has such a label
abbrev pub with_child_label : State → PlacedNode → State
with_child_label above n =
    record above { base = bit_xor n.slot n.label; labels = bit_or above.labels (1 * 2 ^ (n.label % 32) % 2 ^ 32) }

-- the slot that the states lead to from a slot by a path
unfoldable pub slot_along : List State → ℕ → List ℕ → ℕ
slot_along states s [] = s
slot_along states s (l ∷ path) = slot_along states (unwrap_or (child_in states s l) 0) path

-- the slot that the states lead to from the root by a path
abbrev pub slot_of_path : List State → List ℕ → ℕ
slot_of_path states path = slot_along states 0 path

-- the labels on the way up from a slot to the root, the last one first, and at most so many
abbrev pub path_up : ℕ → List State → ℕ → List ℕ
path_up zero states s = []
path_up (suc n) states s =
    if s == 0 then [] else bit_xor (state_at states (state_at states s).owner).base s ∷ path_up n states (state_at states s).owner

-- the path to the node in a slot, which has no more labels than the tree has nodes
abbrev pub path_in : Tree → List State → ℕ → List ℕ
path_in t states s = forwards (path_up (count_below t.children) states s)

-- the states with a node's place among the others
abbrev pub with_base : List State → PlacedNode → List State
with_base states n = slice_set states n.parent (with_child_label (state_at states n.parent) n)

-- the states with a node's place among the others, and with that of the one above it in its own slot
abbrev pub with_node : List State → PlacedNode → List State
with_node states n =
    slice_set (with_base states n) n.slot (record (state_at (with_base states n) n.slot) { owner = n.parent })

-- the states with a node's links
abbrev pub with_links : List State → ℕ → ℕ → ℕ → List State
with_links states s to out = slice_set states s (record (state_at states s) { failure = to; output = out })

-- a listed node has its place
pub record IsLaid (states : List State) (n : PlacedNode) : Type 0 where
  pub base : (state_at states n.parent).base ≡ bit_xor n.slot n.label
  pub labels : may_have (state_at states n.parent) n.label ≡ true
  pub owner : (state_at states n.slot).owner ≡ n.parent

-- the slot that is said to have an owner is a node's, and the owner is the slot of the one above it
pub record IsChildSlot (t : Tree) (slot_of : List ℕ → ℕ) (states : List State) (x : ℕ) : Type 0 where
  pub path : List ℕ
  pub label : ℕ
  pub node : is_node t (path ++ label ∷ []) ≡ true
  pub slot : x ≡ slot_of (path ++ label ∷ [])
  pub owner : (state_at states x).owner ≡ slot_of path

-- the first nodes of a list have their places, and nothing else is said to be a child
pub record AreLaid (t : Tree) (slot_of : List ℕ → ℕ) (nodes : List PlacedNode) (n : ℕ) (states : List State) : Type 0 where
  pub each : (k : ℕ) (d : PlacedNode) → k < n → IsLaid states (slice_index_or nodes k d)
  pub only : (x : ℕ) → x < length states → ((state_at states x).owner ≡ 4294967295) ⊎ IsChildSlot t slot_of states x
  pub links : (x : ℕ) → ((state_at states x).failure ≡ 0) × ((state_at states x).output ≡ 0)

-- from the slot of a node the states lead to that of each child, and to no other
pub record IsGoto (t : Tree) (slot_of : List ℕ → ℕ) (states : List State) : Type 0 where
  pub within : (w : List ℕ) → is_node t w ≡ true → slot_of w < length states
  pub child : (w : List ℕ) (l : ℕ) → is_node t w ≡ true → child_in states (slot_of w) l ≡ (if is_node t (w ++ l ∷ []) then Some (slot_of (w ++ l ∷ [])) else None)

-- a node's failure link leads to the longest proper suffix that leads to a node
abbrev pub IsLinked : Tree → (List ℕ → ℕ) → List State → List ℕ → Type 0
IsLinked t slot_of states w = (state_at states (slot_of w)).failure ≡ slot_of (failure t w)

-- each node whose path has at most so many bytes has its failure link
abbrev pub AreLinked : Tree → (List ℕ → ℕ) → List State → ℕ → Type 0
AreLinked t slot_of states most = (w : List ℕ) → is_node t w ≡ true → length w ≤ most → IsLinked t slot_of states w

-- the listed keys from a node's output on are those that end where its path does
pub record HasOutput (t : Tree) (slot_of : List ℕ → ℕ) (states : List State) (keys : List ListedKey) (w : List ℕ) : Type 0 where
  pub inside : (state_at states (slot_of w)).output < length keys
  pub gives : keys_from keys (state_at states (slot_of w)).output ≡ keys_ending t w

-- the automaton of a tree
pub record IsAutomaton (t : Tree) (slot_of : List ℕ → ℕ) (states : List State) (keys : List ListedKey) : Type 0 where
  pub placing : IsPlacing t slot_of
  pub goto : IsGoto t slot_of states
  pub listed : AreListedKeys keys
  pub links : (w : List ℕ) → is_node t w ≡ true → IsLinked t slot_of states w
  pub outputs : (w : List ℕ) → is_node t w ≡ true → HasOutput t slot_of states keys w

-- a slot is a node's whose own failure link and that of each shorter path are known
pub record IsStepFrom (t : Tree) (slot_of : List ℕ → ℕ) (states : List State) (from : ℕ) : Type 0 where
  pub placing : IsPlacing t slot_of
  pub goto : IsGoto t slot_of states
  pub path : List ℕ
  pub node : is_node t path ≡ true
  pub slot : from ≡ slot_of path
  pub links : AreLinked t slot_of states (length path)

-- a step by a label leads from the slot of a path to that of its suffix with one byte more
abbrev pub GoesToSuffix : Tree → (List ℕ → ℕ) → ℕ → ℕ → ℕ → Type 0
GoesToSuffix t slot_of from label to =
    (path : List ℕ) → is_node t path ≡ true → from ≡ slot_of path → to ≡ slot_of (held_suffix t (path ++ label ∷ []))

-- a step by a label takes at most two tests, one more for each byte by which the path is shorter then, and one less if it is longer by one
abbrev pub StepsWithin : Tree → (List ℕ → ℕ) → ℕ → ℕ → ℕ → ℕ → Type 0
StepsWithin t slot_of from label before after =
    (path : List ℕ) → is_node t path ≡ true → from ≡ slot_of path → after + length (held_suffix t (path ++ label ∷ [])) ≤ before + length path + 2

-- a node can get its failure link: those of each path shorter than its own are known
pub record CanLink (t : Tree) (slot_of : List ℕ → ℕ) (states : List State) (n : PlacedNode) : Type 0 where
  pub placing : IsPlacing t slot_of
  pub goto : IsGoto t slot_of states
  pub is : IsListedNode t slot_of n
  pub links : AreLinked t slot_of states (length is.path)

-- where the failure link of a node leads
abbrev pub FailsTo : Tree → (List ℕ → ℕ) → PlacedNode → ℕ → Type 0
FailsTo t slot_of n to = (is : IsListedNode t slot_of n) → to ≡ slot_of (failure t (is.path ++ n.label ∷ []))

-- a node can get its output: those of each path shorter than its own are known
pub record CanListKey (t : Tree) (slot_of : List ℕ → ℕ) (states : List State) (keys : List ListedKey) (n : PlacedNode) : Type 0 where
  pub listed : AreListedKeys keys
  pub outputs : (w : List ℕ) → is_node t w ≡ true → length w < n.depth → HasOutput t slot_of states keys w

-- a node gets its links, and each other one keeps those that it has
pub record GetsLinks (t : Tree) (slot_of : List ℕ → ℕ) (n : PlacedNode) (old : List State) (old_keys : List ListedKey) (new : List State) (new_keys : List ListedKey) : Type 0 where
  pub goto : IsGoto t slot_of new
  pub listed : AreListedKeys new_keys
  pub here : (w : List ℕ) → is_node t w ≡ true → n.slot ≡ slot_of w → IsLinked t slot_of new w × HasOutput t slot_of new new_keys w
  pub kept : (w : List ℕ) → is_node t w ≡ true → IsLinked t slot_of old w × HasOutput t slot_of old old_keys w
      → IsLinked t slot_of new w × HasOutput t slot_of new new_keys w

-- nodes are in the order of their depths
abbrev pub AreByDepth : List PlacedNode → Type 0
AreByDepth nodes = IsNonDecreasingBy (λ n. n.depth) nodes

-- each slot that nodes name is one of so many
abbrev pub AreSlotsWithin : ℕ → List PlacedNode → Type 0
AreSlotsWithin slots nodes = All (λ n. n.slot < slots) nodes

-- the first nodes of a list have their links
pub record AreLinkedFirst (t : Tree) (slot_of : List ℕ → ℕ) (nodes : List PlacedNode) (n : ℕ) (states : List State) (keys : List ListedKey) : Type 0 where
  pub goto : IsGoto t slot_of states
  pub listed : AreListedKeys keys
  pub root : IsLinked t slot_of states [] × HasOutput t slot_of states keys []
  pub each : (k : ℕ) (d : PlacedNode) → k < n → (w : List ℕ) → is_node t w ≡ true → (slice_index_or nodes k d).slot ≡ slot_of w
      → IsLinked t slot_of states w × HasOutput t slot_of states keys w
