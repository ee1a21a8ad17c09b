-- What the falls of an automaton say.
use Rattle.std.specs.Prelude.{◌≡◌, ℕ, ◌-◌, ◌<◌, ◌≤◌, true, List, [], ◌∷◌, ◌++◌, length, map, take, drop, slice_index_or}
use Rattle.cedar_tree.specs.Tree.{Tree}
use Rattle.cedar_words.specs.Spots.{Spot}
use Rattle.cedar_scan.specs.Automata.{IsGoto, IsListedNode, IsPlacing}
use Rattle.cedar_scan.specs.Leftmost.{IsFall}
use Rattle.cedar_scan.specs.Suffixes.{is_node}
use Rattle.cedar_scan.specs.declared.falls.Fall.{Fall}
use Rattle.cedar_scan.specs.declared.falls.Popped.{Popped}
use Rattle.cedar_scan.specs.declared.state.PlacedNode.{PlacedNode}
use Rattle.cedar_scan.specs.declared.state.State.{State}

-- a key that a fall gives, by where it begins in the path
abbrev pub popped_key : Popped → Spot
popped_key p = (p.before, p.len, p.value)

-- the keys that a fall gives
abbrev pub pops_of : Fall → List Popped → List Spot
pops_of fall popped = map popped_key (take (fall.last - fall.first) (drop fall.first popped))

-- the fall of the node in a slot, and one to the root past the end
abbrev pub fall_at : List Fall → ℕ → Fall
fall_at falls s = slice_index_or falls s (record { to = 0; first = 0; last = 0; depth = 0 })

-- the keys of a fall are put behind those of other falls
pub record AddsPopped (old : List Popped) (pops : List Spot) (new : List Popped) : Type 0 where
  pub added : List Popped
  pub whole : new ≡ old ++ added
  pub are : map popped_key added ≡ pops

-- a node has its fall: what it gives and where it leads is known (`IsFall`)
pub record HasFall (t : Tree) (slot_of : List ℕ → ℕ) (falls : List Fall) (popped : List Popped) (w : List ℕ) : Type 0 where
  pub rest : List ℕ
  pub to : (fall_at falls (slot_of w)).to ≡ slot_of rest
  pub range : (fall_at falls (slot_of w)).first ≤ (fall_at falls (slot_of w)).last
  pub inside : (fall_at falls (slot_of w)).last ≤ length popped
  pub depth : (fall_at falls (slot_of w)).depth ≡ length w
  pub fall : IsFall t w (pops_of (fall_at falls (slot_of w)) popped) rest

-- each node below the root has its fall
abbrev pub AreFalls : Tree → (List ℕ → ℕ) → List Fall → List Popped → Type 0
AreFalls t slot_of falls popped = (w : List ℕ) → is_node t w ≡ true → 0 < length w → HasFall t slot_of falls popped w

-- a node can get its fall: those with shorter paths have theirs
pub record CanFall (t : Tree) (slot_of : List ℕ → ℕ) (states : List State) (falls : List Fall) (popped : List Popped) (n : PlacedNode) : Type 0 where
  pub placing : IsPlacing t slot_of
  pub goto : IsGoto t slot_of states
  pub size : length falls ≡ length states
  pub is : IsListedNode t slot_of n
  pub shorter : (w : List ℕ) → is_node t w ≡ true → 0 < length w → length w ≤ length is.path → HasFall t slot_of falls popped w

-- where the fall of a node leads, with the keys that it adds
pub record FallsTo (t : Tree) (slot_of : List ℕ → ℕ) (n : PlacedNode) (old : List Popped) (to : ℕ) (new : List Popped) : Type 0 where
  pub rest : List ℕ
  pub at : to ≡ slot_of rest
  pub pops : List Spot
  pub adds : AddsPopped old pops new
  pub fall : (is : IsListedNode t slot_of n) → IsFall t (is.path ++ n.label ∷ []) pops rest

-- a node gets its fall, and each other one keeps the one that it has
pub record AddsFall (t : Tree) (slot_of : List ℕ → ℕ) (n : PlacedNode) (falls : List Fall) (popped : List Popped) (new : List Fall) (more : List Popped) : Type 0 where
  pub here : (w : List ℕ) → is_node t w ≡ true → n.slot ≡ slot_of w → HasFall t slot_of new more w
  pub kept : (w : List ℕ) → is_node t w ≡ true → HasFall t slot_of falls popped w → HasFall t slot_of new more w

-- the first nodes of a list have their falls
abbrev pub AreFallsFirst : Tree → (List ℕ → ℕ) → List PlacedNode → ℕ → List Fall → List Popped → Type 0
AreFallsFirst t slot_of nodes n falls popped =
    (k : ℕ) (d : PlacedNode) → k < n → (w : List ℕ) → is_node t w ≡ true → (slice_index_or nodes k d).slot ≡ slot_of w → HasFall t slot_of falls popped w
