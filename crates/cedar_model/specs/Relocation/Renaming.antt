-- One table as another with its slots renamed.
use Rattle.std.specs.Prelude.{◌≡◌, ℕ, ◌<◌, ◌≤◌, List, length, take, slice_index_or}
use Rattle.std.specs.Prelude.{pos, bit_xor, cond, nat_eq}
use Rattle.cedar_model.specs.declared.layout.Stored.TheVariants.{AtBase}
use Rattle.cedar_model.specs.Table.Cells.{Cells, Held, IsPlace}
use Rattle.cedar_model.specs.Meaning.Family.{Among, base_of, below, Family, Head, owned_slots, top}

-- slot q now belongs to c, and nothing else has changed
pub record ChecksAt (T T' : Cells) (q c : ℕ) : Type 0 where
  pub at : T'.check q ≡ pos c
  pub other : (x : ℕ) → (x ≡ q → ⊥) → T'.check x ≡ T.check x
  pub base : (x : ℕ) → T'.base x ≡ T.base x
  pub stored : (x : ℕ) → T'.stored x ≡ T.stored x
  pub sibling : (x : ℕ) → T'.sibling x ≡ T.sibling x
  pub child : (x : ℕ) → T'.child x ≡ T.child x

-- the slots that s owns under the labels that P names have t as their owner now, and nothing else has changed
pub record Repointed (T T' : Cells) (s t : ℕ) (P : ℕ → Type 0) : Type 0 where
  pub pointed : (q : ℕ) → T.check q ≡ pos s → P (below T s q) → T'.check q ≡ pos t
  pub kept : (q : ℕ) → (T.check q ≡ pos s → P (below T s q) → ⊥) → T'.check q ≡ T.check q
  pub base : (q : ℕ) → T'.base q ≡ T.base q
  pub stored : (q : ℕ) → T'.stored q ≡ T.stored q
  pub sibling : (q : ℕ) → T'.sibling q ≡ T.sibling q
  pub child : (q : ℕ) → T'.child q ≡ T.child q

-- holds of any label
abbrev pub Always : ℕ → Type 0
Always l = Unit {0}

-- the label is that of a number's slot, 0
abbrev pub IsNumber : ℕ → Type 0
IsNumber l = l ≡ 0

-- no slot has slot s as its check
abbrev pub OwnsNothing : Cells → ℕ → Type 0
OwnsNothing T s = (q : ℕ) → T.check q ≡ pos s → ⊥

-- slot s is a node's, whatever its number and its labels
pub record IsNode (size : ℕ) (T : Cells) (s : ℕ) : Type 0 where
  pub head : Head
  pub labels : List ℕ
  pub family : Family size T s head labels

-- slot s is a node's that owns the slots under just these labels: its number's first, and then along its chain
pub record OwnsLabels (size : ℕ) (T : Cells) (s : ℕ) (ls : List ℕ) : Type 0 where
  pub head : Head
  pub labels : List ℕ
  pub family : Family size T s head labels
  pub owns : ls ≡ owned_slots head labels

-- slot a becomes slot b, and each other slot stays
abbrev pub single : ℕ → ℕ → ℕ → ℕ
single a b q = cond (nat_eq q a) b q

-- T' is T with its held slots renamed; bases say where the children were before
pub record Renames (T T' : Cells) (r : ℕ → ℕ) : Type 0 where
  pub root : r 0 ≡ 0
  pub root_check : T'.check 0 ≡ T.check 0
  pub check : (q c : ℕ) → T.check q ≡ pos c → T'.check (r q) ≡ pos (r c)
  pub base : (q : ℕ) → Held T q → T'.base (r q) ≡ T.base q
  pub stored : (q : ℕ) → Held T q → T'.stored (r q) ≡ T.stored q
  pub sibling : (q : ℕ) → Held T q → T'.sibling (r q) ≡ T.sibling q
  pub child : (q : ℕ) → Held T q → T'.child (r q) ≡ T.child q
  pub back : (q d : ℕ) → T'.check q ≡ pos d → (o : ℕ) × (c : ℕ) × (T.check o ≡ pos c) × (r o ≡ q) × (r c ≡ d)
  pub apart : (x y : ℕ) → Held T x → Held T y → r x ≡ r y → x ≡ y

-- r takes the slots of p to base b, and nothing else
pub record Moves (T : Cells) (p b : ℕ) (r : ℕ → ℕ) : Type 0 where
  pub moved : (q : ℕ) → T.check q ≡ pos p → r q ≡ bit_xor b (below T p q)
  pub kept : (q : ℕ) → (T.check q ≡ pos p → ⊥) → r q ≡ q

-- the node p now has the base b, and nothing else has changed
pub record Rebased (T T' : Cells) (p b : ℕ) : Type 0 where
  pub check : (q : ℕ) → T'.check q ≡ T.check q
  pub sibling : (q : ℕ) → T'.sibling q ≡ T.sibling q
  pub child : (q : ℕ) → T'.child q ≡ T.child q
  pub base : (q : ℕ) → (q ≡ p → ⊥) → T'.base q ≡ T.base q
  pub stored : (q : ℕ) → (q ≡ p → ⊥) → T'.stored q ≡ T.stored q
  pub set : T'.stored p ≡ AtBase b

-- p can be the parent of a set that is moved: a node below the root that does not own itself
pub record CanMove (size : ℕ) (T : Cells) (p b : ℕ) : Type 0 where
  pub held : Held T p
  pub not_root : p ≡ 0 → ⊥
  pub not_own : T.check p ≡ pos p → ⊥
  pub not_number : (s : ℕ) → T.check p ≡ pos s → below T s 0 ≡ p → ⊥
  pub based : 256 ≤ base_of T p
  pub low : 256 ≤ b
  pub high : b < size
  pub owners : (q c : ℕ) → T.check q ≡ pos c → Held T c
  pub root : (c : ℕ) → T.check 0 ≡ pos c → ⊥

-- every node of T whose slots are below `size` is a node of T' with the same number and labels, under its new name
pub record KeepsNodes (size size' : ℕ) (T T' : Cells) (r : ℕ → ℕ) : Type 0 where
  pub root : (ls : List ℕ) → Family size T 0 top ls → Family size' T' 0 top ls
  pub root_stays : r 0 ≡ 0
  pub node : (c s : ℕ) (h : Head) (ls : List ℕ) → T.check s ≡ pos c → Family size T s h ls → Family size' T' (r s) h ls
  pub steps : (s l : ℕ) → T.check (below T s l) ≡ pos s → r (below T s l) ≡ below T' (r s) l

-- T' has the nodes of T and no others, each under its new name, with all that it has: owners and owned slots are
-- renamed alike
pub record Renamed (size size' : ℕ) (T T' : Cells) (r : ℕ → ℕ) : Type 0 where
  pub keeps : KeepsNodes size size' T T' r
  pub root : (c : ℕ) → T'.check 0 ≡ pos c → ⊥
  pub root_check : T'.check 0 ≡ T.check 0
  pub check : (q c : ℕ) → T.check q ≡ pos c → T'.check (r q) ≡ pos (r c)
  pub back : (q d : ℕ) → T'.check q ≡ pos d → (o : ℕ) × (c : ℕ) × (T.check o ≡ pos c) × (r o ≡ q) × (r c ≡ d)

-- of the slots of p, those with these labels have moved to base b
pub record MovedSome (T : Cells) (p b : ℕ) (gone : List ℕ) (r : ℕ → ℕ) : Type 0 where
  pub moved : (q : ℕ) → T.check q ≡ pos p → Among gone (below T p q) → r q ≡ bit_xor b (below T p q)
  pub kept : (q : ℕ) → (T.check q ≡ pos p → Among gone (below T p q) → ⊥) → r q ≡ q

-- how far a relocation is once the slots of these labels have moved
pub record Progress (T T' : Cells) (p b : ℕ) (gone : List ℕ) : Type 0 where
  pub new_slot : ℕ → ℕ
  pub renames : Renames T T' new_slot
  pub moved : MovedSome T p b gone new_slot

-- the slots of p are just those under these labels, and base b has room for them
pub record Movable (size : ℕ) (T : Cells) (p b : ℕ) (ls : List ℕ) : Type 0 where
  pub parent : CanMove size T p b
  pub owned : (l : ℕ) → Among ls l → T.check (below T p l) ≡ pos p
  pub only : (q : ℕ) → T.check q ≡ pos p → Among ls (below T p q)
  pub distinct : (i : ℕ) → i < length ls → Among (take i ls) (slice_index_or ls i 0) → ⊥
  pub free : (l : ℕ) → Among ls l → Held T (bit_xor b l) → ⊥
  pub old_within : (l : ℕ) → Among ls l → below T p l < size
  pub new_within : (l : ℕ) → Among ls l → bit_xor b l < size
  pub number : Among ls 0 → OwnsNothing T (below T p 0)
  pub node : (l : ℕ) → Among ls l → (l ≡ 0 → ⊥) → IsNode size T (below T p l)

-- T' has the nodes of T, with the slots of p at base b; each other node's base is as it was
pub record Relocated (size : ℕ) (T T' : Cells) (p b : ℕ) : Type 0 where
  pub new_slot : ℕ → ℕ
  pub renamed : Renamed size size T T' new_slot
  pub moves : Moves T p b new_slot
  pub set : T'.stored p ≡ AtBase b
  pub stored : (q : ℕ) → Held T q → (q ≡ p → ⊥) → T'.stored (new_slot q) ≡ T.stored q

-- the slots of p, which were under the labels ls, are at base b, in a table that may have more slots in use. Their
-- old places are free, and so are those for the other labels of ws. Each other node's base is as it was
pub record SetMoved (size size' : ℕ) (T T' : Cells) (p b : ℕ) (ls ws : List ℕ) : Type 0 where
  pub new_slot : ℕ → ℕ
  pub renamed : Renamed size size' T T' new_slot
  pub moves : Moves T p b new_slot
  pub set : T'.stored p ≡ AtBase b
  pub stored : (q : ℕ) → Held T q → (q ≡ p → ⊥) → T'.stored (new_slot q) ≡ T.stored q
  pub vacated : (x : ℕ) → T.check x ≡ pos p → Held T' x → ⊥
  pub room : (l : ℕ) → Among ws l → (Among ls l → ⊥) → IsPlace size' T' (bit_xor b l)
