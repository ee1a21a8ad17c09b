-- The slots of a table as functions of the slot's number, and what the tree sees of a change.
use Rattle.std.specs.Prelude.{All, bit_xor, Bool, ◌≡◌, ◌==◌, ◌||◌, ◌<◌, ◌≤◌, ◌*◌, ◌⊎◌, ℕ, ℤ, cond}
use Rattle.std.specs.Prelude.{int_lt, List, nat_lt, negsuc, not, pos}
use Rattle.cedar_model.specs.declared.layout.Stored.{Stored}
use Rattle.cedar_model.specs.Table.Layouts.{LayoutKind, reading}
use Rattle.cedar_slots.specs.Places.{PlaceFields}
use Rattle.cedar_slots.specs.Slots.{base_at, check_at, info_at}

-- the slots as functions of a slot's number: the base field, what it says (`stored`), the check, and the labels
pub record Cells : Type 0 where
  -- the base field as it is
  pub base : ℕ → ℤ
  -- what the base field says of a node, in the table's layout
  pub stored : ℕ → Stored
  pub check : ℕ → ℤ
  pub sibling : ℕ → ℕ
  pub child : ℕ → ℕ

-- the slots of a table. Those that are not in use belong to nobody: their check is -1 here, since a check of 0 would
-- read as owned by the root
abbrev pub cells_of : LayoutKind → PlaceFields → Cells
cells_of layout places = record {
  base = λ s. base_at places.slots.nodes s;
  stored = λ s. reading layout (base_at places.slots.nodes s);
  check = λ s. cond (nat_lt s (256 * places.blocks.active)) (check_at places.slots.nodes s) (negsuc 0);
  sibling = λ s. (info_at places.slots.infos s).sibling;
  child = λ s. (info_at places.slots.infos s).child;
}

-- slot s is held: it is the root's, or its check names an owner. Each other slot in use is free
abbrev pub Held : Cells → ℕ → Type 0
Held T s = (s ≡ 0) ⊎ (c : ℕ) × (T.check s ≡ pos c)

-- `Held` as a test
abbrev pub is_held : Cells → ℕ → Bool
is_held T s = (s == 0) || not (int_lt (T.check s) (pos 0))

-- slot y of T' has what slot x of T has
pub record SameAt (T T' : Cells) (x y : ℕ) : Type 0 where
  pub base : T'.base y ≡ T.base x
  pub stored : T'.stored y ≡ T.stored x
  pub check : T'.check y ≡ T.check x
  pub sibling : T'.sibling y ≡ T.sibling x
  pub child : T'.child y ≡ T.child x

-- the free slot q is held by c now, and has no labels. No other slot was taken or given back, and each that was held
-- has what it had. The links of free slots may have changed
pub record Takes (T T' : Cells) (q c : ℕ) : Type 0 where
  pub at : T'.check q ≡ pos c
  pub sibling : T'.sibling q ≡ 0
  pub child : T'.child q ≡ 0
  pub other : (x : ℕ) → (x ≡ q → ⊥) → Held T x → SameAt T T' x x
  pub free : (x : ℕ) → (x ≡ q → ⊥) → Held T' x → Held T x

-- the held slot q is free now, and has no labels. Nothing else that is held has changed. The links of free slots may
-- have changed
pub record Gives (T T' : Cells) (q : ℕ) : Type 0 where
  pub gone : Held T' q → ⊥
  pub sibling : T'.sibling q ≡ 0
  pub child : T'.child q ≡ 0
  pub other : (x : ℕ) → (x ≡ q → ⊥) → Held T x → SameAt T T' x x
  pub free : (x : ℕ) → Held T' x → Held T x

-- no slot was taken or given back, and what is held has what it had. The links of free slots may have changed, and
-- free slots may have come
pub record SameHeld (T T' : Cells) : Type 0 where
  pub other : (x : ℕ) → Held T x → SameAt T T' x x
  pub free : (x : ℕ) → Held T' x → Held T x

-- slot q has this base and this check, and nothing else has changed
pub record NodeWritten (reads : ℤ → Stored) (T T' : Cells) (q : ℕ) (b c : ℤ) : Type 0 where
  pub base_at : T'.base q ≡ b
  pub stored_at : T'.stored q ≡ reads b
  pub check_at : T'.check q ≡ c
  pub base : (x : ℕ) → (x ≡ q → ⊥) → T'.base x ≡ T.base x
  pub stored : (x : ℕ) → (x ≡ q → ⊥) → T'.stored x ≡ T.stored x
  pub check : (x : ℕ) → (x ≡ q → ⊥) → T'.check x ≡ T.check x
  pub sibling : (x : ℕ) → T'.sibling x ≡ T.sibling x
  pub child : (x : ℕ) → T'.child x ≡ T.child x

-- slot q has these labels, and nothing else has changed
pub record InfoWritten (T T' : Cells) (q s c : ℕ) : Type 0 where
  pub sibling_at : T'.sibling q ≡ s
  pub child_at : T'.child q ≡ c
  pub base : (x : ℕ) → T'.base x ≡ T.base x
  pub stored : (x : ℕ) → T'.stored x ≡ T.stored x
  pub check : (x : ℕ) → T'.check x ≡ T.check x
  pub sibling : (x : ℕ) → (x ≡ q → ⊥) → T'.sibling x ≡ T.sibling x
  pub child : (x : ℕ) → (x ≡ q → ⊥) → T'.child x ≡ T.child x

-- slot s is a place: free, in use (below `size`) and outside block 0
pub record IsPlace (size : ℕ) (T : Cells) (s : ℕ) : Type 0 where
  pub not_first : 256 ≤ s
  pub in_use : s < size
  pub free : Held T s → ⊥

-- no slot in use outside block 0 is free
abbrev pub NoPlace : ℕ → Cells → Type 0
NoPlace size T = (s : ℕ) → 256 ≤ s → s < size → Held T s

-- the slot of each label, base xor label, is a place
abbrev pub HasPlaces : ℕ → Cells → ℕ → List ℕ → Type 0
HasPlaces size T base labels = All (λ label. IsPlace size T (bit_xor base label)) labels
