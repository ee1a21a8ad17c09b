-- The blocks after a link, and the lists after a block was moved.
use Rattle.std.proofs.Common.{◌≡◌, ℕ, ◌<◌, ◌⊎◌, List, length, set, get_or, length-set, cond, refl, sym, ap, subst, inl, inr, ◌∙◌, arith, ℤ, pos, true, false, Bool, ◌||◌}
use Rattle.std.specs.Ordering.{int_eq}
use Rattle.std.proofs.lemmas.Bool.{cond-true, cond-false, or_left, or_right, or_from, false_from_ne_true, cases_eq, cases_Bool}
use Rattle.std.proofs.lemmas.Bool.Decides.{Decides-int_eq}
use Rattle.std.proofs.lemmas.List.{get_or_read, get_or-set_same, get_or-set_other}
use Rattle.cedar_slots.specs.declared.records.BlockRecord.{BlockRecord}
use Rattle.cedar_slots.specs.declared.blocks.Counts.{Counts}
use Rattle.cedar_slots.specs.declared.blocks.BlockType.TheVariants.{Open, Closed, Full}
use Rattle.cedar_slots.specs.Blocks.{blank_block, counts_at, counts_of, block_at, next_at, prev_at, set_next, set_prev, BlockLink, linked_blocks, kind_of, KeepsCounts}
use Rattle.cedar_slots.specs.Ring.{Relinked}
use Rattle.cedar_slots.proofs.RingsLemmas.Ring.{OneToOne}

next_set : (x m : BlockRecord) (next : ℤ) → m.prev ≡ x.prev → m.next ≡ next → m.num ≡ x.num → m.reject ≡ x.reject → m.trial ≡ x.trial → m.e_head ≡ x.e_head → m ≡ record x { next = next }
next_set x m next prev' next' num reject trial e_head = rw (← prev', ← next', ← num, ← reject, ← trial, ← e_head) refl

prev_set : (x m : BlockRecord) (prev : ℤ) → m.prev ≡ prev → m.next ≡ x.next → m.num ≡ x.num → m.reject ≡ x.reject → m.trial ≡ x.trial → m.e_head ≡ x.e_head → m ≡ record x { prev = prev }
prev_set x m prev prev' next' num reject trial e_head = rw (← prev', ← next', ← num, ← reject, ← trial, ← e_head) refl

-- m is x but for its neighbours
pub record SameCounts (x m : BlockRecord) : Type 0 where
  pub num : m.num ≡ x.num
  pub reject : m.reject ≡ x.reject
  pub trial : m.trial ≡ x.trial
  pub e_head : m.e_head ≡ x.e_head

-- the blocks once m was written at a, and then n at b
pub linked_blocks_is : (blocks first after : List BlockRecord) (a b : ℕ) (x y m n : BlockRecord) → first ≡ set blocks a m → after ≡ set first b n → a < length blocks → b < length blocks → x ≡ get_or blocks a x → m.prev ≡ x.prev → m.next ≡ pos b → SameCounts x m → y ≡ get_or first b y → n.prev ≡ pos a → n.next ≡ y.next → SameCounts y n → after ≡ linked_blocks blocks a b
unfolding linked_blocks
linked_blocks_is blocks first after a b x y m n first_is after_is a_in b_in p m_prev m_next m_counts q n_prev n_next n_counts =
    let p' = get_or_read blocks a x a_in p blank_block in
    let q' = get_or_read first b y (omega (arith, b_in, length-set blocks a m, ap length first_is)) q blank_block in
    let m_is = next_set x m (pos b) m_prev m_next m_counts.num m_counts.reject m_counts.trial m_counts.e_head in
    let n_is = prev_set y n (pos a) n_prev n_next n_counts.num n_counts.reject n_counts.trial n_counts.e_head in
    cc

int_eq_true : (x y : ℤ) → x ≡ y → int_eq x y ≡ true
int_eq_true x y = (Decides-int_eq x y).1

int_eq_false : (x y : ℤ) → (x ≡ y → ⊥) → int_eq x y ≡ false
int_eq_false x y h = false_from_ne_true _ (λ e. h ((Decides-int_eq x y).0 e))

pub kind_of_full : (z : ℤ) (b : Counts) → b.num ≡ pos 0 → kind_of z b ≡ Full
kind_of_full z b e = cond-true _ _ _ (int_eq_true _ _ e)

pub kind_of_closed : (z : ℤ) (b : Counts) → (b.num ≡ pos 0 → ⊥) → ((b.num ≡ pos 1) ⊎ (b.trial ≡ z)) → kind_of z b ≡ Closed
kind_of_closed z b h (inl e) = cond-false _ _ _ (int_eq_false _ _ h) ∙ cond-true _ _ _ (or_left _ _ (int_eq_true _ _ e))
kind_of_closed z b h (inr e) = cond-false _ _ _ (int_eq_false _ _ h) ∙ cond-true _ _ _ (or_right _ _ (int_eq_true _ _ e))

pub kind_of_open : (z : ℤ) (b : Counts) → (b.num ≡ pos 0 → ⊥) → (b.num ≡ pos 1 → ⊥) → (b.trial ≡ z → ⊥) → kind_of z b ≡ Open
kind_of_open z b h i j = cond-false _ _ _ (int_eq_false _ _ h) ∙ cond-false _ _ _ (or_from _ _ (int_eq_false _ _ i) (int_eq_false _ _ j))

-- ---- the links after a write

pos_same : (m n : ℕ) → ◌≡◌ {A = ℤ} (pos m) (pos n) → m ≡ n
pos_same m n h = cc

pub BlockLink-fixed : (blocks : List BlockRecord) → OneToOne (BlockLink blocks)
BlockLink-fixed blocks = record {
  next = λ x y z p q. pos_same y z (sym p.0 ∙ q.0);
  prev = λ x y z p q. pos_same x y (sym p.1 ∙ q.1);
}

next-set_next_same : (blocks : List BlockRecord) (a : ℕ) (z : ℤ) → a < length blocks → next_at (set_next blocks a z) a ≡ z
next-set_next_same blocks a z h = ap (λ (n : BlockRecord). n.next) (get_or-set_same blocks a _ blank_block h)

next-set_next_other : (blocks : List BlockRecord) (a : ℕ) (z : ℤ) (s : ℕ) → (s ≡ a → ⊥) → next_at (set_next blocks a z) s ≡ next_at blocks s
next-set_next_other blocks a z s h = ap (λ (n : BlockRecord). n.next) (get_or-set_other blocks a s _ blank_block h)

prev-set_next : (blocks : List BlockRecord) (a : ℕ) (z : ℤ) (s : ℕ) → a < length blocks → prev_at (set_next blocks a z) s ≡ prev_at blocks s
prev-set_next blocks a z s h = elim (cases_eq s a) [
  | inl e ↦ rw e (ap (λ (n : BlockRecord). n.prev) (get_or-set_same blocks a _ blank_block h))
  | inr e ↦ ap (λ (n : BlockRecord). n.prev) (get_or-set_other blocks a s _ blank_block e)
]

prev-set_prev_same : (blocks : List BlockRecord) (a : ℕ) (z : ℤ) → a < length blocks → prev_at (set_prev blocks a z) a ≡ z
prev-set_prev_same blocks a z h = ap (λ (n : BlockRecord). n.prev) (get_or-set_same blocks a _ blank_block h)

prev-set_prev_other : (blocks : List BlockRecord) (a : ℕ) (z : ℤ) (s : ℕ) → (s ≡ a → ⊥) → prev_at (set_prev blocks a z) s ≡ prev_at blocks s
prev-set_prev_other blocks a z s h = ap (λ (n : BlockRecord). n.prev) (get_or-set_other blocks a s _ blank_block h)

next-set_prev : (blocks : List BlockRecord) (a : ℕ) (z : ℤ) (s : ℕ) → a < length blocks → next_at (set_prev blocks a z) s ≡ next_at blocks s
next-set_prev blocks a z s h = elim (cases_eq s a) [
  | inl e ↦ rw e (ap (λ (n : BlockRecord). n.next) (get_or-set_same blocks a _ blank_block h))
  | inr e ↦ ap (λ (n : BlockRecord). n.next) (get_or-set_other blocks a s _ blank_block e)
]

counts-set : (blocks : List BlockRecord) (a : ℕ) (new : BlockRecord) (s : ℕ) → a < length blocks → counts_of new ≡ counts_at blocks a → counts_at (set blocks a new) s ≡ counts_at blocks s
counts-set blocks a new s h same = elim (cases_eq s a) [
  | inl e ↦ rw e (ap counts_of (get_or-set_same blocks a _ blank_block h) ∙ same)
  | inr e ↦ ap counts_of (get_or-set_other blocks a s _ blank_block e)
]

pub length-linked_blocks : (blocks : List BlockRecord) (a b : ℕ) → length (linked_blocks blocks a b) ≡ length blocks
unfolding linked_blocks
length-linked_blocks blocks a b = length-set _ b _ ∙ length-set blocks a _

module _ (blocks : List BlockRecord) (a b : ℕ) (a_in : a < length blocks) (b_in : b < length blocks) where
  b_in' : b < length (set_next blocks a (pos b))
  b_in' = subst (λ n. b < n) (sym (length-set blocks a _)) b_in

  next-linked_other : (s : ℕ) → (s ≡ a → ⊥) → next_at (linked_blocks blocks a b) s ≡ next_at blocks s
  unfolding linked_blocks
  next-linked_other s h = next-set_prev _ b _ s b_in' ∙ next-set_next_other blocks a _ s h

  prev-linked_other : (s : ℕ) → (s ≡ b → ⊥) → prev_at (linked_blocks blocks a b) s ≡ prev_at blocks s
  unfolding linked_blocks
  prev-linked_other s h = prev-set_prev_other _ b _ s h ∙ prev-set_next blocks a _ s a_in

  pub Relinked-linked_blocks : Relinked (BlockLink blocks) (BlockLink (linked_blocks blocks a b)) a b
  unfolding linked_blocks
  Relinked-linked_blocks = record {
    made = (next-set_prev _ b _ a b_in' ∙ next-set_next_same blocks a _ a_in, prev-set_prev_same _ b _ b_in');
    kept = λ x y p q h. (next-linked_other x p ∙ h.0, prev-linked_other y q ∙ h.1);
  }

  pub KeepsCounts-linked_blocks : KeepsCounts blocks (linked_blocks blocks a b)
  unfolding linked_blocks
  KeepsCounts-linked_blocks s = counts-set _ b _ s b_in' refl ∙ counts-set blocks a _ s a_in refl

pub full_num : (z : ℤ) (b : Counts) → kind_of z b ≡ Full → b.num ≡ pos 0
full_num z b h = elim (cases_Bool (int_eq b.num (pos 0))) [
  | inl yes' ↦ (Decides-int_eq b.num (pos 0)).0 yes'
  | inr no' ↦ absurd (not_others (int_eq b.num (pos 1) || int_eq b.trial z) (sym (cond-false _ _ _ no') ∙ h))
]
  where
    not_others : (t : Bool) → cond t Closed Open ≡ Full → ⊥
    not_others true e = cc
    not_others false e = cc

pub block-linked_other : (blocks : List BlockRecord) (a b s : ℕ) → (s ≡ a → ⊥) → (s ≡ b → ⊥) → block_at (linked_blocks blocks a b) s ≡ block_at blocks s
unfolding linked_blocks
block-linked_other blocks a b s p q = get_or-set_other _ b s _ blank_block q ∙ get_or-set_other blocks a s _ blank_block p
