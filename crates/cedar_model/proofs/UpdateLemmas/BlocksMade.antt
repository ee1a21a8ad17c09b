-- How many blocks a call has made.
use Rattle.std.proofs.Common.{◌≡◌, ◌⊎◌, ◌+◌, ◌*◌, ◌/◌, Result, Ok, Err, ℕ, zero, suc, ◌≤◌, length, refl, subst, sym, ◌∙◌, ap, inl, inr, arith}
use Rattle.std.specs.Prelude.{◌==◌, cond, IfOk, OnErr}
use Rattle.cedar_slots.specs.declared.shortage.Shortage.{Shortage}
use Rattle.cedar_slots.specs.declared.shortage.Shortage.TheVariants.{Memory, SlotLimit}
use Rattle.cedar_slots.specs.Places.{AddsBlock, MayRefuse, PlaceFields, SameSlots}
use Rattle.cedar_model.specs.Edit.Steps.{blocks_after, MakesBlocks, MayAddBlock}
use Rattle.cedar_model.specs.Table.TableFields.{Fields, SameFrame, size_of}
use Rattle.cedar_model.specs.Meaning.WellFormed.{cells_in}
use Rattle.cedar_model.proofs.UpdateLemmas.Frame.{settings_then}

-- ---- none, one, and some after others

pub made_none : (a b : Fields) → SameSlots a.places b.places → MakesBlocks 0 a b
unfolding blocks_after
made_none a b s = record { active = omega (arith, s.active); capacity = s.len }

pub made_nothing : (a b : Fields) → b ≡ a → MakesBlocks 0 a b
unfolding blocks_after
made_nothing a b e = record { active = let s : b.places.blocks.active ≡ a.places.blocks.active = ap (λ (v : Fields). v.places.blocks.active) e in omega arith; capacity = ap (λ (v : Fields). length v.places.blocks.records) e }

pub made_one : (a b : Fields) (k : ℕ) → AddsBlock a.places b.places k → MakesBlocks 1 a b
unfolding blocks_after
made_one a b k added = record { active = added.active; capacity = added.capacity }

blocks_after_more : (m n active blocks : ℕ) → blocks_after (m + n) active blocks ≡ blocks_after n (active + m) (blocks_after m active blocks)
unfolding blocks_after
blocks_after_more zero n active blocks =
    let none : zero + n ≡ n = omega arith in
    let same : active + zero ≡ active = omega arith in
    ap (λ k. blocks_after k active blocks) none ∙ ap (λ k. blocks_after n k blocks) (sym same)
blocks_after_more (suc m) n active blocks =
    let next : suc m + n ≡ suc (m + n) = omega arith in
    let rest : active + 1 + m ≡ active + suc m = omega arith in
    let more : ℕ = cond (active == blocks) (2 * blocks) blocks in
    ap (λ k. blocks_after k active blocks) next ∙ blocks_after_more m n (active + 1) more ∙ ap (λ k. blocks_after n k (blocks_after m (active + 1) more)) rest

pub made_then : (m n : ℕ) (a b c : Fields) → MakesBlocks m a b → MakesBlocks n b c → MakesBlocks (m + n) a c
made_then m n a b c first next = record {
  active = omega (arith, first.active, next.active);
  capacity = next.capacity
      ∙ ap (λ k. blocks_after n k (length b.places.blocks.records)) first.active
      ∙ ap (λ k. blocks_after n (a.places.blocks.active + m) k) first.capacity
      ∙ sym (blocks_after_more m n a.places.blocks.active (length a.places.blocks.records));
}

-- a call that makes no block, before or after
pub made_framed : (n : ℕ) (a b c : Fields) → MakesBlocks n a b → SameFrame b c → MakesBlocks n a c
made_framed n a b c made frame =
    let size : c.places.blocks.active ≡ b.places.blocks.active = omega (arith, frame.size) in
    let capacity : length c.places.blocks.records ≡ length b.places.blocks.records = omega (arith, frame.capacity) in
    record { active = size ∙ made.active; capacity = capacity ∙ made.capacity }

pub framed_none : (a b : Fields) → SameFrame a b → MakesBlocks 0 a b
unfolding blocks_after
framed_none a b frame = record { active = omega (arith, frame.size); capacity = omega (arith, frame.capacity) }

-- ---- a block at most

pub growth_nothing : (a b : Fields) → b ≡ a → MayAddBlock a b
growth_nothing a b e = subst (MayAddBlock a) (sym e) (record {
  blocks = (0, omega arith, made_nothing a a refl);
  root_check = refl;
  settings = record { ordered = refl; entries = refl; max_trial = refl };
})

pub growth_none : (a b : Fields) → SameFrame a b → (cells_in b).check 0 ≡ (cells_in a).check 0 → MayAddBlock a b
growth_none a b frame root = record { blocks = (0, omega arith, framed_none a b frame); root_check = root; settings = frame.settings }

pub growth_framed : (a b c : Fields) → MayAddBlock a b → SameFrame b c → (cells_in c).check 0 ≡ (cells_in b).check 0 → MayAddBlock a c
growth_framed a b c growth frame root =
    let made = growth.blocks in
    record {
      blocks = (made.0, made.1, made_framed made.0 a b c made.2 frame);
      root_check = root ∙ growth.root_check;
      settings = settings_then a b c growth.settings frame.settings;
    }

-- ---- sizes

pub made_larger : (n : ℕ) (a b : Fields) → MakesBlocks n a b → size_of a ≤ size_of b
made_larger n a b made = omega (arith, made.active)

-- ---- searches for places

pub found_blocks : (X : Type 0) (old new : Fields) (b : ℕ) → (new ≡ old) ⊎ (X × AddsBlock old.places new.places b) → (n : ℕ) × (n ≤ 1) × MakesBlocks n old new
found_blocks X old new b (inl e) = (0, omega arith, made_nothing old new e)
found_blocks X old new b (inr (x, added)) = (1, omega arith, made_one old new b added)

pub searched_blocks : (old new : Fields) (r : Result ℕ Shortage) → IfOk r (λ base. SameSlots old.places new.places ⊎ AddsBlock old.places new.places (base / 256)) → OnErr r (SameSlots old.places new.places) → (n : ℕ) × (n ≤ 1) × MakesBlocks n old new
searched_blocks old new (Ok base) (inl same) err = (0, omega arith, made_none old new same)
searched_blocks old new (Ok base) (inr added) err = (1, omega arith, made_one old new (base / 256) added)
searched_blocks old new (Err error) made same = (0, omega arith, made_none old new same)

-- ---- refusals

pub same_slots : (a : PlaceFields) → SameSlots a a
same_slots a = record { slots = refl; active = refl; len = refl; max_trial = refl }

pub slots_of_same : (a b : Fields) → b ≡ a → SameSlots a.places b.places
slots_of_same a b e = record {
  slots = ap (λ (v : Fields). v.places.slots) e;
  active = ap (λ (v : Fields). v.places.blocks.active) e;
  len = ap (λ (v : Fields). length v.places.blocks.records) e;
  max_trial = ap (λ (v : Fields). v.places.blocks.max_trial) e;
}

-- what was refused in a table is refused in the one with the same slots
pub refuses_still : (a b : PlaceFields) (slots : ℕ) (error : Shortage) → SameSlots a b → MayRefuse a slots error → MayRefuse b slots error
refuses_still a b slots Memory same h = (same.active ∙ h.0 ∙ sym same.len, omega (arith, same.active, h.1))
refuses_still a b slots SlotLimit same h = omega (arith, same.active, h)
