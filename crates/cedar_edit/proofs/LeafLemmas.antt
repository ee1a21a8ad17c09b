-- A leaf that owns no slot: its first base, and its first label.
use Rattle.std.proofs.Common.{◌≡◌, ◌∙◌, ℕ, [], ap, inl, inr, refl, subst, sym}
use Rattle.std.specs.Prelude.{◌%◌, ◌≤◌, ◌<◌, ◌⊎◌, Bool, bit_xor, pos}
use Rattle.std.specs.Int.Bits.{xor_self}
use lib.Bits.{xor_assoc, xor_zero_r}
use Rattle.cedar_model.specs.Tree.{Forest}
use Rattle.cedar_model.specs.declared.layout.Stored.TheVariants.{AtBase}
use Rattle.cedar_model.specs.Table.Cells.{Cells, Held, SameHeld, Takes}
use Rattle.cedar_model.specs.Meaning.Family.{base_in, base_of, below}
use Rattle.cedar_model.specs.Relocation.Renaming.{OwnsNothing, Rebased}
use Rattle.cedar_model.specs.Edit.NodeEdits.{follow_on, GoesFirst, IsNodeOf, LinkedChild, SetsChild, SetsSibling}
use Rattle.cedar_model.specs.Edit.Steps.{Placed}
use Rattle.cedar_model.specs.Meaning.WellFormed.{cells_in}
use Rattle.cedar_model.specs.Relocation.Asked.{WantsRoom}
use Rattle.cedar_model.specs.Edit.Packing.{MakesIfFull, TakesSingle}
use Rattle.cedar_model.specs.Table.TableFields.{Fields, SameFrame, size_of}
use Rattle.cedar_model.proofs.EditLemmas.FirstBase.{bare_owns, held_still}
use Rattle.cedar_model.proofs.EditLemmas.Room.{label_free, label_place, LabelPlace}
use Rattle.cedar_model.proofs.MeaningLemmas.NumberSlots.{marks_same}
use Rattle.cedar_model.proofs.RelocationLemmas.Movable.{node_at_end}
use Rattle.cedar_model.proofs.UpdateLemmas.BlocksMade.{made_framed}
use Rattle.cedar_model.proofs.EditLemmas.OwnNumber.{alone_child}

-- a leaf without base owns nothing
pub leaf_alone : (size : ℕ) (T : Cells) (ordered : Bool) (f : Forest) (a : ℕ) → IsNodeOf size T ordered f a → (a ≡ 0 → ⊥) → T.stored a ≡ AtBase 0 → OwnsNothing T a
leaf_alone size T ordered f a k z bare = let x = node_at_end size T f a (follow_on k.path []) k.holds k.at.0 k.at.1 z in bare_owns size T a x.head x.labels z bare x.family

-- nor does it once it has a base
pub still_alone : (T T₁ T₂ : Cells) (a b : ℕ) → SameHeld T T₁ → Rebased T₁ T₂ a b → OwnsNothing T a → OwnsNothing T₂ a
still_alone T T₁ T₂ a b same set alone q o =
    let was : T₁.check q ≡ pos a = sym (set.check q) ∙ o in
    alone q (sym (same.other q (same.free q (inr (a, was)))).check ∙ was)

-- the base is that from which the label's slot is the one found
pub found_below : (T₁ T₂ : Cells) (a slot l : ℕ) → Rebased T₁ T₂ a (bit_xor slot l) → slot ≡ below T₂ a l
found_below T₁ T₂ a slot l set = sym (ap (λ st. bit_xor (base_in st) l) set.set ∙ xor_assoc slot l l ∙ ap (bit_xor slot) (xor_self l) ∙ xor_zero_r slot)

-- a node that owns nothing names no label
pub names_none : (size : ℕ) (T : Cells) (ordered : Bool) (f : Forest) (a : ℕ) → IsNodeOf size T ordered f a → (a ≡ 0 → ⊥) → OwnsNothing T a → T.child a ≡ 0
names_none size T ordered f a k z alone = let x = node_at_end size T f a (follow_on k.path []) k.holds k.at.0 k.at.1 z in alone_child size T a x.head x.labels z alone x.family

-- so its first label begins the chain
pub goes_alone : (T : Cells) (ordered : Bool) (a l : ℕ) → (a ≡ 0 → ⊥) → OwnsNothing T a → T.child a ≡ 0 → GoesFirst T ordered a l
goes_alone T ordered a l z alone none = record { not_root = z; no_number = alone _; place = λ _. inl none }

-- and ends it: the slot just taken names no label after it
pub linked_alone : (T T₁ T₂ : Cells) (a x l : ℕ) → Takes T T₁ x a → Held T a → (a ≡ x → ⊥) → T.child a ≡ 0 → SetsChild T₁ T₂ a l → LinkedChild T₁ T₂ a x l
linked_alone T T₁ T₂ a x l t held apart none set = record {
  stored = set.stored;
  base = set.base;
  check = set.check;
  at = set.at;
  child = set.other;
  next = set.sibling x ∙ t.sibling ∙ sym ((t.other a apart held).child ∙ none);
  other = λ q _. set.sibling q;
}

-- what a slot says already may be written again
pub same_sibling : (T : Cells) (q l : ℕ) → T.sibling q ≡ l → SetsSibling T T q l
same_sibling T q l is = record { stored = λ _. refl; base = λ _. refl; check = λ _. refl; child = λ _. refl; at = is; other = λ _ _. refl }

pub same_child : (T : Cells) (q l : ℕ) → T.child q ≡ l → SetsChild T T q l
same_child T q l is = record { stored = λ _. refl; base = λ _. refl; check = λ _. refl; sibling = λ _. refl; at = is; other = λ _ _. refl }

-- a node that is no such leaf is the root, or has a base: so its slot for a label is known, and free if the node doesn't own it and
-- no other node has taken it
pub placed_here : (slots : ℕ) (T : Fields) (a l : ℕ) → WantsRoom slots T a l → size_of T % 256 ≡ 0 → 256 ≤ size_of T → l < 256 → ((base_of (cells_in T) a ≡ 0) × (a ≡ 0)) ⊎ (base_of (cells_in T) a ≡ 0 → ⊥) → Placed T T a l a
placed_here slots T a l w whole some small either =
    let n = w.node in
    let k : LabelPlace (size_of T) (cells_in T) a l = label_place (size_of T) (cells_in T) T.ordered n.0 a l n.1 whole some small w.positive_at_root w.no_own_number either in
    record {
      inside = w.node_in;
      at = λ v at. at;
      root = λ z. z;
      based = k.based;
      free = elim either [
        | inl root ↦ label_free (size_of T) (cells_in T) n.0 a l n.1.holds root.1 w.positive_at_root small w.absent
        | inr based ↦ w.slot_free based
      ];
      marks = marks_same (cells_in T);
    }

-- ---- what is held

-- what was held is held once a free slot was taken, and so is that one
pub kept_taken : (T T₁ T₂ : Cells) (q a : ℕ) → Takes T T₁ q a → (Held T q → ⊥) → ((x : ℕ) → T₂.check x ≡ T₁.check x) → (x : ℕ) → Held T x → Held T₂ x
kept_taken T T₁ T₂ q a t free same x (inl z) = inl z
kept_taken T T₁ T₂ q a t free same x (inr o) = inr (o.0, same x ∙ (t.other x (λ e. free (subst (Held T) e (inr o))) (inr o)).check ∙ o.1)

pub taken_held : (T T₁ T₂ : Cells) (q a : ℕ) → Takes T T₁ q a → ((x : ℕ) → T₂.check x ≡ T₁.check x) → Held T₂ q
taken_held T T₁ T₂ q a t same = inr (a, same q ∙ t.at)

-- where no check has changed, all is held that was
pub kept_checks : (T T' : Cells) → ((x : ℕ) → T'.check x ≡ T.check x) → (x : ℕ) → Held T x → Held T' x
kept_checks T T' same x (inl z) = inl z
kept_checks T T' same x (inr o) = inr (o.0, same x ∙ o.1)

-- and once a node got a base
pub kept_based : (T T₁ T₂ : Cells) (a b : ℕ) → SameHeld T T₁ → Rebased T₁ T₂ a b → (x : ℕ) → Held T x → Held T₂ x
kept_based T T₁ T₂ a b same set x h = kept_checks T₁ T₂ set.check x (held_still T T₁ x same h)

-- a slot alone was found, and taken: no block was made, unless no slot outside block 0 was free
pub single_taken : (T T₁ T₂ : Fields) (slot q : ℕ) → MakesIfFull T T₁ → SameFrame T₁ T₂ → ((x : ℕ) → Held (cells_in T) x → Held (cells_in T₁) x) → ((x : ℕ) → Held (cells_in T₁) x → Held (cells_in T₂) x)
    → slot ≡ q → (Held (cells_in T₁) q → ⊥) → Held (cells_in T₂) slot → TakesSingle T T₂
single_taken T T₁ T₂ slot q made frame first next is free taken = record {
  keeps = λ x h. next x (first x h);
  one = elim made [
    | inl nothing ↦ inl (made_framed 0 T T₁ T₂ nothing frame)
    | inr full ↦ inr (full, (slot, (λ h. free (subst (Held (cells_in T₁)) is (first slot h))), taken))
  ];
}
