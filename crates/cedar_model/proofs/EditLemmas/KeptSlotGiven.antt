-- A reserved slot that is given to its node.
use Rattle.std.proofs.Common.{◌≡◌, ℕ, ℤ, Bool, ◌<◌, ◌≤◌, ◌∙◌, ap, sym, subst, refl, inl, inr, arith, Option, Some, None}
use Rattle.std.specs.Prelude.{bit_xor, MatchOption, pos}
use Rattle.cedar_tree.specs.Tree.{Forest}
use Rattle.cedar_model.specs.declared.layout.Stored.{Stored}
use Rattle.cedar_model.specs.Table.Cells.{Cells, Held, InfoWritten, NodeWritten, Takes}
use Rattle.cedar_model.specs.Edit.NodeEdits.{GoesBehind, GoesFirst, HasChain, IsBehind, IsNodeOf, IsPlaceFor}
use Rattle.cedar_model.specs.Relocation.Reserved.{cells_without}
use Rattle.cedar_model.proofs.EditLemmas.AtPath.{held_node}
use Rattle.cedar_model.proofs.EditLemmas.SlotForLabel.{chain_of_node}
use Rattle.cedar_model.proofs.RelocationLemmas.KeptSlot.{family_freed, freed_held, freed_other, freed_owned, mine_apart, mine_freed, owned_freed}
use Rattle.cedar_slots.proofs.RingsLemmas.InBlock.{xor_block}

pub claimed : (reads : ℤ → Stored) (T T₁ T₂ : Cells) (q c : ℕ) (b z : ℤ) → z ≡ pos c → NodeWritten reads T T₁ q b z → InfoWritten T₁ T₂ q 0 0 → Takes (cells_without T q) T₂ q c
claimed reads T T₁ T₂ q c b z is w i = record {
  at = i.check q ∙ w.check_at ∙ is;
  sibling = i.sibling_at;
  child = i.child_at;
  other = λ x n _. let f = freed_other T q x n in record {
    base = i.base x ∙ w.base x n;
    stored = i.stored x ∙ w.stored x n;
    check = i.check x ∙ w.check x n ∙ sym f.check;
    sibling = i.sibling x n ∙ w.sibling x ∙ sym f.sibling;
    child = i.child x n ∙ w.child x ∙ sym f.child;
  };
  free = λ x n h. held_before x n h;
}
  where
    held_before : (x : ℕ) → (x ≡ q → ⊥) → Held T₂ x → Held (cells_without T q) x
    held_before x n (inl e) = inl e
    held_before x n (inr o) = inr (o.0, owned_freed T q x o.0 n (sym (i.check x ∙ w.check x n) ∙ o.1))

-- the slot of a label of a node with a base lies outside block 0
pub slot_far : (b l : ℕ) → 256 ≤ b → l < 256 → bit_xor b l ≡ 0 → ⊥
slot_far b l low small e = let block = xor_block b l small in omega (arith, block, low, e)

pub freed_free : (T : Cells) (k : ℕ) → (k ≡ 0 → ⊥) → Held (cells_without T k) k → ⊥
freed_free T k z h = (freed_held T k k z h).0 refl

-- a node of the tree isn't the reserved slot
pub node_apart : (size : ℕ) (T : Cells) (ordered : Bool) (f : Forest) (a k : ℕ) → (k ≡ 0 → ⊥) → IsNodeOf size (cells_without T k) ordered f a → (a ≡ k → ⊥) × Held T a
node_apart size T ordered f a k z n = freed_held T k a z (held_node (cells_without T k) n.path a n.at)

-- ---- a node's chain is the same with the reserved slot and without

module _ (size : ℕ) (T : Cells) (ordered : Bool) (a k : ℕ) (z : a ≡ 0 → ⊥) (apart : a ≡ k → ⊥) (marked : T.check k ≡ pos 0) where
  pub chain_there : (f : Forest) → IsNodeOf size (cells_without T k) ordered f a → HasChain size T ordered a
  chain_there f n =
      let h = chain_of_node size (cells_without T k) ordered f a n in
      record {
        head = h.head;
        listed = h.listed;
        family = family_freed size T k a z apart marked (record { head = h.head; labels = h.listed; family = h.family });
        root = h.root;
        ascends = h.ascends;
      }

  first_there : (l : ℕ) → GoesFirst T ordered a l → GoesFirst (cells_without T k) ordered a l
  first_there l g = record {
    not_root = g.not_root;
    no_number = λ o. g.no_number (freed_owned T k _ a o).1;
    place = λ o. subst (IsPlaceFor l) (sym (freed_other T k a apart).child) (g.place o);
  }

  behind_apart : (l b : ℕ) → IsBehind T ordered a l b → b ≡ k → ⊥
  behind_apart l b (inl (inl r)) e = z r.0
  behind_apart l b (inl (inr n)) e = mine_apart T k b a z marked (ap T.check n.1 ∙ n.0) e
  behind_apart l b (inr m) e = mine_apart T k b a z marked m.3.owner e

  is_behind_there : (l b : ℕ) → IsBehind T ordered a l b → IsBehind (cells_without T k) ordered a l b
  is_behind_there l b (inl (inl r)) = absurd (z r.0)
  is_behind_there l b (inl (inr n)) = inl (inr (mine_freed T k _ a z marked n.0, n.1))
  is_behind_there l b (inr m) = inr (m.0, m.1, m.2, record { positive = m.3.positive; small = m.3.small; owner = mine_freed T k b a z marked m.3.owner; is = m.3.is })

  behind_there : (l b : ℕ) → GoesBehind size T ordered a l b → GoesBehind size (cells_without T k) ordered a l b
  behind_there l b g = record {
    inside = g.inside;
    behind = is_behind_there l b g.behind;
    place = λ o. subst (IsPlaceFor l) (sym (freed_other T k b (behind_apart l b g.behind)).sibling) (g.place o);
  }

  pub place_there : (l : ℕ) (before : Option ℕ) → MatchOption before (GoesFirst T ordered a l) (λ b. GoesBehind size T ordered a l b) → MatchOption before (GoesFirst (cells_without T k) ordered a l) (λ b. GoesBehind size (cells_without T k) ordered a l b)
  place_there l None g = first_there l g
  place_there l (Some b) g = behind_there l b g
