-- A leaf without number gets its first base: the tree is as it was, and so are all paths.
use Rattle.std.proofs.Common.{◌≡◌, ℕ, ◌<◌, ◌≤◌, List, [], ◌∷◌, sym, ◌∙◌, ap, refl, subst, inl, inr, arith}
use Rattle.std.specs.Prelude.{◌%◌, bit_xor, pos}
use Rattle.std.specs.Int.Bits.{xor_self}
use lib.Bits.{xor_assoc, xor_zero_r}
use Rattle.std.proofs.lemmas.Bool.{cases_eq}
use Rattle.cedar_tree.specs.Tree.{Forest}
use Rattle.cedar_model.specs.declared.layout.Stored.{Stored}
use Rattle.cedar_model.specs.declared.layout.Stored.TheVariants.{AtBase, OwnNumber}
use Rattle.cedar_model.specs.Table.Cells.{Cells, Held, IsPlace, SameHeld}
use Rattle.cedar_model.specs.Meaning.Family.{base_in, Based, below, Family, Head, InRange, own, plain, top, valued}
use Rattle.cedar_model.specs.Meaning.Marks.{KeepsMarks}
use Rattle.cedar_model.specs.Meaning.StandsFor.{HoldsTree}
use Rattle.cedar_model.specs.Relocation.Renaming.{OwnsNothing, Rebased, Renamed}
use Rattle.cedar_model.specs.Edit.NodeEdits.{follow_on, IsAt}
use Rattle.cedar_model.proofs.EditLemmas.AtPath.{held_node}
use Rattle.cedar_model.proofs.RelocationLemmas.CarriedNode.{family_carried}
use Rattle.cedar_model.proofs.EditLemmas.NodeChange.{not_number}
use Rattle.cedar_model.proofs.RelocationLemmas.CarriedTree.{holds_renamed, path_kept, same_renamed}
use Rattle.cedar_model.proofs.MeaningLemmas.NumberSlots.{marks_then, renamed_marks}
use Rattle.cedar_model.proofs.RelocationLemmas.Movable.{node_at_end}
use Rattle.cedar_model.proofs.MeaningLemmas.Paths.{owner_held}
use Rattle.cedar_model.proofs.MeaningLemmas.ExclusiveOr.{xor_within}
use Rattle.cedar_slots.proofs.RingsLemmas.InBlock.{xor_block}

pub low_base : (size : ℕ) (st : Stored) → st ≡ AtBase 0 → InRange size st → ⊥
low_base size st e r = let none : 256 ≤ 0 = subst (λ x. 256 ≤ base_in x) e r.0 in omega arith

pub no_number : (st : Stored) (v : _) → st ≡ AtBase 0 → st ≡ OwnNumber v → ⊥
no_number st v e o = let z : AtBase 0 ≡ OwnNumber v = sym e ∙ o in cc

-- a node below the root whose base is 0 owns no slot
pub bare_owns : (size : ℕ) (T : Cells) (a : ℕ) (hd : Head) (ls : List ℕ) → (a ≡ 0 → ⊥) → T.stored a ≡ AtBase 0 → Family size T a hd ls → OwnsNothing T a
bare_owns size T a plain [] z e k q o = k.only q o
bare_owns size T a plain (l ∷ ls) z e k q o = low_base size (T.stored a) e k.based
bare_owns size T a (valued v) ls z e k q o = low_base size (T.stored a) e k.based
bare_owns size T a (own v) ls z e k q o = no_number (T.stored a) v e k.based
bare_owns size T a top ls z e k q o = z k.begins.0

-- and stays what it is under any base that is in range
bare_rebased : (size : ℕ) (T T' : Cells) (a b : ℕ) (hd : Head) (ls : List ℕ) → (a ≡ 0 → ⊥) → T.stored a ≡ AtBase 0 → Rebased T T' a b → InRange size (AtBase b) → Family size T a hd ls → Family size T' a hd ls
bare_rebased size T T' a b plain [] z e w r k = record { based = inr (subst (InRange size) (sym w.set) r); begins = w.child a ∙ k.begins; only = λ q o. absurd (k.only q (sym (w.check q) ∙ o)) }
bare_rebased size T T' a b plain (l ∷ ls) z e w r k = absurd (low_base size (T.stored a) e k.based)
bare_rebased size T T' a b (valued v) ls z e w r k = absurd (low_base size (T.stored a) e k.based)
bare_rebased size T T' a b (own v) ls z e w r k = absurd (no_number (T.stored a) v e k.based)
bare_rebased size T T' a b top ls z e w r k = absurd (z k.begins.0)

-- the base alone
module _ (size : ℕ) (T T' : Cells) (f : Forest) (w : List ℕ) (a b : ℕ) (h : HoldsTree size T f) (at : IsAt T w a) (z : a ≡ 0 → ⊥) (bare : T.stored a ≡ AtBase 0) (set : Rebased T T' a b) (range : InRange size (AtBase b)) where
  alone : OwnsNothing T a
  alone = let n = node_at_end size T f a (follow_on w []) h at.0 at.1 z in bare_owns size T a n.head n.labels z bare n.family

  steps : (s l : ℕ) → T.check (below T s l) ≡ pos s → below T s l ≡ below T' s l
  steps s l o = ap (λ x. bit_xor (base_in x) l) (sym (set.stored s (λ e. alone _ (o ∙ ap pos e))))

  other : (s : ℕ) (hd : Head) (ls : List ℕ) → (s ≡ a → ⊥) → Family size T s hd ls → Family size T' s hd ls
  other s hd ls n k =
      family_carried size T T' (λ q. q) s hd ls (record {
        steps = λ l o. steps s l o;
        check = λ q o. set.check q ∙ o;
        sibling = λ q o. set.sibling q;
        child = set.child s;
        number = λ o. (set.base _ (λ e. not_number T h.root (follow_on w []) at.0 s o (e ∙ sym at.1)), set.child _);
        back = λ q e. (q, sym (set.check q) ∙ e, refl);
      }) (λ e. (e, set.sibling s)) (λ d. subst (λ st. Based size st hd ls) (sym (set.stored s n)) d) k

  rebased_renamed : Renamed size size T T' (λ q. q)
  rebased_renamed = record {
    keeps = record {
      root = λ ls k. other 0 top ls (λ e. z (sym e)) k;
      root_stays = refl;
      node = λ c s hd ls o k. elim (cases_eq s a) [
        | inl e ↦ subst (λ x. Family size T' x hd ls) (sym e) (bare_rebased size T T' a b hd ls z bare set range (subst (λ x. Family size T x hd ls) e k))
        | inr n ↦ other s hd ls n k
      ];
      steps = steps;
    };
    root = λ c o. h.root c (sym (set.check 0) ∙ o);
    root_check = set.check 0;
    check = λ q c o. set.check q ∙ o;
    back = λ q d o. (q, d, sym (set.check q) ∙ o, refl, refl);
  }

pub held_still : (T T₁ : Cells) (a : ℕ) → SameHeld T T₁ → Held T a → Held T₁ a
held_still T T₁ a k (inl z) = inl z
held_still T T₁ a k (inr o) = inr (o.0, (k.other a (inr o)).check ∙ o.1)

-- what a leaf's first base leaves as it was, and the place that it gives a label
pub record LeafBased (size size' : ℕ) (T T' : Cells) (a l : ℕ) : Type 0 where
  pub tree : (g : Forest) → HoldsTree size T g → HoldsTree size' T' g
  pub at : (v : List ℕ) → IsAt T v a → IsAt T' v a
  pub in_range : InRange size' (T'.stored a)
  pub free : Held T' (below T' a l) → ⊥
  pub root_check : T'.check 0 ≡ T.check 0
  pub marks : KeepsMarks T T'

-- a place was found, which may have brought free slots, and the base is where it is the place of the label l
module _ (size size' : ℕ) (T T₁ T₂ : Cells) (f : Forest) (w : List ℕ) (a slot l : ℕ) (h : HoldsTree size T f) (at : IsAt T w a) (z : a ≡ 0 → ⊥) (bare : T.stored a ≡ AtBase 0)
    (more : size ≤ size') (whole : size' % 256 ≡ 0) (small : l < 256) (same : SameHeld T T₁) (place : IsPlace size' T₁ slot) (set : Rebased T₁ T₂ a (bit_xor slot l)) where
  grown : Renamed size size' T T₁ (λ q. q)
  grown = same_renamed size size' T T₁ more same h.root (owner_held size T f h)

  path_grown : (v : List ℕ) (s : ℕ) → IsAt T v s → IsAt T₁ v s
  path_grown v s on = let k = path_kept size size' T T₁ (λ q. q) grown (follow_on v []) on.0 in (k.0, k.1 ∙ on.1)

  range : InRange size' (AtBase (bit_xor slot l))
  range = let block = xor_block slot l small in (omega (arith, block, place.not_first), xor_within size' slot l whole place.in_use small)

  based : Renamed size' size' T₁ T₂ (λ q. q)
  based = rebased_renamed size' T₁ T₂ f w a (bit_xor slot l) (holds_renamed size size' T T₁ (λ q. q) grown f h) (path_grown w a at) z ((same.other a (held_node T w a at)).stored ∙ bare) set range

  place_below : below T₂ a l ≡ slot
  place_below = ap (λ st. bit_xor (base_in st) l) set.set ∙ xor_assoc slot l l ∙ ap (bit_xor slot) (xor_self l) ∙ xor_zero_r slot

  held_before : Held T₂ slot → Held T₁ slot
  held_before (inl e) = inl e
  held_before (inr o) = inr (o.0, sym (set.check slot) ∙ o.1)

  pub leaf_based : LeafBased size size' T T₂ a l
  leaf_based = record {
    tree = λ g k. holds_renamed size' size' T₁ T₂ (λ q. q) based g (holds_renamed size size' T T₁ (λ q. q) grown g k);
    at = λ v on. let up = path_grown v a on in let k = path_kept size' size' T₁ T₂ (λ q. q) based (follow_on v []) up.0 in (k.0, k.1 ∙ up.1);
    in_range = subst (InRange size') (sym set.set) range;
    free = λ o. place.free (held_before (subst (Held T₂) place_below o));
    root_check = set.check 0 ∙ (same.other 0 (inl refl)).check;
    marks = marks_then T T₁ T₂ (renamed_marks size size' T T₁ (λ q. q) f h grown) (renamed_marks size' size' T₁ T₂ (λ q. q) f (holds_renamed size size' T T₁ (λ q. q) grown f h) based);
  }

  -- each path leads where it led
  pub leaf_paths : (v : List ℕ) (s : ℕ) → IsAt T v s → IsAt T₂ v s
  leaf_paths v s on = let up = path_grown v s on in let k = path_kept size' size' T₁ T₂ (λ q. q) based (follow_on v []) up.0 in (k.0, k.1 ∙ up.1)
