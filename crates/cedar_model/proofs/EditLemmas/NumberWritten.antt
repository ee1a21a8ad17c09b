-- A number written into its slot, and a slot taken for one.
use Rattle.std.proofs.Common.{◌≡◌, ℕ, List, sym, ◌∙◌, ap, refl, subst, inl, inr, Bool, cond}
use Rattle.std.specs.Prelude.{bit_xor, ℤ, pos}
use Rattle.std.proofs.lemmas.Bool.{cases_eq}
use Rattle.cedar_tree.specs.Tree.{Forest}
use Rattle.cedar_model.specs.declared.layout.Stored.{Stored}
use Rattle.cedar_model.specs.Table.Cells.{Cells, Held, NodeWritten, Takes}
use Rattle.cedar_model.specs.Meaning.Family.{base_in, below, Family, Head, InRange, own, plain, top, valued}
use Rattle.cedar_model.specs.Meaning.StandsFor.{HoldsTree}
use Rattle.cedar_model.specs.Meaning.Reading.{first_in}
use Rattle.cedar_model.specs.Edit.NodeEdits.{HasChain, SetsChild, SetsNumber, SetsSibling, Touches}
use Rattle.cedar_model.proofs.MeaningLemmas.Chain.{zero_unowned}
use Rattle.cedar_model.proofs.EditLemmas.SlotGiven.{number_alone}
use Rattle.cedar_model.proofs.MeaningLemmas.Paths.{owner_held}
use Rattle.cedar_model.proofs.MeaningLemmas.ExclusiveOr.{pos_injective}
use Rattle.cedar_model.proofs.MeaningLemmas.OneTree.{owns_no, owns_yes}

-- the links of a node with a number go by the number's slot
numbered : (size : ℕ) (T : Cells) (ordered : Bool) (a : ℕ) → HasChain size T ordered a → T.check (below T a 0) ≡ pos a → (T.child a ≡ 0) × (T.child (below T a 0) ≡ 0)
numbered size T ordered a k o = by_head k.head k.listed k.family
  where
    by_head : (h : Head) (ls : List ℕ) → Family size T a h ls → (T.child a ≡ 0) × (T.child (below T a 0) ≡ 0)
    by_head plain ls f = absurd (zero_unowned size T a plain ls f f.only o)
    by_head (valued v) ls f = (f.begins.0, f.begins.3)
    by_head (own v) ls f = absurd (zero_unowned size T a (own v) ls f f.only o)
    by_head top ls f = absurd (zero_unowned size T a top ls f f.only o)

-- the number's slot is written
module _ (reads : ℤ → Stored) (size : ℕ) (T T' : Cells) (ordered : Bool) (f : Forest) (a : ℕ) (v c : ℤ) (h : HoldsTree size T f) (k : HasChain size T ordered a) (was : T.check (below T a 0) ≡ pos a)
    (not_own : T.check a ≡ pos a → ⊥) (based : InRange size (T.stored a)) (w : NodeWritten reads T T' (below T a 0) v c) (c_is : c ≡ pos a) where
  apart : a ≡ below T a 0 → ⊥
  apart e = not_own (ap T.check e ∙ was)

  check : (q : ℕ) → T'.check q ≡ T.check q
  check q = elim (cases_eq q (below T a 0)) [
    | inl e ↦ ap T'.check e ∙ w.check_at ∙ c_is ∙ sym (ap T.check e ∙ was)
    | inr n ↦ w.check q n
  ]

  place : T'.stored a ≡ T.stored a
  place = w.stored a apart

  same : below T a 0 ≡ below T' a 0
  same = ap (λ z. bit_xor (base_in z) 0) (sym place)

  touches : Touches T T' a (below T a 0)
  touches = record {
    base = λ q _ n m. w.base q m;
    stored = λ q _ n m. w.stored q m;
    child = λ q _ n m. w.child q;
    sibling = λ q c o n. w.sibling q;
    check = λ q c o n. check q ∙ o;
    back = λ q c o n. sym (check q) ∙ o;
    root = λ z. w.sibling 0;
    place = λ q o. place;
    mine = λ q o m. check q ∙ o;
    only = λ q o. inl (sym (check q) ∙ o);
    alone = number_alone size T f a h was;
    owner = λ c o. pos_injective c a (sym o ∙ was);
    not_root = λ z. h.root a (ap T.check (sym z) ∙ was);
  }

  pub number_written : SetsNumber size T T' a v
  number_written =
      let n = numbered size T ordered a k was in
      let first : first_in T a ≡ T.sibling (below T a 0) = ap (λ b. cond b (T.sibling (below T a 0)) (T.child a)) (owns_yes T a was) in
      record {
        touches = subst (λ x. Touches T T' a x) same touches;
        in_range = subst (InRange size) (sym place) based;
        taken = ap T'.check (sym same) ∙ check _ ∙ was;
        value = ap T'.base (sym same) ∙ w.base_at;
        leaf_child = ap T'.child (sym same) ∙ w.child _ ∙ n.1;
        through = w.child a ∙ n.0;
        first = ap T'.sibling (sym same) ∙ w.sibling _ ∙ sym first;
        next = λ q o m. w.sibling q;
      }

-- a slot is taken for the number, before all labels
module _ (size : ℕ) (T T₁ T₂ T₃ : Cells) (f : Forest) (a : ℕ) (v : ℤ) (h : HoldsTree size T f) (held : Held T a) (based : InRange size (T.stored a)) (free : Held T (below T a 0) → ⊥)
    (t : Takes T T₁ (below T a 0) a) (value : T₁.base (below T a 0) ≡ v) (s : SetsSibling T₁ T₂ (below T a 0) (T₁.child a)) (b : SetsChild T₂ T₃ a 0) where
  off : (q : ℕ) → Held T q → q ≡ below T a 0 → ⊥
  off q o e = free (subst (Held T) e o)

  mine_apart : below T a 0 ≡ a → ⊥
  mine_apart e = off a held (sym e)

  check_later : (q : ℕ) → T₃.check q ≡ T₁.check q
  check_later q = b.check q ∙ s.check q

  place_kept : T₃.stored a ≡ T.stored a
  place_kept = b.stored a ∙ s.stored a ∙ (t.other a (off a held) held).stored

  same_kept : below T a 0 ≡ below T₃ a 0
  same_kept = ap (λ z. bit_xor (base_in z) 0) (sym place_kept)

  sibling_kept : (q : ℕ) → Held T q → T₃.sibling q ≡ T.sibling q
  sibling_kept q o = b.sibling q ∙ s.other q (off q o) ∙ (t.other q (off q o) o).sibling

  before : (q c : ℕ) → (q ≡ below T a 0 → ⊥) → T₃.check q ≡ pos c → T.check q ≡ pos c
  before q c n o =
      let first : T₁.check q ≡ pos c = sym (check_later q) ∙ o in
      let o' : Held T q = t.free q n (inr (c, first)) in
      sym (t.other q n o').check ∙ first

  touches_taken : Touches T T₃ a (below T a 0)
  touches_taken = record {
    base = λ q o n m. b.base q ∙ s.base q ∙ (t.other q m o).base;
    stored = λ q o n m. b.stored q ∙ s.stored q ∙ (t.other q m o).stored;
    child = λ q o n m. b.other q n ∙ s.child q ∙ (t.other q m o).child;
    sibling = λ q c o n. sibling_kept q (inr (c, o));
    check = λ q c o n. check_later q ∙ (t.other q (off q (inr (c, o))) (inr (c, o))).check ∙ o;
    back = λ q c o n. elim (cases_eq q (below T a 0)) [
      | inl e ↦ absurd (n (pos_injective c a (sym (sym (check_later q) ∙ o) ∙ ap T₁.check e ∙ t.at)))
      | inr m ↦ before q c m o
    ];
    root = λ z. sibling_kept 0 (inl refl);
    place = λ q o. place_kept;
    mine = λ q o m. check_later q ∙ (t.other q m (inr (a, o))).check ∙ o;
    only = λ q o. elim (cases_eq q (below T a 0)) [ inl e ↦ inr e | inr m ↦ inl (before q a m o) ];
    alone = λ q o. free (owner_held size T f h q _ o);
    owner = λ c o. absurd (free (inr (c, o)));
    not_root = λ z. free (inl z);
  }

  pub number_taken : SetsNumber size T T₃ a v
  number_taken =
      let first : first_in T a ≡ T.child a = ap (λ y. cond y (T.sibling (below T a 0)) (T.child a)) (owns_no T a (λ o. free (inr (a, o)))) in
      record {
        touches = subst (λ x. Touches T T₃ a x) same_kept touches_taken;
        in_range = subst (InRange size) (sym place_kept) based;
        taken = ap T₃.check (sym same_kept) ∙ check_later _ ∙ t.at;
        value = ap T₃.base (sym same_kept) ∙ b.base _ ∙ s.base _ ∙ value;
        leaf_child = ap T₃.child (sym same_kept) ∙ b.other _ mine_apart ∙ s.child _ ∙ t.child;
        through = b.at;
        first = ap T₃.sibling (sym same_kept) ∙ b.sibling _ ∙ s.at ∙ (t.other a (off a held) held).child ∙ sym first;
        next = λ q o m. sibling_kept q (inr (a, o));
      }

-- the root's own slot is neither written nor taken
pub root_check_written : (reads : ℤ → Stored) (T T' : Cells) (q a : ℕ) (v c : ℤ) → T.check q ≡ pos a → ((x : ℕ) → T.check 0 ≡ pos x → ⊥) → NodeWritten reads T T' q v c → T'.check 0 ≡ T.check 0
root_check_written reads T T' q a v c o root w = w.check 0 (λ z. root a (ap T.check z ∙ o))

pub root_check_taken : (T T₁ T₂ T₃ : Cells) (q a x y : ℕ) → (Held T q → ⊥) → Takes T T₁ q a → SetsSibling T₁ T₂ q x → SetsChild T₂ T₃ a y → T₃.check 0 ≡ T.check 0
root_check_taken T T₁ T₂ T₃ q a x y free t s b = b.check 0 ∙ s.check 0 ∙ (t.other 0 (λ z. free (inl (sym z))) (inl refl)).check
