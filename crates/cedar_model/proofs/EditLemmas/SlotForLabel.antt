-- A free slot taken for a label and linked at its place.
use Rattle.std.proofs.Common.{◌≡◌, ℕ, ◌<◌, sym, ◌∙◌, ap, refl, subst, inl, inr, arith, Bool, Option, Some, None, cond}
use Rattle.std.specs.Prelude.{◌%◌, bit_xor, MatchOption, pos}
use lib.Bits.{xor_zero_r}
use Rattle.std.proofs.lemmas.Bool.{cases_eq}
use Rattle.cedar_tree.specs.Tree.{Forest}
use Rattle.cedar_model.specs.declared.layout.Stored.TheVariants.{AtBase}
use Rattle.cedar_model.specs.Table.Cells.{Cells, Held, Takes}
use Rattle.cedar_model.specs.Meaning.Family.{base_in, base_of, below, InRange}
use Rattle.cedar_model.specs.Meaning.Reading.{first_in}
use Rattle.cedar_model.specs.Edit.NodeEdits.{AddsLabel, CanAdd, FirstIs, GoesBehind, GoesFirst, HasChain, IsBehind, IsLead, IsNodeOf, IsPlaceFor, LinkedBehind, LinkedChild}
use Rattle.cedar_model.proofs.EditLemmas.AscendingPlace.{adds_behind_label}
use Rattle.cedar_model.proofs.EditLemmas.LinkInFront.{adds_behind, adds_child, can_add}
use Rattle.cedar_model.proofs.EditLemmas.LeafAtPlace.{chain_at}
use Rattle.cedar_model.proofs.MeaningLemmas.ExclusiveOr.{xor_within}
use Rattle.cedar_model.proofs.MeaningLemmas.OneTree.{owns_no, owns_yes}

-- what a caller shows of a node is what a new label needs
pub can_add_at : (size : ℕ) (T : Cells) (ordered : Bool) (f : Forest) (a l : ℕ) (k : IsNodeOf size T ordered f a) → 0 < l → l < 256
    → ((a ≡ 0 → ⊥) → InRange size (T.stored a)) → (Held T (below T a l) → ⊥) → CanAdd size T a l
can_add_at size T ordered f a l k p s based free =
    subst (λ x. CanAdd size T x l) k.at.1
    (can_add size T f _ l k.holds k.at.0 p s (subst (λ x. (x ≡ 0 → ⊥) → InRange size (T.stored x)) (sym k.at.1) based) (subst (λ x. Held T (below T x l) → ⊥) (sym k.at.1) free))

pub chain_of_node : (size : ℕ) (T : Cells) (ordered : Bool) (f : Forest) (a : ℕ) → IsNodeOf size T ordered f a → HasChain size T ordered a
chain_of_node size T ordered f a k = chain_at size T ordered f k.holds k.ascending k.path a k.at

-- the slots of a node's labels are in use
pub base_inside : (size : ℕ) (T : Cells) (a l : ℕ) → 0 < size → CanAdd size T a l → base_of T a < size
base_inside size T a l some k = elim (cases_eq a 0) [
  | inl z ↦ let at : base_of T a ≡ 0 = ap base_in (k.low z) in omega (arith, at, some)
  | inr n ↦ (k.in_range n).1
]

pub slot_inside : (size : ℕ) (T : Cells) (a l : ℕ) → 0 < size → size % 256 ≡ 0 → CanAdd size T a l → below T a l < size
slot_inside size T a l some whole k = xor_within size (base_of T a) l whole (base_inside size T a l some k) k.small

pub lead_inside : (size : ℕ) (T : Cells) (a : ℕ) → base_of T a < size → below T a 0 < size
lead_inside size T a h = subst (λ x. x < size) (sym (xor_zero_r (base_of T a))) h

-- the root's own slot is where its label 0 would be
pub root_lead : (T : Cells) (a : ℕ) → a ≡ 0 → T.stored a ≡ AtBase 0 → below T a 0 ≡ 0
root_lead T a z e = ap (λ s. bit_xor (base_in s) 0) e

pub held_behind : (T : Cells) (ordered : Bool) (a l b : ℕ) → IsBehind T ordered a l b → Held T b
held_behind T ordered a l b (inl (inl r)) = inl r.1
held_behind T ordered a l b (inl (inr n)) = inr (a, ap T.check n.1 ∙ n.0)
held_behind T ordered a l b (inr m) = inr (a, m.3.owner)

module _ (size : ℕ) (T T₁ T₂ : Cells) (ordered : Bool) (a l : ℕ) (k : CanAdd size T a l) (t : Takes T T₁ (below T a l) a) (bare : T₁.stored (below T a l) ≡ AtBase 0) (chain : HasChain size T ordered a) where
  root_no_number : a ≡ 0 → T.check (below T a 0) ≡ pos a → ⊥
  root_no_number z o = k.root a (ap T.check (sym (root_lead T a z (k.low z))) ∙ o)

  first_plain : (a ≡ 0 → ⊥) → (T.check (below T a 0) ≡ pos a → ⊥) → first_in T a ≡ T.child a
  first_plain z n = ap (λ b. cond b (T.sibling (below T a 0)) (T.child a)) (owns_no T a n)

  first_numbered : T.check (below T a 0) ≡ pos a → first_in T a ≡ T.sibling (below T a 0)
  first_numbered o = ap (λ b. cond b (T.sibling (below T a 0)) (T.child a)) (owns_yes T a o)

  after_lead : (b : ℕ) → IsLead T a b → IsPlaceFor l (T.sibling b) → FirstIs T a (IsPlaceFor l)
  after_lead b (inl r) goes = (λ z. subst (λ x. IsPlaceFor l (T.sibling x)) (r.1 ∙ sym r.0) goes, λ z. absurd (z r.0))
  after_lead b (inr n) goes = (λ z. absurd (root_no_number z n.0), λ z. subst (IsPlaceFor l) (sym (first_numbered n.0)) (subst (λ x. IsPlaceFor l (T.sibling x)) n.1 goes))

  by_behind : (b : ℕ) → GoesBehind size T ordered a l b → IsBehind T ordered a l b → LinkedBehind T₁ T₂ b (below T a l) l → AddsLabel size ordered T T₂ a l
  by_behind b goes (inl lead) w = inl (adds_behind size T T₁ T₂ a l k t bare b w lead, λ is. after_lead b lead (goes.place is))
  by_behind b goes (inr m) w =
      inr (m.0, adds_behind_label size T T₁ T₂ a l k t bare (subst (λ o. HasChain size T o a) m.0 chain) b m.1 m.2 m.3 (goes.place m.0) w)

  pub label_linked : (before : Option ℕ) → MatchOption before (GoesFirst T ordered a l) (λ b. GoesBehind size T ordered a l b) → MatchOption before (LinkedChild T₁ T₂ a (below T a l) l) (λ b. LinkedBehind T₁ T₂ b (below T a l) l) → AddsLabel size ordered T T₂ a l
  label_linked None goes w =
      inl (adds_child size T T₁ T₂ a l k t bare w goes.not_root goes.no_number, λ is. (λ z. absurd (goes.not_root z), λ z. subst (IsPlaceFor l) (sym (first_plain z goes.no_number)) (goes.place is)))
  label_linked (Some b) goes w = by_behind b goes goes.behind w

  -- what the links find
  pub can_link : (before : Option ℕ) → MatchOption before (GoesFirst T ordered a l) (λ b. GoesBehind size T ordered a l b) → MatchOption before (Unit {0}) (λ b. (b < size) × Held T₁ b × (b ≡ below T a l → ⊥))
  can_link None goes = tt
  can_link (Some b) goes =
      let h : Held T b = held_behind T ordered a l b goes.behind in
      let apart : b ≡ below T a l → ⊥ = λ e. k.free (subst (Held T) e h) in
      (goes.inside, still b h apart, apart)
    where
      still : (q : ℕ) → Held T q → (q ≡ below T a l → ⊥) → Held T₁ q
      still q (inl z) n = inl z
      still q (inr o) n = inr (o.0, (t.other q n (inr o)).check ∙ o.1)

-- a slot that was taken for a label of a node and linked, whatever it is called
pub label_added_by : (size : ℕ) (T T₁ T₂ : Cells) (ordered : Bool) (f : Forest) (a l s : ℕ) → s ≡ below T a l → IsNodeOf size T ordered f a → CanAdd size T a l → Takes T T₁ s a → T₁.stored s ≡ AtBase 0
    → (before : Option ℕ) → MatchOption before (GoesFirst T ordered a l) (λ b. GoesBehind size T ordered a l b) → MatchOption before (LinkedChild T₁ T₂ a s l) (λ b. LinkedBehind T₁ T₂ b s l) → AddsLabel size ordered T T₂ a l
label_added_by size T T₁ T₂ ordered f a l s e node k t bare before goes w =
    label_linked size T T₁ T₂ ordered a l k (subst (λ x. Takes T T₁ x a) e t) (subst (λ x. T₁.stored x ≡ AtBase 0) e bare) (chain_of_node size T ordered f a node) before goes
    (subst (λ x. MatchOption before (LinkedChild T₁ T₂ a x l) (λ b. LinkedBehind T₁ T₂ b x l)) e w)

pub can_link_by : (size : ℕ) (T T₁ : Cells) (ordered : Bool) (f : Forest) (a l s n : ℕ) → n ≡ size → s ≡ below T a l → IsNodeOf size T ordered f a → CanAdd size T a l → Takes T T₁ s a → T₁.stored s ≡ AtBase 0
    → (before : Option ℕ) → MatchOption before (GoesFirst T ordered a l) (λ b. GoesBehind size T ordered a l b) → MatchOption before (Unit {0}) (λ b. (b < n) × Held T₁ b × (b ≡ s → ⊥))
can_link_by size T T₁ ordered f a l s n same e node k t bare before goes =
    subst (λ m. MatchOption before (Unit {0}) (λ b. (b < m) × Held T₁ b × (b ≡ s → ⊥))) (sym same)
    (subst (λ x. MatchOption before (Unit {0}) (λ b. (b < size) × Held T₁ b × (b ≡ x → ⊥))) (sym e)
    (can_link size T T₁ T₁ ordered a l k (subst (λ x. Takes T T₁ x a) e t) (subst (λ x. T₁.stored x ≡ AtBase 0) e bare) (chain_of_node size T ordered f a node) before goes))

-- the node's own slot is held still
pub held_after : (size : ℕ) (T T₁ : Cells) (a l s : ℕ) → s ≡ below T a l → CanAdd size T a l → Takes T T₁ s a → Held T₁ a × (a ≡ s → ⊥)
held_after size T T₁ a l s e k t =
    let apart : a ≡ s → ⊥ = λ z. k.free (subst (Held T) (z ∙ e) k.held) in
    (by_held k.held apart, apart)
  where
    by_held : Held T a → (a ≡ s → ⊥) → Held T₁ a
    by_held (inl z) n = inl z
    by_held (inr o) n = inr (o.0, (t.other a n (inr o)).check ∙ o.1)

-- and its base is as it was
pub slot_stays : (size : ℕ) (T T₁ T₂ : Cells) (a l s : ℕ) → s ≡ below T a l → CanAdd size T a l → Takes T T₁ s a → (before : Option ℕ) → MatchOption before (LinkedChild T₁ T₂ a s l) (λ b. LinkedBehind T₁ T₂ b s l) → s ≡ below T₂ a l
slot_stays size T T₁ T₂ a l s e k t before w =
    let apart : a ≡ s → ⊥ = λ z. k.free (subst (Held T) (z ∙ e) k.held) in
    e ∙ sym (ap (λ z. bit_xor (base_in z) l) (by_link before w ∙ (t.other a apart k.held).stored))
  where
    by_link : (before : Option ℕ) → MatchOption before (LinkedChild T₁ T₂ a s l) (λ b. LinkedBehind T₁ T₂ b s l) → T₂.stored a ≡ T₁.stored a
    by_link None w = w.stored a
    by_link (Some b) w = w.stored a

-- the root's slot is never the one that is taken
pub root_check_stays : (T T₁ T₂ : Cells) (a l s : ℕ) → s ≡ below T a l → (Held T (below T a l) → ⊥) → Takes T T₁ s a → (before : Option ℕ) → MatchOption before (LinkedChild T₁ T₂ a s l) (λ b. LinkedBehind T₁ T₂ b s l) → T₂.check 0 ≡ T.check 0
root_check_stays T T₁ T₂ a l s e free t before w = by_link before w ∙ (t.other 0 (λ z. free (inl (sym (z ∙ e)))) (inl refl)).check
  where
    by_link : (before : Option ℕ) → MatchOption before (LinkedChild T₁ T₂ a s l) (λ b. LinkedBehind T₁ T₂ b s l) → T₂.check 0 ≡ T₁.check 0
    by_link None w = w.check 0
    by_link (Some b) w = w.check 0
