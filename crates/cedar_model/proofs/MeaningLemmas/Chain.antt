-- A node's chain, as a walk along it finds it.
use Rattle.std.proofs.Common.{◌≡◌, ℕ, ◌+◌, ◌<◌, ◌≤◌, List, [], ◌∷◌, length, sym, ◌∙◌, refl, subst, inl, inr, arith, Bool}
use Rattle.std.specs.Prelude.{pos}
use Rattle.std.proofs.lemmas.Bool.{cases_eq, cases_lt}
use Rattle.cedar_model.specs.declared.layout.Stored.TheVariants.{AtBase}
use Rattle.cedar_model.specs.Table.Cells.{Cells}
use Rattle.cedar_model.specs.Meaning.Family.{Among, base_of, below, Family, Head, Links, own, plain, top, valued}
use Rattle.cedar_model.specs.Edit.NodeEdits.{Above, Ascends, HasChain, IsLabelOf, IsLead}
use Rattle.cedar_model.proofs.MeaningLemmas.OneNode.{links_small}
use Rattle.cedar_model.proofs.MeaningLemmas.ReadBack.{short_list}
use Rattle.cedar_model.proofs.MeaningLemmas.ExclusiveOr.{xor_back}
use Rattle.cedar_model.proofs.MeaningLemmas.OneTree.{family_no_zero, links_distinct, no_zero}

-- a node that owns no number's slot, by its labels, has none
pub zero_unowned : (size : ℕ) (T : Cells) (a : ℕ) (h : Head) (ls : List ℕ) → Family size T a h ls → ((q : ℕ) → T.check q ≡ pos a → Among ls (below T a q)) → T.check (below T a 0) ≡ pos a → ⊥
zero_unowned size T a h ls f only o = family_no_zero T a h ls f.begins (subst (Among ls) (xor_back (base_of T a) 0) (only _ o))

-- behind its lead a node's chain begins
pub lead_links : (size : ℕ) (T : Cells) (ordered : Bool) (a b : ℕ) (k : HasChain size T ordered a) → IsLead T a b → Links T a (T.sibling b) k.listed
lead_links size T ordered a b k lead = by_head k.head k.listed k.family k.root lead
  where
    by_head : (h : Head) (ls : List ℕ) → Family size T a h ls → (a ≡ 0 → h ≡ top) → IsLead T a b → Links T a (T.sibling b) ls
    by_head top ls f z (inl r) = subst (λ y. Links T a (T.sibling y) ls) (r.0 ∙ sym r.1) f.begins.2
    by_head top ls f z (inr n) = absurd (zero_unowned size T a top ls f f.only n.0)
    by_head plain ls f z (inl r) = let e : plain ≡ top = z r.0 in cc
    by_head plain ls f z (inr n) = absurd (zero_unowned size T a plain ls f f.only n.0)
    by_head (valued v) ls f z (inl r) = let e : valued v ≡ top = z r.0 in cc
    by_head (valued v) ls f z (inr n) = subst (λ y. Links T a (T.sibling y) ls) (sym n.1) f.begins.4
    by_head (own v) ls f z (inl r) = let e : own v ≡ top = z r.0 in cc
    by_head (own v) ls f z (inr n) = absurd (zero_unowned size T a (own v) ls f f.only n.0)

-- a chain without a lead begins in the node's own slot
pub first_links : (size : ℕ) (T : Cells) (ordered : Bool) (a : ℕ) (k : HasChain size T ordered a) → (a ≡ 0 → ⊥) → (T.check (below T a 0) ≡ pos a → ⊥) → Links T a (T.child a) k.listed
first_links size T ordered a k z n = by_head k.head k.listed k.family
  where
    by_head : (h : Head) (ls : List ℕ) → Family size T a h ls → Links T a (T.child a) ls
    by_head plain ls f = f.begins
    by_head (valued v) ls f = absurd (n f.begins.1)
    by_head (own v) ls f = subst (Links T a (T.child a)) (sym f.begins.1) f.begins.0
    by_head top ls f = absurd (z f.begins.0)

-- the root has no base
pub root_stored : (size : ℕ) (T : Cells) (ordered : Bool) (a : ℕ) (k : HasChain size T ordered a) → a ≡ 0 → T.stored a ≡ AtBase 0
root_stored size T ordered a k z = by_head k.head k.family (k.root z)
  where
    by_head : (h : Head) → Family size T a h k.listed → h ≡ top → T.stored a ≡ AtBase 0
    by_head top f e = f.based
    by_head plain f e = cc
    by_head (valued v) f e = cc
    by_head (own v) f e = cc

-- each chain begins somewhere
pub chain_start : (size : ℕ) (T : Cells) (ordered : Bool) (a : ℕ) (k : HasChain size T ordered a) → (c : ℕ) × Links T a c k.listed
chain_start size T ordered a k = by_head k.head k.listed k.family
  where
    by_head : (h : Head) (ls : List ℕ) → Family size T a h ls → (c : ℕ) × Links T a c ls
    by_head plain ls f = (T.child a, f.begins)
    by_head (valued v) ls f = (T.sibling (below T a 0), f.begins.4)
    by_head (own v) ls f = (T.child a, subst (Links T a (T.child a)) (sym f.begins.1) f.begins.0)
    by_head top ls f = (T.sibling a, f.begins.2)

-- 0 is no label, so a chain has at most 255
pub links_few : (T : Cells) (a c : ℕ) (ls : List ℕ) → Links T a c ls → length ls < 256
links_few T a c ls h =
    let few : length (0 ∷ ls) ≤ 256 = short_list (0 ∷ ls) 256 (no_zero T a c ls h, links_distinct T a c ls h) small in
    omega (arith, few)
  where
    small : (q : ℕ) → Among (0 ∷ ls) q → q < 256
    small q (inl e) = omega arith
    small q (inr i) = links_small T a c ls h q i

-- what is left of a chain after one label
pub record Next (T : Cells) (a next : ℕ) (ls : List ℕ) : Type 0 where
  pub rest : List ℕ
  pub links : Links T a (T.sibling (below T a next)) rest
  pub shorter : length rest + 1 ≡ length ls
  pub label : IsLabelOf T a next (below T a next)

pub links_next : (T : Cells) (a next : ℕ) (ls : List ℕ) → Links T a next ls → (next ≡ 0 → ⊥) → Next T a next ls
links_next T a next [] h z = absurd (z h)
links_next T a next (m ∷ ls) h z = record {
  rest = ls;
  links = subst (λ x. Links T a (T.sibling (below T a x)) ls) (sym h.0) h.4;
  shorter = omega arith;
  label = record {
    positive = subst (λ x. 0 < x) (sym h.0) h.1;
    small = subst (λ x. x < 256) (sym h.0) h.2;
    owner = subst (λ x. T.check (below T a x) ≡ pos a) (sym h.0) h.3;
    is = refl;
  };
}

-- a label that isn't there and isn't below this one is above it
pub strictly_below : (T : Cells) (a next l : ℕ) → T.check (below T a next) ≡ pos a → (l < next → ⊥) → (T.check (below T a l) ≡ pos a → ⊥) → next < l
strictly_below T a next l o n absent = elim (cases_eq next l) [
  | inl e ↦ absurd (absent (subst (λ x. T.check (below T a x) ≡ pos a) e o))
  | inr other ↦ elim (cases_lt next l) [ inl h ↦ h | inr h ↦ absurd (n (omega arith)) ]
]

-- ---- chains that ascend

pub above_all : (b x : ℕ) (ms : List ℕ) → Above b ms → Among ms x → b < x
above_all b x [] u i = absurd i
above_all b x (m ∷ ms) u (inl e) = omega (arith, u.0, e)
above_all b x (m ∷ ms) u (inr i) = omega (arith, u.0, above_all m x ms u.1 i)

above_ascends : (m : ℕ) (ms : List ℕ) → Above m ms → Ascends ms
above_ascends m [] u = tt
above_ascends m (j ∷ js) u = u.1

pub least : (T : Cells) (a c : ℕ) (ls : List ℕ) → Links T a c ls → Ascends ls → (y : ℕ) → Among ls y → (c ≡ 0 → ⊥) × (c ≤ y)
least T a c [] h u y i = absurd i
least T a c (m ∷ ms) h u y (inl e) = ((λ z. omega (arith, h.0, h.1, z)), omega (arith, h.0, e))
least T a c (m ∷ ms) h u y (inr i) = ((λ z. omega (arith, h.0, h.1, z)), omega (arith, h.0, above_all m y ms u i))

-- each label leads to the next greater one
pub greater_next : (T : Cells) (a c : ℕ) (ls : List ℕ) → Links T a c ls → Ascends ls → (x y : ℕ) → Among ls x → Among ls y → x < y → (T.sibling (below T a x) ≡ 0 → ⊥) × (T.sibling (below T a x) ≤ y)
greater_next T a c [] h u x y i j less = absurd i
greater_next T a c (m ∷ ms) h u x y (inl e) (inl d) less = absurd (omega (arith, e, d, less))
greater_next T a c (m ∷ ms) h u x y (inl e) (inr j) less =
    subst (λ z. (T.sibling (below T a z) ≡ 0 → ⊥) × (T.sibling (below T a z) ≤ y)) e (least T a (T.sibling (below T a m)) ms h.4 (above_ascends m ms u) y j)
greater_next T a c (m ∷ ms) h u x y (inr i) (inl d) less = absurd (omega (arith, above_all m x ms u i, d, less))
greater_next T a c (m ∷ ms) h u x y (inr i) (inr j) less = greater_next T a (T.sibling (below T a m)) ms h.4 (above_ascends m ms u) x y i j less
