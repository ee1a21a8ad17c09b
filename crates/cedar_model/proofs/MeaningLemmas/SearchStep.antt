-- What a search reads at a node.
use Rattle.std.proofs.Common.{◌≡◌, ℕ, ◌<◌, ◌≤◌, List, [], ◌∷◌, length, get_or, drop, add-one, drop-cons, ◌+◌, sym, ◌∙◌, ap, refl, subst, inl, inr, arith, Option, Some, None, cond, true, false}
use Rattle.std.specs.Prelude.{ℤ, pos, bit_xor, ◌%◌, ◌||◌, option_map}
use lib.Bits.{xor_zero_r}
use Rattle.std.proofs.lemmas.Bool.Decides.{eqb_tells}
use Rattle.std.proofs.lemmas.List.{drop_all}
use Rattle.cedar_tree.specs.Tree.{Forest, none, child, Tree, has_label, subtree, number_at}
use Rattle.cedar_tree.specs.Queries.{exact}
use Rattle.cedar_model.specs.declared.layout.Stored.{Stored}
use Rattle.cedar_model.specs.declared.layout.Stored.TheVariants.{AtBase, OwnNumber, Nothing}
use Rattle.cedar_model.specs.Table.Cells.{Cells}
use Rattle.cedar_model.specs.Meaning.Family.{base_in, base_of, below, Head, plain, valued, own, top, number_of, Among, owned_slots, InRange, Family}
use Rattle.cedar_model.specs.Meaning.StandsFor.{labels, ChildrenStand, Stands, RootStands}
use Rattle.cedar_model.proofs.MeaningLemmas.ExclusiveOr.{xor_back, xor_within}
use Rattle.cedar_model.proofs.MeaningLemmas.OneNode.{labels_own, owned_label}
use Rattle.cedar_model.proofs.MeaningLemmas.OneTree.{no_zero, family_no_zero}
use Rattle.cedar_tree.proofs.TreeLemmas.{number_at-empty, subtree_absent}

-- ---- the tree
pub has_among : (f : Forest) (l : ℕ) → Among (labels f) l → has_label f l ≡ true
has_among none l a = absurd a
has_among (child m n u rest) l a = elim (eqb_tells m l) [
  | inl e ↦ ap (λ b. b || has_label rest l) e.0
  | inr e ↦ ap (λ b. b || has_label rest l) e.0 ∙ elim a [ inl same ↦ absurd (e.1 same) | inr b ↦ has_among rest l b ]
]

pub has_not : (f : Forest) (l : ℕ) → (Among (labels f) l → ⊥) → has_label f l ≡ false
has_not none l a = refl
has_not (child m n u rest) l a = elim (eqb_tells m l) [
  | inl e ↦ absurd (a (inl e.1))
  | inr e ↦ ap (λ b. b || has_label rest l) e.0 ∙ has_not rest l (λ b. a (inr b))
]

-- one label more of a key
pub step_down : (u : Tree) (q : List ℕ) (k l : ℕ) → k < length q → l ≡ get_or q k 0 → number_at u (drop k q) ≡ number_at (subtree u.children l) (drop (k + 1) q)
step_down u q k l h e = rw (drop-cons q k 0, ← e, add-one) refl

pub step_off : (u : Tree) (q : List ℕ) (k l : ℕ) → k < length q → l ≡ get_or q k 0 → has_label u.children l ≡ false → number_at u (drop k q) ≡ None
step_off u q k l h e n = step_down u q k l h e ∙ ap (λ t. number_at t (drop (k + 1) q)) (subtree_absent u.children l n) ∙ number_at-empty (drop (k + 1) q)

pub at_end : (u : Tree) (q : List ℕ) (k : ℕ) → length q ≤ k → number_at u (drop k q) ≡ u.number
at_end u q k h = ap (number_at u) (drop_all k q h)

pub exact_is : (t : Tree) (q : List ℕ) (n : Option ℤ) → number_at t q ≡ n → exact t q ≡ option_map (λ v. (v, length q)) n
exact_is t q n e = ap (option_map (λ v. (v, length q))) e

-- ---- the slots
pub child_stands : (size : ℕ) (T : Cells) (s : ℕ) (f : Forest) (l : ℕ) → Among (labels f) l → ChildrenStand size T s f → Stands size T (below T s l) (subtree f l)
child_stands size T s none l a g = absurd a
child_stands size T s (child m n u rest) l a g = elim (eqb_tells m l) [
  | inl e ↦
      let here : Stands size T (below T s m) (record { number = n; children = u }) = record { head = g.0.head; number = g.0.number; family = g.0.family; lower = g.1 } in
      subst (λ t. Stands size T (below T s l) t) (sym (ap (λ b. cond b (record { number = n; children = u }) (subtree rest l)) e.0)) (subst (λ x. Stands size T (below T s x) (record { number = n; children = u })) e.1 here)
  | inr e ↦
      subst (λ t. Stands size T (below T s l) t) (sym (ap (λ b. cond b (record { number = n; children = u }) (subtree rest l)) e.0))
      (child_stands size T s rest l (elim a [ inl same ↦ absurd (e.1 same) | inr b ↦ b ]) g.2)
]

pub root_stands : (size : ℕ) (T : Cells) (f : Forest) → RootStands size T f → Stands size T 0 (record { number = None; children = f })
root_stands size T f st = record { head = top; number = refl; family = st.0; lower = st.1 }

-- the base field of a node says something
pub says_something : (size : ℕ) (T : Cells) (s : ℕ) (h : Head) (ls : List ℕ) → Family size T s h ls → T.stored s ≡ Nothing → ⊥
says_something size T s h ls fam e = by_head h ls fam
  where
    low : InRange size (T.stored s) → ⊥
    low r = let z : 256 ≤ base_in Nothing = subst (λ x. 256 ≤ base_in x) e r.0 in omega arith

    differ : Nothing ≡ AtBase 0 → ⊥
    differ z = cc

    by_head : (h : Head) (ls : List ℕ) → Family size T s h ls → ⊥
    by_head plain [] f = elim f.based [ inl z ↦ differ (sym e ∙ z) | inr r ↦ low r ]
    by_head plain (m ∷ ls) f = low f.based
    by_head (valued w) ls f = low f.based
    by_head (own w) ls f = let z : OwnNumber w ≡ Nothing = sym f.based ∙ e in cc
    by_head top ls f = let z : AtBase 0 ≡ Nothing = sym f.based ∙ e in cc

module _ (size : ℕ) (T : Cells) (s : ℕ) (t : Tree) (k : Stands size T s t) where
  -- an owned slot is a child's
  pub child_found : (b l : ℕ) → T.stored s ≡ AtBase b → 0 < l → T.check (bit_xor b l) ≡ pos s → Stands size T (bit_xor b l) (subtree t.children l)
  child_found b l e p o =
      let at : below T s l ≡ bit_xor b l = ap (λ z. bit_xor (base_in z) l) e in
      let a : Among (labels t.children) l = owned_label size T s l k.head (labels t.children) k.family (λ z. omega arith) (ap T.check at ∙ o) in
      subst (λ x. Stands size T x (subtree t.children l)) at (child_stands size T s t.children l a k.lower)

  -- any other is not
  pub child_missing : (b l : ℕ) → T.stored s ≡ AtBase b → (T.check (bit_xor b l) ≡ pos s → ⊥) → has_label t.children l ≡ false
  child_missing b l e n =
      let at : below T s l ≡ bit_xor b l = ap (λ z. bit_xor (base_in z) l) e in
      has_not t.children l (λ a. n (ap T.check (sym at) ∙ labels_own T s k.head (labels t.children) k.family.begins l a))

  pub no_label_zero : has_label t.children 0 ≡ false
  no_label_zero = has_not t.children 0 (family_no_zero T s k.head (labels t.children) k.family.begins)

  -- a node without a base has no labels
  pub unbased : ((b : ℕ) → T.stored s ≡ AtBase b → ⊥) → (l : ℕ) → has_label t.children l ≡ false
  unbased n l = has_not t.children l (by_head k.head (labels t.children) k.family)
    where
      in_range : (st : Stored) → ((b : ℕ) → st ≡ AtBase b → ⊥) → InRange size st → ⊥
      in_range (AtBase b) m r = m b refl
      in_range (OwnNumber v) m r = omega (arith, r.0)
      in_range Nothing m r = omega (arith, r.0)

      by_head : (h : Head) (ls : List ℕ) → Family size T s h ls → Among ls l → ⊥
      by_head plain [] f a = a
      by_head plain (m ∷ ls) f a = in_range (T.stored s) n f.based
      by_head (valued v) ls f a = in_range (T.stored s) n f.based
      by_head (own v) ls f a = subst (λ x. Among x l) f.begins.1 a
      by_head top ls f a = n 0 f.based

  -- where its slots lie
  pub slot_in : (b l : ℕ) → T.stored s ≡ AtBase b → l < 256 → 256 ≤ size → size % 256 ≡ 0 → bit_xor b l < size
  slot_in b l e h some whole = xor_within size b l whole (by_head k.head (labels t.children) k.family) h
    where
      by_head : (h : Head) (ls : List ℕ) → Family size T s h ls → b < size
      by_head plain [] f = elim f.based [ inl z ↦ zero_in z | inr r ↦ subst (λ z. base_in z < size) e r.1 ]
        where
          zero_in : T.stored s ≡ AtBase 0 → b < size
          zero_in z = let same : b ≡ 0 = ap base_in (sym e ∙ z) in omega arith
      by_head plain (m ∷ ls) f = subst (λ z. base_in z < size) e f.based.1
      by_head (valued v) ls f = subst (λ z. base_in z < size) e f.based.1
      by_head (own v) ls f = let same : b ≡ 0 = ap base_in (sym e ∙ f.based) in omega arith
      by_head top ls f = let same : b ≡ 0 = ap base_in (sym e ∙ f.based) in omega arith

  -- a number in a slot
  pub number_found : (b : ℕ) → T.stored s ≡ AtBase b → T.check b ≡ pos s → t.number ≡ Some (T.base b)
  number_found b e o = sym k.number ∙ by_head k.head (labels t.children) k.family
    where
      at : below T s 0 ≡ b
      at = ap (λ z. bit_xor (base_in z) 0) e ∙ xor_zero_r b

      zero_owned : (h : Head) (ls : List ℕ) → Family size T s h ls → Among (owned_slots h ls) 0
      zero_owned h ls f = subst (Among (owned_slots h ls)) (xor_back (base_of T s) 0) (f.only (below T s 0) (ap T.check at ∙ o))

      by_head : (h : Head) (ls : List ℕ) → Family size T s h ls → number_of h ≡ Some (T.base b)
      by_head plain ls f = absurd (no_zero T s _ ls f.begins (zero_owned plain ls f))
      by_head (valued v) ls f = ap Some (sym f.begins.2 ∙ ap T.base at)
      by_head (own v) ls f = absurd (subst (λ x. Among x 0) f.begins.1 (zero_owned (own v) ls f))
      by_head top ls f = absurd (no_zero T s _ ls f.begins.2 (zero_owned top ls f))

  pub number_missing : (b : ℕ) → T.stored s ≡ AtBase b → (T.check b ≡ pos s → ⊥) → t.number ≡ None
  number_missing b e n = sym k.number ∙ by_head k.head (labels t.children) k.family
    where
      at : below T s 0 ≡ b
      at = ap (λ z. bit_xor (base_in z) 0) e ∙ xor_zero_r b

      by_head : (h : Head) (ls : List ℕ) → Family size T s h ls → number_of h ≡ None
      by_head plain ls f = refl
      by_head (valued v) ls f = absurd (n (ap T.check (sym at) ∙ f.begins.1))
      by_head (own v) ls f = let z : AtBase b ≡ OwnNumber v = sym e ∙ f.based in cc
      by_head top ls f = refl

  -- a number in the node's own field, or nothing there
  pub number_own : (v : ℤ) → T.stored s ≡ OwnNumber v → t.number ≡ Some v
  number_own v e = sym k.number ∙ by_head k.head (labels t.children) k.family
    where
      low : InRange size (T.stored s) → ⊥
      low r = let z : 256 ≤ base_in (OwnNumber v) = subst (λ x. 256 ≤ base_in x) e r.0 in omega arith

      by_head : (h : Head) (ls : List ℕ) → Family size T s h ls → number_of h ≡ Some v
      by_head plain [] f = absurd (elim f.based [ inl z ↦ differ (sym e ∙ z) | inr r ↦ low r ])
        where
          differ : OwnNumber v ≡ AtBase 0 → ⊥
          differ z = cc
      by_head plain (m ∷ ls) f = absurd (low f.based)
      by_head (valued w) ls f = absurd (low f.based)
      by_head (own w) ls f = let z : OwnNumber w ≡ OwnNumber v = sym f.based ∙ e in let same : w ≡ v = cc in ap Some same
      by_head top ls f = let z : AtBase 0 ≡ OwnNumber v = sym f.based ∙ e in cc

  pub never_nothing : T.stored s ≡ Nothing → ⊥
  never_nothing e = says_something size T s k.head (labels t.children) k.family e

  -- a node that names a first label has no number
  pub number_named : (T.child s ≡ 0 → ⊥) → t.number ≡ None
  number_named n = sym k.number ∙ by_head k.head (labels t.children) k.family
    where
      by_head : (h : Head) (ls : List ℕ) → Family size T s h ls → number_of h ≡ None
      by_head plain ls f = refl
      by_head (valued v) ls f = absurd (n f.begins.0)
      by_head (own v) ls f = absurd (n f.begins.0)
      by_head top ls f = refl
