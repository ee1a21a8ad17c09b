-- Whether a node is left bare once a bare child of it was taken away.
use Rattle.std.proofs.Common.{◌≡◌, ◌⊎◌, ℕ, List, [], ◌∷◌, sym, ◌∙◌, ap, subst, inl, inr, arith, Bool, true, false, cond, eqb, Option, is_none}
use Rattle.std.specs.Prelude.{◌&&◌, bit_xor, nat_eq, pos, ℤ}
use Rattle.std.proofs.lemmas.Bool.{false_from_ne_true, false≢true}
use Rattle.std.proofs.lemmas.Bool.Decides.{eqb_tells}
use Rattle.cedar_tree.specs.Tree.{Forest, is_bare, is_leafless, Tree}
use Rattle.cedar_tree.specs.Queries.{node_at}
use Rattle.cedar_model.specs.Table.Cells.{Cells}
use Rattle.cedar_model.specs.Edit.NodeEdits.{IsAt, Removes}
use Rattle.cedar_model.specs.Meaning.Family.{Among, base_in, base_of, below, Family, Head, Links, number_of, own, plain, top, valued}
use Rattle.cedar_model.specs.Meaning.StandsFor.{HoldsTree, labels}
use Rattle.cedar_model.specs.Edit.Steps.{root_of}
use Rattle.cedar_model.proofs.MeaningLemmas.NodeAtPath.{at_node}
use Rattle.cedar_model.proofs.MeaningLemmas.BareSlot.{leafless_is, numbered_not_bare}
use Rattle.cedar_model.proofs.EditLemmas.NumberMovesOut.{leaf_alone}
use Rattle.cedar_model.proofs.RelocationLemmas.Repointed.{names_none}
use Rattle.cedar_model.proofs.MeaningLemmas.ExclusiveOr.{xor_back}
use Rattle.cedar_model.proofs.MeaningLemmas.OneTree.{no_zero}

-- a chain with a label begins with one
linked_some : (T : Cells) (s c : ℕ) (ls : List ℕ) (x : ℕ) → Links T s c ls → Among ls x → c ≡ 0 → ⊥
linked_some T s c [] x h i e = i
linked_some T s c (m ∷ ms) x h i e = omega (arith, e, h.0, h.1)

-- what the test of a node below the root returns, and what that of the root
pub not_at_root : (a : ℕ) (answer x : Bool) → (a ≡ 0 → ⊥) → answer ≡ x → answer ≡ cond (nat_eq a 0) false x
not_at_root a answer x z e = elim (eqb_tells a 0) [ inl r ↦ absurd (z r.1) | inr r ↦ e ∙ sym (ap (λ b. cond b false x) r.0) ]

pub at_root : (a : ℕ) (answer x : Bool) → a ≡ 0 → answer ≡ false → answer ≡ cond (nat_eq a 0) false x
at_root a answer x z e = elim (eqb_tells a 0) [ inl r ↦ e ∙ sym (ap (λ b. cond b false x) r.0) | inr r ↦ absurd (r.1 z) ]

-- and what the results say
pub told_bare : (a : ℕ) (answer x : Bool) → answer ≡ cond (nat_eq a 0) false x → answer ≡ true → (a ≡ 0 → ⊥) × (x ≡ true)
told_bare a answer x e y = elim (eqb_tells a 0) [
  | inl r ↦ let n : answer ≡ false = e ∙ ap (λ b. cond b false x) r.0 in absurd (false≢true (sym n ∙ y))
  | inr r ↦ (r.1, sym (e ∙ ap (λ b. cond b false x) r.0) ∙ y)
]

pub told_not : (a : ℕ) (answer x : Bool) → answer ≡ cond (nat_eq a 0) false x → answer ≡ false → (a ≡ 0) ⊎ (x ≡ false)
told_not a answer x e n = elim (eqb_tells a 0) [
  | inl r ↦ inl r.1
  | inr r ↦ inr (sym (e ∙ ap (λ b. cond b false x) r.0) ∙ n)
]

module _ (size : ℕ) (T T' : Cells) (f g : Forest) (p w : List ℕ) (a l : ℕ) (h : HoldsTree size T f) (at : IsAt T p a) (after : HoldsTree size T' g) (still : IsAt T' w a) (k : Removes size T T' a l)
    (answer : Bool) (forth : answer ≡ true → (T.child a ≡ l) × (T.sibling (below T a l) ≡ 0)) (back : (T.child a ≡ l) × (T.sibling (below T a l) ≡ 0) → answer ≡ true) where
  now : Tree
  now = node_at (root_of g) w

  same : (x : ℕ) → below T' a x ≡ below T a x
  same x = ap (λ st. bit_xor (base_in st) x) (k.touches.place _ k.was)

  apart : below T a 0 ≡ below T a l → ⊥
  apart e = k.positive (sym (xor_back (base_of T a) l) ∙ ap (below T a) (sym e) ∙ xor_back (base_of T a) 0)

  number_before : T'.check (below T' a 0) ≡ pos a → T.check (below T a 0) ≡ pos a
  number_before o = elim (k.touches.only (below T a 0) (ap T'.check (sym (same 0)) ∙ o)) [ inl e ↦ e | inr e ↦ absurd (apart e) ]

  number_after : T.check (below T a 0) ≡ pos a → T'.check (below T' a 0) ≡ pos a
  number_after o = ap T'.check (same 0) ∙ k.touches.mine (below T a 0) o apart

  never : (T.child a ≡ l → ⊥) → answer ≡ false
  never n = false_from_ne_true answer (λ y. n (forth y).0)

  root_not : a ≡ 0 → answer ≡ false
  root_not z = never (λ e. k.positive (sym e ∙ ap T.child z ∙ h.stands.0.begins.1))

  names_first : (a ≡ 0 → ⊥) → T.check (below T a 0) ≡ pos a → T.child a ≡ l → ⊥
  names_first z o e = let st = at_node size T f p a h at in k.positive (sym e ∙ names_none size T a st.head (labels (node_at (root_of f) p).children) z o st.family)

  -- a node without number that owned a label named a first one
  named : (a ≡ 0 → ⊥) → (T.check (below T a 0) ≡ pos a → ⊥) → T.child a ≡ 0 → ⊥
  named z n e = let st = at_node size T f p a h at in by_head st.head (labels (node_at (root_of f) p).children) st.family
    where
      by_head : (hd : Head) (ls : List ℕ) → Family size T a hd ls → ⊥
      by_head plain ls fam = linked_some T a (T.child a) ls _ fam.begins (fam.only _ k.was) e
      by_head (valued v) ls fam = n fam.begins.1
      by_head (own v) ls fam = subst (λ xs. Among xs (below T a (below T a l))) fam.begins.1 (fam.only _ k.was)
      by_head top ls fam = z fam.begins.0

  chain_answer : (a ≡ 0 → ⊥) → (T.check (below T a 0) ≡ pos a → ⊥) → answer ≡ eqb (T'.child a) 0
  chain_answer z n = elim (eqb_tells (T.child a) l) [
    | inl e ↦
        let child : T'.child a ≡ T.sibling (below T a l) = k.first ∙ ap (λ b. cond b (T.sibling (below T a l)) (T.child a)) e.0 in
        first_gone e.1 ∙ sym (ap (λ x. eqb x 0) child)
    | inr e ↦
        let child : T'.child a ≡ T.child a = k.first ∙ ap (λ b. cond b (T.sibling (below T a l)) (T.child a)) e.0 in
        never e.1 ∙ first_stays ∙ sym (ap (λ x. eqb x 0) child)
  ] where
    first_gone : T.child a ≡ l → answer ≡ eqb (T.sibling (below T a l)) 0
    first_gone e = elim (eqb_tells (T.sibling (below T a l)) 0) [
      | inl u ↦ back (e, u.1) ∙ sym u.0
      | inr u ↦ false_from_ne_true answer (λ y. u.1 (forth y).1) ∙ sym u.0
    ]

    first_stays : false ≡ eqb (T.child a) 0
    first_stays = elim (eqb_tells (T.child a) 0) [ inl u ↦ absurd (named z n u.1) | inr u ↦ sym u.0 ]

  by_now : (a ≡ 0 → ⊥) → (hd : Head) → number_of hd ≡ now.number → Family size T' a hd (labels now.children) → answer ≡ is_bare now
  by_now z plain e fam =
      chain_answer z (λ o. no_zero T' a _ _ fam.begins (subst (Among (labels now.children)) (xor_back (base_of T' a) 0) (fam.only _ (number_after o))))
      ∙ leafless_is T' a now.children fam.begins ∙ ap (λ (n : Option ℤ). is_none n && is_leafless now.children) e
  by_now z (valued v) e fam = never (names_first z (number_before fam.begins.1)) ∙ numbered_not_bare now v (sym e)
  by_now z (own v) e fam =
      let owned : base_of T a ≡ 0 = ap base_in (sym (k.touches.place _ k.was) ∙ fam.based) in
      absurd (leaf_alone size T f p a h at z owned _ k.was)
  by_now z top e fam = absurd (z fam.begins.0)

  pub left_bare : answer ≡ cond (nat_eq a 0) false (is_bare (node_at (root_of g) w))
  unfolding now
  left_bare =
      let st = at_node size T' g w a after still in
      elim (eqb_tells a 0) [
        | inl r ↦ at_root a answer (is_bare now) r.1 (root_not r.1)
        | inr r ↦ not_at_root a answer (is_bare now) r.1 (by_now r.1 st.head st.number st.family)
      ]
