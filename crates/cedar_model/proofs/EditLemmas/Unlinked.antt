-- A leaf's slot unlinked and given back is a label removed.
use Rattle.std.proofs.Common.{◌≡◌, ℕ, ◌<◌, ◌≤◌, List, [], ◌∷◌, sym, ◌∙◌, ap, subst, inl, inr, arith, Bool, Option, Some, None, cond}
use Rattle.std.specs.Prelude.{◌%◌, MatchOption, nat_eq, pos, ℤ}
use Rattle.std.proofs.lemmas.Bool.{cases_eq}
use Rattle.cedar_model.specs.declared.layout.Stored.TheVariants.{AtBase, OwnNumber}
use Rattle.cedar_model.specs.Table.Cells.{Cells, Gives, Held}
use Rattle.cedar_model.specs.Meaning.Family.{Among, base_in, base_of, below, Family, Head, Links, Node, number_of, own, plain, top, valued}
use Rattle.cedar_model.specs.Edit.NodeEdits.{HasChain, IsLabelOf, IsLink, LeadsTo, Removes, SetsChild, SetsSibling}
use Rattle.cedar_model.proofs.MeaningLemmas.Chain.{chain_start, first_links, lead_links, root_stored}
use Rattle.cedar_model.proofs.EditLemmas.SlotGiven.{a_not_given, held_first, touches_given}
use Rattle.cedar_model.proofs.EditLemmas.SlotForLabel.{root_lead}
use Rattle.cedar_model.proofs.MeaningLemmas.OneNode.{links_small, owned_label}
use Rattle.cedar_model.proofs.EditLemmas.LeafRemoved.{skip_at, skip_other}
use Rattle.cedar_model.proofs.MeaningLemmas.ExclusiveOr.{xor_back, xor_injective, xor_within}
use Rattle.cedar_model.proofs.MeaningLemmas.OneTree.{family_no_zero, links_distinct}

-- ---- what leads to a label is one slot

-- a label that one of a chain leads to is in what follows the chain's first
after_in : (T : Cells) (a c l : ℕ) (m : ℕ) (ms : List ℕ) → Links T a c (m ∷ ms) → (x : ℕ) → Among (m ∷ ms) x → T.sibling (below T a x) ≡ l → (l ≡ 0 → ⊥) → Among ms l
after_in T a c l m [] h x (inl e) s z = absurd (z (sym s ∙ ap (λ y. T.sibling (below T a y)) (sym e) ∙ h.4))
after_in T a c l m [] h x (inr i) s z = absurd i
after_in T a c l m (j ∷ js) h x (inl e) s z = inl (sym h.4.0 ∙ ap (λ y. T.sibling (below T a y)) e ∙ s)
after_in T a c l m (j ∷ js) h x (inr i) s z = inr (after_in T a (T.sibling (below T a m)) l j js h.4 x i s z)

-- nothing in a chain leads to its first label
first_once : (T : Cells) (a l : ℕ) (ls : List ℕ) → Links T a l ls → (x : ℕ) → Among ls x → T.sibling (below T a x) ≡ l → (l ≡ 0 → ⊥) → ⊥
first_once T a l [] h x i s z = i
first_once T a l (m ∷ ms) h x i s z = (links_distinct T a l (m ∷ ms) h).0 (subst (Among ms) h.0 (after_in T a l l m ms h x i s z))

next_once : (T : Cells) (a c l : ℕ) (ls : List ℕ) → Links T a c ls → (x y : ℕ) → Among ls x → Among ls y → T.sibling (below T a x) ≡ l → T.sibling (below T a y) ≡ l → (l ≡ 0 → ⊥) → x ≡ y
next_once T a c l [] h x y i j s t z = absurd i
next_once T a c l (m ∷ ms) h x y (inl e) (inl d) s t z = sym e ∙ d
next_once T a c l (m ∷ ms) h x y (inl e) (inr j) s t z =
    absurd (first_once T a l ms (subst (λ n. Links T a n ms) (ap (λ v. T.sibling (below T a v)) e ∙ s) h.4) y j t z)
next_once T a c l (m ∷ ms) h x y (inr i) (inl d) s t z =
    absurd (first_once T a l ms (subst (λ n. Links T a n ms) (ap (λ v. T.sibling (below T a v)) d ∙ t) h.4) x i s z)
next_once T a c l (m ∷ ms) h x y (inr i) (inr j) s t z = next_once T a (T.sibling (below T a m)) l ms h.4 x y i j s t z

module _ (size : ℕ) (T : Cells) (ordered : Bool) (a : ℕ) (k : HasChain size T ordered a) (root : (c : ℕ) → T.check 0 ≡ pos c → ⊥) where
  root_numberless : a ≡ 0 → T.check (below T a 0) ≡ pos a → ⊥
  root_numberless z o = root a (ap T.check (sym (root_lead T a z (root_stored size T ordered a k z))) ∙ o)

  listed_label : (m b : ℕ) → IsLabelOf T a m b → Among k.listed m
  listed_label m b o = owned_label size T a m k.head k.listed k.family (λ z. omega (arith, z, o.positive)) (ap T.check (sym o.is) ∙ o.owner)

  label_next : (m b l : ℕ) → IsLabelOf T a m b → T.sibling b ≡ l → T.sibling (below T a m) ≡ l
  label_next m b l o s = ap T.sibling (sym o.is) ∙ s

  pub one_link : (l p q : ℕ) → (l ≡ 0 → ⊥) → IsLink T a p → IsLink T a q → T.sibling p ≡ l → T.sibling q ≡ l → p ≡ q
  one_link l p q z (inl (inl r)) (inl (inl s)) h i = r.1 ∙ sym s.1
  one_link l p q z (inl (inl r)) (inl (inr n)) h i = absurd (root_numberless r.0 n.0)
  one_link l p q z (inl (inr n)) (inl (inl r)) h i = absurd (root_numberless r.0 n.0)
  one_link l p q z (inl (inr n)) (inl (inr o)) h i = n.1 ∙ sym o.1
  one_link l p q z (inl e) (inr o) h i =
      absurd (first_once T a l k.listed (subst (λ c. Links T a c k.listed) h (lead_links size T ordered a p k e)) o.0 (listed_label o.0 q o.1) (label_next o.0 q l o.1 i) z)
  one_link l p q z (inr o) (inl e) h i =
      absurd (first_once T a l k.listed (subst (λ c. Links T a c k.listed) i (lead_links size T ordered a q k e)) o.0 (listed_label o.0 p o.1) (label_next o.0 p l o.1 h) z)
  one_link l p q z (inr o) (inr u) h i =
      let start = chain_start size T ordered a k in
      let e : o.0 ≡ u.0 = next_once T a start.0 l k.listed start.1 o.0 u.0 (listed_label o.0 p o.1) (listed_label u.0 q u.1) (label_next o.0 p l o.1 h) (label_next u.0 q l u.1 i) z in
      o.1.is ∙ ap (below T a) e ∙ sym u.1.is

  -- a node whose own slot leads to a label has neither a number's slot nor is it the root
  own_link : (l : ℕ) → (l ≡ 0 → ⊥) → T.child a ≡ l → (a ≡ 0 → ⊥) × (T.check (below T a 0) ≡ pos a → ⊥)
  own_link l z e = by_head k.head k.family k.root
    where
      by_head : (h : Head) → Family size T a h k.listed → (a ≡ 0 → h ≡ top) → (a ≡ 0 → ⊥) × (T.check (below T a 0) ≡ pos a → ⊥)
      by_head plain f r = (λ y. (let e : plain ≡ top = r y in cc), λ o. family_no_zero T a plain k.listed f.begins (subst (Among k.listed) (xor_back (base_of T a) 0) (f.only _ o)))
      by_head (valued v) f r = absurd (z (sym e ∙ f.begins.0))
      by_head (own v) f r = absurd (z (sym e ∙ f.begins.0))
      by_head top f r = absurd (z (sym e ∙ f.begins.1))

  -- where a node's own slot leads to a label, no other slot does
  pub only_own : (l q : ℕ) → (l ≡ 0 → ⊥) → T.child a ≡ l → IsLink T a q → T.sibling q ≡ l → ⊥
  only_own l q z e (inl (inl r)) h = (own_link l z e).0 r.0
  only_own l q z e (inl (inr n)) h = (own_link l z e).1 n.0
  only_own l q z e (inr o) h =
      let none = own_link l z e in
      first_once T a l k.listed (subst (λ c. Links T a c k.listed) e (first_links size T ordered a k none.0 none.1)) o.0 (listed_label o.0 q o.1) (label_next o.0 q l o.1 h) z

  -- each slot that a owns is a link of its chain
  pub owned_link : (q : ℕ) → T.check q ≡ pos a → IsLink T a q
  owned_link q o =
      let at : q ≡ below T a (below T a q) = sym (xor_back (base_of T a) q) in
      elim (cases_eq (below T a q) 0) [
        | inl z ↦ let here : q ≡ below T a 0 = at ∙ ap (below T a) z in inl (inr (ap T.check (sym here) ∙ o, here))
        | inr n ↦
            let mine : T.check (below T a (below T a q)) ≡ pos a = ap T.check (sym at) ∙ o in
            let i = owned_label size T a (below T a q) k.head k.listed k.family n mine in
            let start = chain_start size T ordered a k in
            inr (below T a q, record { positive = positive n; small = links_small T a start.0 k.listed start.1 (below T a q) i; owner = o; is = at })
      ]
    where
      positive : {n : ℕ} → (n ≡ 0 → ⊥) → 0 < n
      positive {n} h = elim (cases_eq n 0) [ inl z ↦ absurd (h z) | inr m ↦ omega arith ]

  -- ---- the slot unlinked, then given back

  module _ (l : ℕ) (T₁ T₂ : Cells) (positive : l ≡ 0 → ⊥) (was : T.check (below T a l) ≡ pos a) (held : Held T a) (not_own : T.check a ≡ pos a → ⊥) (bare : Node size T (below T a l) None []) (g : Gives T₁ T₂ (below T a l))
      (stored : (q : ℕ) → T₁.stored q ≡ T.stored q) (base : (q : ℕ) → T₁.base q ≡ T.base q) (check : (q : ℕ) → T₁.check q ≡ T.check q)
      (child : (q : ℕ) → (q ≡ a → ⊥) → T₁.child q ≡ T.child q)
      (linked : (q : ℕ) → IsLink T a q → T₁.sibling q ≡ cond (nat_eq (T.sibling q) l) (T.sibling (below T a l)) (T.sibling q))
      (unlinked : (q : ℕ) → (IsLink T a q → ⊥) → T₁.sibling q ≡ T.sibling q)
      (first : T₁.child a ≡ cond (nat_eq (T.child a) l) (T.sibling (below T a l)) (T.child a)) where
    not_root : below T a l ≡ 0 → ⊥
    not_root e = root a (ap T.check (sym e) ∙ was)

    leaf_owns_nothing : (q : ℕ) → T.check q ≡ pos (below T a l) → ⊥
    leaf_owns_nothing q o = by_head bare.head bare.number bare.family
      where
        by_head : (h : Head) → number_of h ≡ None → Family size T (below T a l) h [] → ⊥
        by_head plain e f = f.only q o
        by_head (valued v) e f = cc
        by_head (own v) e f = cc
        by_head top e f = not_root f.begins.0

    leaf_shares_nothing : (v : ℤ) → T.stored (below T a l) ≡ OwnNumber v → ⊥
    leaf_shares_nothing v s = by_head bare.head bare.number bare.family
      where
        by_head : (h : Head) → number_of h ≡ None → Family size T (below T a l) h [] → ⊥
        by_head plain e f = elim f.based [
          | inl b ↦ let no : AtBase 0 ≡ OwnNumber v = sym b ∙ s in cc
          | inr r ↦ let low : 256 ≤ 0 = subst (λ x. 256 ≤ base_in x) s r.0 in omega arith
        ]
        by_head (valued w) e f = cc
        by_head (own w) e f = cc
        by_head top e f = not_root f.begins.0

    not_linked : (q : ℕ) → (T.check q ≡ pos a → ⊥) → (q ≡ 0 → 0 ≡ a → ⊥) → IsLink T a q → ⊥
    not_linked q n z (inl (inl r)) = z r.1 (sym r.0)
    not_linked q n z (inl (inr m)) = n (ap T.check m.1 ∙ m.0)
    not_linked q n z (inr m) = n m.1.owner

    held_here : (q : ℕ) → Held T q → Held T₁ q
    held_here = held_first T T₁ T₂ a (below T a l) root was held not_own leaf_owns_nothing g stored base check child (λ q n z. unlinked q (not_linked q n z))

    apart_here : a ≡ below T a l → ⊥
    apart_here = a_not_given T T₁ T₂ a (below T a l) root was held not_own leaf_owns_nothing g stored base check child (λ q n z. unlinked q (not_linked q n z))

    pub removes : Removes size T T₂ a l
    removes = record {
      touches = touches_given T T₁ T₂ a (below T a l) root was held not_own leaf_owns_nothing g stored base check child (λ q n z. unlinked q (not_linked q n z));
      positive = positive;
      was = was;
      gone = λ c e. g.gone (inr (c, e));
      no_number = leaf_shares_nothing;
      next = λ q o n. (g.other q n (held_here q (inr (a, o)))).sibling ∙ linked q (owned_link q o);
      at_root = λ z. (g.other a apart_here (held_here a held)).sibling ∙ linked a (inl (inl (z, z)));
      first = (g.other a apart_here (held_here a held)).child ∙ first;
      number = λ o.
          let n : below T a 0 ≡ below T a l → ⊥ = λ e. positive (sym (xor_injective (base_of T a) 0 l e)) in
          let s = g.other (below T a 0) n (held_here _ (inr (a, o))) in
          (s.base ∙ base _, s.child ∙ child _ (λ e. not_own (subst (λ x. T.check x ≡ pos a) e o)));
    }

  -- ---- one of the two links that lead to the label is set

  next_set : (l : ℕ) (T₁ : Cells) (b x : ℕ) → (l ≡ 0 → ⊥) → IsLink T a b → T.sibling b ≡ l → SetsSibling T T₁ b (T.sibling x) → (q : ℕ) → IsLink T a q → T₁.sibling q ≡ cond (nat_eq (T.sibling q) l) (T.sibling x) (T.sibling q)
  next_set l T₁ b x z link leads s q i = elim (cases_eq q b) [
    | inl e ↦ ap T₁.sibling e ∙ s.at ∙ sym (skip_at l (T.sibling x) (T.sibling q) (ap T.sibling e ∙ leads))
    | inr n ↦ s.other q n ∙ sym (skip_other l (T.sibling x) (T.sibling q) (λ e. n (one_link l q b z i link e leads)))
  ]

  pub removes_by : (l : ℕ) (T₁ T₂ : Cells) (before : Option ℕ) → (l ≡ 0 → ⊥) → T.check (below T a l) ≡ pos a → Held T a → (T.check a ≡ pos a → ⊥) → Node size T (below T a l) None [] → Gives T₁ T₂ (below T a l)
      → MatchOption before (T.child a ≡ l) (λ b. LeadsTo size T a l b)
      → MatchOption before (SetsChild T T₁ a (T.sibling (below T a l))) (λ b. SetsSibling T T₁ b (T.sibling (below T a l)))
      → Removes size T T₂ a l
  removes_by l T₁ T₂ None z was held not_own bare g leads s =
      removes l T₁ T₂ z was held not_own bare g s.stored s.base s.check s.other
      (λ q i. s.sibling q ∙ sym (skip_other l (T.sibling (below T a l)) (T.sibling q) (only_own l q z leads i)))
      (λ q n. s.sibling q)
      (s.at ∙ sym (skip_at l (T.sibling (below T a l)) (T.child a) leads))
  removes_by l T₁ T₂ (Some b) z was held not_own bare g leads s =
      removes l T₁ T₂ z was held not_own bare g s.stored s.base s.check (λ q n. s.child q)
      (next_set l T₁ b (below T a l) z leads.link leads.next s)
      (λ q n. s.other q (λ e. n (subst (IsLink T a) (sym e) leads.link)))
      (s.child a ∙ sym (skip_other l (T.sibling (below T a l)) (T.child a) (λ e. only_own l b z e leads.link leads.next)))

  -- ---- in the words of the calls

  pub removes_at : (l : ℕ) (T₁ T₂ : Cells) (before : Option ℕ) (s n : ℕ) → (l ≡ 0 → ⊥) → T.check (below T a l) ≡ pos a → Held T a → (T.check a ≡ pos a → ⊥) → Node size T (below T a l) None [] → s ≡ below T a l → n ≡ T.sibling s → Gives T₁ T₂ s
      → MatchOption before (T.child a ≡ l) (LeadsTo size T a l)
      → MatchOption before (SetsChild T T₁ a n) (λ b. SetsSibling T T₁ b n)
      → Removes size T T₂ a l
  removes_at l T₁ T₂ before s n z was held not_own bare e next g leads set =
      removes_by l T₁ T₂ before z was held not_own bare (subst (Gives T₁ T₂) e g) leads
      (subst (λ y. MatchOption before (SetsChild T T₁ a y) (λ b. SetsSibling T T₁ b y)) (next ∙ ap T.sibling e) set)

-- a node that owns a slot for a label has its base and that slot in use
pub owned_inside : (size : ℕ) (T : Cells) (ordered : Bool) (a l : ℕ) → HasChain size T ordered a → 0 < size → size % 256 ≡ 0 → T.check (below T a l) ≡ pos a → (base_of T a < size) × (below T a l < size)
owned_inside size T ordered a l k some whole o =
    let base = by_head k.head k.listed k.family in
    (base, xor_within size (base_of T a) l whole base small)
  where
    by_head : (h : Head) (ls : List ℕ) → Family size T a h ls → base_of T a < size
    by_head plain [] f = absurd (f.only _ o)
    by_head plain (m ∷ ms) f = f.based.1
    by_head (valued v) ls f = f.based.1
    by_head (own v) ls f = absurd (subst (λ x. Among x (below T a (below T a l))) f.begins.1 (f.only _ o))
    by_head top ls f = let at : base_of T a ≡ 0 = ap base_in f.based in omega (arith, at, some)

    small : l < 256
    small = elim (cases_eq l 0) [
      | inl z ↦ omega arith
      | inr n ↦ let start = chain_start size T ordered a k in links_small T a start.0 k.listed start.1 l (owned_label size T a l k.head k.listed k.family n o)
    ]

pub can_lead : (size : ℕ) (T : Cells) (a l : ℕ) (before : Option ℕ) → MatchOption before (T.child a ≡ l) (LeadsTo size T a l) → MatchOption before (Unit {0}) (λ b. (b < size) × Held T b)
can_lead size T a l None h = tt
can_lead size T a l (Some b) h = (h.inside, held_link b h.link)
  where
    held_link : (b : ℕ) → IsLink T a b → Held T b
    held_link b (inl (inl r)) = inl r.1
    held_link b (inl (inr n)) = inr (a, ap T.check n.1 ∙ n.0)
    held_link b (inr m) = inr (a, m.1.owner)

pub same_checks : (T T₁ : Cells) (a n : ℕ) (before : Option ℕ) → MatchOption before (SetsChild T T₁ a n) (λ b. SetsSibling T T₁ b n) → (q : ℕ) → T₁.check q ≡ T.check q
same_checks T T₁ a n None s q = s.check q
same_checks T T₁ a n (Some b) s q = s.check q
