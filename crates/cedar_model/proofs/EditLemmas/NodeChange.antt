-- A change of one node's own slots is an edit of the tree at that node.
use Rattle.std.proofs.Common.{◌≡◌, ℕ, List, [], ◌∷◌, sym, ◌∙◌, ap, refl, subst, inl, inr, arith, Option, cond, eqb, true, false, Bool}
use Rattle.std.specs.Prelude.{ℤ, pos, bit_xor}
use Rattle.std.proofs.lemmas.Bool.{cases_eq}
use Rattle.std.proofs.lemmas.Bool.Decides.{nat_tests}
use Rattle.cedar_tree.specs.Tree.{Forest, none, child}
use Rattle.cedar_model.specs.Table.Cells.{Cells, Held}
use Rattle.cedar_model.specs.Meaning.Family.{base_in, base_of, Head, top, Family, Node, below, Among, Based}
use Rattle.cedar_model.specs.Meaning.StandsFor.{labels, ChildrenStand, RootStands, slot_at, OnPath, HoldsTree}
use Rattle.cedar_model.specs.Edit.NodeEdits.{edit, Touches}
use Rattle.cedar_model.proofs.MeaningLemmas.ExclusiveOr.{xor_injective, pos_injective}
use Rattle.cedar_model.proofs.RelocationLemmas.CarriedNode.{family_carried}
use Rattle.cedar_model.proofs.MeaningLemmas.OneNode.{labels_own}
use Rattle.cedar_model.proofs.MeaningLemmas.Paths.{owner_held}
use Rattle.cedar_model.proofs.MeaningLemmas.OneTree.{family_no_zero}

-- a path's slot is no number's
pub not_number : (T : Cells) → ((c : ℕ) → T.check 0 ≡ pos c → ⊥) → (P : List ℕ) → OnPath T P → (s : ℕ) → T.check (below T s 0) ≡ pos s → below T s 0 ≡ slot_at T P → ⊥
not_number T root [] h s o e = root s (ap T.check (sym e) ∙ o)
not_number T root (m ∷ p) h s o e =
    let parent : s ≡ slot_at T p = pos_injective _ _ (sym o ∙ ap T.check e ∙ h.1) in
    h.0 (sym (xor_injective (base_of T (slot_at T p)) 0 m (ap (λ x. below T x 0) (sym parent) ∙ e)))

pub labels_edit : (T : Cells) (a : ℕ) (number : Option ℤ → Option ℤ) (children : Forest → Forest) (s : ℕ) (f : Forest) → labels (edit T a number children s f) ≡ labels f
labels_edit T a number children s none = refl
labels_edit T a number children s (child l n u rest) = ap (λ x. l ∷ x) (labels_edit T a number children s rest)

-- what has to be shown of the nodes
pub record Edits (size : ℕ) (T T' : Cells) (a : ℕ) : Type 0 where
  pub other : (c l : ℕ) (n : Option ℤ) (ls : List ℕ) → (l ≡ 0 → ⊥) → T.check (below T c l) ≡ pos c → (below T c l ≡ a → ⊥) → Node size T (below T c l) n ls → Node size T' (below T c l) n ls
  pub root : (ls : List ℕ) → (0 ≡ a → ⊥) → Family size T 0 top ls → Family size T' 0 top ls
  pub steps : (s l : ℕ) → T.check (below T s l) ≡ pos s → below T' s l ≡ below T s l

-- the labels of the children f belong to slot s
abbrev pub Belong : Cells → ℕ → Forest → Type 0
Belong T s f = (l : ℕ) → Among (labels f) l → (l ≡ 0 → ⊥) × (T.check (below T s l) ≡ pos s)

pub family_belong : (size : ℕ) (T : Cells) (s : ℕ) (h : Head) (f : Forest) → Family size T s h (labels f) → Belong T s f
family_belong size T s h f k l a = ((λ z. family_no_zero T s h (labels f) k.begins (subst (Among (labels f)) z a)), labels_own T s h (labels f) k.begins l a)

module _ (size : ℕ) (T T' : Cells) (a : ℕ) (number : Option ℤ → Option ℤ) (children : Forest → Forest) (k : Edits size T T' a)
    (node : (n : Option ℤ) (u v : Forest) → labels v ≡ labels u → Node size T a n (labels u) → Node size T' a (number n) (labels (children v)))
    (lower : (v : Forest) → ChildrenStand size T' a v → ChildrenStand size T' a (children v)) where
  -- one node with all below it, the edit done below it
  at_node : (c l : ℕ) (n : Option ℤ) (u v : Forest) → (l ≡ 0 → ⊥) → T.check (below T c l) ≡ pos c → labels v ≡ labels u → Node size T (below T c l) n (labels u) → ChildrenStand size T' (below T c l) v →
      Node size T' (below T c l) (cond (eqb (below T c l) a) (number n) n) (labels (cond (eqb (below T c l) a) (children v) v)) × ChildrenStand size T' (below T c l) (cond (eqb (below T c l) a) (children v) v)
  at_node c l n u v z o same f g =
      let x : ℕ = below T c l in
      elim (cases_eq (below T c l) a) [
        | inl e ↦
            let b : eqb (below T c l) a ≡ true = grind (arith, nat_tests) in
            let f' : Node size T' (below T c l) (number n) (labels (children v)) = subst (λ y. Node size T' y (number n) (labels (children v))) (sym e) (node n u v same (subst (λ y. Node size T y n (labels u)) e f)) in
            let g' : ChildrenStand size T' (below T c l) (children v) = subst (λ y. ChildrenStand size T' y (children v)) (sym e) (lower v (subst (λ y. ChildrenStand size T' y v) e g)) in
            let P : Bool → Type 0 = λ t. Node size T' x (cond t (number n) n) (labels (cond t (children v) v)) × ChildrenStand size T' x (cond t (children v) v) in
            subst P (sym b) (f', g')
        | inr m ↦
            let b : eqb (below T c l) a ≡ false = grind (arith, nat_tests) in
            let f' : Node size T' (below T c l) n (labels v) = subst (λ ls. Node size T' (below T c l) n ls) (sym same) (k.other c l n (labels u) z o m f) in
            let P : Bool → Type 0 = λ t. Node size T' x (cond t (number n) n) (labels (cond t (children v) v)) × ChildrenStand size T' x (cond t (children v) v) in
            subst P (sym b) (f', g)
      ]

  pub lower_edited : (s : ℕ) (f : Forest) → Belong T s f → ChildrenStand size T s f → ChildrenStand size T' s (edit T a number children s f)
  lower_edited s none mine g = tt
  lower_edited s (child l n u rest) mine g =
      let o = mine l (inl refl) in
      let x : ℕ = below T s l in
      let e : x ≡ below T' s l = sym (k.steps s l o.1) in
      let below_it = lower_edited (below T s l) u (family_belong size T (below T s l) g.0.head u g.0.family) g.1 in
      let here = at_node s l n u (edit T a number children (below T s l) u) o.0 o.1 (labels_edit T a number children (below T s l) u) g.0 below_it in (
        subst (λ y. Node size T' y (cond (eqb x a) (number n) n) (labels (cond (eqb x a) (children (edit T a number children x u)) (edit T a number children x u)))) e here.0,
        subst (λ y. ChildrenStand size T' y (cond (eqb x a) (children (edit T a number children x u)) (edit T a number children x u))) e here.1,
        lower_edited s rest (λ y z. mine y (inr z)) g.2,
      )

  -- for a node below the root
  pub stands_edited : (f : Forest) → (0 ≡ a → ⊥) → RootStands size T f → RootStands size T' (edit T a number children 0 f)
  stands_edited f n st = (
    subst (λ ls. Family size T' 0 top ls) (sym (labels_edit T a number children 0 f)) (k.root (labels f) n st.0),
    lower_edited 0 f (family_belong size T 0 top f st.0) st.1,
  )

-- where no slot below is the edited one
pub lower_same : (size : ℕ) (T T' : Cells) (a : ℕ) → Edits size T T' a → ((c l : ℕ) → T.check (below T c l) ≡ pos c → below T c l ≡ a → ⊥) → (s : ℕ) (f : Forest) → Belong T s f → ChildrenStand size T s f → ChildrenStand size T' s f
lower_same size T T' a k away s none mine g = tt
lower_same size T T' a k away s (child l n u rest) mine g =
    let o = mine l (inl refl) in
    let e : below T s l ≡ below T' s l = sym (k.steps s l o.1) in (
      subst (λ y. Node size T' y n (labels u)) e (k.other s l n (labels u) o.0 o.1 (away s l o.1) g.0),
      subst (λ y. ChildrenStand size T' y u) e (lower_same size T T' a k away (below T s l) u (family_belong size T (below T s l) g.0.head u g.0.family) g.1),
      lower_same size T T' a k away s rest (λ y z. mine y (inr z)) g.2,
    )

-- slot x, if it is a's, is not a node's, or it is one there still
abbrev pub NodeStays : ℕ → Cells → Cells → ℕ → Type 0
NodeStays size T T' x = (c l : ℕ) (n : Option ℤ) (ls : List ℕ) → (l ≡ 0 → ⊥) → T.check (below T c l) ≡ pos c → below T c l ≡ x → Node size T x n ls → Node size T' x n ls

module _ (size : ℕ) (T T' : Cells) (f : Forest) (P : List ℕ) (x : ℕ) (w : HoldsTree size T f) (h : OnPath T P) (k : Touches T T' (slot_at T P) x) where
  owners : (q c : ℕ) → T.check q ≡ pos c → Held T c
  owners = owner_held size T f w

  number_not_x : (s : ℕ) → (s ≡ slot_at T P → ⊥) → T.check (below T s 0) ≡ pos s → below T s 0 ≡ x → ⊥
  number_not_x s n o e = n (k.owner s (ap T.check (sym e) ∙ o))

  pub not_x : slot_at T P ≡ x → ⊥
  not_x e = by_path P h e k.owner
    where
      by_path : (p : List ℕ) → OnPath T p → slot_at T p ≡ x → ((c : ℕ) → T.check x ≡ pos c → c ≡ slot_at T P) → ⊥
      by_path [] g s o = k.not_root (sym s)
      by_path (m ∷ p) g s o =
          let mine : T.check x ≡ pos (slot_at T p) = ap T.check (sym s) ∙ g.1 in
          k.alone x (mine ∙ ap pos (o (slot_at T p) mine ∙ e))

  pub steps : (s l : ℕ) → T.check (below T s l) ≡ pos s → below T' s l ≡ below T s l
  steps s l o = elim (cases_eq s (slot_at T P)) [
    | inl e ↦ ap (λ z. bit_xor (base_in z) l) (subst (λ y. T'.stored y ≡ T.stored y) (sym e) (k.place _ (o ∙ ap pos e)))
    | inr n ↦ ap (λ z. bit_xor (base_in z) l) (k.stored s (owners _ s o) n (λ e. k.alone _ (o ∙ ap pos e)))
  ]

  -- every other node is the same node
  other_family : (s : ℕ) (hd : Head) (ls : List ℕ) → Held T s → (s ≡ slot_at T P → ⊥) → (s ≡ x → ⊥) → Family size T s hd ls → Family size T' s hd ls
  other_family s hd ls held n m g =
      let base : T'.stored s ≡ T.stored s = k.stored s held n m in
      family_carried size T T' (λ q. q) s hd ls (record {
        steps = λ l o. ap (λ z. bit_xor (base_in z) l) (sym base);
        check = λ q o. k.check q s o n;
        sibling = λ q o. k.sibling q s o n;
        child = k.child s held n m;
        number = λ o.
            let away = not_number T w.root P h s o in let off = number_not_x s n o in
            (k.base _ (inr (s, o)) away off, k.child _ (inr (s, o)) away off);
        back = λ q e. (q, k.back q s e n, refl);
      }) (λ e. (e, subst (λ y. T'.sibling y ≡ T.sibling y) (sym e) (k.root (λ z. n (e ∙ z))))) (λ d. subst (λ z. Based size z hd ls) (sym base) d) g

  pub edits : NodeStays size T T' x → Edits size T T' (slot_at T P)
  edits stays = record {
    other = λ c l n ls z o away g. elim (cases_eq (below T c l) x) [
      | inl e ↦ subst (λ y. Node size T' y n ls) (sym e) (stays c l n ls z o e (subst (λ y. Node size T y n ls) e g))
      | inr m ↦ record { head = g.head; number = g.number; family = other_family (below T c l) g.head ls (inr (c, o)) away m g.family }
    ];
    root = λ ls n g. other_family 0 top ls (inl refl) n (λ e. k.not_root (sym e)) g;
    steps = steps;
  }

  pub root_stays : (c : ℕ) → T'.check 0 ≡ pos c → ⊥
  root_stays c o = elim (cases_eq c (slot_at T P)) [
    | inl e ↦ elim (k.only 0 (o ∙ ap pos e)) [ inl was ↦ w.root _ was | inr at ↦ k.not_root (sym at) ]
    | inr n ↦ w.root c (k.back 0 c o n)
  ]

  pub path_stays : (p : List ℕ) → OnPath T p → (slot_at T p ≡ x → ⊥) → OnPath T' p × (slot_at T' p ≡ slot_at T p)
  path_stays [] g n = (tt, refl)
  path_stays (l ∷ p) g n =
      let up = path_stays p g.2 (λ e. k.alone _ (g.1 ∙ ap pos e)) in
      let at : slot_at T' (l ∷ p) ≡ slot_at T (l ∷ p) = ap (λ s. below T' s l) up.1 ∙ steps (slot_at T p) l g.1 in
      let owner : T'.check (slot_at T (l ∷ p)) ≡ pos (slot_at T p) = elim (cases_eq (slot_at T p) (slot_at T P)) [
        | inl e ↦ k.mine _ (g.1 ∙ ap pos e) n ∙ ap pos (sym e)
        | inr m ↦ k.check _ _ g.1 m
      ] in
      ((g.0, ap T'.check at ∙ owner ∙ ap pos (sym up.1), up.0), at)

  pub reached : (q c : ℕ) → T'.check q ≡ pos c → (v : List ℕ) × OnPath T' v × (slot_at T' v ≡ c)
  reached q c o = elim (cases_eq c (slot_at T P)) [
    | inl e ↦ let s = path_stays P h not_x in (P, s.0, s.1 ∙ sym e)
    | inr n ↦
        let was : T.check q ≡ pos c = k.back q c o n in
        let way = w.reached q c was in
        let s = path_stays way.0 way.1 (λ e. k.alone q (was ∙ ap pos (sym way.2 ∙ e))) in (way.0, s.0, s.1 ∙ way.2)
  ]
