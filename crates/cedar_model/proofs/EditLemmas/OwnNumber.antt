-- A node that owns no slot gets another base field: its number changes, and nothing else does.
use Rattle.std.proofs.Common.{◌≡◌, ℕ, ◌<◌, ◌≤◌, List, [], ◌∷◌, sym, ◌∙◌, ap, refl, subst, inl, inr, arith, Option, Some, None, cond, Bool, ◌⊎◌, true, false}
use Rattle.std.specs.Prelude.{ℤ, pos, negsuc, is_some}
use Rattle.std.specs.Ordering.{int_eq}
use Rattle.std.proofs.lemmas.Bool.{cases_Bool, cases_eq, false≢true, true≢false}
use Rattle.std.proofs.lemmas.Bool.Decides.{Decides-int_eq, eqb_tells}
use Rattle.cedar_tree.specs.Tree.{Forest, none, child, Tree, subtree}
use Rattle.cedar_tree.specs.Queries.{node_at}
use Rattle.cedar_tree.specs.Edits.{edit_at, number_on}
use Rattle.cedar_model.specs.declared.layout.Stored.{Stored}
use Rattle.cedar_model.specs.declared.layout.Stored.TheVariants.{AtBase, OwnNumber, Nothing}
use Rattle.cedar_model.specs.Table.Cells.{Cells, Held, NodeWritten}
use Rattle.cedar_model.specs.Edit.NodeEdits.{IsAt, Touches}
use Rattle.cedar_model.specs.Meaning.Family.{Among, base_in, base_of, below, Family, Head, InRange, Node, number_of, own, plain, top, valued}
use Rattle.cedar_model.specs.Table.Layouts.{default_layout, LayoutKind, reading, reduced_layout}
use Rattle.cedar_model.specs.Meaning.StandsFor.{HoldsTree, labels, OnPath, slot_at}
use Rattle.cedar_model.specs.Edit.Own.{FieldSet}
use Rattle.cedar_model.specs.Relocation.Renaming.{OwnsNothing, Rebased}
use Rattle.cedar_model.specs.Edit.Steps.{root_of}
use Rattle.cedar_model.specs.Table.TableFields.{Fields, size_of}
use Rattle.cedar_model.specs.Meaning.WellFormed.{cells_in, is_value}
use Rattle.cedar_model.proofs.EditLemmas.AtPath.{held_node, paths_touched}
use Rattle.cedar_model.proofs.MeaningLemmas.NodeAtPath.{at_node}
use Rattle.cedar_model.proofs.EditLemmas.ChangeAtPath.{edited}
use Rattle.cedar_model.proofs.EditLemmas.NodeChange.{NodeStays}
use Rattle.cedar_model.proofs.MeaningLemmas.OneNode.{labels_own}
use Rattle.cedar_model.proofs.MeaningLemmas.Paths.{owner_held}
use Rattle.cedar_model.proofs.EditLemmas.LeafAtPlace.{ends}
use Rattle.cedar_model.proofs.MeaningLemmas.TreeOf.{in_use}

-- ---- the tree

-- the number of the node at a path set to what it is
pub same_number : (w : List ℕ) (f : Forest) (n : Option ℤ) → (w ≡ [] → ⊥) → (node_at (root_of f) w).number ≡ n → edit_at w (λ _. n) (λ u. u) f ≡ f
same_number [] f n some e = absurd (some refl)
same_number (l ∷ path) none n some e = refl
same_number (l ∷ path) (child m k u rest) n some e =
    let here : Forest = child m (number_on path (λ _. n) k) (edit_at path (λ _. n) (λ v. v) u) rest in
    let other : Forest = child m k u (edit_at (l ∷ path) (λ _. n) (λ v. v) rest) in
    elim (eqb_tells m l) [
      | inl is ↦
          let at : subtree (child m k u rest) l ≡ record { number = k; children = u } = ap (λ b. cond b (record { number = k; children = u }) (subtree rest l)) is.0 in
          ap (λ b. cond b here other) is.0 ∙ by_path path (λ some' h. same_number path u n some' h) (sym (ap (λ (t : Tree). (node_at t path).number) at) ∙ e)
      | inr not ↦
          let at : subtree (child m k u rest) l ≡ subtree rest l = ap (λ b. cond b (record { number = k; children = u }) (subtree rest l)) not.0 in
          ap (λ b. cond b here other) not.0 ∙ ap (child m k u) (same_number (l ∷ path) rest n some (sym (ap (λ (t : Tree). (node_at t path).number) at) ∙ e))
    ]
  where
    by_path : (p : List ℕ) → ((p ≡ [] → ⊥) → (node_at (root_of u) p).number ≡ n → edit_at p (λ _. n) (λ v. v) u ≡ u) → (node_at (record { number = k; children = u }) p).number ≡ n
        → child m (number_on p (λ _. n) k) (edit_at p (λ _. n) (λ v. v) u) rest ≡ child m k u rest
    by_path [] under h = ap (λ x. child m x u rest) (sym h)
    by_path (j ∷ p) under h = ap (λ v. child m k v rest) (under (λ z. cc) h)

on_twice : (path : List ℕ) (k m n : Option ℤ) → number_on path (λ _. n) (number_on path (λ _. m) k) ≡ number_on path (λ _. n) k
on_twice [] k m n = refl
on_twice (l ∷ path) k m n = refl

-- a number set over another one
pub number_twice : (w : List ℕ) (f : Forest) (m n : Option ℤ) → edit_at w (λ _. n) (λ u. u) (edit_at w (λ _. m) (λ u. u) f) ≡ edit_at w (λ _. n) (λ u. u) f
number_twice [] f m n = refl
number_twice (l ∷ path) none m n = refl
number_twice (l ∷ path) (child j k u rest) m n =
    let once : Forest = child j (number_on path (λ _. m) k) (edit_at path (λ _. m) (λ v. v) u) rest in
    let past : Forest = child j k u (edit_at (l ∷ path) (λ _. m) (λ v. v) rest) in
    let here : Forest = child j (number_on path (λ _. n) k) (edit_at path (λ _. n) (λ v. v) u) rest in
    let other : Forest = child j k u (edit_at (l ∷ path) (λ _. n) (λ v. v) rest) in
    elim (eqb_tells j l) [
      | inl is ↦
          ap (λ b. edit_at (l ∷ path) (λ _. n) (λ v. v) (cond b once past)) is.0
          ∙ ap (λ b. cond b (child j (number_on path (λ _. n) (number_on path (λ _. m) k)) (edit_at path (λ _. n) (λ v. v) (edit_at path (λ _. m) (λ v. v) u)) rest)
          (child j (number_on path (λ _. m) k) (edit_at path (λ _. m) (λ v. v) u) (edit_at (l ∷ path) (λ _. n) (λ v. v) rest))) is.0
          ∙ ap (λ x. child j x (edit_at path (λ _. n) (λ v. v) (edit_at path (λ _. m) (λ v. v) u)) rest) (on_twice path k m n)
          ∙ ap (λ v. child j (number_on path (λ _. n) k) v rest) (number_twice path u m n)
          ∙ sym (ap (λ b. cond b here other) is.0)
      | inr not ↦
          ap (λ b. edit_at (l ∷ path) (λ _. n) (λ v. v) (cond b once past)) not.0
          ∙ ap (λ b. cond b (child j (number_on path (λ _. n) k) (edit_at path (λ _. n) (λ v. v) u) (edit_at (l ∷ path) (λ _. m) (λ v. v) rest))
          (child j k u (edit_at (l ∷ path) (λ _. n) (λ v. v) (edit_at (l ∷ path) (λ _. m) (λ v. v) rest)))) not.0
          ∙ ap (child j k u) (number_twice (l ∷ path) rest m n)
          ∙ sym (ap (λ b. cond b here other) not.0)
    ]

-- ---- the slots

-- a node whose base field names no base owns no slot
pub unbased_alone : (size : ℕ) (T : Cells) (a : ℕ) (h : Head) (ls : List ℕ) → (a ≡ 0 → ⊥) → base_of T a ≡ 0 → Family size T a h ls → OwnsNothing T a
unbased_alone size T a plain [] z e f q o = f.only q o
unbased_alone size T a plain (l ∷ ls) z e f q o = let low : 256 ≤ base_of T a = f.based.0 in omega (arith, low, e)
unbased_alone size T a (valued v) ls z e f q o = let low : 256 ≤ base_of T a = f.based.0 in omega (arith, low, e)
unbased_alone size T a (own v) ls z e f q o = subst (λ xs. Among xs (below T a q)) f.begins.1 (f.only q o)
unbased_alone size T a top ls z e f q o = z f.begins.0

-- a node that owns no slot has no labels
alone_leaf : (size : ℕ) (T : Cells) (a : ℕ) (h : Head) (ls : List ℕ) → OwnsNothing T a → Family size T a h ls → ls ≡ []
alone_leaf size T a h [] n f = refl
alone_leaf size T a h (l ∷ ls) n f = absurd (n _ (labels_own T a h (l ∷ ls) f.begins l (inl refl)))

pub alone_child : (size : ℕ) (T : Cells) (a : ℕ) (h : Head) (ls : List ℕ) → (a ≡ 0 → ⊥) → OwnsNothing T a → Family size T a h ls → T.child a ≡ 0
alone_child size T a plain [] z n f = f.begins
alone_child size T a plain (l ∷ ls) z n f = absurd (n _ (labels_own T a plain (l ∷ ls) f.begins l (inl refl)))
alone_child size T a (valued v) ls z n f = f.begins.0
alone_child size T a (own v) ls z n f = f.begins.0
alone_child size T a top ls z n f = f.begins.1

-- what a base field may say of a node that owns no slot: its number, or where its slots will begin
abbrev pub Says : ℕ → Stored → Option ℤ → Type 0
Says size st n = ((v : ℤ) × (st ≡ OwnNumber v) × (n ≡ Some v)) ⊎ (((st ≡ AtBase 0) ⊎ InRange size st) × (n ≡ None))

-- a slot that is nobody's
abbrev pub Spare : Cells → ℕ → Type 0
Spare T x = (Held T x → ⊥)

module _ (size : ℕ) (T T' : Cells) (f : Forest) (w : List ℕ) (a x : ℕ) (st : Stored) (n : Option ℤ) (h : HoldsTree size T f) (at : IsAt T w a) (z : a ≡ 0 → ⊥) (alone : OwnsNothing T a) (k : FieldSet T T' a st) (free : Spare T x) (says : Says size st n) where
  pub set_touches : Touches T T' a x
  set_touches = record {
    base = λ q _ o _. k.base q o;
    stored = λ q _ o _. k.stored q o;
    child = λ q _ _ _. k.child q;
    sibling = λ q c _ _. k.sibling q;
    check = λ q c o _. k.check q ∙ o;
    back = λ q c o _. sym (k.check q) ∙ o;
    root = λ _. k.sibling 0;
    place = λ q o. absurd (alone q o);
    mine = λ q o _. absurd (alone q o);
    only = λ q o. absurd (alone q (sym (k.check q) ∙ o));
    alone = λ q o. free (owner_held size T f h q x o);
    owner = λ c o. absurd (free (inr (c, o)));
    not_root = λ e. free (inl e);
  }

  spare_stays : NodeStays size T T' x
  spare_stays c m i ls y o e g = absurd (free (inr (c, ap T.check (sym e) ∙ o)))

  now : (ls : List ℕ) (hd : Head) → Family size T a hd ls → Node size T' a n ls
  now ls hd g =
      subst (Node size T' a n) (sym (alone_leaf size T a hd ls alone g)) (by_field says)
    where
      child_is : T'.child a ≡ 0
      child_is = k.child a ∙ alone_child size T a hd ls z alone g

      nobody : (q : ℕ) → T'.check q ≡ pos a → ⊥
      nobody q o = alone q (sym (k.check q) ∙ o)

      by_field : Says size st n → Node size T' a n []
      by_field (inl (v, e, m)) = record { head = own v; number = sym m; family = record { based = k.set ∙ e; begins = (child_is, refl); only = λ q o. absurd (nobody q o) } }
      by_field (inr (r, m)) = record {
        head = plain;
        number = sym m;
        family = record {
          based = elim r [ inl e ↦ inl (k.set ∙ e) | inr i ↦ inr (subst (InRange size) (sym k.set) i) ];
          begins = child_is;
          only = λ q o. absurd (nobody q o);
        };
      }

  -- the number of the node is what the field says
  pub field_edited : HoldsTree size T' (edit_at w (λ _. n) (λ u. u) f)
  field_edited = by_path w at
    where
      by_path : (v : List ℕ) → IsAt T v a → HoldsTree size T' (edit_at v (λ _. n) (λ u. u) f)
      by_path [] on = absurd (z (sym on.1))
      by_path (j ∷ way) on =
          let e = ends j way in
          let same : a ≡ slot_at T (e.0 ∷ e.1) = sym on.1 ∙ ap (slot_at T) e.2 in
          edited size T T' f x h spare_stays (λ _. n) (λ u. u) e.0 e.1 (subst (OnPath T) e.2 on.0) (subst (λ s. Touches T T' s x) same set_touches)
          (λ i u v eq g. subst (λ s. Node size T' s n (labels v)) same (subst (λ ls. Node size T' a n ls) (sym eq) (now (labels u) g.head (subst (λ s. Family size T s g.head (labels u)) (sym same) g.family))))
          (λ v g. g) j way e.2

  -- and all paths are as they were
  pub field_paths : (v : List ℕ) (s : ℕ) → IsAt T v s → IsAt T' v s
  field_paths v s on = paths_touched size T T' f w a x h at set_touches v s on (λ e. free (subst (Held T) e (held_node T v s on)))

pub field_from_base : (T T' : Cells) (a b : ℕ) → Rebased T T' a b → FieldSet T T' a (AtBase b)
field_from_base T T' a b k = record { check = k.check; sibling = k.sibling; child = k.child; base = k.base; stored = k.stored; set = k.set }

-- a record written with the check that the slot had
pub field_written : (reads : ℤ → Stored) (T T' : Cells) (a : ℕ) (st : Stored) (z c : ℤ) → NodeWritten reads T T' a z c → reads z ≡ st → c ≡ T.check a → FieldSet T T' a st
field_written reads T T' a st z c w stored check = record {
  check = λ q. elim (cases_eq q a) [ inl e ↦ ap T'.check e ∙ w.check_at ∙ check ∙ ap T.check (sym e) | inr n ↦ w.check q n ];
  sibling = w.sibling;
  child = w.child;
  base = w.base;
  stored = w.stored;
  set = w.stored_at ∙ stored;
}

-- a test that decides a fact both ways
pub told : (b y : Bool) → (b ≡ true → y ≡ true) → ((b ≡ true → ⊥) → y ≡ false) → b ≡ y
told true y f g = sym (f refl)
told false y f g = sym (g (λ e. false≢true e))

-- in the reduced layout a value is what a node's own number is kept as
pub reads_own : (k : LayoutKind) (v : ℤ) → k ≡ reduced_layout → is_value v ≡ true → reading k v ≡ OwnNumber v
reads_own k v e is = ap (λ j. reading j v) e ∙ by_sign v is
  where
    by_sign : (z : ℤ) → is_value z ≡ true → reading reduced_layout z ≡ OwnNumber z
    by_sign (pos m) h = refl
    by_sign (negsuc m) h = absurd (false≢true h)

-- just the reduced layout keeps numbers so
pub own_reduced : (k : LayoutKind) (z v : ℤ) → reading k z ≡ OwnNumber v → k ≡ reduced_layout
own_reduced default_layout (pos b) v e = cc
own_reduced default_layout (negsuc b) v e = cc
own_reduced reduced_layout z v e = refl

-- the slot behind all that are in use is nobody's
pub spare_past : (T : Fields) → 0 < size_of T → Held (cells_in T) (size_of T) → ⊥
spare_past T some (inl e) = omega (arith, e, some)
spare_past T some (inr o) = let less = in_use T (size_of T) o.0 o.1 in omega (arith, less)

pub kind_is : (k : LayoutKind) → (k ≡ default_layout) ⊎ (k ≡ reduced_layout)
kind_is default_layout = inl refl
kind_is reduced_layout = inr refl

pub not_at_base : (st : Stored) → ((b : ℕ) → st ≡ AtBase b → ⊥) → base_in st ≡ 0
not_at_base (AtBase b) n = absurd (n b refl)
not_at_base (OwnNumber v) n = refl
not_at_base Nothing n = refl

pub same_or_not : (x y : ℤ) → (x ≡ y) ⊎ (x ≡ y → ⊥)
same_or_not x y = elim (cases_Bool (int_eq x y)) [
  | inl is ↦ inl ((Decides-int_eq x y).0 is)
  | inr off ↦ inr (λ e. true≢false (sym ((Decides-int_eq x y).1 e) ∙ off))
]

-- where a node keeps its number, if it has one
pub number_stands : (size : ℕ) (T : Cells) (f : Forest) (w : List ℕ) (a : ℕ) → HoldsTree size T f → IsAt T w a → is_some (node_at (root_of f) w).number ≡ true → (T.check (below T a 0) ≡ pos a) ⊎ ((v : ℤ) × (T.stored a ≡ OwnNumber v))
number_stands size T f w a h at some =
    let st = at_node size T f w a h at in
    by_head st.head (labels (node_at (root_of f) w).children) st.number st.family
  where
    by_head : (hd : Head) (ls : List ℕ) → number_of hd ≡ (node_at (root_of f) w).number → Family size T a hd ls → (T.check (below T a 0) ≡ pos a) ⊎ ((v : ℤ) × (T.stored a ≡ OwnNumber v))
    by_head plain ls e k = absurd (false≢true (ap is_some e ∙ some))
    by_head (valued v) ls e k = inl k.begins.1
    by_head (own v) ls e k = inr (v, k.based)
    by_head top ls e k = absurd (false≢true (ap is_some e ∙ some))
