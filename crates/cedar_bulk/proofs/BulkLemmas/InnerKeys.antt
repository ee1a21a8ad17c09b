-- Which numbers have slots of their own, once a table is made of sorted pairs.
use Rattle.std.proofs.Common.{◌≡◌, ◌⊎◌, ℕ, ◌∙◌, ◌==◌, cond, sym, ap, subst, refl, inl, inr, Bool, true, false, Option, Some, None, List, [], ◌∷◌, length, Result, Ok, Err, OnOk}
use Rattle.std.specs.Prelude.{ℤ, is_some}
use Rattle.std.proofs.lemmas.Bool.{cases_Bool, false≢true}
use Rattle.std.proofs.lemmas.Bool.Decides.{eqb_tells}
use Rattle.cedar_model.specs.Tree.{child, empty_tree, Forest, has_label, none, number_at, replace, subtree, Tree}
use Rattle.cedar_model.specs.Queries.{node_at}
use Rattle.cedar_model.specs.Edits.{edit_at, number_on}
use Rattle.cedar_model.proofs.EntryLemmas.Steps.{changed, edit_is_replace}
use Rattle.cedar_model.proofs.TreeLemmas.{has_label-replace, number_at-empty, subtree-replace_other, subtree-replace_same, subtree_absent}
use Rattle.cedar_model.specs.declared.layout.Stored.TheVariants.{AtBase, OwnNumber}
use Rattle.cedar_model.specs.Table.Cells.{Cells}
use Rattle.cedar_model.specs.Table.Layouts.{LayoutKind, reduced_layout}
use Rattle.cedar_model.specs.Edit.NodeEdits.{IsAt}
use Rattle.cedar_model.specs.Edit.Steps.{root_of}
use Rattle.cedar_bulk.specs.Sorted.{Fills, leaves}
use Rattle.cedar_bulk.specs.SortedMarks.{KeepsLast, KeepsOwn}
use Rattle.cedar_model.proofs.EditLemmas.AtPath.{held_node}
use Rattle.cedar_model.proofs.OrderLemmas.{number_of_node}

-- ---- a node that was bare gets a number and leaves

leaves_are_bare : (ls : List ℕ) (l : ℕ) → subtree (leaves ls) l ≡ empty_tree
leaves_are_bare [] l = refl
leaves_are_bare (m ∷ ls) l = by_test (m == l) (leaves_are_bare ls l)
  where
    by_test : (b : Bool) → subtree (leaves ls) l ≡ empty_tree → ◌≡◌ {A = Tree} (cond b (record { number = None; children = none }) (subtree (leaves ls) l)) empty_tree
    by_test true e = refl
    by_test false e = e

no_leaf : (ls : List ℕ) → leaves ls ≡ none → length ls ≡ 0
no_leaf [] e = refl
no_leaf (l ∷ ls) e = cc

-- at the path w the tree t' has the number that t has, and no child less
record Alike (t t' : Tree) (w : List ℕ) : Type 0 where
  number : number_at t' w ≡ number_at t w
  childless : (node_at t' w).children ≡ none → (node_at t w).children ≡ none

alike_below : (t t' : Tree) (l : ℕ) (w : List ℕ) → subtree t'.children l ≡ subtree t.children l → Alike t t' (l ∷ w)
alike_below t t' l w e = record {
  number = ap (λ (u : Tree). number_at u w) e;
  childless = λ h. ap (λ (u : Tree). (node_at u w).children) (sym e) ∙ h;
}

child_there : (b : Bool) (l : ℕ) (x y : Option ℤ) (u v f g : Forest) → cond b (child l x u f) (child l y v g) ≡ none → ⊥
child_there true l x y u v f g e = cc
child_there false l x y u v f g e = cc

module _ (number : Option ℤ) (ls : List ℕ) where
  abbrev filled : List ℕ → Tree → Tree
  filled path t = changed path (λ _. number) (λ _. leaves ls) t

  same_child : (path : List ℕ) (t : Tree) (l : ℕ) → has_label t.children l ≡ true → subtree (filled (l ∷ path) t).children l ≡ filled path (subtree t.children l)
  same_child path t l there =
      ap (λ f. subtree f l) (edit_is_replace l path (λ _. number) (λ _. leaves ls) t.children)
      ∙ subtree-replace_same t.children l (filled path (subtree t.children l)) there

  absent_child : (path : List ℕ) (t : Tree) (l : ℕ) → has_label t.children l ≡ false → subtree (filled (l ∷ path) t).children l ≡ subtree t.children l
  absent_child path t l absent =
      let x : Tree = filled path (subtree t.children l) in
      ap (λ f. subtree f l) (edit_is_replace l path (λ _. number) (λ _. leaves ls) t.children)
      ∙ subtree_absent (replace t.children l x) l (has_label-replace t.children l l x ∙ absent) ∙ sym (subtree_absent t.children l absent)

  other_child : (path : List ℕ) (t : Tree) (m l : ℕ) → (m == l) ≡ false → subtree (filled (m ∷ path) t).children l ≡ subtree t.children l
  other_child path t m l other =
      ap (λ f. subtree f l) (edit_is_replace m path (λ _. number) (λ _. leaves ls) t.children)
      ∙ subtree-replace_other t.children m l (filled path (subtree t.children m)) other

  no_child_less : (m : ℕ) (path : List ℕ) (f : Forest) → edit_at (m ∷ path) (λ _. number) (λ _. leaves ls) f ≡ none → f ≡ none
  no_child_less m path none h = refl
  no_child_less m path (child l n u rest) h =
      absurd (child_there (l == m) l (number_on path (λ _. number) n) n (edit_at path (λ _. number) (λ _. leaves ls) u) u rest (edit_at (m ∷ path) (λ _. number) (λ _. leaves ls) rest) h)

  -- nothing has changed elsewhere
  elsewhere : (path w : List ℕ) (t : Tree) → node_at t path ≡ empty_tree → (w ≡ path) ⊎ Alike t (filled path t) w
  elsewhere [] [] t bare = inl refl
  elsewhere [] (l ∷ w) t bare = inr (alike_below t (filled [] t) l w (leaves_are_bare ls l ∙ sym (ap (λ (u : Tree). subtree u.children l) bare)))
  elsewhere (m ∷ path) [] t bare = inr (record { number = refl; childless = no_child_less m path t.children })
  elsewhere (m ∷ path) (l ∷ w) t bare = elim (eqb_tells m l) [
    | inl same ↦ by_label same.1 (elsewhere path w (subtree t.children m))
    | inr other ↦ inr (alike_below t (filled (m ∷ path) t) l w (other_child path t m l other.0))
  ]
    where
      below : Tree
      below = subtree t.children m

      by_child : has_label t.children m ≡ true → (w ≡ path) ⊎ Alike below (filled path below) w → (m ∷ w ≡ m ∷ path) ⊎ Alike t (filled (m ∷ path) t) (m ∷ w)
      by_child there (inl is) = inl (ap (λ p. m ∷ p) is)
      by_child there (inr k) =
          let e = same_child path t m there in
          inr (record { number = ap (λ (u : Tree). number_at u w) e ∙ k.number; childless = λ h. k.childless (ap (λ (u : Tree). (node_at u w).children) (sym e) ∙ h) })

      by_label : m ≡ l → (node_at (subtree t.children m) path ≡ empty_tree → (w ≡ path) ⊎ Alike below (filled path below) w) → (l ∷ w ≡ m ∷ path) ⊎ Alike t (filled (m ∷ path) t) (l ∷ w)
      by_label same on = subst (λ x. (x ∷ w ≡ m ∷ path) ⊎ Alike t (filled (m ∷ path) t) (x ∷ w)) same (elim (cases_Bool (has_label t.children m)) [
        | inl there ↦ by_child there (on bare)
        | inr absent ↦ inr (alike_below t (filled (m ∷ path) t) m w (absent_child path t m absent))
      ])

  -- a number at the node's own path is the one that it got, and its children are these leaves
  there_too : (path : List ℕ) (t : Tree) → node_at t path ≡ empty_tree → is_some (number_at (filled path t) path) ≡ true
      → (number_at (filled path t) path ≡ number) × ((node_at (filled path t) path).children ≡ leaves ls)
  there_too [] t bare held = (refl, refl)
  there_too (l ∷ path) t bare held = elim (cases_Bool (has_label t.children l)) [
    | inl there ↦
        let e = same_child path t l there in
        let k = there_too path (subtree t.children l) bare (ap (λ (u : Tree). is_some (number_at u path)) (sym e) ∙ held) in
        (ap (λ (u : Tree). number_at u path) e ∙ k.0, ap (λ (u : Tree). (node_at u path).children) e ∙ k.1)
    | inr absent ↦
        let none_there : number_at (filled (l ∷ path) t) (l ∷ path) ≡ None =
        ap (λ (u : Tree). number_at u path) (absent_child path t l absent) ∙ number_of_node (subtree t.children l) path ∙ ap (λ (u : Tree). u.number) bare in
        absurd (false≢true (sym (ap is_some none_there) ∙ held))
  ]

-- ---- the last numbers of all keys

own_and_bare : (T : Cells) (s : ℕ) (v : ℤ) → T.stored s ≡ OwnNumber v → T.stored s ≡ AtBase 0 → ⊥
own_and_bare T s v own bare = let e : OwnNumber v ≡ AtBase 0 = sym own ∙ bare in cc

-- no leaf has a number
pub leaves_keep : (T : Cells) (ls : List ℕ) → KeepsLast T (leaves ls)
leaves_keep T ls [] held childless = absurd (false≢true held)
leaves_keep T ls (l ∷ w) held childless =
    let none_there = ap (λ (u : Tree). is_some (number_at u w)) (leaves_are_bare ls l) ∙ ap is_some (number_at-empty w) in
    absurd (false≢true (sym none_there ∙ held))

-- they are kept as they were, and the node's own where it has to be
pub last_kept : (layout : LayoutKind) (size size' : ℕ) (T T' : Cells) (f : Forest) (path : List ℕ) (a : ℕ) (number : Option ℤ) (ls : List ℕ) → layout ≡ reduced_layout → (path ≡ [] → ⊥) → node_at (root_of f) path ≡ empty_tree → IsAt T path a → T.stored a ≡ AtBase 0
    → Fills size size' T T' a number ls → KeepsOwn layout T' a number ls → KeepsLast T f → KeepsLast T' (edit_at path (λ _. number) (λ _. leaves ls) f)
last_kept layout size size' T T' f [] a number ls reduced some bare at leaf fills own kept w held childless = absurd (some refl)
last_kept layout size size' T T' f (m ∷ path) a number ls reduced some bare at leaf fills own kept w held childless =
    elim (elsewhere number ls (m ∷ path) w (root_of f) bare) [
      | inl is ↦ here is
      | inr k ↦ other k.number k.childless
    ]
  where
    t' : Tree
    t' = filled number ls (m ∷ path) (root_of f)

    by_number : (o : Option ℤ) → is_some o ≡ true → (v : ℤ) × (o ≡ Some v)
    by_number None h = absurd (false≢true h)
    by_number (Some v) h = (v, refl)

    here : w ≡ m ∷ path → (s : ℕ) × (v : ℤ) × IsAt T' w s × (T'.stored s ≡ OwnNumber v)
    here is =
        let held' : is_some (number_at t' (m ∷ path)) ≡ true = subst (λ q. is_some (number_at t' q) ≡ true) is held in
        let k = there_too number ls (m ∷ path) (root_of f) bare held' in
        let v = by_number number (ap is_some (sym k.0) ∙ held') in
        let no_label : length ls ≡ 0 = no_leaf ls (sym k.1 ∙ subst (λ q. (node_at t' q).children ≡ none) is childless) in
        (a, v.0, subst (λ q. IsAt T' q a) (sym is) (fills.paths (m ∷ path) a at), own reduced v.0 v.1 no_label)

    other : number_at t' w ≡ number_at (root_of f) w → ((node_at t' w).children ≡ none → (node_at (root_of f) w).children ≡ none) → (s : ℕ) × (v : ℤ) × IsAt T' w s × (T'.stored s ≡ OwnNumber v)
    other same less =
        let k = kept w (ap is_some (sym same) ∙ held) (less childless) in
        let apart : (k.0 ≡ a) → ⊥ = λ z. own_and_bare T k.0 k.1 k.3 (ap T.stored z ∙ leaf) in
        (k.0, k.1, fills.paths w k.0 k.2, fills.stays k.0 (held_node T w k.0 k.2) apart ∙ k.3)

-- where the number's slot was to be found, no number is one without labels
pub placed_own : (layout : LayoutKind) (T : Cells) (a : ℕ) (number : Option ℤ) (ls : List ℕ) → (layout ≡ reduced_layout → length ls ≡ 0 → number ≡ None) → KeepsOwn layout T a number ls
placed_own layout T a number ls nothing reduced v is short = let e : Some v ≡ None = sym is ∙ nothing reduced short in cc

pub always_on_ok : {X E : Type 0} {P : Type 0} (r : Result X E) → P → OnOk r P
always_on_ok (Ok x) p = p
always_on_ok (Err e) p = tt
