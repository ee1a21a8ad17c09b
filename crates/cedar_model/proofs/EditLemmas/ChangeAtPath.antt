-- The edit at a slot is the edit at the slot's path.
use Rattle.std.proofs.Common.{◌≡◌, ℕ, List, [], ◌∷◌, ◌++◌, length, sym, ◌∙◌, ap, refl, subst, inl, inr, arith, Option, cond, eqb, true, false, append_assoc, length-append}
use Rattle.std.specs.Prelude.{ℤ, pos}
use Rattle.std.proofs.lemmas.Bool.{cases_eq, cond-true, cond-false, eq-eqb, ne_eqb}
use Rattle.cedar_tree.specs.Tree.{Forest, none, child}
use Rattle.cedar_tree.specs.Edits.{edit_at}
use Rattle.cedar_model.specs.Table.Cells.{Cells}
use Rattle.cedar_model.specs.Meaning.Family.{Head, top, Family, Node, below, Among}
use Rattle.cedar_model.specs.Meaning.StandsFor.{labels, ChildrenStand, RootStands, HoldsTree, slot_at, OnPath}
use Rattle.cedar_model.specs.Edit.NodeEdits.{follow_on, edit, Touches}
use Rattle.cedar_model.proofs.EditLemmas.NodeChange.{NodeStays, family_belong, stands_edited, lower_same, edits, root_stays, reached}
use Rattle.cedar_model.proofs.MeaningLemmas.Paths.{one_path}
use Rattle.cedar_model.proofs.MeaningLemmas.OneNode.{DistinctList}
use Rattle.cedar_model.proofs.MeaningLemmas.OneTree.{node_distinct, family_distinct}

-- the labels of a node below the path q are none of 0, and their slots are the node's
abbrev Rooted : Cells → List ℕ → Forest → Type 0
Rooted T q f = (l : ℕ) → Among (labels f) l → (l ≡ 0 → ⊥) × (T.check (slot_at T (l ∷ q)) ≡ pos (slot_at T q))

-- the path P does not pass q
abbrev Off : List ℕ → List ℕ → Type 0
Off P q = (e : List ℕ) → e ++ q ≡ P → ⊥

off_below : (P q : List ℕ) (m : ℕ) → Off P q → Off P (m ∷ q)
off_below P q m o e h = o (e ++ m ∷ []) (append_assoc e (m ∷ []) q ∙ h)

rooted_below : (size : ℕ) (T : Cells) (q : List ℕ) (h : Head) (f : Forest) → Family size T (slot_at T q) h (labels f) → Rooted T q f
rooted_below size T q h f k = family_belong size T (slot_at T q) h f k

-- no two children of a node have one label
abbrev pub Distinct : Forest → Type 0
Distinct none = Unit {0}
Distinct (child l n f rest) = (Among (labels rest) l → ⊥) × Distinct f × Distinct rest

distinct_grown : (size : ℕ) (T : Cells) (s : ℕ) (f : Forest) → DistinctList (labels f) → ChildrenStand size T s f → Distinct f
distinct_grown size T s none d g = tt
distinct_grown size T s (child l n u rest) d g = (d.0, distinct_grown size T (below T s l) u (node_distinct size T (below T s l) n (labels u) g.0) g.1, distinct_grown size T s rest d.1 g.2)

-- what comes last before a common tail
append_tail : (xs ys q : List ℕ) (l m : ℕ) → xs ++ (l ∷ q) ≡ ys ++ (m ∷ q) → l ≡ m
append_tail [] [] q l m e = cc
append_tail [] (y ∷ ys) q l m e = absurd (omega (arith, ap length e, length-append ys (m ∷ q)))
append_tail (x ∷ xs) [] q l m e = absurd (omega (arith, ap length e, length-append xs (l ∷ q)))
append_tail (x ∷ xs) (y ∷ ys) q l m e = append_tail xs ys q l m (let t : xs ++ (l ∷ q) ≡ ys ++ (m ∷ q) = cc in t)

pub follow_split : (w q : List ℕ) → (e : List ℕ) × (follow_on w q ≡ e ++ q)
follow_split [] q = ([], refl)
follow_split (l ∷ w) q = let v = follow_split w (l ∷ q) in (v.0 ++ l ∷ [], v.1 ∙ sym (append_assoc v.0 (l ∷ []) q))

-- a path that goes on by label l does not pass the other labels
off_other : (w q : List ℕ) (l m : ℕ) (P : List ℕ) → follow_on (l ∷ w) q ≡ P → (m ≡ l → ⊥) → Off P (m ∷ q)
off_other w q l m P at n e h = let v = follow_split w (l ∷ q) in n (append_tail e v.0 q m l (h ∙ sym at ∙ v.1))

off_end : (P : List ℕ) (m : ℕ) → Off P (m ∷ P)
off_end P m e h = absurd (omega (arith, ap length h, length-append e (m ∷ P)))

pub longer_path : (w q : List ℕ) (l : ℕ) → follow_on (l ∷ w) q ≡ q → ⊥
longer_path w q l h = let v = follow_split w (l ∷ q) in off_end q l v.0 (sym v.1 ∙ h)

module _ (size : ℕ) (T : Cells) (root : (c : ℕ) → T.check 0 ≡ pos c → ⊥) (P : List ℕ) (on : OnPath T P) (number : Option ℤ → Option ℤ) (children : Forest → Forest) where
  -- where the path does not pass, nothing is edited
  edit_none : (q : List ℕ) (f : Forest) → OnPath T q → ((m : ℕ) → Among (labels f) m → Off P (m ∷ q)) → Rooted T q f → ChildrenStand size T (slot_at T q) f → edit T (slot_at T P) number children (slot_at T q) f ≡ f
  edit_none q none h o r g = refl
  edit_none q (child m n u rest) h o r g =
      let w = r m (inl refl) in
      let h' : OnPath T (m ∷ q) = (w.0, w.1, h) in
      let away : slot_at T (m ∷ q) ≡ slot_at T P → ⊥ = λ e. o m (inl refl) [] (one_path T root (m ∷ q) P h' on e) in
      let b : eqb (slot_at T (m ∷ q)) (slot_at T P) ≡ false = ne_eqb _ _ away in
      let under : edit T (slot_at T P) number children (slot_at T (m ∷ q)) u ≡ u =
      edit_none (m ∷ q) u h' (λ x a. off_below P (m ∷ q) x (o m (inl refl))) (rooted_below size T (m ∷ q) g.0.head u g.0.family) g.1 in
      let beside : edit T (slot_at T P) number children (slot_at T q) rest ≡ rest =
      edit_none q rest h (λ x a. o x (inr a)) (λ x a. r x (inr a)) g.2 in
      let v : Forest = edit T (slot_at T P) number children (slot_at T (m ∷ q)) u in
      ap (λ t. child m (cond t (number n) n) (cond t (children v) v) (edit T (slot_at T P) number children (slot_at T q) rest)) b
      ∙ ap (λ x. child m n x (edit T (slot_at T P) number children (slot_at T q) rest)) under ∙ ap (λ x. child m n u x) beside

  edit_found : (w : List ℕ) (l : ℕ) (q : List ℕ) (f : Forest) → follow_on (l ∷ w) q ≡ P → OnPath T q → Distinct f → Rooted T q f → ChildrenStand size T (slot_at T q) f → edit T (slot_at T P) number children (slot_at T q) f ≡ edit_at (l ∷ w) number children f
  edit_found w l q none at h d r g = refl
  edit_found [] l q (child m n u rest) at h d r g =
      let k = r m (inl refl) in
      let h' : OnPath T (m ∷ q) = (k.0, k.1, h) in
      let v : Forest = edit T (slot_at T P) number children (slot_at T (m ∷ q)) u in
      let side : Forest = edit T (slot_at T P) number children (slot_at T q) rest in
      elim (cases_eq m l) [
        | inl e ↦
            let here : m ∷ q ≡ P = ap (λ x. x ∷ q) e ∙ at in
            let b : eqb (slot_at T (m ∷ q)) (slot_at T P) ≡ true = eq-eqb _ _ (ap (slot_at T) here) in
            let under : v ≡ u = edit_none (m ∷ q) u h' (λ x a. subst (λ z. Off z (x ∷ (m ∷ q))) here (off_end (m ∷ q) x)) (rooted_below size T (m ∷ q) g.0.head u g.0.family) g.1 in
            let beside : side ≡ rest = edit_none q rest h (λ x a. off_other [] q l x P at (λ z. d.0 (subst (Among (labels rest)) (z ∙ sym e) a))) (λ x a. r x (inr a)) g.2 in
            ap (λ t. child m (cond t (number n) n) (cond t (children v) v) side) b ∙ ap (λ x. child m (number n) (children x) side) under ∙ ap (λ x. child m (number n) (children u) x) beside
            ∙ sym (cond-true (eqb m l) _ _ (eq-eqb m l e))
        | inr o ↦
            let b : eqb (slot_at T (m ∷ q)) (slot_at T P) ≡ false = ne_eqb _ _ (λ z. off_other [] q l m P at o [] (one_path T root (m ∷ q) P h' on z)) in
            let under : v ≡ u = edit_none (m ∷ q) u h' (λ x a. off_below P (m ∷ q) x (off_other [] q l m P at o)) (rooted_below size T (m ∷ q) g.0.head u g.0.family) g.1 in
            let beside : side ≡ edit_at (l ∷ []) number children rest = edit_found [] l q rest at h d.2 (λ x a. r x (inr a)) g.2 in
            ap (λ t. child m (cond t (number n) n) (cond t (children v) v) side) b ∙ ap (λ x. child m n x side) under ∙ ap (λ x. child m n u x) beside
            ∙ sym (cond-false (eqb m l) _ _ (ne_eqb m l o))
      ]
  edit_found (j ∷ w) l q (child m n u rest) at h d r g =
      let k = r m (inl refl) in
      let h' : OnPath T (m ∷ q) = (k.0, k.1, h) in
      let v : Forest = edit T (slot_at T P) number children (slot_at T (m ∷ q)) u in
      let side : Forest = edit T (slot_at T P) number children (slot_at T q) rest in
      elim (cases_eq m l) [
        | inl e ↦
            let here : follow_on (j ∷ w) (m ∷ q) ≡ P = ap (λ x. follow_on (j ∷ w) (x ∷ q)) e ∙ at in
            let b : eqb (slot_at T (m ∷ q)) (slot_at T P) ≡ false = ne_eqb _ _ (λ z. longer_path w (m ∷ q) j (here ∙ sym (one_path T root (m ∷ q) P h' on z))) in
            let under : v ≡ edit_at (j ∷ w) number children u = edit_found w j (m ∷ q) u here h' d.1 (rooted_below size T (m ∷ q) g.0.head u g.0.family) g.1 in
            let beside : side ≡ rest = edit_none q rest h (λ x a. off_other (j ∷ w) q l x P at (λ z. d.0 (subst (Among (labels rest)) (z ∙ sym e) a))) (λ x a. r x (inr a)) g.2 in
            ap (λ t. child m (cond t (number n) n) (cond t (children v) v) side) b ∙ ap (λ x. child m n x side) under ∙ ap (λ x. child m n (edit_at (j ∷ w) number children u) x) beside
            ∙ sym (cond-true (eqb m l) _ _ (eq-eqb m l e))
        | inr o ↦
            let b : eqb (slot_at T (m ∷ q)) (slot_at T P) ≡ false = ne_eqb _ _ (λ z. off_other (j ∷ w) q l m P at o [] (one_path T root (m ∷ q) P h' on z)) in
            let under : v ≡ u = edit_none (m ∷ q) u h' (λ x a. off_below P (m ∷ q) x (off_other (j ∷ w) q l m P at o)) (rooted_below size T (m ∷ q) g.0.head u g.0.family) g.1 in
            let beside : side ≡ edit_at (l ∷ j ∷ w) number children rest = edit_found (j ∷ w) l q rest at h d.2 (λ x a. r x (inr a)) g.2 in
            ap (λ t. child m (cond t (number n) n) (cond t (children v) v) side) b ∙ ap (λ x. child m n x side) under ∙ ap (λ x. child m n u x) beside
            ∙ sym (cond-false (eqb m l) _ _ (ne_eqb m l o))
      ]

  -- from the root: the edit at the slot of a path is the edit at that path
  pub edit_is_at : (l : ℕ) (w : List ℕ) (f : Forest) → follow_on (l ∷ w) [] ≡ P → RootStands size T f → edit T (slot_at T P) number children 0 f ≡ edit_at (l ∷ w) number children f
  edit_is_at l w f at st = edit_found w l [] f at tt (distinct_grown size T 0 f (family_distinct size T 0 top (labels f) st.0) st.1) (rooted_below size T [] top f st.0) st.1

module _ (size : ℕ) (T T' : Cells) (f : Forest) (x : ℕ) (w : HoldsTree size T f) (stays : NodeStays size T T' x) where
  -- an edit of a node below the root
  pub edited : (number : Option ℤ → Option ℤ) (children : Forest → Forest) (m : ℕ) (p : List ℕ) (h : OnPath T (m ∷ p)) → Touches T T' (slot_at T (m ∷ p)) x
      → ((n : Option ℤ) (u v : Forest) → labels v ≡ labels u → Node size T (slot_at T (m ∷ p)) n (labels u) → Node size T' (slot_at T (m ∷ p)) (number n) (labels (children v)))
      → ((v : Forest) → ChildrenStand size T' (slot_at T (m ∷ p)) v → ChildrenStand size T' (slot_at T (m ∷ p)) (children v))
      → (j : ℕ) (v : List ℕ) → follow_on (j ∷ v) [] ≡ m ∷ p → HoldsTree size T' (edit_at (j ∷ v) number children f)
  edited number children m p h k node lower j v at =
      let e = edits size T T' f (m ∷ p) x w h k stays in
      record {
        stands = subst (RootStands size T') (edit_is_at size T w.root (m ∷ p) h number children j v f at w.stands)
            (stands_edited size T T' (slot_at T (m ∷ p)) number children e node lower f (λ z. w.root _ (ap T.check z ∙ h.1)) w.stands);
        root = root_stays size T T' f (m ∷ p) x w h k;
        reached = reached size T T' f (m ∷ p) x w h k;
      }

  -- an edit of the root
  pub root_edited : (children : Forest → Forest) → Touches T T' 0 x → (Family size T 0 top (labels f) → Family size T' 0 top (labels (children f))) → (ChildrenStand size T' 0 f → ChildrenStand size T' 0 (children f)) → HoldsTree size T' (edit_at [] (λ n. n) children f)
  root_edited children k node lower =
      let e = edits size T T' f [] x w tt k stays in
      record {
        stands = (node w.stands.0, lower (lower_same size T T' 0 e (λ c l o z. w.root c (ap T.check (sym z) ∙ o)) 0 f (family_belong size T 0 top f w.stands.0) w.stands.1));
        root = root_stays size T T' f [] x w tt k;
        reached = reached size T T' f [] x w tt k;
      }
