-- Where each number of one tree is kept as it was, as many slots are held.
use Rattle.std.proofs.Common.{◌≡◌, ℕ, ◌+◌, ◌<◌, List, [], ◌∷◌, ◌++◌, length, sym, ◌∙◌, ap, refl, subst, inl, inr, arith, Bool, true, false, cond, Option, Some, None, ℤ}
use Rattle.std.specs.List.{count_by, range_with_len}
use Rattle.cedar_tree.specs.Tree.{Forest, none, child, Tree}
use Rattle.cedar_tree.specs.Queries.{prefixes, walk}
use Rattle.cedar_model.specs.declared.layout.Stored.{Stored}
use Rattle.cedar_model.specs.declared.layout.Stored.TheVariants.{AtBase, OwnNumber, Nothing}
use Rattle.cedar_model.specs.Table.Cells.{Cells, is_held}
use Rattle.cedar_model.specs.Edit.NodeEdits.{IsAt}
use Rattle.cedar_model.specs.Meaning.Family.{below, Family, Head, Node, number_of, own, plain, top, valued}
use Rattle.cedar_model.specs.Meaning.Marks.{KeepsMarks, mark, marks_below, marks, own_mark}
use Rattle.cedar_model.specs.Meaning.StandsFor.{ChildrenStand, HoldsTree, labels}
use Rattle.cedar_model.specs.Meaning.Reading.{has_number_slot}
use Rattle.cedar_model.specs.Table.TableFields.{Fields, size_of}
use Rattle.cedar_model.specs.Meaning.WellFormed.{cells_in, IsWellFormed, tree_of}
use Rattle.cedar_model.proofs.MeaningLemmas.NodeAtPath.{at_child}
use Rattle.cedar_model.proofs.EditLemmas.NodeChange.{Belong, family_belong}
use Rattle.cedar_model.proofs.MeaningLemmas.NumberSlots.{mark_valued, mark_own}
use Rattle.cedar_model.proofs.MeaningLemmas.HeldCount.{count_is_marked}
use Rattle.cedar_model.proofs.UpdateLemmas.FreeWay.{at_same}

flag : Option Bool → Bool
flag None = false
flag (Some b) = b

pub slot_of_mark : (T : Cells) (s : ℕ) (m : Bool) → mark T s ≡ Some m → has_number_slot T s ≡ m
unfolding flag
slot_of_mark T s m e = by_test (has_number_slot T s) refl
  where
    by_stored : (st : Stored) → own_mark st ≡ Some m → false ≡ m
    by_stored (AtBase b) i = let no : ◌≡◌ {A = Option Bool} None (Some m) = i in absurd (cc)
    by_stored (OwnNumber v) i = ap flag i
    by_stored Nothing i = let no : ◌≡◌ {A = Option Bool} None (Some m) = i in absurd (cc)

    by_test : (b : Bool) → has_number_slot T s ≡ b → has_number_slot T s ≡ m
    by_test true is = is ∙ ap flag (sym (ap (λ t. cond t (Some true) (own_mark (T.stored s))) is) ∙ e)
    by_test false is = is ∙ by_stored (T.stored s) (sym (ap (λ t. cond t (Some true) (own_mark (T.stored s))) is) ∙ e)

-- a node with a number has a mark
numbered_mark : (size : ℕ) (T : Cells) (s : ℕ) (v : ℤ) (ls : List ℕ) → (s ≡ 0 → ⊥) → Node size T s (Some v) ls → (m : Bool) × (mark T s ≡ Some m)
numbered_mark size T s v ls z k = by_head k.head k.number k.family
  where
    by_head : (h : Head) → number_of h ≡ Some v → Family size T s h ls → (m : Bool) × (mark T s ≡ Some m)
    by_head plain n f = let no : ◌≡◌ {A = Option ℤ} None (Some v) = n in absurd (cc)
    by_head (valued x) n f = (true, mark_valued size T s x ls z f)
    by_head (own x) n f = (false, mark_own size T s x ls z f)
    by_head top n f = let no : ◌≡◌ {A = Option ℤ} None (Some v) = n in absurd (cc)

module _ (size size' : ℕ) (T T' : Cells) (f : Forest) (h : HoldsTree size T f) (h' : HoldsTree size' T' f) (k : KeepsMarks T T') where
  number_same : (w : List ℕ) (b b' : ℕ) (n : Option ℤ) (ls : List ℕ) → (b ≡ 0 → ⊥) → IsAt T w b → IsAt T' w b' → Node size T b n ls → cond (has_number_slot T b) n None ≡ cond (has_number_slot T' b') n None
  number_same w b b' None ls z at at' g = none_here (has_number_slot T b) (has_number_slot T' b')
    where
      none_here : (x y : Bool) → ◌≡◌ {A = Option ℤ} (cond x None None) (cond y None None)
      none_here true true = refl
      none_here true false = refl
      none_here false true = refl
      none_here false false = refl
  number_same w b b' (Some v) ls z at at' g =
      let m = numbered_mark size T b v ls z g in
      let there = k w b m.0 at m.1 in
      let same : there.0 ≡ b' = at_same T' w there.0 b' there.1 at' in
      let now : mark T' b' ≡ Some m.0 = ap (mark T') (sym same) ∙ there.2 in
      ap (λ t. cond t (Some v) None) (slot_of_mark T b m.0 m.1 ∙ sym (slot_of_mark T' b' m.0 now))

  marked_same : (w : List ℕ) (s s' : ℕ) (u : Forest) → IsAt T w s → IsAt T' w s' → Belong T s u → Belong T' s' u → ChildrenStand size T s u → ChildrenStand size' T' s' u → marks_below T s u ≡ marks_below T' s' u
  marked_same w s s' none on on' mine mine' g g' = refl
  marked_same w s s' (child l n u rest) on on' mine mine' g g' =
      let o = mine l (inl refl) in
      let o' = mine' l (inl refl) in
      let some : 0 < l = let other = o.0 in omega (arith, other) in
      let at : IsAt T (w ++ l ∷ []) (below T s l) = at_child size T f w s h on l some o.1 in
      let at' : IsAt T' (w ++ l ∷ []) (below T' s' l) = at_child size' T' f w s' h' on' l some o'.1 in
      let z : below T s l ≡ 0 → ⊥ = λ zero. h.root s (ap T.check (sym zero) ∙ o.1) in
      let number = number_same (w ++ l ∷ []) (below T s l) (below T' s' l) n (labels u) z at at' g.0 in
      let under_it = marked_same (w ++ l ∷ []) (below T s l) (below T' s' l) u at at' (family_belong size T (below T s l) g.0.head u g.0.family) (family_belong size' T' (below T' s' l) g'.0.head u g'.0.family) g.1 g'.1 in
      let beside = marked_same w s s' rest on on' (λ y a. mine y (inr a)) (λ y a. mine' y (inr a)) g.2 g'.2 in
      ap (λ x. child l x (marks_below T (below T s l) u) (marks_below T s rest)) number
      ∙ ap (λ x. child l (cond (has_number_slot T' (below T' s' l)) n None) x (marks_below T s rest)) under_it
      ∙ ap (λ x. child l (cond (has_number_slot T' (below T' s' l)) n None) (marks_below T' (below T' s' l) u) x) beside

  pub root_marked : marks_below T 0 f ≡ marks_below T' 0 f
  root_marked = marked_same [] 0 0 f (tt, refl) (tt, refl) (family_belong size T 0 top f h.stands.0) (family_belong size' T' 0 top f h'.stands.0) h.stands.1 h'.stands.1

-- the tree of marks is as it was
pub marks_stay : (slots : ℕ) (T T' : Fields) → IsWellFormed slots T → IsWellFormed slots T' → tree_of T' ≡ tree_of T → KeepsMarks (cells_in T) (cells_in T') → marks T' ≡ marks T
marks_stay slots T T' w w' tree k =
    let f : Forest = (tree_of T).children in
    let holds : HoldsTree (size_of T') (cells_in T') f = subst (λ (t : Tree). HoldsTree (size_of T') (cells_in T') t.children) tree w'.stands in
    let same : marks_below (cells_in T) 0 f ≡ marks_below (cells_in T') 0 f = root_marked (size_of T) (size_of T') (cells_in T) (cells_in T') f w.stands holds k in
    ap (λ (t : Tree). record { number = None; children = marks_below (cells_in T') 0 t.children }) tree ∙ ap (λ (g : Forest). record { number = None; children = g }) (sym same)

-- as many slots are held as before
pub slots_stay : (slots : ℕ) (T T' : Fields) → IsWellFormed slots T → IsWellFormed slots T' → tree_of T' ≡ tree_of T → KeepsMarks (cells_in T) (cells_in T')
    → count_by (is_held (cells_in T')) (range_with_len 0 (size_of T')) ≡ count_by (is_held (cells_in T)) (range_with_len 0 (size_of T))
slots_stay slots T T' w w' tree k =
    count_is_marked slots T' w'
    ∙ ap (λ (t : Tree). 1 + length (prefixes t) + length (walk (marks T'))) tree
    ∙ ap (λ (t : Tree). 1 + length (prefixes (tree_of T)) + length (walk t)) (marks_stay slots T T' w w' tree k)
    ∙ sym (count_is_marked slots T w)
