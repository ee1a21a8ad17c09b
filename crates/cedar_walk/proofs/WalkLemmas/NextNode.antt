-- A walk over the nodes of a table: the first child, the next sibling, and the way up.
use Rattle.std.proofs.Common.{◌≡◌, ℕ, zero, suc, ◌+◌, ◌-◌, ◌<◌, ◌≤◌, List, [], ◌∷◌, ◌++◌, length, take, add-one, append_assoc, sym, ◌∙◌, ap, refl, subst, inl, inr, arith, true, Option, ℤ}
use Rattle.std.specs.Prelude.{pos, unsigned_abs, cond}
use Rattle.std.proofs.lemmas.List.{length-append, take-take, take_all, take_at}
use Rattle.std.proofs.lemmas.Bool.Decides.{eqb_tells}
use Rattle.cedar_model.specs.Tree.{Forest, none, child, Tree, has_label, subtree, IsSoundBelow}
use Rattle.cedar_model.specs.Queries.{node_at}
use Rattle.cedar_model.specs.Walks.{behind, forwards, node_up, visits_after, visits_left}
use Rattle.cedar_model.proofs.OrderLemmas.{sound_node_at}
use Rattle.cedar_model.proofs.VisitLemmas.{goes_down, goes_past_leaf, goes_right, goes_up, has_behind, has_here, next_behind, node_up_is, subtree_here}
use Rattle.cedar_walk.specs.declared.visits.Visited.{Visited}
use Rattle.cedar_model.specs.Table.Cells.{Cells}
use Rattle.cedar_model.specs.Meaning.Family.{Among, base_of, below, Begins, Head, Links, own, plain, top, valued}
use Rattle.cedar_model.specs.Meaning.StandsFor.{labels, OnPath, slot_at, Stands}
use Rattle.cedar_model.specs.Edit.NodeEdits.{follow_on, IsAt}
use Rattle.cedar_model.specs.Table.TableFields.{Fields, size_of}
use Rattle.cedar_walk.specs.Visits.{ComesTo, first_sibling_label, IsBelow, left_after, left_at, owner_of, path_to, way_up}
use Rattle.cedar_model.specs.Meaning.WellFormed.{cells_in, IsWellFormed, tree_of}
use Rattle.cedar_model.proofs.MeaningLemmas.NodeAtPath.{among_has, at_child, at_node, follow_last}
use Rattle.cedar_model.proofs.MeaningLemmas.KeyPath.{tree_root}
use Rattle.cedar_model.proofs.MeaningLemmas.OneNode.{labels_own, owned_label}
use Rattle.cedar_model.proofs.MeaningLemmas.ReadBack.{path_short}
use Rattle.cedar_model.proofs.MeaningLemmas.ExclusiveOr.{pos_injective, xor_back}
use Rattle.cedar_model.proofs.MeaningLemmas.TreeOf.{in_use}
use Rattle.cedar_model.proofs.GeneralLemmas.{positive}
use Rattle.cedar_model.proofs.UpdateLemmas.TrimUpwards.{root_path}

-- ---- chains

pub links_first : (T : Cells) (s c : ℕ) (f : Forest) → Links T s c (labels f) → c ≡ first_sibling_label f
links_first T s c none h = h
links_first T s c (child l n u rest) h = h.0

-- what comes after a label of a chain
pub links_behind : (T : Cells) (s c l : ℕ) (f : Forest) → Links T s c (labels f) → Among (labels f) l → Links T s (T.sibling (below T s l)) (labels (behind f l))
links_behind T s c l none h a = absurd a
links_behind T s c l (child m n u rest) h a = elim (eqb_tells m l) [
  | inl e ↦
      subst (λ g. Links T s (T.sibling (below T s l)) (labels g)) (sym (ap (λ b. cond b rest (behind rest l)) e.0))
      (subst (λ x. Links T s (T.sibling (below T s x)) (labels rest)) e.1 h.4)
  | inr e ↦
      subst (λ g. Links T s (T.sibling (below T s l)) (labels g)) (sym (ap (λ b. cond b rest (behind rest l)) e.0))
      (links_behind T s (T.sibling (below T s m)) l rest h.4 (elim a [ inl same ↦ absurd (e.1 same) | inr b ↦ b ]))
]

-- a node's chain begins somewhere
begins_links : (T : Cells) (s : ℕ) (h : Head) (ls : List ℕ) → Begins T s h ls → (c : ℕ) × Links T s c ls
begins_links T s plain ls b = (T.child s, b)
begins_links T s (valued v) ls b = (T.sibling (below T s 0), b.4)
begins_links T s (own v) ls b = (0, subst (Links T s 0) (sym b.1) refl)
begins_links T s top ls b = (T.sibling s, b.2)

-- ---- a path and its last label

-- slot s is the child of slot `above` under label l, at the end of the path w
pub record Last (T : Cells) (w : List ℕ) (l s : ℕ) : Type 0 where
  pub above : ℕ
  pub at : IsAt T w above
  pub check : T.check s ≡ pos above
  pub label : l ≡ 0 → ⊥
  pub is : below T above l ≡ s

pub last_of : (T : Cells) (w : List ℕ) (l s : ℕ) → IsAt T (w ++ l ∷ []) s → Last T w l s
last_of T w l s at =
    let e = follow_last l w [] in
    let on : OnPath T (l ∷ follow_on w []) = subst (OnPath T) e at.0 in
    let is : slot_at T (l ∷ follow_on w []) ≡ s = ap (slot_at T) (sym e) ∙ at.1 in
    record {
      above = slot_at T (follow_on w []);
      at = (on.2, refl);
      check = ap T.check (sym is) ∙ on.1;
      label = on.0;
      is = is;
    }

-- ---- the way up

pub way_one_more : (T : Cells) (n s l : ℕ) → T.check (below T s l) ≡ pos s → way_up T (n + 1) (below T s l) ≡ l ∷ way_up T n s
way_one_more T n s l o =
    let owner : owner_of T (below T s l) ≡ s = ap unsigned_abs o in
    ap (λ m. way_up T m (below T s l)) (add-one n)
    ∙ ap (λ x. below T x (below T s l) ∷ way_up T n x) owner
    ∙ ap (λ x. x ∷ way_up T n s) (xor_back (base_of T s) l)

pub way_length : (T : Cells) (n s : ℕ) → length (way_up T n s) ≡ n
way_length T zero s = refl
way_length T (suc n) s = ap suc (way_length T n (owner_of T s))

pub forwards_length : (up : List ℕ) → length (forwards up) ≡ length up
forwards_length [] = refl
forwards_length (l ∷ up) = length-append (forwards up) (l ∷ []) ∙ let e = forwards_length up in omega (arith, e)

pub path_length : (T : Fields) (n s : ℕ) → length (path_to T n s) ≡ n
path_length T n s = forwards_length (way_up (cells_in T) n s) ∙ way_length (cells_in T) n s

follow_length : (w q : List ℕ) → length (follow_on w q) ≡ length w + length q
follow_length [] q = omega arith
follow_length (l ∷ w) q = let e = follow_length w (l ∷ q) in omega (arith, e)

node_behind : (t : Tree) (w v : List ℕ) → node_at t (w ++ v) ≡ node_at (node_at t w) v
node_behind t [] v = refl
node_behind t (l ∷ w) v = node_behind (subtree t.children l) w v

-- ---- in a well-formed table

module _ (slots : ℕ) (T : Fields) (k : IsWellFormed slots T) where
  -- a node's slot is in use
  pub node_inside : (w : List ℕ) (s : ℕ) → IsAt (cells_in T) w s → s < size_of T
  node_inside w s at = subst (λ x. x < size_of T) at.1 (on_path (follow_on w []) at.0)
    where
      on_path : (p : List ℕ) → OnPath (cells_in T) p → slot_at (cells_in T) p < size_of T
      on_path [] on = let some = k.table.sound.shaped.blocks.some in omega arith
      on_path (l ∷ p) on = in_use T (slot_at (cells_in T) (l ∷ p)) (slot_at (cells_in T) p) on.1

  pub node_stands : (w : List ℕ) (s : ℕ) → IsAt (cells_in T) w s → Stands (size_of T) (cells_in T) s (node_at (tree_of T) w)
  node_stands w s at = subst (λ (t : Tree). Stands (size_of T) (cells_in T) s (node_at t w)) (sym (tree_root slots T k)) (at_node (size_of T) (cells_in T) (tree_of T).children w s k.stands at)

  pub root_first : (w : List ℕ) → IsAt (cells_in T) w 0 → (cells_in T).sibling 0 ≡ first_sibling_label (node_at (tree_of T) w).children
  root_first w at =
      links_first (cells_in T) 0 ((cells_in T).sibling 0) (tree_of T).children k.stands.stands.0.begins.2
      ∙ ap (λ v. first_sibling_label (node_at (tree_of T) v).children) (sym (root_path (cells_in T) w 0 k.stands.root at refl))

  -- a label that the node itself names is its first
  pub named_first : (w : List ℕ) (s : ℕ) → IsAt (cells_in T) w s → ((cells_in T).child s ≡ 0 → ⊥) → (cells_in T).child s ≡ first_sibling_label (node_at (tree_of T) w).children
  named_first w s at n = let st = node_stands w s at in by_head st.head (node_at (tree_of T) w).children st.family.begins
    where
      by_head : (h : Head) (f : Forest) → Begins (cells_in T) s h (labels f) → (cells_in T).child s ≡ first_sibling_label f
      by_head plain f b = links_first (cells_in T) s ((cells_in T).child s) f b
      by_head (valued v) f b = absurd (n b.0)
      by_head (own v) f b = absurd (n b.0)
      by_head top f b = absurd (n b.1)

  -- the slot of a child
  pub child_owned : (w : List ℕ) (s l : ℕ) → IsAt (cells_in T) w s → has_label (node_at (tree_of T) w).children l ≡ true → (cells_in T).check (below (cells_in T) s l) ≡ pos s
  child_owned w s l at has = let st = node_stands w s at in labels_own (cells_in T) s st.head (labels (node_at (tree_of T) w).children) st.family.begins l (among_has (node_at (tree_of T) w).children l has)

  pub child_is_at : (w : List ℕ) (s l : ℕ) → 0 < l → IsAt (cells_in T) w s → has_label (node_at (tree_of T) w).children l ≡ true → IsAt (cells_in T) (w ++ l ∷ []) (below (cells_in T) s l)
  child_is_at w s l p at has = at_child (size_of T) (cells_in T) (tree_of T).children w s k.stands at l p (child_owned w s l at has)

  pub child_inside : (w : List ℕ) (s l : ℕ) → IsAt (cells_in T) w s → has_label (node_at (tree_of T) w).children l ≡ true → below (cells_in T) s l < size_of T
  child_inside w s l at has = in_use T (below (cells_in T) s l) s (child_owned w s l at has)

  -- the label after a node's
  pub next_label : (w : List ℕ) (l s : ℕ) → IsAt (cells_in T) (w ++ l ∷ []) s → (cells_in T).sibling s ≡ first_sibling_label (behind (node_at (tree_of T) w).children l)
  next_label w l s at =
      let last = last_of (cells_in T) w l s at in
      let st = node_stands w last.above last.at in
      let f : Forest = (node_at (tree_of T) w).children in
      let links = begins_links (cells_in T) last.above st.head (labels f) st.family.begins in
      let among : Among (labels f) l = owned_label (size_of T) (cells_in T) last.above l st.head (labels f) st.family last.label (ap (cells_in T).check last.is ∙ last.check) in
      ap (cells_in T).sibling (sym last.is)
      ∙ links_first (cells_in T) last.above ((cells_in T).sibling (below (cells_in T) last.above l)) (behind f l) (links_behind (cells_in T) last.above links.0 l f links.1 among)

  -- ---- a walk below the path `start`

  -- the tree at a slot, by the way up to `start` and by the whole path
  tree_here : (start : List ℕ) (n s : ℕ) → node_up (node_at (tree_of T) start) (way_up (cells_in T) n s) ≡ node_at (tree_of T) (start ++ path_to T n s)
  tree_here start n s = node_up_is (node_at (tree_of T) start) (way_up (cells_in T) n s) ∙ sym (node_behind (tree_of T) start (path_to T n s))

  forest_here : (start : List ℕ) (n s : ℕ) → (node_up (node_at (tree_of T) start) (way_up (cells_in T) n s)).children ≡ (node_at (tree_of T) (start ++ path_to T n s)).children
  forest_here start n s = ap (λ (t : Tree). t.children) (tree_here start n s)

  sound_here : (start : List ℕ) (n s : ℕ) → IsSoundBelow (node_up (node_at (tree_of T) start) (way_up (cells_in T) n s)).children
  sound_here start n s = subst IsSoundBelow (sym (forest_here start n s)) (sound_node_at (tree_of T) (start ++ path_to T n s) k.sound)

  -- one label further down
  child_below : (start : List ℕ) (n s l : ℕ) → 0 < l → IsBelow (cells_in T) start n s → has_label (node_at (tree_of T) (start ++ path_to T n s)).children l ≡ true
      → IsBelow (cells_in T) start (n + 1) (below (cells_in T) s l) × (way_up (cells_in T) (n + 1) (below (cells_in T) s l) ≡ l ∷ way_up (cells_in T) n s)
  child_below start n s l p at has =
      let way = way_one_more (cells_in T) n s l (child_owned (start ++ path_to T n s) s l at has) in
      let path : (start ++ path_to T n s) ++ l ∷ [] ≡ start ++ forwards (way_up (cells_in T) (n + 1) (below (cells_in T) s l)) = append_assoc start (path_to T n s) (l ∷ []) ∙ ap (λ up. start ++ forwards up) (sym way) in
      (subst (λ v. IsAt (cells_in T) v (below (cells_in T) s l)) path (child_is_at (start ++ path_to T n s) s l p at has), way)

  -- one label up
  pub up_of : (start : List ℕ) (n s : ℕ) → IsBelow (cells_in T) start (suc n) s → IsAt (cells_in T) ((start ++ path_to T n (owner_of (cells_in T) s)) ++ below (cells_in T) (owner_of (cells_in T) s) s ∷ []) s
  up_of start n s at = subst (λ v. IsAt (cells_in T) v s) (sym (append_assoc start (path_to T n (owner_of (cells_in T) s)) (below (cells_in T) (owner_of (cells_in T) s) s ∷ []))) at

  pub parent_below : (start : List ℕ) (n s p : ℕ) → IsBelow (cells_in T) start (suc n) s → (cells_in T).check s ≡ pos p → IsBelow (cells_in T) start n p
  parent_below start n s p at o =
      let last = last_of (cells_in T) (start ++ path_to T n (owner_of (cells_in T) s)) (below (cells_in T) (owner_of (cells_in T) s) s) s (up_of start n s at) in
      let owner : owner_of (cells_in T) s ≡ p = ap unsigned_abs o in
      subst (λ x. IsAt (cells_in T) (start ++ path_to T n x) p) owner (subst (IsAt (cells_in T) (start ++ path_to T n (owner_of (cells_in T) s))) (pos_injective last.above p (sym last.check ∙ o)) last.at)

  way_above : (n s p : ℕ) → (cells_in T).check s ≡ pos p → way_up (cells_in T) (suc n) s ≡ below (cells_in T) p s ∷ way_up (cells_in T) n p
  way_above n s p o = let owner : owner_of (cells_in T) s ≡ p = ap unsigned_abs o in ap (λ x. below (cells_in T) x s ∷ way_up (cells_in T) n x) owner

  -- a path is no longer than there are slots
  pub short_way : (start : List ℕ) (n s : ℕ) → IsBelow (cells_in T) start n s → n ≤ size_of T
  short_way start n s at =
      let short = path_short (size_of T) (cells_in T) k.stands.root (in_use T) (follow_on (start ++ path_to T n s) []) at.0 in
      omega (arith, short, follow_length (start ++ path_to T n s) [], length-append start (path_to T n s), path_length T n s)

-- ---- what a walk comes to

no_first : (f : Forest) → IsSoundBelow f → first_sibling_label f ≡ 0 → f ≡ none
no_first none sound z = refl
no_first (child l n u rest) sound z = absurd (omega (arith, z, sound.0))

-- the first child is a child
pub first_there : (f : Forest) {l : ℕ} → l ≡ first_sibling_label f → (l ≡ 0 → ⊥) → has_label f l ≡ true
first_there none e some = absurd (some e)
first_there (child m n u rest) {l} e some = subst (λ x. has_label (child m n u rest) x ≡ true) (sym e) (has_here (child m n u rest) m n u rest refl)

whole_front : (T : Fields) (n s d : ℕ) → d ≡ n + 1 → take (d - 1) (path_to T n s) ≡ path_to T n s
whole_front T n s d e = let len = path_length T n s in take_all (d - 1) (path_to T n s) (omega (arith, len, e))

module _ (slots : ℕ) (T : Fields) (k : IsWellFormed slots T) (start : List ℕ) where
  -- a child is next
  pub comes_down : (n s l : ℕ) (next : Visited) → IsBelow (cells_in T) start n s → l ≡ first_sibling_label (node_at (tree_of T) (start ++ path_to T n s)).children → (l ≡ 0 → ⊥)
      → next.slot ≡ below (cells_in T) s l → next.depth ≡ n + 1 → next.label ≡ l → next.number ≡ (subtree (node_at (tree_of T) (start ++ path_to T n s)).children l).number
      → ComesTo T start (left_at T start n s) (path_to T n s) next
  comes_down n s l next at first some slot depth label number = by_forest (node_at (tree_of T) (start ++ path_to T n s)).children refl
    where
      by_forest : (f : Forest) → (node_at (tree_of T) (start ++ path_to T n s)).children ≡ f → ComesTo T start (left_at T start n s) (path_to T n s) next
      by_forest none e = absurd (some (first ∙ ap first_sibling_label e))
      by_forest (child m v u rest) e =
          let same : l ≡ m = first ∙ ap first_sibling_label e in
          let has : has_label (node_at (tree_of T) (start ++ path_to T n s)).children l ≡ true = subst (λ x. has_label (node_at (tree_of T) (start ++ path_to T n s)).children x ≡ true) (sym same) (has_here (node_at (tree_of T) (start ++ path_to T n s)).children m v u rest e) in
          let there = child_below slots T k start n s l (positive l some) at has in
          let mine : next.number ≡ v = number ∙ ap (λ x. (subtree (node_at (tree_of T) (start ++ path_to T n s)).children x).number) same ∙ ap (λ (f : Forest). (subtree f m).number) e ∙ ap (λ (t : Tree). t.number) (subtree_here m v u rest) in
          let way : way_up (cells_in T) next.depth next.slot ≡ m ∷ way_up (cells_in T) n s = ap (λ d. way_up (cells_in T) d next.slot) depth ∙ ap (way_up (cells_in T) (n + 1)) slot ∙ there.1 ∙ ap (λ x. x ∷ way_up (cells_in T) n s) same in
          record {
            below = subst (λ d. IsBelow (cells_in T) start d next.slot) (sym depth) (subst (IsBelow (cells_in T) start (n + 1)) (sym slot) there.0);
            visits =
                goes_down (node_at (tree_of T) start) (way_up (cells_in T) n s) m v u rest (forest_here slots T k start n s ∙ e)
                ∙ ap (λ (up : List ℕ). (forwards up, v) ∷ visits_left (node_at (tree_of T) start) up) (sym way)
                ∙ ap (λ (o : Option ℤ). (path_to T next.depth next.slot, o) ∷ left_at T start next.depth next.slot) (sym mine);
            way = ap forwards way ∙ ap (λ p. p ++ m ∷ []) (sym (whole_front T n s next.depth depth)) ∙ ap (λ x. take (next.depth - 1) (path_to T n s) ++ x ∷ []) (sym (label ∙ same));
            deep = (omega (arith, depth), omega (arith, depth, path_length T n s));
          }

  pub none_below : (n s l : ℕ) → l ≡ first_sibling_label (node_at (tree_of T) (start ++ path_to T n s)).children → l ≡ 0 → left_at T start n s ≡ left_after T start n s
  none_below n s l first z = goes_past_leaf (node_at (tree_of T) start) (way_up (cells_in T) n s) (forest_here slots T k start n s ∙ no_first (node_at (tree_of T) (start ++ path_to T n s)).children (sound_node_at (tree_of T) (start ++ path_to T n s) k.sound) (sym first ∙ z))

-- the climb of a walk that began n labels below `start` at slot s, and has come to slot s' with n' labels left
pub record Climbed (T : Fields) (start : List ℕ) (n s n' s' : ℕ) : Type 0 where
  pub below : IsBelow (cells_in T) start n' s'
  pub left : left_after T start n s ≡ left_after T start n' s'
  pub path : path_to T n' s' ≡ take n' (path_to T n s)
  pub less : n' ≤ n

pub climbed_none : (T : Fields) (start : List ℕ) (n s : ℕ) → IsBelow (cells_in T) start n s → Climbed T start n s n s
climbed_none T start n s at = record {
  below = at;
  left = refl;
  path = let len = path_length T n s in sym (take_all n (path_to T n s) (omega (arith, len)));
  less = omega arith;
}

sound_behind : (f : Forest) (l : ℕ) → IsSoundBelow f → IsSoundBelow (behind f l)
sound_behind none l s = tt
sound_behind (child m n u rest) l s = elim (eqb_tells m l) [
  | inl e ↦ subst IsSoundBelow (sym (ap (λ b. cond b rest (behind rest l)) e.0)) s.5
  | inr e ↦ subst IsSoundBelow (sym (ap (λ b. cond b rest (behind rest l)) e.0)) (sound_behind rest l s.5)
]

module _ (slots : ℕ) (T : Fields) (k : IsWellFormed slots T) (start : List ℕ) (n s m s' p l : ℕ) (c : Climbed T start n s (suc m) s') (o : (cells_in T).check s' ≡ pos p) (first : l ≡ first_sibling_label (behind (node_at (tree_of T) (start ++ path_to T m p)).children (below (cells_in T) p s'))) where
  front : path_to T m p ≡ take m (path_to T n s)
  front =
      let whole : path_to T m p ++ below (cells_in T) p s' ∷ [] ≡ take (suc m) (path_to T n s) = ap forwards (sym (way_above slots T k m s' p o)) ∙ c.path in
      let len = path_length T m p in
      sym (take_at (path_to T m p) (below (cells_in T) p s' ∷ []) m len) ∙ ap (take m) whole ∙ take-take m (suc m) (path_to T n s) (omega arith)

  here : (node_up (node_at (tree_of T) start) (way_up (cells_in T) m p)).children ≡ (node_at (tree_of T) (start ++ path_to T m p)).children
  here = forest_here slots T k start m p

  left_on : left_after T start n s ≡ visits_after (node_at (tree_of T) start) (below (cells_in T) p s' ∷ way_up (cells_in T) m p)
  left_on = c.left ∙ ap (visits_after (node_at (tree_of T) start)) (way_above slots T k m s' p o)

  -- a node without a later sibling is left upwards
  pub climbed_on : l ≡ 0 → Climbed T start n s m p
  climbed_on z = record {
    below = parent_below slots T k start m s' p c.below o;
    left =
        left_on
        ∙ goes_up (node_at (tree_of T) start) (way_up (cells_in T) m p) (below (cells_in T) p s')
        (ap (λ (f : Forest). behind f (below (cells_in T) p s')) here ∙ no_first (behind (node_at (tree_of T) (start ++ path_to T m p)).children (below (cells_in T) p s')) (sound_behind (node_at (tree_of T) (start ++ path_to T m p)).children (below (cells_in T) p s') (sound_node_at (tree_of T) (start ++ path_to T m p) k.sound)) (sym first ∙ z));
    path = front;
    less = omega (arith, c.less);
  }

  -- a later sibling is a child of the node above
  pub sibling_there : (l ≡ 0 → ⊥) → has_label (node_at (tree_of T) (start ++ path_to T m p)).children l ≡ true
  sibling_there some = by_forest (behind (node_at (tree_of T) (start ++ path_to T m p)).children (below (cells_in T) p s')) refl
    where
      by_forest : (f : Forest) → behind (node_at (tree_of T) (start ++ path_to T m p)).children (below (cells_in T) p s') ≡ f → has_label (node_at (tree_of T) (start ++ path_to T m p)).children l ≡ true
      by_forest none e = absurd (some (first ∙ ap first_sibling_label e))
      by_forest (child j v u rest) e =
          let same : l ≡ j = first ∙ ap first_sibling_label e in
          subst (λ x. has_label (node_at (tree_of T) (start ++ path_to T m p)).children x ≡ true) (sym same) (has_behind (node_at (tree_of T) (start ++ path_to T m p)).children (below (cells_in T) p s') j v u rest e)

  -- and the next node
  pub comes_right : (next : Visited) → (l ≡ 0 → ⊥) → next.slot ≡ below (cells_in T) p l → next.depth ≡ suc m → next.label ≡ l → next.number ≡ (subtree (node_at (tree_of T) (start ++ path_to T m p)).children l).number
      → ComesTo T start (left_after T start n s) (path_to T n s) next
  comes_right next some slot depth label number = by_forest (behind (node_at (tree_of T) (start ++ path_to T m p)).children (below (cells_in T) p s')) refl
    where
      by_forest : (f : Forest) → behind (node_at (tree_of T) (start ++ path_to T m p)).children (below (cells_in T) p s') ≡ f → ComesTo T start (left_after T start n s) (path_to T n s) next
      by_forest none e = absurd (some (first ∙ ap first_sibling_label e))
      by_forest (child j v u rest) e =
          let same : l ≡ j = first ∙ ap first_sibling_label e in
          let above : IsBelow (cells_in T) start m p = parent_below slots T k start m s' p c.below o in
          let there = child_below slots T k start m p l (positive l some) above (sibling_there some) in
          let found = next_behind (node_at (tree_of T) (start ++ path_to T m p)).children (below (cells_in T) p s') j v u rest (sound_node_at (tree_of T) (start ++ path_to T m p) k.sound) e in
          let mine : next.number ≡ v = number ∙ ap (λ x. (subtree (node_at (tree_of T) (start ++ path_to T m p)).children x).number) same ∙ ap (λ (t : Tree). t.number) found.0 in
          let depth_is : next.depth ≡ m + 1 = omega (arith, depth) in
          let way : way_up (cells_in T) next.depth next.slot ≡ j ∷ way_up (cells_in T) m p = ap (λ d. way_up (cells_in T) d next.slot) depth_is ∙ ap (way_up (cells_in T) (m + 1)) slot ∙ there.1 ∙ ap (λ x. x ∷ way_up (cells_in T) m p) same in
          let less : next.depth - 1 ≡ m = omega (arith, depth) in
          record {
            below = subst (λ d. IsBelow (cells_in T) start d next.slot) (sym depth_is) (subst (IsBelow (cells_in T) start (m + 1)) (sym slot) there.0);
            visits =
                left_on
                ∙ goes_right (node_at (tree_of T) start) (way_up (cells_in T) m p) (below (cells_in T) p s') j v u rest (sound_here slots T k start m p) (ap (λ (f : Forest). behind f (below (cells_in T) p s')) here ∙ e)
                ∙ ap (λ (up : List ℕ). (forwards up, v) ∷ visits_left (node_at (tree_of T) start) up) (sym way)
                ∙ ap (λ (x : Option ℤ). (path_to T next.depth next.slot, x) ∷ left_at T start next.depth next.slot) (sym mine);
            way = ap forwards way ∙ ap (λ q. q ++ j ∷ []) (front ∙ ap (λ x. take x (path_to T n s)) (sym less)) ∙ ap (λ x. take (next.depth - 1) (path_to T n s) ++ x ∷ []) (sym (label ∙ same));
            deep = (omega (arith, depth), omega (arith, depth, c.less, path_length T n s));
          }

-- at the end of the climb nothing is left
pub climbed_all : (T : Fields) (start : List ℕ) (n s n' s' : ℕ) → Climbed T start n s n' s' → n' ≡ 0 → left_after T start n s ≡ []
climbed_all T start n s n' s' c z = c.left ∙ ap (λ m. left_after T start m s') z

-- one turn of the climb, as the code makes it
module _ (slots : ℕ) (T : Fields) (k : IsWellFormed slots T) (start : List ℕ) (n s n' s' : ℕ) (c : Climbed T start n s n' s') (some : n' ≡ 0 → ⊥) where
  pub stepped : Climbed T start n s (suc (n' - 1)) s'
  stepped = let e : n' ≡ suc (n' - 1) = omega (arith, positive n' some) in subst (λ x. Climbed T start n s x s') e c

  pub at_last : IsAt (cells_in T) ((start ++ path_to T (n' - 1) (owner_of (cells_in T) s')) ++ below (cells_in T) (owner_of (cells_in T) s') s' ∷ []) s'
  at_last = up_of slots T k start (n' - 1) s' stepped.below

  pub first_is : (p l : ℕ) → (cells_in T).check s' ≡ pos p → ((w : List ℕ) (j : ℕ) → IsAt (cells_in T) (w ++ j ∷ []) s' → l ≡ first_sibling_label (behind (node_at (tree_of T) w).children j))
      → l ≡ first_sibling_label (behind (node_at (tree_of T) (start ++ path_to T (n' - 1) p)).children (below (cells_in T) p s'))
  first_is p l o read =
      let owner : owner_of (cells_in T) s' ≡ p = ap unsigned_abs o in
      subst (λ x. l ≡ first_sibling_label (behind (node_at (tree_of T) (start ++ path_to T (n' - 1) x)).children (below (cells_in T) x s'))) owner (read (start ++ path_to T (n' - 1) (owner_of (cells_in T) s')) (below (cells_in T) (owner_of (cells_in T) s') s') at_last)
