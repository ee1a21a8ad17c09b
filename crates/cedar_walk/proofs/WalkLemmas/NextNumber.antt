-- A walk from one node with a number to the next one.
use Rattle.std.proofs.Common.{◌≡◌, ℕ, ◌+◌, ◌<◌, ◌≤◌, ℤ, List, [], ◌∷◌, ◌++◌, length, Option, Some, None, append_assoc, sym, ◌∙◌, ap, refl, subst, arith, true, false}
use Rattle.std.specs.Prelude.{pos, bit_xor, is_none, ◌&&◌}
use lib.Bits.{xor_zero_r}
use Rattle.std.proofs.lemmas.Bool.{true≢false}
use Rattle.std.proofs.lemmas.List.{append-nil, length-append}
use Rattle.cedar_model.specs.Tree.{Forest, none, child, Tree, has_label, is_bare, is_leafless, subtree}
use Rattle.cedar_model.specs.Queries.{node_at, walk}
use Rattle.cedar_model.specs.Walks.{visited_entries, forwards}
use Rattle.cedar_model.proofs.CutLemmas.{node_at-end}
use Rattle.cedar_model.proofs.OrderLemmas.{sound_node_at}
use Rattle.cedar_model.proofs.TreeLemmas.{bare-subtree}
use Rattle.cedar_model.proofs.VisitLemmas.{walk_visits}
use Rattle.cedar_walk.specs.declared.visits.Numbered.{Numbered}
use Rattle.cedar_walk.specs.declared.visits.Place.{Place}
use Rattle.cedar_model.specs.declared.layout.Stored.TheVariants.{AtBase, OwnNumber}
use Rattle.cedar_model.specs.Table.Cells.{Cells}
use Rattle.cedar_model.specs.Meaning.Family.{Among, base_in, below, Family, Head, InRange, Links, number_of, own, plain, top, valued}
use Rattle.cedar_model.specs.Meaning.StandsFor.{labels, Stands}
use Rattle.cedar_model.specs.Edit.NodeEdits.{follow_on, IsAt}
use Rattle.cedar_model.specs.Table.TableFields.{Fields, size_of}
use Rattle.cedar_model.specs.Meaning.WellFormed.{cells_in, IsWellFormed, tree_of}
use Rattle.cedar_model.proofs.MeaningLemmas.KeyPath.{tree_root}
use Rattle.cedar_model.proofs.MeaningLemmas.OneNode.{owned_label}
use Rattle.cedar_model.proofs.MeaningLemmas.Paths.{one_path}
use Rattle.cedar_model.proofs.MeaningLemmas.SearchStep.{has_among, number_named}
use Rattle.cedar_model.proofs.UpdateLemmas.MarksAfterUpdate.{follow_one}
use Rattle.cedar_walk.specs.Visits.{ComesTo, ComesToNumber, entries_at, first_sibling_label, IsBelow, left_at, number_below, path_to, visited_at}
use Rattle.cedar_walk.proofs.WalkLemmas.NextNode.{child_owned, comes_down, first_there, last_of, links_first, named_first, node_stands, path_length, way_one_more}
use Rattle.cedar_model.proofs.UpdateLemmas.TrimUpwards.{root_path}

-- ---- what is read of a node that has a number

no_labels : (f : Forest) → labels f ≡ [] → 0 ≡ first_sibling_label f
no_labels none e = refl
no_labels (child l n u rest) e = cc

module _ (size : ℕ) (T : Cells) (s : ℕ) (t : Tree) (k : Stands size T s t) (v : ℤ) (has : t.number ≡ Some v) where
  -- the number's slot belongs to it
  pub owner_held : (b : ℕ) → T.stored s ≡ AtBase b → T.check b ≡ pos s
  owner_held b e = by_head k.head (labels t.children) k.family (k.number ∙ has)
    where
      at : below T s 0 ≡ b
      at = ap (λ z. bit_xor (base_in z) 0) e ∙ xor_zero_r b

      by_head : (h : Head) (ls : List ℕ) → Family size T s h ls → number_of h ≡ Some v → T.check b ≡ pos s
      by_head plain ls f n = cc
      by_head (valued u) ls f n = ap T.check (sym at) ∙ f.begins.1
      by_head (own u) ls f n = let z : AtBase b ≡ OwnNumber u = sym e ∙ f.based in cc
      by_head top ls f n = cc

  -- and the sibling of that slot is its first child
  pub first_held : (b : ℕ) → T.stored s ≡ AtBase b → T.sibling b ≡ first_sibling_label t.children
  first_held b e = by_head k.head t.children k.family (k.number ∙ has)
    where
      at : below T s 0 ≡ b
      at = ap (λ z. bit_xor (base_in z) 0) e ∙ xor_zero_r b

      by_head : (h : Head) (f : Forest) → Family size T s h (labels f) → number_of h ≡ Some v → T.sibling b ≡ first_sibling_label f
      by_head plain f y n = cc
      by_head (valued u) f y n = ap T.sibling (sym at) ∙ links_first T s (T.sibling (below T s 0)) f y.begins.4
      by_head (own u) f y n = let z : AtBase b ≡ OwnNumber u = sym e ∙ y.based in cc
      by_head top f y n = cc

  -- where the number is kept in the node's own field there is none
  pub none_held : (u : ℤ) → T.stored s ≡ OwnNumber u → 0 ≡ first_sibling_label t.children
  none_held u e = by_head k.head t.children k.family (k.number ∙ has)
    where
      low : InRange size (T.stored s) → ⊥
      low r = let z : 256 ≤ base_in (OwnNumber u) = subst (λ x. 256 ≤ base_in x) e r.0 in omega arith

      by_head : (h : Head) (f : Forest) → Family size T s h (labels f) → number_of h ≡ Some v → 0 ≡ first_sibling_label f
      by_head plain f y n = cc
      by_head (valued x) f y n = absurd (low y.based)
      by_head (own x) f y n = no_labels f y.begins.1
      by_head top f y n = cc

-- the nodes of two paths to one slot have one number
pub one_number : (slots : ℕ) (T : Fields) → IsWellFormed slots T → (w v : List ℕ) (s : ℕ) (n : ℤ) → IsAt (cells_in T) w s → IsAt (cells_in T) v s → (node_at (tree_of T) w).number ≡ Some n → (node_at (tree_of T) v).number ≡ Some n
one_number slots T k w v s n at other has =
    let same : w ≡ v = follow_one w v (one_path (cells_in T) k.stands.root (follow_on w []) (follow_on v []) at.0 other.0 (at.1 ∙ sym other.1)) in
    subst (λ x. (node_at (tree_of T) x).number ≡ Some n) same has

-- ---- a node but the root has a number or a label

pub last_label : (j : ℕ) (v : List ℕ) → (w : List ℕ) × (l : ℕ) × (j ∷ v ≡ w ++ l ∷ [])
last_label j [] = ([], j, refl)
last_label j (m ∷ v) = let e = last_label m v in (j ∷ e.0, e.1, ap (λ x. j ∷ x) e.2)

no_chain : (T : Cells) (s c : ℕ) (f : Forest) → Links T s c (labels f) → c ≡ 0 → f ≡ none
no_chain T s c none h z = refl
no_chain T s c (child l n u rest) h z = absurd (omega (arith, h.0, h.1, z))

module _ (slots : ℕ) (T : Fields) (k : IsWellFormed slots T) where
  not_bare : (w : List ℕ) (s : ℕ) → IsAt (cells_in T) w s → (s ≡ 0 → ⊥) → is_bare (node_at (tree_of T) w) ≡ false
  not_bare [] s at some = absurd (some (sym at.1))
  not_bare (j ∷ v) s at some = let e = last_label j v in ap (λ w. is_bare (node_at (tree_of T) w)) e.2 ∙ by_end e.0 e.1 (subst (λ w. IsAt (cells_in T) w s) e.2 at)
    where
      by_end : (w : List ℕ) (l : ℕ) → IsAt (cells_in T) (w ++ l ∷ []) s → is_bare (node_at (tree_of T) (w ++ l ∷ [])) ≡ false
      by_end w l there =
          let last = last_of (cells_in T) w l s there in
          let st = node_stands slots T k w last.above last.at in
          let f : Forest = (node_at (tree_of T) w).children in
          let among : Among (labels f) l = owned_label (size_of T) (cells_in T) last.above l st.head (labels f) st.family last.label (ap (cells_in T).check last.is ∙ last.check) in
          ap is_bare (node_at-end (tree_of T) w l) ∙ bare-subtree f l (sound_node_at (tree_of T) w k.sound) (has_among f l among)

  -- so one that names no label has a number
  pub leaf_number : (w : List ℕ) (s : ℕ) → IsAt (cells_in T) w s → (s ≡ 0 → ⊥) → (cells_in T).child s ≡ 0 → (v : ℤ) × ((node_at (tree_of T) w).number ≡ Some v)
  leaf_number w s at some z = let st = node_stands slots T k w s at in by_head st.head (node_at (tree_of T) w) st.family st.number (not_bare w s at some)
    where
      by_head : (h : Head) (t : Tree) → Family (size_of T) (cells_in T) s h (labels t.children) → number_of h ≡ t.number → is_bare t ≡ false → (v : ℤ) × (t.number ≡ Some v)
      by_head plain t f e b =
          let leaf : t.children ≡ none = no_chain (cells_in T) s ((cells_in T).child s) t.children f.begins z in
          absurd (true≢false (sym (ap (λ (o : Option ℤ). is_none o && is_leafless t.children) (sym e) ∙ ap is_leafless leaf) ∙ b))
      by_head (valued v) t f e b = (v, sym e)
      by_head (own v) t f e b = (v, sym e)
      by_head top t f e b = absurd (some f.begins.0)

-- ---- a walk below the path `start`

module _ (slots : ℕ) (T : Fields) (k : IsWellFormed slots T) (start : List ℕ) where
  -- the number of a child
  pub number_there : (n s l slot depth : ℕ) → IsBelow (cells_in T) start n s → has_label (node_at (tree_of T) (start ++ path_to T n s)).children l ≡ true → slot ≡ below (cells_in T) s l → depth ≡ n + 1
      → number_below T start depth slot ≡ (subtree (node_at (tree_of T) (start ++ path_to T n s)).children l).number
  number_there n s l slot depth at has is deep =
      ap (λ d. number_below T start d slot) deep
      ∙ ap (number_below T start (n + 1)) is
      ∙ ap (λ up. (node_at (tree_of T) (start ++ forwards up)).number) (way_one_more (cells_in T) n s l (child_owned slots T k (start ++ path_to T n s) s l at has))
      ∙ ap (λ w. (node_at (tree_of T) w).number) (sym (append_assoc start (path_to T n s) (l ∷ [])))
      ∙ ap (λ (t : Tree). t.number) (node_at-end (tree_of T) (start ++ path_to T n s) l)

  -- what lies below another node is not the root
  pub deep_not_root : (n s : ℕ) → IsBelow (cells_in T) start n s → 0 < n → s ≡ 0 → ⊥
  deep_not_root n s at deep e =
      let whole = root_path (cells_in T) (start ++ path_to T n s) 0 k.stands.root (subst (IsAt (cells_in T) (start ++ path_to T n s)) e at) refl in
      let len : length (start ++ path_to T n s) ≡ 0 = ap length whole in
      omega (arith, len, deep, length-append start (path_to T n s), path_length T n s)

  -- the first child of a node
  pub comes_first : (n s l : ℕ) (place : Place) → IsBelow (cells_in T) start n s → l ≡ first_sibling_label (node_at (tree_of T) (start ++ path_to T n s)).children → (l ≡ 0 → ⊥)
      → place.slot ≡ below (cells_in T) s l → place.depth ≡ n + 1 → place.label ≡ l → ComesTo T start (left_at T start n s) (path_to T n s) (visited_at T start place)
  comes_first n s l place at first some slot depth label =
      comes_down slots T k start n s l (visited_at T start place) at first some slot depth label
      (number_there n s l place.slot place.depth at (first_there (node_at (tree_of T) (start ++ path_to T n s)).children first some) slot depth)

-- the way down of a walk that has come to slot s, n labels below `start`, and goes on at slot s', n' labels below: no node passed has a number
pub record Descended (T : Fields) (start : List ℕ) (n s n' s' : ℕ) : Type 0 where
  pub below : IsBelow (cells_in T) start n' s'
  pub not_root : s' ≡ 0 → ⊥
  pub entries : entries_at T start n s ≡ entries_at T start n' s'

pub descended_on : (slots : ℕ) (T : Fields) → IsWellFormed slots T → (start : List ℕ) (n s n' s' l : ℕ) → Descended T start n s n' s' → l ≡ (cells_in T).child s' → (l ≡ 0 → ⊥) → Descended T start n s (n' + 1) (below (cells_in T) s' l)
descended_on slots T k start n s n' s' l d is some =
    let named : (cells_in T).child s' ≡ 0 → ⊥ = λ z. some (is ∙ z) in
    let place : Place = record { slot = below (cells_in T) s' l; depth = n' + 1; label = l } in
    let comes = comes_first slots T k start n' s' l place d.below (is ∙ named_first slots T k (start ++ path_to T n' s') s' d.below named) some refl refl refl in
    let number : number_below T start n' s' ≡ None = number_named (size_of T) (cells_in T) s' (node_at (tree_of T) (start ++ path_to T n' s')) (node_stands slots T k (start ++ path_to T n' s') s' d.below) named in
    record {
      below = comes.below;
      not_root = deep_not_root slots T k start (n' + 1) (below (cells_in T) s' l) comes.below (omega arith);
      entries = d.entries ∙ ap (λ (o : Option ℤ). visited_entries ((path_to T n' s', o) ∷ left_at T start n' s')) number ∙ ap visited_entries comes.visits;
    }

-- at its end is the first entry
pub descended_to : (T : Fields) (start : List ℕ) (n s : ℕ) (next : Numbered) → Descended T start n s next.depth next.slot → number_below T start next.depth next.slot ≡ Some next.number → ComesToNumber T start (entries_at T start n s) next
descended_to T start n s next d has = record {
  below = d.below;
  number = has;
  entries = d.entries ∙ ap (λ (o : Option ℤ). visited_entries ((path_to T next.depth next.slot, o) ∷ left_at T start next.depth next.slot)) has;
}

-- ---- where it begins

pub walk_at : (T : Fields) (query : List ℕ) (s : ℕ) → walk (node_at (tree_of T) query) ≡ entries_at T query 0 s
walk_at T query s =
    walk_visits (node_at (tree_of T) query)
    ∙ ap (λ w. visited_entries (([], (node_at (tree_of T) w).number) ∷ left_at T query 0 s)) (sym (append-nil query))

-- the root has no number
pub root_walk : (slots : ℕ) (T : Fields) → IsWellFormed slots T → (query : List ℕ) (s : ℕ) → IsAt (cells_in T) query s → s ≡ 0 → walk (node_at (tree_of T) query) ≡ visited_entries (left_at T query 0 s)
root_walk slots T k query s at z =
    let whole = root_path (cells_in T) query 0 k.stands.root (subst (IsAt (cells_in T) query) z at) refl in
    let number : (node_at (tree_of T) query).number ≡ None = ap (λ w. (node_at (tree_of T) w).number) whole ∙ ap (λ (t : Tree). t.number) (tree_root slots T k) in
    walk_visits (node_at (tree_of T) query) ∙ ap (λ (o : Option ℤ). visited_entries (([], o) ∷ left_at T query 0 s)) number
