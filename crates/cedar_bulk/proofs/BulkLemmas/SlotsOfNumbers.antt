-- The numbers of a table made of sorted pairs that have slots of their own.
use Rattle.std.proofs.Common.{◌≡◌, ℕ, suc, ◌+◌, ◌∙◌, cond, sym, ap, subst, refl, inl, inr, arith, Bool, true, false, drop, drop-cons, get_or, Option, Some, None, List, [], ◌∷◌, ◌++◌, length, length-append, take}
use Rattle.std.specs.Prelude.{ℤ, is_some, pos}
use Rattle.std.proofs.lemmas.List.{append_assoc, take-append-drop}
use Rattle.std.proofs.Math.Seq.{take-append_seam}
use Rattle.cedar_model.specs.Tree.{child, Forest, has_label, is_bare, none, number_at, Tree}
use Rattle.cedar_model.specs.Queries.{node_at}
use Rattle.cedar_model.proofs.CutLemmas.{node_at-end}
use Rattle.cedar_model.proofs.OrderLemmas.{sound_node_at}
use Rattle.cedar_model.proofs.EntryLemmas.Prefixes.{front_of_node}
use Rattle.cedar_model.proofs.TreeLemmas.{bare-subtree}
use Rattle.cedar_model.proofs.VisitLemmas.{has_here}
use Rattle.cedar_slots.specs.Slots.{base_at}
use Rattle.cedar_model.specs.declared.layout.Stored.TheVariants.{OwnNumber}
use Rattle.cedar_model.specs.Table.Cells.{Cells}
use Rattle.cedar_model.specs.Table.Layouts.{default_layout, reduced_layout}
use Rattle.cedar_model.specs.Table.TableFields.{Fields, size_of}
use Rattle.cedar_model.specs.Edit.NodeEdits.{IsAt}
use Rattle.cedar_model.specs.Edit.Steps.{root_of}
use Rattle.cedar_model.specs.Meaning.Family.{Among, below, top}
use Rattle.cedar_model.specs.Meaning.Marks.{HasMark, marks_below, MarkedAt, marks}
use Rattle.cedar_model.specs.Meaning.Reading.{has_number_slot, number_in, own_number}
use Rattle.cedar_model.specs.Meaning.StandsFor.{ChildrenStand, labels}
use Rattle.cedar_model.specs.Meaning.WellFormed.{cells_in, IsWellFormed, tree_of}
use Rattle.cedar_model.specs.Relocation.Renaming.{OwnsNothing}
use Rattle.cedar_bulk.specs.SortedMarks.{IsInnerKey, KeepsLast, SortedMarks}
use Rattle.cedar_model.proofs.EditLemmas.NumberMovesOut.{leaf_alone, own_base}
use Rattle.cedar_model.proofs.MeaningLemmas.HeldCount.{default_own}
use Rattle.cedar_model.proofs.MeaningLemmas.KeyPath.{tree_root}
use Rattle.cedar_model.proofs.MeaningLemmas.NodeAtPath.{at_owner}
use Rattle.cedar_model.proofs.MeaningLemmas.NumberSlots.{marked_slot}
use Rattle.cedar_model.proofs.MeaningLemmas.OneNode.{labels_own, node_labels_own}
use Rattle.cedar_model.proofs.MeaningLemmas.OneTree.{node_reads}
use Rattle.cedar_model.proofs.UpdateLemmas.FreeWay.{at_same, own_no_root}
use Rattle.cedar_model.proofs.UpdateLemmas.MarkedTree.{marked_held, marks_read}
use Rattle.cedar_model.proofs.UpdateLemmas.MarksAfterPut.{marked_own}
use Rattle.cedar_model.proofs.UpdateLemmas.MarksAfterUpdate.{held_marked}
use Rattle.cedar_model.proofs.UpdateLemmas.OnTheWay.{held_on_way}

-- ---- in the reduced layout

module _ (slots : ℕ) (T : Fields) (well : IsWellFormed slots T) where
  -- a node whose own base field is its number owns no slot
  owns_none : (w : List ℕ) (s : ℕ) (v : ℤ) → IsAt (cells_in T) w s → (cells_in T).stored s ≡ OwnNumber v → OwnsNothing (cells_in T) s
  owns_none w s v at own = leaf_alone (size_of T) (cells_in T) (tree_of T).children w s well.stands at (own_no_root slots T s v well own) (own_base (cells_in T) s v own)

  -- so the number of a key that begins a longer one has a slot
  inner_marked : (w : List ℕ) → IsInnerKey (tree_of T) w → HasMark (marks T) w
  inner_marked w (held, key, (n, less, is), longer) = by_mark found.0 found.1
    where
      found : (m : Bool) × MarkedAt (cells_in T) w m
      found = held_marked slots T well w held

      l : ℕ
      l = get_or key n 0

      split : key ≡ w ++ l ∷ drop (n + 1) key
      split =
          let next : suc n ≡ n + 1 = omega arith in
          sym (take-append-drop n key) ∙ ap (λ r. take n key ++ r) (drop-cons key n 0 less ∙ ap (λ m. get_or key n 0 ∷ drop m key) next) ∙ ap (λ p. p ++ l ∷ drop (n + 1) key) (sym is)

      goes : has_label (node_at (root_of (tree_of T).children) w).children l ≡ true
      goes = subst (λ (t : Tree). has_label (node_at t w).children l ≡ true) (tree_root slots T well) (held_on_way (tree_of T) w l (drop (n + 1) key) (subst (λ k. is_some (number_at (tree_of T) k) ≡ true) split longer))

      by_mark : (m : Bool) → MarkedAt (cells_in T) w m → HasMark (marks T) w
      by_mark true k = (marks_read slots T well w).1 k
      by_mark false k =
          let own = marked_own (cells_in T) k.0 k.2 in
          absurd (owns_none w k.0 own.0 k.1 own.1 _ (at_owner (size_of T) (cells_in T) (tree_of T).children w k.0 well.stands k.1 l goes))

  -- and that of another one has none
  marked_inner : KeepsLast (cells_in T) (tree_of T).children → (w : List ℕ) → HasMark (marks T) w → IsInnerKey (tree_of T) w
  marked_inner kept w h = by_children (node_at (tree_of T) w).children refl
    where
      held : is_some (number_at (tree_of T) w) ≡ true
      held = marked_held slots T well w h

      by_children : (c : Forest) → (node_at (tree_of T) w).children ≡ c → IsInnerKey (tree_of T) w
      by_children none e =
          let root = tree_root slots T well in
          let k = kept w (ap (λ (t : Tree). is_some (number_at t w)) (sym root) ∙ held) (ap (λ (t : Tree). (node_at t w).children) (sym root) ∙ e) in
          let there = (marks_read slots T well w).0 h in
          let same : there.0 ≡ k.0 = at_same (cells_in T) w there.0 k.0 there.1 k.2 in
          absurd (owns_none w k.0 k.1 k.2 k.3 _ (subst (λ s. (cells_in T).check (below (cells_in T) s 0) ≡ pos s) same (marked_slot (cells_in T) there.0 there.2)))
      by_children (child l n u rest) e =
          let has = has_here (node_at (tree_of T) w).children l n u rest e in
          let bare : is_bare (node_at (tree_of T) (w ++ l ∷ [])) ≡ false = ap is_bare (node_at-end (tree_of T) w l) ∙ bare-subtree (node_at (tree_of T) w).children l (sound_node_at (tree_of T) w well.sound) has in
          let more : length (w ++ l ∷ []) ≡ length w + 1 = length-append w (l ∷ []) in
          let front = front_of_node (tree_of T) (w ++ l ∷ []) well.sound (omega (arith, more)) bare in
          let rest' : List ℕ = front.1 in
          let whole : (w ++ l ∷ []) ++ rest' ≡ w ++ (l ∷ rest') = append_assoc w (l ∷ []) rest' in
          let long : length (w ++ (l ∷ rest')) ≡ length w + suc (length rest') = length-append w (l ∷ rest') in (
            held,
            w ++ (l ∷ rest'),
            (length w, omega (arith, long), sym (take-append_seam w (l ∷ rest'))),
            ap (λ k. is_some (number_at (tree_of T) k)) (sym whole) ∙ ap is_some front.3,
          )

-- ---- by default

same_children : (l : ℕ) (n m : Option ℤ) (u v f g : Forest) → n ≡ m → u ≡ v → f ≡ g → child l n u f ≡ child l m v g
same_children l n m u v f g a b c = cc

number_kept : (T : Cells) (s : ℕ) (n : Option ℤ) → own_number (T.stored s) ≡ None → number_in T s ≡ n → cond (has_number_slot T s) n None ≡ n
number_kept T s n no_own reads = by_test (has_number_slot T s) refl
  where
    by_test : (b : Bool) → has_number_slot T s ≡ b → cond (has_number_slot T s) n None ≡ n
    by_test true e = ap (λ b. cond b n None) e
    by_test false e =
        let nothing : n ≡ None = sym reads ∙ ap (λ b. cond b (Some (T.base (below T s 0))) (own_number (T.stored s))) e ∙ no_own in
        ap (λ b. cond b n None) e ∙ sym nothing

all_kept : (size : ℕ) (T : Cells) → ((c : ℕ) → T.check 0 ≡ pos c → ⊥) → ((s : ℕ) → own_number (T.stored s) ≡ None) → (s : ℕ) (f : Forest) → ((l : ℕ) → Among (labels f) l → T.check (below T s l) ≡ pos s) → ChildrenStand size T s f → marks_below T s f ≡ f
all_kept size T root own s none mine g = refl
all_kept size T root own s (child l n u rest) mine g =
    let b : ℕ = below T s l in
    let not_zero : b ≡ 0 → ⊥ = λ z. root s (ap T.check (sym z) ∙ mine l (inl refl)) in
    same_children l (cond (has_number_slot T b) n None) n (marks_below T b u) u (marks_below T s rest) rest
    (number_kept T b n (own b) (node_reads size T b n (labels u) not_zero g.0).number)
    (all_kept size T root own b u (node_labels_own size T b n (labels u) g.0) g.1)
    (all_kept size T root own s rest (λ y a. mine y (inr a)) g.2)

-- each number has a slot
pub all_marked : (slots : ℕ) (T : Fields) → IsWellFormed slots T → T.layout ≡ default_layout → marks T ≡ tree_of T
all_marked slots T well layout =
    let f : Forest = (tree_of T).children in
    let c : Cells = cells_in T in
    ap root_of (all_kept (size_of T) c well.stands.root (λ s. default_own T.layout (base_at T.places.slots.nodes s) layout) 0 f (labels_own c 0 top (labels f) well.stands.stands.0.begins) well.stands.stands.1)
    ∙ sym (tree_root slots T well)

-- ---- both

pub sorted_marks : (slots : ℕ) (T : Fields) → IsWellFormed slots T → (T.layout ≡ reduced_layout → KeepsLast (cells_in T) (tree_of T).children) → SortedMarks T.layout (tree_of T) (marks T)
sorted_marks slots T well kept = record {
  inner = λ reduced w. (marked_inner slots T well (kept reduced) w, inner_marked slots T well w);
  by_default = all_marked slots T well;
}
