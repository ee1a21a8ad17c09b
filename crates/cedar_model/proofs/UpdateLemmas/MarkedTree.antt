-- The tree of the numbers that have slots of their own, and what an update does to it.
use Rattle.std.proofs.Common.{◌≡◌, ◌⊎◌, ℕ, ◌<◌, List, [], ◌∷◌, length, take, sym, ◌∙◌, ap, refl, subst, inl, inr, arith, Bool, true, false, cond, Option, None}
use Rattle.std.specs.Prelude.{◌↔◌, ltb, ℤ, is_some, pos}
use Rattle.std.proofs.lemmas.Bool.{false≢true, lt-ltb, ltb-true}
use Rattle.std.proofs.lemmas.Bool.Decides.{eqb_tells}
use Rattle.std.proofs.lemmas.List.{length-take-le}
use Rattle.cedar_tree.specs.Tree.{Forest, none, child, cut, is_bare, number_at, put, subtree, Tree}
use Rattle.cedar_tree.specs.Queries.{IsFront, is_path, node_at}
use Rattle.cedar_tree.proofs.EntryLemmas.Built.{is_path_itself, same_path}
use Rattle.cedar_tree.proofs.EntryLemmas.Prefixes.{front_of_node, node_of_held}
use Rattle.cedar_tree.proofs.TreeLemmas.{number_at-cut_other, number_at-cut_same, number_at-put_other}
use Rattle.cedar_model.specs.Table.Cells.{Cells}
use Rattle.cedar_model.specs.Edit.NodeEdits.{follow_on, IsAt}
use Rattle.cedar_model.specs.Meaning.Family.{below}
use Rattle.cedar_model.specs.Table.Layouts.{reduced_layout}
use Rattle.cedar_model.specs.Meaning.Marks.{HasMark, IsProperFront, KeepsOtherMarks, marks_below, MarkedAt, marks, MarksCut, MarksPut, PutsMarks}
use Rattle.cedar_model.specs.Meaning.StandsFor.{slot_at}
use Rattle.cedar_model.specs.Meaning.Reading.{has_number_slot}
use Rattle.cedar_model.specs.Edit.Steps.{root_of}
use Rattle.cedar_model.specs.Table.TableFields.{Fields}
use Rattle.cedar_model.specs.Meaning.WellFormed.{cells_in, IsWellFormed, tree_of}
use Rattle.cedar_model.proofs.MeaningLemmas.KeyPath.{tree_root}
use Rattle.cedar_model.proofs.MeaningLemmas.NumberSlots.{marked_slot}
use Rattle.cedar_model.proofs.UpdateLemmas.MarksAfterUpdate.{follow_one, held_marked}
use Rattle.cedar_model.proofs.MeaningLemmas.Paths.{one_path}
use Rattle.cedar_model.proofs.MeaningLemmas.SameMarks.{slot_of_mark}
use Rattle.cedar_model.proofs.MeaningLemmas.OneTree.{owns_yes}
use Rattle.cedar_model.proofs.UpdateLemmas.FreeWay.{at_same, slot_held}

-- ---- what the tree of marks says

-- a node of it at slot s, for the node t there
abbrev marked_tree : Cells → ℕ → Tree → Tree
marked_tree T s t = record { number = cond (has_number_slot T s) t.number None; children = marks_below T s t.children }

marked_subtree : (T : Cells) (s : ℕ) (f : Forest) (l : ℕ) → subtree (marks_below T s f) l ≡ marked_tree T (below T s l) (subtree f l)
marked_subtree T s none l = by_slot (has_number_slot T (below T s l))
  where
    by_slot : (b : Bool) → ◌≡◌ {A = Tree} (record { number = None; children = none }) (record { number = cond b None None; children = none })
    by_slot true = refl
    by_slot false = refl
marked_subtree T s (child m n u rest) l =
    let x : Tree = record { number = cond (has_number_slot T (below T s m)) n None; children = marks_below T (below T s m) u } in
    let y : Tree = record { number = n; children = u } in
    elim (eqb_tells m l) [
      | inl e ↦
          ap (λ b. cond b x (subtree (marks_below T s rest) l)) e.0 ∙ ap (λ k. marked_tree T (below T s k) y) e.1
          ∙ ap (λ b. marked_tree T (below T s l) (cond b y (subtree rest l))) (sym e.0)
      | inr e ↦
          ap (λ b. cond b x (subtree (marks_below T s rest) l)) e.0 ∙ marked_subtree T s rest l
          ∙ ap (λ b. marked_tree T (below T s l) (cond b y (subtree rest l))) (sym e.0)
    ]

number_marked : (T : Cells) (w q : List ℕ) (t : Tree) → number_at (marked_tree T (slot_at T q) t) w ≡ cond (has_number_slot T (slot_at T (follow_on w q))) (number_at t w) None
number_marked T [] q t = refl
number_marked T (l ∷ w) q t = ap (λ (u : Tree). number_at u w) (marked_subtree T (slot_at T q) t.children l) ∙ number_marked T w (l ∷ q) (subtree t.children l)

root_marked : (b : Bool) (f : Forest) → ◌≡◌ {A = Tree} (record { number = cond b None None; children = f }) (record { number = None; children = f })
root_marked true f = refl
root_marked false f = refl

module _ (slots : ℕ) (T : Fields) (well : IsWellFormed slots T) where
  abbrev at_end : List ℕ → ℕ
  at_end w = slot_at (cells_in T) (follow_on w [])

  marks_at : (w : List ℕ) → number_at (marks T) w ≡ cond (has_number_slot (cells_in T) (at_end w)) (number_at (tree_of T) w) None
  marks_at w =
      ap (λ (t : Tree). number_at t w) (sym (root_marked (has_number_slot (cells_in T) 0) (marks_below (cells_in T) 0 (tree_of T).children)))
      ∙ number_marked (cells_in T) w [] (root_of (tree_of T).children)
      ∙ ap (λ (t : Tree). cond (has_number_slot (cells_in T) (at_end w)) (number_at t w) None) (sym (tree_root slots T well))

  -- a key with a mark is held, and its number has a slot
  mark_parts : (w : List ℕ) → HasMark (marks T) w → (has_number_slot (cells_in T) (at_end w) ≡ true) × (is_some (number_at (tree_of T) w) ≡ true)
  mark_parts w h = by_test (has_number_slot (cells_in T) (at_end w)) (number_at (tree_of T) w) (ap is_some (sym (marks_at w)) ∙ h)
    where
      by_test : (b : Bool) (n : Option ℤ) → is_some (cond b n None) ≡ true → (b ≡ true) × (is_some n ≡ true)
      by_test true n e = (refl, e)
      by_test false n e = absurd (false≢true e)

  pub marked_held : (w : List ℕ) → HasMark (marks T) w → is_some (number_at (tree_of T) w) ≡ true
  marked_held w h = (mark_parts w h).1

  -- the tree of marks has the numbers that have slots of their own
  pub marks_read : (w : List ℕ) → HasMark (marks T) w ↔ MarkedAt (cells_in T) w true
  marks_read w = (to, from)
    where
      to : HasMark (marks T) w → MarkedAt (cells_in T) w true
      to h =
          let parts = mark_parts w h in
          let found = held_marked slots T well w parts.1 in
          let same : found.0 ≡ true = sym (slot_of_mark (cells_in T) found.1.0 found.0 found.1.2) ∙ ap (has_number_slot (cells_in T)) (sym found.1.1.1) ∙ parts.0 in
          subst (MarkedAt (cells_in T) w) same found.1

      from : MarkedAt (cells_in T) w true → HasMark (marks T) w
      from k =
          let mine = marked_slot (cells_in T) k.0 k.2 in
          let has : has_number_slot (cells_in T) (at_end w) ≡ true = ap (has_number_slot (cells_in T)) k.1.1 ∙ owns_yes (cells_in T) k.0 mine in
          ap is_some (marks_at w ∙ ap (λ b. cond b (number_at (tree_of T) w) None) has) ∙ slot_held slots T well w k.0 k.1 mine

-- ---- which paths are fronts

path_or_not : (p q : List ℕ) → (p ≡ q) ⊎ (p ≡ q → ⊥)
path_or_not p q = by_test (is_path p q) refl
  where
    by_test : (b : Bool) → is_path p q ≡ b → (p ≡ q) ⊎ (p ≡ q → ⊥)
    by_test true e = inl (same_path p q e)
    by_test false e = inr (λ s. false≢true (sym e ∙ ap (is_path p) (sym s) ∙ is_path_itself p))

less_or_not : (m n : ℕ) → (m < n) ⊎ (m < n → ⊥)
less_or_not m n = by_test (ltb m n) refl
  where
    by_test : (b : Bool) → ltb m n ≡ b → (m < n) ⊎ (m < n → ⊥)
    by_test true e = inl (ltb-true m n e)
    by_test false e = inr (λ s. false≢true (sym e ∙ lt-ltb m n s))

front_or_not : (w key : List ℕ) → IsProperFront w key ⊎ (IsProperFront w key → ⊥)
front_or_not w key = elim (less_or_not (length w) (length key)) [
  | inl less ↦ elim (path_or_not w (take (length w) key)) [
    | inl e ↦ inl (length w, less, e)
    | inr n ↦ inr (λ f. n (f.2 ∙ ap (λ k. take k key) (sym (long f))))
  ]
  | inr n ↦ inr (λ f. let less : f.0 < length key = f.1 in let same : length w ≡ f.0 = long f in n (omega (arith, less, same)))
]
  where
    long : (f : IsProperFront w key) → length w ≡ f.0
    long f = let less : f.0 < length key = f.1 in ap length f.2 ∙ length-take-le f.0 key (omega (arith, less))

-- ---- the marks after an update

true_or_false : (T : Cells) (w : List ℕ) → MarkedAt T w true → MarkedAt T w false → ⊥
true_or_false T w slotted kept =
    let same : slotted.0 ≡ kept.0 = at_same T w slotted.0 kept.0 slotted.1 kept.1 in
    false≢true (sym (slot_of_mark T kept.0 false kept.2) ∙ ap (has_number_slot T) (sym same) ∙ slot_of_mark T slotted.0 true slotted.2)

module _ (slots : ℕ) (before after : Fields) (key : List ℕ) (v : ℤ) (well : IsWellFormed slots before) (well' : IsWellFormed slots after) (some : 0 < length key) (reduced : before.layout ≡ reduced_layout)
    (tree : tree_of after ≡ put (tree_of before) before.ordered key v) (k : PutsMarks before after key) where
  abbrev t : Tree
  t = tree_of before

  -- each other key was held before
  was_held : (w : List ℕ) → (w ≡ key → ⊥) → HasMark (marks after) w → is_some (number_at t w) ≡ true
  was_held w other h = ap is_some (sym (ap (λ (u : Tree). number_at u w) tree ∙ number_at-put_other t before.ordered key v w other)) ∙ marked_held slots after well' w h

  -- over a number
  over_old : is_some (number_at t key) ≡ true → (w : List ℕ) → HasMark (marks after) w → HasMark (marks before) w
  over_old had w h = by_mark found.0 found.1
    where
      held : is_some (number_at t w) ≡ true
      held = elim (path_or_not w key) [ inl is ↦ ap (λ q. is_some (number_at t q)) is ∙ had | inr other ↦ was_held w other h ]

      found : (m : Bool) × MarkedAt (cells_in before) w m
      found = held_marked slots before well w held

      by_mark : (m : Bool) → MarkedAt (cells_in before) w m → HasMark (marks before) w
      by_mark true slotted = (marks_read slots before well w).1 slotted
      by_mark false kept = absurd (true_or_false (cells_in after) w ((marks_read slots after well' w).0 h) (k.over had w kept.0 false kept.1 kept.2))

  abbrev Marked : List ℕ → Type 0
  Marked w = HasMark (marks before) w ⊎ (IsProperFront w key × (is_some (number_at t w) ≡ true)) ⊎ ((w ≡ key) × IsFront t key)

  new_only : number_at t key ≡ None → (w : List ℕ) → HasMark (marks after) w → Marked w
  new_only new w h = elim (path_or_not w key) [
    | inl is ↦ by_bare is (is_bare (node_at t key)) refl
    | inr other ↦
        let held = was_held w other h in
        let found = held_marked slots before well w held in
        by_mark held found.0 found.1
  ]
    where
      now : MarkedAt (cells_in after) w true
      now = (marks_read slots after well' w).0 h

      by_bare : w ≡ key → (b : Bool) → is_bare (node_at t key) ≡ b → Marked w
      by_bare is false e = inr (inr (is, front_of_node t key well.sound some e))
      by_bare is true e = absurd (true_or_false (cells_in after) w now (subst (λ q. MarkedAt (cells_in after) q false) (sym is) (k.new.last reduced (λ f. false≢true (sym (node_of_held t key f) ∙ e)))))

      by_mark : is_some (number_at t w) ≡ true → (m : Bool) → MarkedAt (cells_in before) w m → Marked w
      by_mark held true slotted = inl ((marks_read slots before well w).1 slotted)
      by_mark held false kept = elim (front_or_not w key) [
        | inl front ↦ inr (inl (front, held))
        | inr apart ↦ absurd (true_or_false (cells_in after) w now (k.others w false apart kept))
      ]

  new_all : number_at t key ≡ None → (w : List ℕ) → Marked w → MarkedAt (cells_in after) w true
  new_all new w (inl was) = elim (front_or_not w key) [
    | inl front ↦ k.fronts w front (marked_held slots before well w was)
    | inr apart ↦ k.others w true apart ((marks_read slots before well w).0 was)
  ]
  new_all new w (inr (inl held)) = k.fronts w held.0 held.1
  new_all new w (inr (inr is)) = subst (λ q. MarkedAt (cells_in after) q true) (sym is.0) (k.new.front new is.1)

  pub marks_put : MarksPut t (marks before) (marks after) key
  marks_put = record {
    over = λ had w. (over_old had w, λ was. let there = (marks_read slots before well w).0 was in (marks_read slots after well' w).1 (k.over had w there.0 true there.1 there.2));
    new = λ new w. (new_only new w, λ m. (marks_read slots after well' w).1 (new_all new w m));
  }

-- ---- the marks after an erasure

pub marks_cut : (slots : ℕ) (before after : Fields) (key : List ℕ) → IsWellFormed slots before → IsWellFormed slots after → tree_of after ≡ cut (tree_of before) key
    → ((w : List ℕ) (m : Bool) → (w ≡ key → ⊥) → MarkedAt (cells_in before) w m → MarkedAt (cells_in after) w m) → MarksCut (marks before) (marks after) key
marks_cut slots before after key well well' tree keep w = (to, λ was. (marks_read slots after well' w).1 (keep w true was.0 ((marks_read slots before well w).0 was.1)))
  where
    gone : HasMark (marks after) w → w ≡ key → ⊥
    gone h is =
        let held = marked_held slots after well' w h in
        false≢true (ap is_some (sym (ap (λ (u : Tree). number_at u w) tree ∙ ap (number_at (cut (tree_of before) key)) is ∙ number_at-cut_same (tree_of before) key well.sound)) ∙ held)

    by_mark : HasMark (marks after) w → (w ≡ key → ⊥) → (m : Bool) → MarkedAt (cells_in before) w m → HasMark (marks before) w
    by_mark h other true slotted = (marks_read slots before well w).1 slotted
    by_mark h other false kept = absurd (true_or_false (cells_in after) w ((marks_read slots after well' w).0 h) (keep w false other kept))

    to : HasMark (marks after) w → (w ≡ key → ⊥) × HasMark (marks before) w
    to h =
        let other = gone h in
        let held : is_some (number_at (tree_of before) w) ≡ true = ap is_some (sym (ap (λ (u : Tree). number_at u w) tree ∙ number_at-cut_other (tree_of before) key w well.sound other)) ∙ marked_held slots after well' w h in
        let found = held_marked slots before well w held in
        (other, by_mark h other found.0 found.1)

-- but for the node of the erased key each number is kept as it was
pub others_at : (T T' : Cells) (root : (c : ℕ) → T.check 0 ≡ pos c → ⊥) (key : List ℕ) (a : ℕ) → IsAt T key a → KeepsOtherMarks T T' a → (w : List ℕ) (m : Bool) → (w ≡ key → ⊥) → MarkedAt T w m → MarkedAt T' w m
others_at T T' root key a at k w m other marked_w =
    k w marked_w.0 m marked_w.1 (λ z. other (follow_one w key (one_path T root (follow_on w []) (follow_on key []) marked_w.1.0 at.0 (marked_w.1.1 ∙ z ∙ sym at.1)))) marked_w.2
