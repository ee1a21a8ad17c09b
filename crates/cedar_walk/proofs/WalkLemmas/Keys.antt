-- A key that a walk keeps in step with its node, and the room that it needs.
use Rattle.std.proofs.Common.{◌≡◌, ℕ, zero, suc, ◌+◌, ◌-◌, ◌<◌, ◌≤◌, ℤ, List, [], ◌∷◌, ◌++◌, length, map, take, drop, None, Option, Some, append_assoc, sym, ◌∙◌, ap, arith, refl, subst}
use Rattle.std.proofs.lemmas.List.{length-append, length-take-le, take-append-drop, take_at}
use Rattle.cedar_model.specs.Queries.{Entry, node_at}
use Rattle.cedar_model.specs.Walks.{forwards, Visit, visited_entries}
use Rattle.cedar_model.specs.Table.TableFields.{Fields, size_of}
use Rattle.cedar_model.specs.Meaning.Family.{below}
use Rattle.cedar_model.specs.Meaning.WellFormed.{cells_in, IsWellFormed, tree_of}
use Rattle.cedar_walk.specs.declared.visits.Place.{Place}
use Rattle.cedar_walk.specs.declared.visits.Visited.{Visited}
use Rattle.cedar_walk.specs.Keys.{KeyOutgrows, NextKeyOutgrows}
use Rattle.cedar_walk.specs.Ranges.{behind_path}
use Rattle.cedar_walk.specs.Visits.{ComesTo, entries_at, first_sibling_label, IsBelow, left_at, number_below, path_to, visited_at}
use Rattle.cedar_walk.proofs.WalkLemmas.NextNode.{child_owned, first_there, named_first, path_length, short_way, way_one_more}
use Rattle.cedar_walk.proofs.WalkLemmas.NextNumber.{Descended, descended_on, leaf_number}

-- the front of a key, and some labels more
pub front_and_more : (front path : List ℕ) (f m : ℕ) → length front ≡ f → m ≤ length path → take (f + m) (front ++ path) ≡ front ++ take m path
front_and_more front path f m long within =
    let part : length (take m path) ≡ m = length-take-le m path within in
    let all : (front ++ take m path) ++ drop m path ≡ front ++ path = append_assoc front (take m path) (drop m path) ∙ ap (λ w. front ++ w) (take-append-drop m path) in
    ap (take (f + m)) (sym all) ∙ take_at (front ++ take m path) (drop m path) (f + m) (length-append front (take m path) ∙ omega (arith, long, part))

-- a key that is cut and has the next label is that of the next node
pub key_turns : (T : Fields) (start : List ℕ) (n s : ℕ) (left : List Visit) (next : Visited) (key : List ℕ) (f : ℕ) (cut new : List ℕ) → f ≡ length key - n → ComesTo T start left (path_to T n s) next
    → cut ≡ take (f + (next.depth - 1)) key → new ≡ cut ++ next.label ∷ [] → (front : List ℕ) → key ≡ front ++ path_to T n s → new ≡ front ++ path_to T next.depth next.slot
key_turns T start n s left next key f cut new is comes shorter longer front e =
    let path : List ℕ = path_to T n s in
    let len : length path ≡ n = path_length T n s in
    let long : length front ≡ f = omega (arith, is, len, ap length e, length-append front path) in
    longer
    ∙ ap (λ w. w ++ next.label ∷ []) (shorter ∙ ap (take (f + (next.depth - 1))) e ∙ front_and_more front path f (next.depth - 1) long (omega (arith, comes.deep.0, comes.deep.1)))
    ∙ append_assoc front (take (next.depth - 1) path) (next.label ∷ [])
    ∙ ap (λ w. front ++ w) (sym comes.way)

-- a label more on the way down
pub path_goes_down : (slots : ℕ) (T : Fields) → IsWellFormed slots T → (start : List ℕ) (n s l : ℕ) → IsBelow (cells_in T) start n s → l ≡ (cells_in T).child s → (l ≡ 0 → ⊥)
    → path_to T (n + 1) (below (cells_in T) s l) ≡ path_to T n s ++ l ∷ []
path_goes_down slots T k start n s l at is some =
    let w : List ℕ = start ++ path_to T n s in
    let first : l ≡ first_sibling_label (node_at (tree_of T) w).children = is ∙ named_first slots T k w s at (λ z. some (is ∙ z)) in
    ap forwards (way_one_more (cells_in T) n s l (child_owned slots T k w s l at (first_there (node_at (tree_of T) w).children first some)))

-- so the key of a node with a label more is that of its first child
pub key_goes_down : (slots : ℕ) (T : Fields) → IsWellFormed slots T → (start : List ℕ) (n s l slot : ℕ) (front key new : List ℕ) → IsBelow (cells_in T) start n s → l ≡ (cells_in T).child s → (l ≡ 0 → ⊥)
    → slot ≡ below (cells_in T) s l → key ≡ front ++ path_to T n s → new ≡ key ++ l ∷ [] → new ≡ front ++ path_to T (n + 1) slot
key_goes_down slots T k start n s l slot front key new at is some child so_far longer =
    longer
    ∙ ap (λ w. w ++ l ∷ []) so_far
    ∙ append_assoc front (path_to T n s) (l ∷ [])
    ∙ ap (λ w. front ++ w) (sym (path_goes_down slots T k start n s l at is some))
    ∙ ap (λ x. front ++ path_to T (n + 1) x) (sym child)

-- ---- the room for it

-- what is longer than some room is longer than less
pub outgrows_less : (room less : ℕ) (entries : List Entry) → less ≤ room → KeyOutgrows room entries → KeyOutgrows less entries
outgrows_less room less [] within small = absurd small
outgrows_less room less (e ∷ es) within small =
    let longer : room < length e.0 = small in
    let long : less < length e.0 = omega (arith, within, longer) in
    long

module _ (slots : ℕ) (T : Fields) (k : IsWellFormed slots T) (start : List ℕ) (room : ℕ) where
  -- a node is the first entry, or has a child, since it isn't bare
  one_down : (n s : ℕ) → IsBelow (cells_in T) start n s → (s ≡ 0 → ⊥) → room < n
      → ((l : ℕ) → IsBelow (cells_in T) start (n + 1) (below (cells_in T) s l) → (below (cells_in T) s l ≡ 0 → ⊥) → KeyOutgrows room (entries_at T start (n + 1) (below (cells_in T) s l)))
      → KeyOutgrows room (entries_at T start n s)
  one_down n s at some deep further = by_number (number_below T start n s) refl
    where
      by_number : (o : Option ℤ) → number_below T start n s ≡ o → KeyOutgrows room (entries_at T start n s)
      by_number (Some v) has =
          let long : room < length (path_to T n s) = omega (arith, deep, path_length T n s) in
          subst (KeyOutgrows room) (sym (ap (λ (o : Option ℤ). visited_entries ((path_to T n s, o) ∷ left_at T start n s)) has)) long
      by_number None has =
          let named : (cells_in T).child s ≡ 0 → ⊥ = λ z. let held = leaf_number slots T k (start ++ path_to T n s) s at some z in let both : ◌≡◌ {A = Option ℤ} None (Some held.0) = sym has ∙ held.1 in cc in
          let here : Descended T start n s n s = record { below = at; not_root = some; entries = refl } in
          let on = descended_on slots T k start n s n s ((cells_in T).child s) here refl named in
          subst (KeyOutgrows room) (sym on.entries) (further ((cells_in T).child s) on.below on.not_root)

  -- a path is no longer than there are slots: so many steps down are enough
  steps_down : (steps n s : ℕ) → IsBelow (cells_in T) start n s → (s ≡ 0 → ⊥) → size_of T < n + steps → room < n → KeyOutgrows room (entries_at T start n s)
  steps_down zero n s at some far deep = absurd (omega (arith, far, short_way slots T k start n s at))
  steps_down (suc steps) n s at some far deep =
      one_down n s at some deep (λ l on further. steps_down steps (n + 1) (below (cells_in T) s l) on further (omega (arith, far)) (omega (arith, deep)))

  -- the path of the first entry at a node or below it has all labels of the node
  pub first_outgrows : (n s : ℕ) → IsBelow (cells_in T) start n s → (s ≡ 0 → ⊥) → room < n → KeyOutgrows room (entries_at T start n s)
  first_outgrows n s at some deep = steps_down (suc (size_of T)) n s at some (omega arith) deep

  -- so it is below a node that a walk passes on the way down
  pub down_outgrows : (n s n' s' l : ℕ) → Descended T start n s n' s' → l ≡ (cells_in T).child s' → (l ≡ 0 → ⊥) → room < n' + 1 → KeyOutgrows room (entries_at T start n s)
  down_outgrows n s n' s' l d is some deep =
      let on = descended_on slots T k start n s n' s' l d is some in
      subst (KeyOutgrows room) (sym on.entries) (first_outgrows (n' + 1) (below (cells_in T) s' l) on.below on.not_root deep)

-- what is behind a node is what is at the next place and further on
pub next_outgrows : (T : Fields) (start : List ℕ) (room n s : ℕ) (place : Place) → ComesTo T start (left_at T start n s) (path_to T n s) (visited_at T start place)
    → KeyOutgrows room (entries_at T start place.depth place.slot) → KeyOutgrows room (visited_entries (left_at T start n s))
next_outgrows T start room n s place comes small = subst (KeyOutgrows room) (sym (ap visited_entries comes.visits)) small

-- the key of a node that is so deep is so long
pub long_path : (T : Fields) (start : List ℕ) (depth slot room : ℕ) → room < length start + depth → room < length (start ++ path_to T depth slot)
long_path T start depth slot room deep = omega (arith, deep, length-append start (path_to T depth slot), path_length T depth slot)

-- in front of each key the path `start` takes its room
pub behind_outgrows : (start : List ℕ) (room : ℕ) (entries : List Entry) → KeyOutgrows (room - length start) entries → KeyOutgrows room (map (behind_path start) entries)
behind_outgrows start room [] small = absurd small
behind_outgrows start room (e ∷ es) small =
    let deep : room - length start < length e.0 = small in
    let long : room < length (start ++ e.0) = omega (arith, deep, length-append start e.0) in
    long

-- a key that is the path `start` and that of the node below it
pub whole_outgrows : (T : Fields) (start key : List ℕ) (depth slot room : ℕ) → IsBelow (cells_in T) start depth slot → key ≡ start ++ path_to T depth slot → NextKeyOutgrows T depth slot (length key) room
    → KeyOutgrows room (map (behind_path start) (visited_entries (left_at T start depth slot)))
whole_outgrows T start key depth slot room at is small =
    let front : length key - depth ≡ length start = omega (arith, ap length is, length-append start (path_to T depth slot), path_length T depth slot) in
    behind_outgrows start room (visited_entries (left_at T start depth slot)) (subst (λ n. KeyOutgrows (room - n) (visited_entries (left_at T start depth slot))) front (small start at))
