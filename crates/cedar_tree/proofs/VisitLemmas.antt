-- How a walk over all nodes goes on, and what it comes to.
use Rattle.std.proofs.Common.{◌≡◌, ℕ, Bool, true, false, cond, ◌==◌, ◌||◌, ℤ, List, [], ◌∷◌, ◌++◌, length, map, Option, Some, None, option_map, refl, sym, ap, ◌∙◌, eq-eqb, append_assoc}
use Rattle.std.specs.List.{cons_option}
use Rattle.std.proofs.lemmas.Bool.{eqb-true, true≢false}
use Rattle.std.proofs.lemmas.List.{append-nil, map-append}
use Rattle.std.proofs.lemmas.List.Elements.{filter_map-append}
use Rattle.cedar_tree.specs.Tree.{Forest, none, child, Tree, has_label, subtree, IsSoundBelow}
use Rattle.cedar_tree.specs.Queries.{Entry, own_entry, under, walk_forest, walk, predict, node_at}
use Rattle.cedar_tree.specs.Walks.{Visit, visit_from, visits_below, visited_entries, behind, forwards, node_up, visits_after, visits_left}
use Rattle.cedar_tree.proofs.CutLemmas.{node_at-end}
use Rattle.cedar_tree.proofs.PredictLemmas.{map-after, predict-node}

-- a label that was passed is no longer to come
pub behind_here : (l : ℕ) (n : Option ℤ) (below rest : Forest) → behind (child l n below rest) l ≡ rest
behind_here l n below rest = rw (eq-eqb l l refl) refl

pub subtree_here : (l : ℕ) (n : Option ℤ) (below rest : Forest) → subtree (child l n below rest) l ≡ record { number = n; children = below }
subtree_here l n below rest = rw (eq-eqb l l refl) refl

-- what is one label further down, seen from above
visits_further : (p : List ℕ) (l : ℕ) (vs : List Visit) → map (visit_from p) (map (visit_from (l ∷ [])) vs) ≡ map (visit_from (p ++ l ∷ [])) vs
visits_further p l vs = map-after (visit_from p) (visit_from (l ∷ [])) (visit_from (p ++ l ∷ [])) vs (λ v. λ i. (sym (append_assoc p (l ∷ []) v.0) i, v.1))

-- a child and the siblings after it, seen from above
visits_child : (p : List ℕ) (l : ℕ) (n : Option ℤ) (below rest : Forest) (after : List Visit)
    → map (visit_from p) (visits_below (child l n below rest)) ++ after
    ≡ (p ++ l ∷ [], n) ∷ (map (visit_from (p ++ l ∷ [])) (visits_below below) ++ (map (visit_from p) (visits_below rest) ++ after))
visits_child p l n below rest after =
    ap (λ (x : List Visit). x ++ after) (map-append (visit_from p) (map (visit_from (l ∷ [])) (([], n) ∷ visits_below below)) (visits_below rest))
    ∙ append_assoc (map (visit_from p) (map (visit_from (l ∷ [])) (([], n) ∷ visits_below below))) (map (visit_from p) (visits_below rest)) after
    ∙ ap (λ (x : List Visit). x ++ (map (visit_from p) (visits_below rest) ++ after)) (visits_further p l (([], n) ∷ visits_below below))
    ∙ ap (λ (x : List ℕ). (x, n) ∷ (map (visit_from (p ++ l ∷ [])) (visits_below below) ++ (map (visit_from p) (visits_below rest) ++ after))) (append-nil (p ++ l ∷ []))

-- the walk below a child whose tree and later siblings are known
visits_at : (t : Tree) (up : List ℕ) (l : ℕ) (n : Option ℤ) (below rest : Forest) → subtree (node_up t up).children l ≡ record { number = n; children = below } → behind (node_up t up).children l ≡ rest
    → map (visit_from (forwards up)) (visits_below (child l n below rest)) ++ visits_after t up ≡ (forwards (l ∷ up), n) ∷ visits_left t (l ∷ up)
visits_at t up l n below rest tree later =
    visits_child (forwards up) l n below rest (visits_after t up)
    ∙ ap (λ (u : Tree). (forwards (l ∷ up), n) ∷ (map (visit_from (forwards (l ∷ up))) (visits_below u.children) ++ (map (visit_from (forwards up)) (visits_below rest) ++ visits_after t up))) (sym tree)
    ∙ ap (λ (f : Forest). (forwards (l ∷ up), n) ∷ (map (visit_from (forwards (l ∷ up))) (visits_below (subtree (node_up t up).children l).children) ++ (map (visit_from (forwards up)) (visits_below f) ++ visits_after t up))) (sym later)

pub goes_down : (t : Tree) (up : List ℕ) (l : ℕ) (n : Option ℤ) (below rest : Forest) → (node_up t up).children ≡ child l n below rest → visits_left t up ≡ (forwards (l ∷ up), n) ∷ visits_left t (l ∷ up)
goes_down t up l n below rest is =
    ap (λ (f : Forest). map (visit_from (forwards up)) (visits_below f) ++ visits_after t up) is
    ∙ visits_at t up l n below rest (ap (λ (f : Forest). subtree f l) is ∙ subtree_here l n below rest) (ap (λ (f : Forest). behind f l) is ∙ behind_here l n below rest)

pub goes_past_leaf : (t : Tree) (up : List ℕ) → (node_up t up).children ≡ none → visits_left t up ≡ visits_after t up
goes_past_leaf t up is = ap (λ (f : Forest). map (visit_from (forwards up)) (visits_below f) ++ visits_after t up) is

pub has_here : (f : Forest) (m : ℕ) (n : Option ℤ) (below rest : Forest) → f ≡ child m n below rest → has_label f m ≡ true
has_here f m n below rest e = ap (λ (g : Forest). has_label g m) e ∙ rw (eq-eqb m m refl) refl

nothing_here : (m : ℕ) (n : Option ℤ) (below rest : Forest) → none ≡ child m n below rest → ⊥
nothing_here m n below rest e = cc

-- a sibling behind another one is one of the siblings
pub has_behind : (f : Forest) (l m : ℕ) (n : Option ℤ) (below rest : Forest) → behind f l ≡ child m n below rest → has_label f m ≡ true
has_behind none l m n below rest is = absurd (nothing_here m n below rest is)
has_behind (child k w u f) l m n below rest is =
    (elim (k == l) as (λ b. cond b f (behind f l) ≡ child m n below rest → ((k == m) || has_label f m) ≡ true) [
      | true ↦ λ e. or_right (k == m) (has_here f m n below rest e)
      | false ↦ λ e. or_right (k == m) (has_behind f l m n below rest e)
    ]) is
  where
    or_right : (b : Bool) → has_label f m ≡ true → (b || has_label f m) ≡ true
    or_right true h = refl
    or_right false h = h

-- so the first of those behind a sibling is found under its own label
pub next_behind : (f : Forest) (l m : ℕ) (n : Option ℤ) (below rest : Forest) → IsSoundBelow f → behind f l ≡ child m n below rest
    → (subtree f m ≡ record { number = n; children = below }) × (behind f m ≡ rest)
next_behind none l m n below rest s is = absurd (nothing_here m n below rest is)
next_behind (child k w u f) l m n below rest s is =
    (elim (k == l) as (λ b. cond b f (behind f l) ≡ child m n below rest → (subtree (child k w u f) m ≡ record { number = n; children = below }) × (behind (child k w u f) m ≡ rest)) [
      | true ↦ λ e.
          let other : (k == m) ≡ false = other_label (has_here f m n below rest e) in
          rw other (ap (λ (x : Forest). subtree x m) e ∙ subtree_here m n below rest, ap (λ (x : Forest). behind x m) e ∙ behind_here m n below rest)
      | false ↦ λ e.
          let other : (k == m) ≡ false = other_label (has_behind f l m n below rest e) in
          rw other (next_behind f l m n below rest s.5 e)
    ]) is
  where
    -- no label comes twice
    other_label : has_label f m ≡ true → (k == m) ≡ false
    other_label has =
        (elim (k == m) as (λ b. (k == m) ≡ b → b ≡ false) [
          | true ↦ λ e. absurd (true≢false (sym has ∙ rw (← eqb-true k m e) s.2))
          | false ↦ λ e. refl
        ]) refl

pub goes_right : (t : Tree) (up : List ℕ) (l m : ℕ) (n : Option ℤ) (below rest : Forest) → IsSoundBelow (node_up t up).children → behind (node_up t up).children l ≡ child m n below rest
    → visits_after t (l ∷ up) ≡ (forwards (m ∷ up), n) ∷ visits_left t (m ∷ up)
goes_right t up l m n below rest s is =
    let next = next_behind (node_up t up).children l m n below rest s is in
    ap (λ (f : Forest). map (visit_from (forwards up)) (visits_below f) ++ visits_after t up) is
    ∙ visits_at t up m n below rest next.0 next.1

pub goes_up : (t : Tree) (up : List ℕ) (l : ℕ) → behind (node_up t up).children l ≡ none → visits_after t (l ∷ up) ≡ visits_after t up
goes_up t up l is = ap (λ (f : Forest). map (visit_from (forwards up)) (visits_below f) ++ visits_after t up) is

-- ---- where it begins

entries_under : (l : ℕ) (vs : List Visit) → visited_entries (map (visit_from (l ∷ [])) vs) ≡ map (under l) (visited_entries vs)
entries_under l [] = refl
entries_under l (v ∷ vs) =
    elim v.1 as (λ o. cons_option (option_map (λ (x : ℤ). (l ∷ v.0, x)) o) (visited_entries (map (visit_from (l ∷ [])) vs)) ≡ map (under l) (cons_option (option_map (λ (x : ℤ). (v.0, x)) o) (visited_entries vs))) [
      | None ↦ entries_under l vs
      | Some x ↦ ap (λ (r : List Entry). (l ∷ v.0, x) ∷ r) (entries_under l vs)
    ]

entries_own : (n : Option ℤ) (vs : List Visit) → visited_entries (([], n) ∷ vs) ≡ own_entry n ++ visited_entries vs
entries_own None vs = refl
entries_own (Some v) vs = refl

pub entries_below : (f : Forest) → visited_entries (visits_below f) ≡ walk_forest f
entries_below none = refl
entries_below (child l n below rest) =
    filter_map-append (λ (v : Visit). option_map (λ (x : ℤ). (v.0, x)) v.1) (map (visit_from (l ∷ [])) (([], n) ∷ visits_below below)) (visits_below rest)
    ∙ ap (λ (x : List Entry). x ++ visited_entries (visits_below rest)) (entries_under l (([], n) ∷ visits_below below) ∙ ap (map (under l)) (entries_own n (visits_below below) ∙ ap (λ (x : List Entry). own_entry n ++ x) (entries_below below)))
    ∙ ap (λ (x : List Entry). map (under l) (own_entry n ++ walk_forest below) ++ x) (entries_below rest)

pub visits_from_none : (vs : List Visit) → map (visit_from []) vs ≡ vs
visits_from_none [] = refl
visits_from_none (v ∷ vs) = ap (λ (r : List Visit). v ∷ r) (visits_from_none vs)

pub walk_visits : (t : Tree) → walk t ≡ visited_entries (([], t.number) ∷ visits_left t [])
walk_visits t =
    ap (λ (x : List Entry). own_entry t.number ++ x) (sym (entries_below t.children))
    ∙ ap (λ (x : List Visit). own_entry t.number ++ visited_entries x) (sym (append-nil (map (visit_from []) (visits_below t.children)) ∙ visits_from_none (visits_below t.children)))
    ∙ sym (entries_own t.number (visits_left t []))

pub predict_visits : (t : Tree) (q : List ℕ) → IsSoundBelow t.children → predict t q ≡ map (λ entry. (entry.1, length entry.0)) (visited_entries (([], (node_at t q).number) ∷ visits_left (node_at t q) []))
predict_visits t q s = predict-node t q s ∙ ap (map (λ (entry : Entry). (entry.1, length entry.0))) (walk_visits (node_at t q))

pub node_up_is : (t : Tree) (up : List ℕ) → node_up t up ≡ node_at t (forwards up)
node_up_is t [] = refl
node_up_is t (l ∷ up) = ap (λ (u : Tree). subtree u.children l) (node_up_is t up) ∙ sym (node_at-end t (forwards up) l)
