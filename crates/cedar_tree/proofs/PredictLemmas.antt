-- What is predicted for a query: the walk of the node that it leads to.
use Rattle.std.proofs.Common.{◌≡◌, inl, inr, ℕ, ◌-◌, Bool, true, false, cond, ◌==◌, ◌&&◌, nat_eq, ℤ, List, [], ◌∷◌, ◌++◌, length, map, Option, Some, None, refl, sym, ap, subst, ◌∙◌, arith, eq-eqb, length-append}
use Rattle.std.specs.List.{Contains, filter, starts_with}
use Rattle.std.proofs.lemmas.Bool.{eqb-true}
use Rattle.std.proofs.lemmas.List.{append-nil}
use Rattle.std.proofs.lemmas.List.Elements.{filter-append}
use Rattle.cedar_tree.specs.Tree.{Forest, none, child, Tree, subtree, number_at, IsSoundBelow}
use Rattle.cedar_tree.specs.Queries.{Entry, own_entry, under, walk_forest, walk, predict, node_at}
use Rattle.cedar_tree.specs.Laws.{IsPartOf}
use Rattle.cedar_tree.proofs.TreeLemmas.{subtree_absent}
use Rattle.cedar_tree.proofs.OrderLemmas.{node_at-empty, sound_node_at, number_at-append}
use Rattle.cedar_tree.proofs.WalkLemmas.{filter-map, eqb_turned, filter-none}
use Rattle.cedar_tree.proofs.MemberLemmas.{from_map, into_map, held_from_walk, walk_from_held}
use Rattle.cedar_tree.proofs.GeneralLemmas.{filter-same}

-- `starts_with` by recursion on both
abbrev begins : List ℕ → List ℕ → Bool
begins [] p = true
begins (m ∷ q) [] = false
begins (m ∷ q) (l ∷ p) = m == l && begins q p

starts-begins : (p q : List ℕ) → starts_with nat_eq p q ≡ begins q p
starts-begins p [] = refl
starts-begins [] (m ∷ q) = refl
starts-begins (l ∷ p) (m ∷ q) = ap (λ b. m == l && b) (starts-begins p q)

pub filter-every : {X : Type 0} (xs : List X) → filter (λ x. true) xs ≡ xs
filter-every [] = refl
filter-every (x ∷ xs) = ap (λ r. x ∷ r) (filter-every xs)

pub map-after : {X Y Z : Type 0} (f : Y → Z) (g : X → Y) (h : X → Z) (xs : List X) → ((x : X) → f (g x) ≡ h x) → map f (map g xs) ≡ map h xs
map-after f g h [] e = refl
map-after f g h (x ∷ xs) e = λ i. e x i ∷ map-after f g h xs e i

-- an entry of the node at a path, as one of the whole tree
abbrev below_path : List ℕ → Entry → Entry
below_path q entry = (q ++ entry.0, entry.1)

map-below_none : (es : List Entry) → es ≡ map (below_path []) es
map-below_none [] = refl
map-below_none (e ∷ es) = ap (λ r. e ∷ r) (map-below_none es)

own-begins : (m : ℕ) (q : List ℕ) (n : Option ℤ) → filter (λ e. begins (m ∷ q) e.0) (own_entry n) ≡ []
own-begins m q None = refl
own-begins m q (Some v) = refl

begins_forest : (m : ℕ) (q : List ℕ)
    → ((t : Tree) → IsSoundBelow t.children → filter (λ e. begins q e.0) (walk t) ≡ map (below_path q) (walk (node_at t q)))
    → (f : Forest) → IsSoundBelow f → filter (λ e. begins (m ∷ q) e.0) (walk_forest f) ≡ map (below_path (m ∷ q)) (walk (node_at (subtree f m) q))
begins_forest m q ih none s = ap (λ (u : Tree). map (below_path (m ∷ q)) (walk u)) (sym (node_at-empty q))
begins_forest m q ih (child l n below rest) s =
    let t : Tree = record { number = n; children = below } in
    let p : Entry → Bool = λ e. begins (m ∷ q) e.0 in
    let later : filter p (walk_forest rest) ≡ map (below_path (m ∷ q)) (walk (node_at (subtree rest m) q)) = begins_forest m q ih rest s.5 in
    filter-append p (map (under l) (walk t)) (walk_forest rest)
    ∙ ap (λ (x : List Entry). x ++ filter p (walk_forest rest)) (filter-map (under l) p (walk t))
    ∙ (elim (m == l) as (λ b. (m == l) ≡ b → map (under l) (filter (λ e. b && begins q e.0) (walk t)) ++ filter p (walk_forest rest) ≡ map (below_path (m ∷ q)) (walk (node_at (subtree (child l n below rest) m) q))) [
      | true ↦ λ e.
          let label : m ≡ l = eqb-true m l e in
          let others : filter p (walk_forest rest) ≡ [] =
          later ∙ ap (λ (u : Tree). map (below_path (m ∷ q)) (walk u)) (ap (λ (u : Tree). node_at u q) (subtree_absent rest m (rw label s.2)) ∙ node_at-empty q) in
          ap (λ (x : List Entry). map (under l) (filter (λ e. begins q e.0) (walk t)) ++ x) others
          ∙ append-nil (map (under l) (filter (λ e. begins q e.0) (walk t)))
          ∙ ap (map (under l)) (ih t s.4)
          ∙ map-after (under l) (below_path q) (below_path (l ∷ q)) (walk (node_at t q)) (λ e. refl)
          ∙ rw (label, eq-eqb l l refl) refl
      | false ↦ λ e.
          let apart : (l == m) ≡ false = eqb_turned m l e in
          ap (λ (x : List Entry). map (under l) x ++ filter p (walk_forest rest)) (filter-none (λ (x : Entry). false) (walk t) (λ _. refl))
          ∙ rw apart later
    ]) refl

-- the entries of a sound tree whose path begins with q are those of the node at q
begins_at : (t : Tree) (q : List ℕ) → IsSoundBelow t.children → filter (λ e. begins q e.0) (walk t) ≡ map (below_path q) (walk (node_at t q))
begins_at t [] s = filter-every (walk t) ∙ map-below_none (walk t)
begins_at t (m ∷ q) s =
    filter-append (λ (e : Entry). begins (m ∷ q) e.0) (own_entry t.number) (walk_forest t.children)
    ∙ ap (λ (x : List Entry). x ++ filter (λ (e : Entry). begins (m ∷ q) e.0) (walk_forest t.children)) (own-begins m q t.number)
    ∙ begins_forest m q (λ u su. begins_at u q su) t.children s

abbrev as_answer : ℕ → Entry → ℤ × ℕ
as_answer n e = (e.1, length e.0 - n)

-- the predictions are the walk of the node at the query
pub predict-node : (t : Tree) (q : List ℕ) → IsSoundBelow t.children → predict t q ≡ map (λ e. (e.1, length e.0)) (walk (node_at t q))
predict-node t q s =
    ap (map (as_answer (length q))) (filter-same (λ (e : Entry). starts_with nat_eq e.0 q) (λ (e : Entry). begins q e.0) (walk t) (λ e. starts-begins e.0 q) ∙ begins_at t q s)
    ∙ map-after (as_answer (length q)) (below_path q) (λ (e : Entry). (e.1, length e.0)) (walk (node_at t q))
    (λ e. let rest : length (q ++ e.0) - length q ≡ length e.0 = omega (arith, length-append q e.0) in λ i. (e.1, rest i))

-- for the empty query they are the whole walk
pub predict-empty : (t : Tree) → predict t [] ≡ map (λ e. (e.1, length e.0)) (walk t)
predict-empty t =
    ap (map (as_answer 0)) (filter-every (walk t) ∙ map-below_none (walk t))
    ∙ map-after (as_answer 0) (below_path []) (λ (e : Entry). (e.1, length e.0)) (walk t) (λ e. let same : length e.0 - 0 ≡ length e.0 = omega arith in λ i. (e.1, same i))

abbrev number_and_length : Entry → ℤ × ℕ
number_and_length e = (e.1, length e.0)

-- they have just what is held at the query and behind it
pub held_from_predict : (t : Tree) (q : List ℕ) (v : ℤ) (m : ℕ) → IsSoundBelow t.children → Contains (predict t q) (v, m)
    → (p : List ℕ) × (length p ≡ m) × (number_at t (q ++ p) ≡ Some v)
held_from_predict t q v m s c =
    let found = from_map number_and_length (walk (node_at t q)) (v, m) (subst (λ (xs : List (ℤ × ℕ)). Contains xs (v, m)) (predict-node t q s) c) in
    let held = held_from_walk (node_at t q) found.0.0 found.0.1 (sound_node_at t q s) found.1 in
    (found.0.0, ap (λ (a : ℤ × ℕ). a.1) found.2, number_at-append t q found.0.0 ∙ held ∙ ap (λ (a : ℤ × ℕ). Some a.0) found.2)

pub predict_from_held : (t : Tree) (q : List ℕ) (v : ℤ) (m : ℕ) → IsSoundBelow t.children
    → (p : List ℕ) × (length p ≡ m) × (number_at t (q ++ p) ≡ Some v) → Contains (predict t q) (v, m)
predict_from_held t q v m s h =
    let there = walk_from_held (node_at t q) h.0 v (sound_node_at t q s) (sym (number_at-append t q h.0) ∙ h.2) in
    let member : Contains (map number_and_length (walk (node_at t q))) (v, length h.0) = into_map number_and_length (walk (node_at t q)) (h.0, v) there in
    subst (λ (xs : List (ℤ × ℕ)). Contains xs (v, m)) (sym (predict-node t q s)) (subst (λ n. Contains (map number_and_length (walk (node_at t q))) (v, n)) h.1 member)

-- a part of a list
part_later : {X : Type 0} (xs : List X) (y : X) (ys : List X) → IsPartOf xs ys → IsPartOf xs (y ∷ ys)
part_later [] y ys h = tt
part_later (x ∷ xs) y ys h = inr h

part-filter : {X : Type 0} (p : X → Bool) (xs : List X) → IsPartOf (filter p xs) xs
part-filter p [] = tt
part-filter p (x ∷ xs) =
    elim (p x) as (λ b. IsPartOf (cond b (x ∷ filter p xs) (filter p xs)) (x ∷ xs)) [
      | true ↦ inl (refl, part-filter p xs)
      | false ↦ part_later (filter p xs) x xs (part-filter p xs)
    ]

part-map : {X Y : Type 0} (f : X → Y) (xs ys : List X) → IsPartOf xs ys → IsPartOf (map f xs) (map f ys)
part-map f [] ys h = tt
part-map f (x ∷ xs) [] h = absurd h
part-map f (x ∷ xs) (y ∷ ys) h =
    elim h as (λ _. IsPartOf (f x ∷ map f xs) (f y ∷ map f ys)) [
      | inl here ↦ inl (ap f here.0, part-map f xs ys here.1)
      | inr later ↦ inr (part-map f (x ∷ xs) ys later)
    ]

pub predict_part : (t : Tree) (q : List ℕ) → IsPartOf (predict t q) (map (λ e. (e.1, length e.0 - length q)) (walk t))
predict_part t q =
    part-map (as_answer (length q)) (filter (λ (e : Entry). starts_with nat_eq e.0 q) (walk t)) (walk t) (part-filter (λ (e : Entry). starts_with nat_eq e.0 q) (walk t))
