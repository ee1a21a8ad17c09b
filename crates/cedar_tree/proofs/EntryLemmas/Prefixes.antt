-- How many prefixes a put adds, and a cut takes away.
use Rattle.std.proofs.Common.{◌≡◌, ℕ, ◌+◌, ◌<◌, Bool, true, false, cond, ◌==◌, ◌||◌, ◌&&◌, ltb, ℤ, List, [], ◌∷◌, length, map, Some, is_some, refl, sym, ap, ◌∙◌, arith, length-append}
use Rattle.std.specs.List.{filter}
use Rattle.std.proofs.lemmas.List.{length-map}
use Rattle.std.proofs.lemmas.Bool.{eqb-true}
use Rattle.cedar_tree.specs.Tree.{Forest, none, child, Tree, has_label, subtree, number_at, replace, insert_ascending, put_child, put, is_bare, without, cut, IsSoundBelow}
use Rattle.cedar_tree.specs.Queries.{prefixes_forest, prefixes, slots_of_tree, node_at, IsFront}
use Rattle.cedar_tree.specs.Laws.{missing_nodes, bare_nodes, fronts}
use Rattle.cedar_tree.proofs.TreeLemmas.{subtree_absent, bare-subtree, put_child_cases, settle, bare_empty, cut-empty, without_absent, held_label, sound_subtree, has_label-replace, subtree-settle_same}
use Rattle.cedar_tree.proofs.OrderLemmas.{front_of_key, node_of_front}
use Rattle.cedar_tree.proofs.WalkLemmas.{filter-map}
use Rattle.cedar_tree.proofs.EntryLemmas.Counts.{length-walk-put, length-walk-cut}

abbrev nodes : Forest → ℕ
nodes none = 0
nodes (child l n below rest) = 1 + nodes below + nodes rest

length-prefixes_forest : (f : Forest) → length (prefixes_forest f) ≡ nodes f
length-prefixes_forest none = refl
length-prefixes_forest (child l n below rest) =
    let first = length-append (map (λ p. l ∷ p) (prefixes_forest below)) (prefixes_forest rest) in
    let mapped = length-map (prefixes_forest below) (λ p. l ∷ p) in
    omega (arith, first, mapped, length-prefixes_forest below, length-prefixes_forest rest)

-- a child that is there, with what is below it
abbrev under_label : Forest → ℕ → ℕ
under_label f l = cond (has_label f l) (1 + nodes (subtree f l).children) 0

nodes-replace : (f : Forest) (l : ℕ) (u : Tree) → nodes (replace f l u) + nodes (subtree f l).children ≡ nodes f + cond (has_label f l) (nodes u.children) 0
nodes-replace none l u = refl
nodes-replace (child m n below rest) l u =
    elim (m == l) as (λ b. nodes (cond b (child m u.number u.children rest) (child m n below (replace rest l u))) + nodes (cond b (record { number = n; children = below }) (subtree rest l)).children ≡ 1 + nodes below + nodes rest + cond (b || has_label rest l) (nodes u.children) 0) [
      | true ↦ omega arith
      | false ↦ let ih = nodes-replace rest l u in omega arith
    ]

nodes-insert : (f : Forest) (l : ℕ) (u : Tree) → nodes (insert_ascending f l u) ≡ nodes f + 1 + nodes u.children
nodes-insert none l u = omega arith
nodes-insert (child m n below rest) l u =
    elim (ltb l m) as (λ b. nodes (cond b (child l u.number u.children (child m n below rest)) (child m n below (insert_ascending rest l u))) ≡ 1 + nodes below + nodes rest + 1 + nodes u.children) [
      | true ↦ omega arith
      | false ↦ let ih = nodes-insert rest l u in omega arith
    ]

nodes-without : (f : Forest) (l : ℕ) → nodes (without f l) + under_label f l ≡ nodes f
nodes-without none l = refl
nodes-without (child m n below rest) l =
    elim (m == l) as (λ b. nodes (cond b rest (child m n below (without rest l))) + cond (b || has_label rest l) (1 + nodes (cond b (record { number = n; children = below }) (subtree rest l)).children) 0 ≡ 1 + nodes below + nodes rest) [
      | true ↦ omega arith
      | false ↦ let ih = nodes-without rest l in omega arith
    ]

nodes-put_child : (ordered : Bool) (f : Forest) (l : ℕ) (u : Tree) → nodes (put_child ordered f l u) + nodes (subtree f l).children ≡ nodes f + cond (has_label f l) 0 1 + nodes u.children
nodes-put_child ordered f l u =
    put_child_cases (λ g. nodes g + nodes (subtree f l).children ≡ nodes f + cond (has_label f l) 0 1 + nodes u.children) ordered f l u
    (λ h. let e = nodes-replace f l u in rw h (let k = rw h at e in omega arith))
    (λ h. rw (subtree_absent f l h, h) (let e = nodes-insert f l u in omega arith))
    (λ h. rw (subtree_absent f l h, h) (omega arith))

nodes-put : (t : Tree) (ordered : Bool) (k : List ℕ) (v : ℤ) → nodes (put t ordered k v).children ≡ nodes t.children + missing_nodes t k
nodes-put t ordered [] v = omega arith
nodes-put t ordered (l ∷ k) v =
    let below = nodes-put (subtree t.children l) ordered k v in
    let level = nodes-put_child ordered t.children l (put (subtree t.children l) ordered k v) in
    omega arith

-- what a cut takes from the siblings, by what it leaves under the label
nodes-settle : (f : Forest) (l : ℕ) (k : List ℕ) → nodes (settle f l (cut (subtree f l) k)) + nodes (subtree f l).children + cond (has_label f l && is_bare (cut (subtree f l) k)) 1 0 ≡ nodes f + nodes (cut (subtree f l) k).children
nodes-settle f l k =
    (elim (has_label f l) as (λ a. has_label f l ≡ a → nodes (settle f l (cut (subtree f l) k)) + nodes (subtree f l).children + cond (a && is_bare (cut (subtree f l) k)) 1 0 ≡ nodes f + nodes (cut (subtree f l) k).children) [
      | true ↦ λ h. (elim (is_bare (cut (subtree f l) k)) as (λ b. is_bare (cut (subtree f l) k) ≡ b → nodes (cond b (without f l) (replace f l (cut (subtree f l) k))) + nodes (subtree f l).children + cond b 1 0 ≡ nodes f + nodes (cut (subtree f l) k).children) [
        | true ↦ λ e. let w = nodes-without f l in let s = rw h at w in rw (bare_empty (cut (subtree f l) k) e) (omega arith)
        | false ↦ λ e. let w = nodes-replace f l (cut (subtree f l) k) in let s = rw h at w in omega arith
      ]) refl
      | false ↦ λ h. rw (subtree_absent f l h, cut-empty k, without_absent f l h) (omega arith)
    ]) refl

nodes-cut : (t : Tree) (k : List ℕ) → nodes (cut t k).children + bare_nodes t k ≡ nodes t.children
nodes-cut t [] = omega arith
nodes-cut t (l ∷ k) =
    let below = nodes-cut (subtree t.children l) k in
    let level = nodes-settle t.children l k in
    omega arith

-- a put adds the nodes of its path that are not there
pub length-prefixes-put : (t : Tree) (ordered : Bool) (k : List ℕ) (v : ℤ) → length (prefixes (put t ordered k v)) ≡ length (prefixes t) + missing_nodes t k
length-prefixes-put t ordered k v =
    length-prefixes_forest (put t ordered k v).children ∙ nodes-put t ordered k v ∙ ap (λ n. n + missing_nodes t k) (sym (length-prefixes_forest t.children))

-- and a cut takes those away that it leaves bare
pub length-prefixes-cut : (t : Tree) (k : List ℕ) → length (prefixes (cut t k)) + bare_nodes t k ≡ length (prefixes t)
length-prefixes-cut t k =
    ap (λ n. n + bare_nodes t k) (length-prefixes_forest (cut t k).children) ∙ nodes-cut t k ∙ sym (length-prefixes_forest t.children)

pub used-put : (t : Tree) (ordered : Bool) (k : List ℕ) (v : ℤ) → slots_of_tree (put t ordered k v) ≡ slots_of_tree t + missing_nodes t k + cond (is_some (number_at t k)) 0 1
used-put t ordered k v = omega (arith, length-prefixes-put t ordered k v, length-walk-put t ordered k v)

pub used-cut : (t : Tree) (k : List ℕ) → slots_of_tree (cut t k) + bare_nodes t k + cond (is_some (number_at t k)) 1 0 ≡ slots_of_tree t
used-cut t k = omega (arith, length-prefixes-cut t k, length-walk-cut t k)

-- a path that is held has each of its nodes
pub missing-held : (t : Tree) (k : List ℕ) (v : ℤ) → number_at t k ≡ Some v → missing_nodes t k ≡ 0
missing-held t [] v h = refl
missing-held t (l ∷ k) v h = let below = missing-held (subtree t.children l) k v h in rw (held_label t.children l k v h) (omega arith)

without_same : (f : Forest) (l : ℕ) → IsSoundBelow f → has_label (without f l) l ≡ false
without_same none l s = refl
without_same (child m n below rest) l s =
    (elim (m == l) as (λ b. (m == l) ≡ b → has_label (cond b rest (child m n below (without rest l))) l ≡ false) [
      | true ↦ λ e. rw (← eqb-true m l e) s.2
      | false ↦ λ e. rw e (without_same rest l s.5)
    ]) refl

-- after a cut the nodes that it left bare are missing too
label-settle : (f : Forest) (l : ℕ) (k : List ℕ) → IsSoundBelow f → cond (has_label (settle f l (cut (subtree f l) k)) l) 0 1 ≡ cond (has_label f l && is_bare (cut (subtree f l) k)) 1 0 + cond (has_label f l) 0 1
label-settle f l k s =
    (elim (has_label f l) as (λ a. has_label f l ≡ a → cond (has_label (settle f l (cut (subtree f l) k)) l) 0 1 ≡ cond (a && is_bare (cut (subtree f l) k)) 1 0 + cond a 0 1) [
      | true ↦ λ h. (elim (is_bare (cut (subtree f l) k)) as (λ b. cond (has_label (cond b (without f l) (replace f l (cut (subtree f l) k))) l) 0 1 ≡ cond b 1 0 + 0) [
        | true ↦ rw (without_same f l s) refl
        | false ↦ rw (has_label-replace f l l (cut (subtree f l) k), h) refl
      ])
      | false ↦ λ h. rw (subtree_absent f l h, cut-empty k, without_absent f l h, h) refl
    ]) refl

pub missing-cut : (t : Tree) (k : List ℕ) → IsSoundBelow t.children → missing_nodes (cut t k) k ≡ bare_nodes t k + missing_nodes t k
missing-cut t [] s = refl
missing-cut t (l ∷ k) s =
    let label = label-settle t.children l k s in
    let below = missing-cut (subtree t.children l) k (sound_subtree t.children l s) in
    rw (subtree-settle_same t.children l k s) (omega arith)

missing_label : (f : Forest) (l : ℕ) → IsSoundBelow f → ◌≡◌ {A = ℕ} (cond (has_label f l) 0 1) (cond (is_bare (subtree f l)) 1 0)
missing_label f l s =
    (elim (has_label f l) as (λ b. has_label f l ≡ b → ◌≡◌ {A = ℕ} (cond b 0 1) (cond (is_bare (subtree f l)) 1 0)) [
      | true ↦ λ h. rw (bare-subtree f l s h) refl
      | false ↦ λ h. rw (subtree_absent f l h) refl
    ]) refl

length-cond : {X : Type 0} (b : Bool) (x : X) (xs : List X) → length (cond b (x ∷ xs) xs) ≡ cond b 1 0 + length xs
length-cond true x xs = omega arith
length-cond false x xs = omega arith

-- the missing nodes of a path are the fronts at which a sound tree has none
pub missing-fronts : (t : Tree) (k : List ℕ) → IsSoundBelow t.children → missing_nodes t k ≡ length (filter (λ p. is_bare (node_at t p)) (fronts k))
missing-fronts t [] s = refl
missing-fronts t (l ∷ k) s =
    let absent : List ℕ → Bool = λ p. is_bare (node_at t p) in
    let longer = ap length (filter-map (λ p. l ∷ p) absent (fronts k)) ∙ length-map (filter (λ p. absent (l ∷ p)) (fronts k)) (λ p. l ∷ p) in
    let first = length-cond (is_bare (subtree t.children l)) (l ∷ []) (filter absent (map (λ p. l ∷ p) (fronts k))) in
    let below = missing-fronts (subtree t.children l) k (sound_subtree t.children l s) in
    let label = missing_label t.children l s in
    omega arith

-- and there is a node just where a key that is held begins with the path
pub front_of_node : (t : Tree) (p : List ℕ) → IsSoundBelow t.children → 0 < length p → is_bare (node_at t p) ≡ false → IsFront t p
front_of_node t p s long h = let key = front_of_key t p s h in (long, key.0, key.1, key.2)

pub node_of_held : (t : Tree) (p : List ℕ) → IsFront t p → is_bare (node_at t p) ≡ false
node_of_held t p front = node_of_front t p front.1 front.2 front.3
