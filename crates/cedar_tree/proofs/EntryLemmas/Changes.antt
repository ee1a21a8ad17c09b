-- What a put and a cut change of the walk: nothing but the entry at their path.
use Rattle.std.proofs.Common.{◌≡◌, ℕ, Bool, true, false, cond, not, ◌==◌, ℤ, List, [], ◌∷◌, ◌++◌, map, Option, Some, None, refl, sym, ap, ◌∙◌, eq-eqb}
use Rattle.std.specs.List.{filter}
use Rattle.std.proofs.lemmas.Bool.{or_parts, eqb-true}
use Rattle.std.proofs.lemmas.List.Elements.{filter-append}
use Rattle.cedar_tree.specs.Tree.{Forest, none, child, Tree, empty_tree, has_label, subtree, number_at, replace, put_child, put, is_bare, without, cut, IsSoundBelow, IsPath}
use Rattle.cedar_tree.specs.Queries.{Entry, own_entry, under, walk_forest, walk, is_path}
use Rattle.cedar_tree.proofs.TreeLemmas.{settle, bare_empty, held_label, sound_subtree, sound-put, subtree-put_same, replace-replace, cut-put, cut_not_held}
use Rattle.cedar_tree.proofs.WalkLemmas.{filter-map, eqb_turned}
use Rattle.cedar_tree.proofs.PredictLemmas.{filter-every}

-- whether an entry is at another path
abbrev is_other : List ℕ → Entry → Bool
is_other k e = not (is_path k e.0)

-- among siblings without a label, each entry is at another path than one that begins with it
others_stay : (f : Forest) (l : ℕ) (k : List ℕ) → has_label f l ≡ false → filter (is_other (l ∷ k)) (walk_forest f) ≡ walk_forest f
others_stay none l k h = refl
others_stay (child m n below rest) l k h =
    let parts = or_parts (m == l) (has_label rest l) h in
    let apart : (l == m) ≡ false = eqb_turned m l parts.0 in
    let w : List Entry = own_entry n ++ walk_forest below in
    let here : filter (λ e. is_other (l ∷ k) (under m e)) w ≡ w = rw apart (filter-every w) in
    filter-append (is_other (l ∷ k)) (map (under m) w) (walk_forest rest)
    ∙ ap (λ (x : List Entry). x ++ filter (is_other (l ∷ k)) (walk_forest rest)) (filter-map (under m) (is_other (l ∷ k)) w ∙ ap (map (under m)) here)
    ∙ ap (λ (x : List Entry). map (under m) w ++ x) (others_stay rest l k parts.1)

-- a tree that lacks one entry, in the place of that under a label
walk-replace : (f : Forest) (l : ℕ) (k : List ℕ) (u : Tree) → IsSoundBelow f → walk u ≡ filter (is_other k) (walk (subtree f l))
    → walk_forest (replace f l u) ≡ filter (is_other (l ∷ k)) (walk_forest f)
walk-replace none l k u s h = refl
walk-replace (child m n below rest) l k u s h =
    let w : List Entry = own_entry n ++ walk_forest below in
    let parts = filter-append (is_other (l ∷ k)) (map (under m) w) (walk_forest rest) ∙ ap (λ (x : List Entry). x ++ filter (is_other (l ∷ k)) (walk_forest rest)) (filter-map (under m) (is_other (l ∷ k)) w) in
    (elim (m == l) as (λ b. (m == l) ≡ b → walk u ≡ filter (is_other k) (walk (cond b (record { number = n; children = below }) (subtree rest l)))
    → walk_forest (cond b (child m u.number u.children rest) (child m n below (replace rest l u))) ≡ filter (is_other (l ∷ k)) (map (under m) w ++ walk_forest rest)) [
      | true ↦ λ e here.
          let label : m ≡ l = eqb-true m l e in
          let same : (l == m) ≡ true = eq-eqb l m (sym label) in
          let first : filter (λ e. is_other (l ∷ k) (under m e)) w ≡ walk u = rw same (sym here) in
          let later : filter (is_other (l ∷ k)) (walk_forest rest) ≡ walk_forest rest = others_stay rest l k (rw (← label) s.2) in
          sym (parts ∙ (λ i. map (under m) (first i) ++ later i))
      | false ↦ λ e there.
          let apart : (l == m) ≡ false = eqb_turned m l e in
          let first : filter (λ e. is_other (l ∷ k) (under m e)) w ≡ w = rw apart (filter-every w) in
          let later : walk_forest (replace rest l u) ≡ filter (is_other (l ∷ k)) (walk_forest rest) = walk-replace rest l k u s.5 there in
          sym (parts ∙ (λ i. map (under m) (first i) ++ sym later i))
    ]) refl h

-- a bare tree has no entries, so its label may go
walk-without : (f : Forest) (l : ℕ) → walk_forest (without f l) ≡ walk_forest (replace f l empty_tree)
walk-without none l = refl
walk-without (child m n below rest) l =
    elim (m == l) as (λ b. walk_forest (cond b rest (child m n below (without rest l))) ≡ walk_forest (cond b (child m None none rest) (child m n below (replace rest l empty_tree)))) [
      | true ↦ refl
      | false ↦ ap (λ (x : List Entry). map (under m) (own_entry n ++ walk_forest below) ++ x) (walk-without rest l)
    ]

walk-settle : (f : Forest) (l : ℕ) (u : Tree) → walk_forest (settle f l u) ≡ walk_forest (replace f l u)
walk-settle f l u =
    (elim (is_bare u) as (λ b. is_bare u ≡ b → walk_forest (cond b (without f l) (replace f l u)) ≡ walk_forest (replace f l u)) [
      | true ↦ λ e. walk-without f l ∙ ap (λ (v : Tree). walk_forest (replace f l v)) (sym (bare_empty u e))
      | false ↦ λ _. refl
    ]) refl

below_is_other : (f : Forest) → filter (is_other []) (walk_forest f) ≡ walk_forest f
below_is_other none = refl
below_is_other (child m n below rest) =
    let w : List Entry = own_entry n ++ walk_forest below in
    filter-append (is_other []) (map (under m) w) (walk_forest rest)
    ∙ ap (λ (x : List Entry). x ++ filter (is_other []) (walk_forest rest)) (filter-map (under m) (is_other []) w ∙ ap (map (under m)) (filter-every w))
    ∙ ap (λ (x : List Entry). map (under m) w ++ x) (below_is_other rest)

own_goes : (n : Option ℤ) → filter (is_other []) (own_entry n) ≡ []
own_goes None = refl
own_goes (Some v) = refl

own_stays : (l : ℕ) (k : List ℕ) (n : Option ℤ) → filter (is_other (l ∷ k)) (own_entry n) ≡ own_entry n
own_stays l k None = refl
own_stays l k (Some v) = refl

-- a cut takes the entry at its path out of the walk, and moves no other
pub walk-cut : (t : Tree) (k : List ℕ) → IsSoundBelow t.children → walk (cut t k) ≡ filter (λ e. not (is_path k e.0)) (walk t)
walk-cut t [] s =
    sym (filter-append (is_other []) (own_entry t.number) (walk_forest t.children)
    ∙ (λ i. own_goes t.number i ++ below_is_other t.children i))
walk-cut t (l ∷ k) s =
    let inner = walk-cut (subtree t.children l) k (sound_subtree t.children l s) in
    let below = walk-settle t.children l (cut (subtree t.children l) k) ∙ walk-replace t.children l k (cut (subtree t.children l) k) s inner in
    ap (λ (x : List Entry). own_entry t.number ++ x) below
    ∙ sym (filter-append (is_other (l ∷ k)) (own_entry t.number) (walk_forest t.children) ∙ ap (λ (x : List Entry). x ++ filter (is_other (l ∷ k)) (walk_forest t.children)) (own_stays l k t.number))

without-replace : (f : Forest) (l : ℕ) (u : Tree) → without (replace f l u) l ≡ without f l
without-replace none l u = refl
without-replace (child m n below rest) l u =
    (elim (m == l) as (λ b. (m == l) ≡ b → without (cond b (child m u.number u.children rest) (child m n below (replace rest l u))) l ≡ cond b rest (child m n below (without rest l))) [
      | true ↦ λ e. rw e refl
      | false ↦ λ e. rw e (ap (child m n below) (without-replace rest l u))
    ]) refl

pub settle-replace : (f : Forest) (l : ℕ) (u w : Tree) → settle (replace f l u) l w ≡ settle f l w
settle-replace f l u w =
    elim (is_bare w) as (λ b. cond b (without (replace f l u) l) (replace (replace f l u) l w) ≡ cond b (without f l) (replace f l w)) [
      | true ↦ without-replace f l u
      | false ↦ replace-replace f l u w
    ]

-- a cut forgets a put at its path: first where the path was held
cut-put_held : (t : Tree) (ordered : Bool) (k : List ℕ) (v w : ℤ) → number_at t k ≡ Some w → cut (put t ordered k v) k ≡ cut t k
cut-put_held t ordered [] v w h = refl
cut-put_held t ordered (l ∷ k) v w h =
    let u : Tree = put (subtree t.children l) ordered k v in
    let there : put_child ordered t.children l u ≡ replace t.children l u = rw (held_label t.children l k w h) refl in
    let inner : cut (subtree (put_child ordered t.children l u) l) k ≡ cut (subtree t.children l) k =
    ap (λ (x : Tree). cut x k) (subtree-put_same ordered t.children l u) ∙ cut-put_held (subtree t.children l) ordered k v w h in
    ap (λ (f : Forest). record { number = t.number; children = f })
    ((λ i. settle (there i) l (inner i)) ∙ settle-replace t.children l u (cut (subtree t.children l) k))

pub cut-put_any : (t : Tree) (ordered : Bool) (k : List ℕ) (v : ℤ) → IsSoundBelow t.children → cut (put t ordered k v) k ≡ cut t k
cut-put_any t ordered k v s =
    (elim (number_at t k) as (λ o. number_at t k ≡ o → cut (put t ordered k v) k ≡ cut t k) [
      | None ↦ λ e. cut-put t ordered k v s e ∙ sym (cut_not_held t k s e)
      | Some w ↦ λ e. cut-put_held t ordered k v w e
    ]) refl

-- so a put moves no other entry
pub walk-put : (t : Tree) (ordered : Bool) (k : List ℕ) (v : ℤ) → IsPath k → IsSoundBelow t.children
    → filter (λ e. not (is_path k e.0)) (walk (put t ordered k v)) ≡ filter (λ e. not (is_path k e.0)) (walk t)
walk-put t ordered k v p s =
    sym (walk-cut (put t ordered k v) k (sound-put t ordered k v p s)) ∙ ap walk (cut-put_any t ordered k v s) ∙ walk-cut t k s
