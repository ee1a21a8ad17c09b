-- A tree that has grown by a bare leaf at the end of a path: what it has there, and how it is taken back.
use Rattle.std.proofs.Common.{◌≡◌, ℕ, Bool, true, false, ◌==◌, ℤ, List, [], ◌∷◌, ◌++◌, Option, refl, sym, ap, subst, ◌∙◌, eq-eqb}
use Rattle.std.proofs.lemmas.Bool.{eqb-true}
use Rattle.cedar_tree.specs.Tree.{Forest, Tree, empty_tree, has_label, subtree, replace, put_child, is_bare, without, cut, number_at, IsSoundBelow, IsAscending}
use Rattle.cedar_tree.specs.Queries.{node_at}
use Rattle.cedar_tree.specs.Edits.{add_leaf, HasPath, with_leaf}
use Rattle.cedar_tree.proofs.TreeLemmas.{bare_empty, cut-empty, cut_not_held, has_label-put_child, has_label-replace, settle, subtree-put_other, subtree-put_same, subtree-replace_other, subtree-replace_same, subtree_absent, without-insert, without_absent}
use Rattle.cedar_tree.proofs.OrderLemmas.{ascending-insert, ascending-replace, ascending_subtree, number_of_node}
use Rattle.cedar_tree.proofs.EntryLemmas.Steps.{bare_cut, changed, cut_below, edit_is_replace, leaf_is_put, same_number}

-- a leaf at the end of a longer path is in the tree of the path's first label
pub leaf_below : (t : Tree) (ordered : Bool) (m : ℕ) (w : List ℕ) (l : ℕ) → with_leaf t ordered (m ∷ w) l ≡ record { number = t.number; children = replace t.children m (with_leaf (subtree t.children m) ordered w l) }
leaf_below t ordered m w l =
    let f : Forest = t.children in
    let x : Tree = with_leaf (subtree f m) ordered w l in
    let number : changed w (λ n. n) (add_leaf ordered l) (subtree f m) ≡ x = ap (λ (n : Option ℤ). record { number = n; children = x.children }) (same_number w (subtree f m).number) in
    ap (λ (g : Forest). record { number = t.number; children = g }) (edit_is_replace m w (λ n. n) (add_leaf ordered l) f ∙ ap (replace f m) number)

pub leaf_here : (t : Tree) (ordered : Bool) (l : ℕ) → has_label t.children l ≡ false → with_leaf t ordered [] l ≡ record { number = t.number; children = put_child ordered t.children l empty_tree }
leaf_here t ordered l new = ap (λ (g : Forest). record { number = t.number; children = g }) (leaf_is_put ordered l t.children new)

-- the leaf is there ..
pub path_of_leaf : (t : Tree) (ordered : Bool) (w : List ℕ) (l : ℕ) → HasPath t w → has_label (node_at t w).children l ≡ false → HasPath (with_leaf t ordered w l) (w ++ l ∷ [])
path_of_leaf t ordered [] l there new = (ap (λ (g : Forest). has_label g l) (leaf_is_put ordered l t.children new) ∙ has_label-put_child ordered t.children l empty_tree, tt)
path_of_leaf t ordered (m ∷ w) l there new =
    let f : Forest = t.children in
    let x : Tree = with_leaf (subtree f m) ordered w l in
    let below : HasPath x (w ++ l ∷ []) = path_of_leaf (subtree f m) ordered w l there.1 new in
    let same : subtree (replace f m x) m ≡ x = subtree-replace_same f m x there.0 in
    let grown : HasPath (record { number = t.number; children = replace f m x }) (m ∷ (w ++ l ∷ [])) = (has_label-replace f m m x ∙ there.0, rw same below) in
    subst (λ (u : Tree). HasPath u (m ∷ (w ++ l ∷ []))) (sym (leaf_below t ordered m w l)) grown

-- .. and bare
pub leaf_is_bare : (t : Tree) (ordered : Bool) (w : List ℕ) (l : ℕ) → HasPath t w → has_label (node_at t w).children l ≡ false → node_at (with_leaf t ordered w l) (w ++ l ∷ []) ≡ empty_tree
leaf_is_bare t ordered [] l there new = ap (λ (g : Forest). subtree g l) (leaf_is_put ordered l t.children new) ∙ subtree-put_same ordered t.children l empty_tree
leaf_is_bare t ordered (m ∷ w) l there new =
    let f : Forest = t.children in
    let x : Tree = with_leaf (subtree f m) ordered w l in
    ap (λ (u : Tree). node_at u (m ∷ (w ++ l ∷ []))) (leaf_below t ordered m w l)
    ∙ ap (λ (u : Tree). node_at u (w ++ l ∷ [])) (subtree-replace_same f m x there.0)
    ∙ leaf_is_bare (subtree f m) ordered w l there.1 new

-- no number comes with it
pub number_at-with_leaf : (t : Tree) (ordered : Bool) (w : List ℕ) (l : ℕ) (q : List ℕ) → HasPath t w → has_label (node_at t w).children l ≡ false → number_at (with_leaf t ordered w l) q ≡ number_at t q
number_at-with_leaf t ordered [] l [] there new = refl
number_at-with_leaf t ordered [] l (m ∷ q) there new =
    let f : Forest = t.children in
    ap (λ (u : Tree). number_at u (m ∷ q)) (leaf_here t ordered l new)
    ∙ (elim (l == m) as (λ b. (l == m) ≡ b → number_at (subtree (put_child ordered f l empty_tree) m) q ≡ number_at (subtree f m) q) [
      | true ↦ λ e.
          let same : l ≡ m = eqb-true l m e in
          rw (← same) (ap (λ (u : Tree). number_at u q) (subtree-put_same ordered f l empty_tree ∙ sym (subtree_absent f l new)))
      | false ↦ λ e. ap (λ (u : Tree). number_at u q) (subtree-put_other ordered f l m empty_tree e)
    ]) refl
number_at-with_leaf t ordered (m ∷ w) l [] there new = refl
number_at-with_leaf t ordered (m ∷ w) l (j ∷ q) there new =
    let f : Forest = t.children in
    let x : Tree = with_leaf (subtree f m) ordered w l in
    ap (λ (u : Tree). number_at u (j ∷ q)) (leaf_below t ordered m w l)
    ∙ (elim (m == j) as (λ b. (m == j) ≡ b → number_at (subtree (replace f m x) j) q ≡ number_at (subtree f j) q) [
      | true ↦ λ e.
          let same : m ≡ j = eqb-true m j e in
          rw (← same) (ap (λ (u : Tree). number_at u q) (subtree-replace_same f m x there.0) ∙ number_at-with_leaf (subtree f m) ordered w l q there.1 new)
      | false ↦ λ e. ap (λ (u : Tree). number_at u q) (subtree-replace_other f m j x e)
    ]) refl

-- at its ascending place it keeps the labels ascending
pub ascending-with_leaf : (t : Tree) (w : List ℕ) (l : ℕ) → HasPath t w → has_label (node_at t w).children l ≡ false → IsAscending t.children → IsAscending (with_leaf t true w l).children
ascending-with_leaf t [] l there new a = ascending-insert t.children l empty_tree new a tt
ascending-with_leaf t (m ∷ w) l there new a =
    let f : Forest = t.children in
    let x : Tree = with_leaf (subtree f m) true w l in
    let below : IsAscending x.children = ascending-with_leaf (subtree f m) w l there.1 new (ascending_subtree f m a) in
    subst (λ (u : Tree). IsAscending u.children) (sym (leaf_below t true m w l)) (ascending-replace f m x a below)

-- ---- taken back

without-put : (ordered : Bool) (f : Forest) (l : ℕ) → has_label f l ≡ false → without (put_child ordered f l empty_tree) l ≡ f
without-put true f l new = rw new (without-insert f l empty_tree new)
without-put false f l new = rw (new, eq-eqb l l refl) refl

settled_leaf : (ordered : Bool) (f : Forest) (l : ℕ) (rest : List ℕ) → has_label f l ≡ false → settle (put_child ordered f l empty_tree) l (cut (subtree (put_child ordered f l empty_tree) l) rest) ≡ settle f l (cut (subtree f l) rest)
settled_leaf ordered f l rest new =
    let g : Forest = put_child ordered f l empty_tree in
    let grown : cut (subtree g l) rest ≡ empty_tree = ap (λ (u : Tree). cut u rest) (subtree-put_same ordered f l empty_tree) ∙ cut-empty rest in
    let was : cut (subtree f l) rest ≡ empty_tree = ap (λ (u : Tree). cut u rest) (subtree_absent f l new) ∙ cut-empty rest in
    ap (settle g l) grown ∙ without-put ordered f l new ∙ sym (without_absent f l new) ∙ sym (ap (settle f l) was)

-- a cut forgets the leaf
pub cut-with_leaf : (t : Tree) (ordered : Bool) (w : List ℕ) (l : ℕ) (rest : List ℕ) → HasPath t w → has_label (node_at t w).children l ≡ false → cut (with_leaf t ordered w l) (w ++ l ∷ rest) ≡ cut t (w ++ l ∷ rest)
cut-with_leaf t ordered [] l rest there new =
    ap (λ (u : Tree). cut u (l ∷ rest)) (leaf_here t ordered l new)
    ∙ ap (λ (g : Forest). record { number = t.number; children = g }) (settled_leaf ordered t.children l rest new)
cut-with_leaf t ordered (m ∷ w) l rest there new =
    let f : Forest = t.children in
    let x : Tree = with_leaf (subtree f m) ordered w l in
    ap (λ (u : Tree). cut u (m ∷ (w ++ l ∷ rest))) (leaf_below t ordered m w l)
    ∙ cut_below t.number f m x (w ++ l ∷ rest) (cut-with_leaf (subtree f m) ordered w l rest there.1 new)

-- a cut beyond a bare node is a cut of that node
pub cut_past_bare : (t : Tree) (w rest : List ℕ) → is_bare (node_at t w) ≡ true → cut t (w ++ rest) ≡ cut t w
cut_past_bare t [] rest bare = bare_cut t rest bare ∙ sym (bare_cut t [] bare)
cut_past_bare t (m ∷ w) rest bare =
    ap (λ (g : Forest). record { number = t.number; children = g }) (ap (settle t.children m) (cut_past_bare (subtree t.children m) w rest bare))

-- where a sound tree has no node, or a bare root, a cut changes nothing
pub cut_at_bare : (t : Tree) (w : List ℕ) → IsSoundBelow t.children → is_bare (node_at t w) ≡ true → cut t w ≡ t
cut_at_bare t w s bare = cut_not_held t w s (number_of_node t w ∙ ap (λ (u : Tree). u.number) (bare_empty (node_at t w) bare))

pub bare_lacks : (t : Tree) (l : ℕ) → is_bare t ≡ true → has_label t.children l ≡ false
bare_lacks t l bare = ap (λ (u : Tree). has_label u.children l) (bare_empty t bare)
