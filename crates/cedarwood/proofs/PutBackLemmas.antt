-- The entries of a tree, put from the last one to the first into an empty one, make it again.
use Rattle.std.proofs.Common.{◌≡◌, ◌∙◌, ◌++◌, ℕ, Bool, true, false, ℤ, List, [], ◌∷◌, map, Option, Some, None, ap, refl}
use Rattle.std.proofs.lemmas.Bool.{true≢false, lt-ltb}
use Rattle.cedar_tree.specs.Tree.{Forest, none, child, Tree, AllAbove, empty_tree, has_label, insert_ascending, is_bare, IsAscending, IsSoundBelow, put, put_child}
use Rattle.cedar_tree.specs.Queries.{Entry, own_entry, under, walk, walk_forest}
use Rattle.cedar_tree.proofs.TreeLemmas.{put_child-put_child, subtree-put_same, subtree_absent}
use Rattle.cedar_model.specs.Edit.Steps.{root_of}
use Rattle.cedarwood.specs.Shrinking.{put_back}

put_back-append : (o : Bool) (t : Tree) (xs ys : List Entry) → put_back o t (xs ++ ys) ≡ put_back o (put_back o t ys) xs
put_back-append o t [] ys = refl
put_back-append o t (x ∷ xs) ys = ap (λ (u : Tree). put u o x.0 x.1) (put_back-append o t xs ys)

-- entries under a label that is new make a child of it
under_label : (o : Bool) (g : Forest) (l : ℕ) → has_label g l ≡ false → (e : Entry) (es : List Entry)
    → put_back o (root_of g) (map (under l) (e ∷ es)) ≡ root_of (put_child o g l (put_back o empty_tree (e ∷ es)))
under_label o g l new e [] = ap (λ (u : Tree). root_of (put_child o g l (put u o e.0 e.1))) (subtree_absent g l new)
under_label o g l new e (d ∷ es) =
    let u : Tree = put_back o empty_tree (d ∷ es) in
    ap (λ (t : Tree). put t o (l ∷ e.0) e.1) (under_label o g l new d es)
    ∙ ap (λ (x : Tree). root_of (put_child o (put_child o g l u) l (put x o e.0 e.1))) (subtree-put_same o g l u)
    ∙ ap root_of (put_child-put_child o g l u (put u o e.0 e.1))

-- there are some where that child isn't bare
under_all : (o : Bool) (g : Forest) (l : ℕ) → has_label g l ≡ false → (es : List Entry) (u : Tree) → put_back o empty_tree es ≡ u → is_bare u ≡ false
    → put_back o (root_of g) (map (under l) es) ≡ root_of (put_child o g l u)
under_all o g l new [] u is bare = absurd (true≢false (ap is_bare is ∙ bare))
under_all o g l new (e ∷ es) u is bare = under_label o g l new e es ∙ ap (λ (x : Tree). root_of (put_child o g l x)) is

insert_first : (l : ℕ) (u : Tree) (g : Forest) → AllAbove l g → insert_ascending g l u ≡ child l u.number u.children g
insert_first l u none above = refl
insert_first l u (child m n below rest) above = rw (lt-ltb l m above.0) refl

-- a new child goes before the others, where order is kept since its label is the least
goes_first : (o : Bool) (l : ℕ) (u : Tree) (g : Forest) → has_label g l ≡ false → (o ≡ true → AllAbove l g) → put_child o g l u ≡ child l u.number u.children g
goes_first true l u g new above = rw new (insert_first l u g (above refl))
goes_first false l u g new above = rw new refl

with_own : (o : Bool) (n : Option ℤ) (below : Forest) → put_back o empty_tree (walk_forest below) ≡ root_of below
    → put_back o empty_tree (own_entry n ++ walk_forest below) ≡ record { number = n; children = below }
with_own o None below made = made
with_own o (Some v) below made = ap (λ (t : Tree). put t o [] v) made

made_again : (o : Bool) (f : Forest) → IsSoundBelow f → (o ≡ true → IsAscending f) → put_back o empty_tree (walk_forest f) ≡ root_of f
made_again o none s a = refl
made_again o (child l n below rest) s a =
    let es : List Entry = own_entry n ++ walk_forest below in
    let u : Tree = record { number = n; children = below } in
    let below_made : put_back o empty_tree (walk_forest below) ≡ root_of below = made_again o below s.4 (λ e. (a e).1) in
    let rest_made : put_back o empty_tree (walk_forest rest) ≡ root_of rest = made_again o rest s.5 (λ e. (a e).2) in
    put_back-append o empty_tree (map (under l) es) (walk_forest rest)
    ∙ ap (λ (t : Tree). put_back o t (map (under l) es)) rest_made
    ∙ under_all o rest l s.2 es u (with_own o n below below_made) s.3
    ∙ ap root_of (goes_first o l u rest s.2 (λ e. (a e).0))

-- whatever the order of its labels is where new ones go before the others, and where they ascend
pub walk_put_back : (o : Bool) (t : Tree) → IsSoundBelow t.children → (o ≡ true → IsAscending t.children) → put_back o empty_tree (walk t) ≡ t
walk_put_back o t s a = with_own o t.number t.children (made_again o t.children s a)
