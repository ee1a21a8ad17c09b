-- A put and a cut as changes of one node after another.
use Rattle.std.proofs.Common.{◌≡◌, ℕ, Bool, true, false, cond, ◌==◌, ℤ, List, [], ◌∷◌, ◌++◌, Option, Some, None, refl, sym, ap, ◌∙◌, inl, inr, ◌⊎◌}
use Rattle.std.proofs.lemmas.Bool.{or_parts}
use Rattle.cedar_tree.specs.Tree.{Forest, none, child, Tree, empty_tree, has_label, subtree, replace, put_child, put, is_bare, without, cut}
use Rattle.cedar_tree.specs.Queries.{node_at}
use Rattle.cedar_tree.specs.Edits.{number_on, edit_at, add_leaf, HasPath, with_leaf, without_leaf, with_number, without_number}
use Rattle.cedar_tree.proofs.TreeLemmas.{bare_empty, cut-empty, put_child-put_child, replace-subtree, settle, subtree-put_same, subtree-replace_same, subtree_absent, without_absent}
use Rattle.cedar_tree.proofs.EntryLemmas.Changes.{settle-replace}

-- the node under a label after a change at the end of a path below it
abbrev pub changed : List ℕ → (Option ℤ → Option ℤ) → (Forest → Forest) → Tree → Tree
changed path number children t = record { number = number_on path number t.number; children = edit_at path number children t.children }

pub edit_is_replace : (l : ℕ) (path : List ℕ) (number : Option ℤ → Option ℤ) (children : Forest → Forest) (f : Forest) → edit_at (l ∷ path) number children f ≡ replace f l (changed path number children (subtree f l))
edit_is_replace l path number children none = refl
edit_is_replace l path number children (child m n below rest) =
    elim (m == l) as (λ b. cond b (child m (number_on path number n) (edit_at path number children below) rest) (child m n below (edit_at (l ∷ path) number children rest))
    ≡ cond b (child m (number_on path number (cond b (record { number = n; children = below }) (subtree rest l)).number) (edit_at path number children (cond b (record { number = n; children = below }) (subtree rest l)).children) rest)
    (child m n below (replace rest l (changed path number children (cond b (record { number = n; children = below }) (subtree rest l)))))) [
      | true ↦ refl
      | false ↦ ap (child m n below) (edit_is_replace l path number children rest)
    ]

pub same_number : (path : List ℕ) (n : Option ℤ) → number_on path (λ m. m) n ≡ n
same_number [] n = refl
same_number (l ∷ path) n = refl

replace_absent : (f : Forest) (l : ℕ) (u : Tree) → has_label f l ≡ false → replace f l u ≡ f
replace_absent none l u h = refl
replace_absent (child m n below rest) l u h =
    let parts = or_parts (m == l) (has_label rest l) h in
    rw parts.0 (ap (child m n below) (replace_absent rest l u parts.1))

-- ---- a put

pub leaf_is_put : (ordered : Bool) (l : ℕ) (f : Forest) → has_label f l ≡ false → add_leaf ordered l f ≡ put_child ordered f l empty_tree
leaf_is_put ordered l f h = rw h refl

there_is_put : (ordered : Bool) (l : ℕ) (f : Forest) (u : Tree) → has_label f l ≡ true → replace f l u ≡ put_child ordered f l u
there_is_put ordered l f u h = rw h refl

-- a put below a label that was put there before
put_below : (ordered : Bool) (f : Forest) (l : ℕ) (x : Tree) (path : List ℕ) (v : ℤ) → put (subtree (put_child ordered f l x) l) ordered path v ≡ put (subtree f l) ordered path v
    → put_child ordered (put_child ordered f l x) l (put (subtree (put_child ordered f l x) l) ordered path v) ≡ put_child ordered f l (put (subtree f l) ordered path v)
put_below ordered f l x path v same =
    put_child-put_child ordered f l x (put (subtree (put_child ordered f l x) l) ordered path v) ∙ ap (put_child ordered f l) same

pub put-with_leaf : (t : Tree) (ordered : Bool) (w : List ℕ) (l : ℕ) (rest : List ℕ) (v : ℤ) → HasPath t w → has_label (node_at t w).children l ≡ false
    → put (with_leaf t ordered w l) ordered (w ++ l ∷ rest) v ≡ put t ordered (w ++ l ∷ rest) v
put-with_leaf t ordered [] l rest v there new =
    let f : Forest = t.children in
    let same : put (subtree (put_child ordered f l empty_tree) l) ordered rest v ≡ put (subtree f l) ordered rest v =
    ap (λ (x : Tree). put x ordered rest v) (subtree-put_same ordered f l empty_tree ∙ sym (subtree_absent f l new)) in
    ap (λ (g : Forest). record { number = t.number; children = g })
    (ap (λ (g : Forest). put_child ordered g l (put (subtree g l) ordered rest v)) (leaf_is_put ordered l f new) ∙ put_below ordered f l empty_tree rest v same)
put-with_leaf t ordered (m ∷ w) l rest v there new =
    let f : Forest = t.children in
    let x : Tree = with_leaf (subtree f m) ordered w l in
    let number : changed w (λ n. n) (add_leaf ordered l) (subtree f m) ≡ x = ap (λ (n : Option ℤ). record { number = n; children = x.children }) (same_number w (subtree f m).number) in
    let whole : edit_at (m ∷ w) (λ n. n) (add_leaf ordered l) f ≡ put_child ordered f m x =
    edit_is_replace m w (λ n. n) (add_leaf ordered l) f ∙ ap (replace f m) number ∙ there_is_put ordered m f x there.0 in
    let same : put (subtree (put_child ordered f m x) m) ordered (w ++ l ∷ rest) v ≡ put (subtree f m) ordered (w ++ l ∷ rest) v =
    ap (λ (y : Tree). put y ordered (w ++ l ∷ rest) v) (subtree-put_same ordered f m x) ∙ put-with_leaf (subtree f m) ordered w l rest v there.1 new in
    ap (λ (g : Forest). record { number = t.number; children = g })
    (ap (λ (g : Forest). put_child ordered g m (put (subtree g m) ordered (w ++ l ∷ rest) v)) whole ∙ put_below ordered f m x (w ++ l ∷ rest) v same)

-- along a path that is there a put sets the number
put_changed : (t : Tree) (ordered : Bool) (path : List ℕ) (v : ℤ) → HasPath t path → changed path (λ _. Some v) (λ f. f) t ≡ put t ordered path v
put_changed t ordered [] v there = refl
put_changed t ordered (l ∷ path) v there =
    let f : Forest = t.children in
    ap (λ (g : Forest). record { number = t.number; children = g })
    (edit_is_replace l path (λ _. Some v) (λ g. g) f ∙ ap (replace f l) (put_changed (subtree f l) ordered path v there.1) ∙ there_is_put ordered l f (put (subtree f l) ordered path v) there.0)

pub put-with_number : (t : Tree) (ordered : Bool) (l : ℕ) (path : List ℕ) (v : ℤ) → HasPath t (l ∷ path) → put t ordered (l ∷ path) v ≡ with_number t (l ∷ path) v
put-with_number t ordered l path v there = sym (put_changed t ordered (l ∷ path) v there)

-- ---- a cut

-- a cut forgets what a change left of the tree below a label, if the cut below it does
pub cut_below : (n : Option ℤ) (f : Forest) (l : ℕ) (x : Tree) (path : List ℕ) → cut x path ≡ cut (subtree f l) path → cut (record { number = n; children = replace f l x }) (l ∷ path) ≡ cut (record { number = n; children = f }) (l ∷ path)
cut_below n f l x path same =
    (elim (has_label f l) as (λ b. has_label f l ≡ b → cut (record { number = n; children = replace f l x }) (l ∷ path) ≡ cut (record { number = n; children = f }) (l ∷ path)) [
      | true ↦ λ e.
          let inner : cut (subtree (replace f l x) l) path ≡ cut (subtree f l) path = ap (λ (y : Tree). cut y path) (subtree-replace_same f l x e) ∙ same in
          ap (λ (g : Forest). record { number = n; children = g }) (ap (settle (replace f l x) l) inner ∙ settle-replace f l x (cut (subtree f l) path))
      | false ↦ λ e. ap (λ (g : Forest). cut (record { number = n; children = g }) (l ∷ path)) (replace_absent f l x e)
    ]) refl

cut_changed : (t : Tree) (path : List ℕ) → cut (changed path (λ _. None) (λ f. f) t) path ≡ cut t path
cut_changed t [] = refl
cut_changed t (l ∷ path) =
    let f : Forest = t.children in
    ap (λ (g : Forest). cut (record { number = t.number; children = g }) (l ∷ path)) (edit_is_replace l path (λ _. None) (λ g. g) f)
    ∙ cut_below t.number f l (changed path (λ _. None) (λ g. g) (subtree f l)) path (cut_changed (subtree f l) path)

pub cut-without_number : (t : Tree) (l : ℕ) (path : List ℕ) → cut (without_number t (l ∷ path)) (l ∷ path) ≡ cut t (l ∷ path)
cut-without_number t l path = cut_changed t (l ∷ path)

pub bare_cut : (t : Tree) (path : List ℕ) → is_bare t ≡ true → cut t path ≡ empty_tree
bare_cut t path e = ap (λ (y : Tree). cut y path) (bare_empty t e) ∙ cut-empty path

-- a node without a label and without the label's tree
cut_absent : (n : Option ℤ) (f : Forest) (l : ℕ) (path : List ℕ) → has_label f l ≡ false → cut (record { number = n; children = f }) (l ∷ path) ≡ record { number = n; children = f }
cut_absent n f l path h =
    ap (λ (g : Forest). record { number = n; children = g })
    (ap (settle f l) (ap (λ (y : Tree). cut y path) (subtree_absent f l h) ∙ cut-empty path) ∙ without_absent f l h)

pub cut-without_leaf : (t : Tree) (w : List ℕ) (l : ℕ) (rest : List ℕ) → is_bare (subtree (node_at t w).children l) ≡ true → has_label (without (node_at t w).children l) l ≡ false
    → cut (without_leaf t w l) (w ++ l ∷ rest) ≡ cut t (w ++ l ∷ rest)
cut-without_leaf t [] l rest bare once =
    let f : Forest = t.children in
    cut_absent t.number (without f l) l rest once
    ∙ sym (ap (λ (g : Forest). record { number = t.number; children = g }) (ap (settle f l) (bare_cut (subtree f l) rest bare)))
cut-without_leaf t (m ∷ w) l rest bare once =
    let f : Forest = t.children in
    let x : Tree = without_leaf (subtree f m) w l in
    let number : changed w (λ n. n) (λ g. without g l) (subtree f m) ≡ x = ap (λ (n : Option ℤ). record { number = n; children = x.children }) (same_number w (subtree f m).number) in
    ap (λ (g : Forest). cut (record { number = t.number; children = g }) (m ∷ (w ++ l ∷ rest))) (edit_is_replace m w (λ n. n) (λ g. without g l) f ∙ ap (replace f m) number)
    ∙ cut_below t.number f m x (w ++ l ∷ rest) (cut-without_leaf (subtree f m) w l rest bare once)

-- ---- where a cut ends

-- a node that isn't bare, below a label, keeps what is above it from being bare
not_bare_above : (t : Tree) (w : List ℕ) → is_bare (node_at t w) ≡ false → is_bare t ≡ false
not_bare_above t [] h = h
not_bare_above t (m ∷ w) h =
    (elim (is_bare t) as (λ b. is_bare t ≡ b → b ≡ false) [
      | true ↦ λ e.
          let empty : subtree t.children m ≡ empty_tree = ap (λ (y : Tree). subtree y.children m) (bare_empty t e) in
          let below : is_bare (subtree t.children m) ≡ false = not_bare_above (subtree t.children m) w h in
          let no : true ≡ false = sym (ap is_bare empty) ∙ below in cc
      | false ↦ λ _. refl
    ]) refl

settle_same : (f : Forest) (l : ℕ) → is_bare (subtree f l) ≡ false → settle f l (subtree f l) ≡ f
settle_same f l h = rw h (replace-subtree f l)

-- what isn't bare stays: the node at the end of the path once it has no number ..
pub cut_stops_at_end : (t : Tree) (path : List ℕ) → (node_at t path).number ≡ None → is_bare (node_at t path) ≡ false → cut t path ≡ t
cut_stops_at_end t [] none_there h = ap (λ (n : Option ℤ). record { number = n; children = t.children }) (sym none_there)
cut_stops_at_end t (l ∷ path) none_there h =
    let f : Forest = t.children in
    ap (λ (g : Forest). record { number = t.number; children = g })
    (ap (settle f l) (cut_stops_at_end (subtree f l) path none_there h) ∙ settle_same f l (not_bare_above (subtree f l) path h))

-- .. and the node, or the root, that no longer has the next label
pub cut_stops : (t : Tree) (w : List ℕ) (l : ℕ) (rest : List ℕ) → (w ≡ []) ⊎ (is_bare (node_at t w) ≡ false) → has_label (node_at t w).children l ≡ false → cut t (w ++ l ∷ rest) ≡ t
cut_stops t [] l rest stands gone = cut_absent t.number t.children l rest gone
cut_stops t (m ∷ w) l rest (inl e) gone = cc
cut_stops t (m ∷ w) l rest (inr h) gone =
    let f : Forest = t.children in
    ap (λ (g : Forest). record { number = t.number; children = g })
    (ap (settle f m) (cut_stops (subtree f m) w l rest (inr h) gone) ∙ settle_same f m (not_bare_above (subtree f m) w h))
