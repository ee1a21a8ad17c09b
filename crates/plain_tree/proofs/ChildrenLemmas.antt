-- What an edit of a list of children does to the siblings that it is.
use Rattle.std.proofs.Common.{◌≡◌, ℕ, suc, zero, ◌+◌, ◌<◌, ◌≤◌, Bool, true, false, cond, not, ◌==◌, ltb, nat_lt, ℤ, List, [], ◌∷◌, ◌++◌, length, set, get_or, Option, Some, None, IsSome, is_some, refl, sym, ap, ◌∙◌, arith, insert, remove, position, one-add}
use Rattle.std.specs.List.{position_or_len}
use Rattle.std.specs.Option.{unwrap_or}
use Rattle.std.proofs.lemmas.Bool.{false≢true, ltb-false, eqb-true, ne_eqb}
use Rattle.std.proofs.lemmas.List.Quantifiers.{position-Some}
use Rattle.cedar_tree.proofs.TreeLemmas.{subtree_absent, number_at-empty, cut-empty, without_absent, settle}
use Rattle.cedar_tree.specs.Tree.{Forest, none, child, Tree, empty_tree, has_label, subtree, number_at, replace, insert_ascending, put_child, put, without, cut, is_bare}
use Rattle.plain_tree.specs.Children.{forest_of, place_of}
use Rattle.cedar_tree.proofs.GeneralLemmas.{position-None}

-- the first child with this label is at this place
abbrev pub IsPlace : List (ℕ × Tree) → ℕ → ℕ → Type 0
IsPlace [] i l = ⊥
IsPlace (c ∷ cs) zero l = (c.0 == l) ≡ true
IsPlace (c ∷ cs) (suc i) l = ((c.0 == l) ≡ false) × IsPlace cs i l

from_facts : (cs : List (ℕ × Tree)) (i l : ℕ) (d : ℕ × Tree) → i < length cs → ((get_or cs i d).0 == l) ≡ true → ((k : ℕ) → k < i → ((get_or cs k d).0 == l) ≡ false) → IsPlace cs i l
from_facts [] i l d h at before = absurd (omega arith)
from_facts (c ∷ cs) zero l d h at before = at
from_facts (c ∷ cs) (suc i) l d h at before = (before 0 (omega arith), from_facts cs i l d (omega arith) at (λ k lt. before (suc k) (omega arith)))

pub place_from : (cs : List (ℕ × Tree)) (i l : ℕ) → position (λ c. c.0 == l) cs ≡ Some i → IsPlace cs i l
place_from [] i l h = absurd (none-some h) where
  none-some : ◌≡◌ {A = Option ℕ} None (Some i) → ⊥
  none-some h = cc
place_from (c ∷ cs) i l h =
    let f = position-Some (λ x. x.0 == l) (c ∷ cs) i c h in from_facts (c ∷ cs) i l c f.0 f.1 f.2

pub subtree_at : (cs : List (ℕ × Tree)) (i l : ℕ) (d : ℕ × Tree) → IsPlace cs i l → subtree (forest_of cs) l ≡ (get_or cs i d).1
subtree_at [] i l d p = absurd p
subtree_at (c ∷ cs) zero l d p = rw p refl
subtree_at (c ∷ cs) (suc i) l d p = rw p.0 (subtree_at cs i l d p.1)

pub has_label_at : (cs : List (ℕ × Tree)) (i l : ℕ) → IsPlace cs i l → has_label (forest_of cs) l ≡ true
has_label_at [] i l p = absurd p
has_label_at (c ∷ cs) zero l p = rw p refl
has_label_at (c ∷ cs) (suc i) l p = rw p.0 (has_label_at cs i l p.1)

place_lt : (cs : List (ℕ × Tree)) (i l : ℕ) → IsPlace cs i l → i < length cs
place_lt [] i l p = absurd p
place_lt (c ∷ cs) zero l p = omega arith
place_lt (c ∷ cs) (suc i) l p = let h = place_lt cs i l p.1 in omega arith

-- the label that is there
pub label_at : (cs : List (ℕ × Tree)) (i l : ℕ) (d : ℕ × Tree) → IsPlace cs i l → (get_or cs i d).0 ≡ l
label_at [] i l d p = absurd p
label_at (c ∷ cs) zero l d p = eqb-true c.0 l p
label_at (c ∷ cs) (suc i) l d p = label_at cs i l d p.1

pub replace_at : (cs : List (ℕ × Tree)) (i l m : ℕ) (u : Tree) → IsPlace cs i l → m ≡ l → forest_of (set cs i (m, u)) ≡ replace (forest_of cs) l u
replace_at [] i l m u p e = absurd p
replace_at (c ∷ cs) zero l m u p e = rw (p, eqb-true c.0 l p, e) refl
replace_at (c ∷ cs) (suc i) l m u p e = rw p.0 (ap (child c.0 c.1.number c.1.children) (replace_at cs i l m u p.1 e))

-- a tree put under a label that is there
pub put_at : (ordered : Bool) (cs : List (ℕ × Tree)) (i l m : ℕ) (u : Tree) → IsPlace cs i l → m ≡ l → forest_of (set cs i (m, u)) ≡ put_child ordered (forest_of cs) l u
put_at ordered cs i l m u p e = rw (has_label_at cs i l p) (replace_at cs i l m u p e)

pub without_at : (cs : List (ℕ × Tree)) (i l : ℕ) → IsPlace cs i l → forest_of (remove cs i) ≡ without (forest_of cs) l
without_at [] i l p = absurd p
without_at (c ∷ cs) zero l p = rw p refl
without_at (c ∷ cs) (suc i) l p = rw p.0 (ap (child c.0 c.1.number c.1.children) (without_at cs i l p.1))

pub remove-set : (cs : List (ℕ × Tree)) (i : ℕ) (c : ℕ × Tree) → remove (set cs i c) i ≡ remove cs i
remove-set [] i c = refl
remove-set (x ∷ cs) zero c = refl
remove-set (x ∷ cs) (suc i) c = ap (λ r. x ∷ r) (remove-set cs i c)

position_or_len_le : {X : Type 0} (p : X → Bool) (xs : List X) → position_or_len p xs ≤ length xs
position_or_len_le p [] = omega arith
position_or_len_le p (x ∷ xs) =
    elim (p x) as (λ t. cond (not t) (1 + position_or_len p xs) 0 ≤ suc (length xs)) [
      | true ↦ omega arith
      | false ↦ let h = position_or_len_le p xs in omega arith
    ]

-- the first place, or the length
pub position-or_length : {X : Type 0} (p : X → Bool) (xs : List X) → unwrap_or (position p xs) (length xs) ≡ position_or_len p xs
position-or_length p xs =
    (elim (ltb (position_or_len p xs) (length xs)) as (λ t. ltb (position_or_len p xs) (length xs) ≡ t → unwrap_or (cond t (Some (position_or_len p xs)) None) (length xs) ≡ position_or_len p xs) [
      | true ↦ λ e. refl
      | false ↦ λ e. let least = ltb-false (position_or_len p xs) (length xs) e in let most = position_or_len_le p xs in omega arith
    ]) refl

absent : (cs : List (ℕ × Tree)) (l : ℕ) → length cs ≤ position_or_len (λ c. c.0 == l) cs → has_label (forest_of cs) l ≡ false
absent [] l h = refl
absent (c ∷ cs) l h =
    (elim (c.0 == l) as (λ b. (c.0 == l) ≡ b → suc (length cs) ≤ cond (not b) (1 + position_or_len (λ c. c.0 == l) cs) 0 → has_label (forest_of (c ∷ cs)) l ≡ false) [
      | true ↦ λ e k. absurd (omega arith)
      | false ↦ λ e k. let room : length cs ≤ position_or_len (λ c. c.0 == l) cs = omega arith in rw e (absent cs l room)
    ]) refl h

-- no child has the label
pub absent_from : (cs : List (ℕ × Tree)) (l : ℕ) → position (λ c. c.0 == l) cs ≡ None → has_label (forest_of cs) l ≡ false
absent_from cs l h = absent cs l (position-None (λ c. c.0 == l) cs h)

insert_at : (cs : List (ℕ × Tree)) (l : ℕ) (u : Tree) → forest_of (insert cs (position_or_len (λ c. nat_lt l c.0) cs) (l, u)) ≡ insert_ascending (forest_of cs) l u
insert_at [] l u = refl
insert_at (c ∷ cs) l u =
    elim (nat_lt l c.0) as (λ t. forest_of (insert (c ∷ cs) (cond (not t) (1 + position_or_len (λ c. nat_lt l c.0) cs) 0) (l, u)) ≡ cond t (child l u.number u.children (forest_of (c ∷ cs))) (child c.0 c.1.number c.1.children (insert_ascending (forest_of cs) l u))) [
      | true ↦ refl
      | false ↦ rw one-add (ap (child c.0 c.1.number c.1.children) (insert_at cs l u))
    ]

-- a tree put under a new label
pub put_new : (ordered : Bool) (cs : List (ℕ × Tree)) (l : ℕ) (u : Tree) → has_label (forest_of cs) l ≡ false → forest_of (insert cs (place_of ordered cs l) (l, u)) ≡ put_child ordered (forest_of cs) l u
put_new true cs l u h = rw h (insert_at cs l u)
put_new false cs l u h = rw h (insert_first cs (l, u)) where
  insert_first : (xs : List (ℕ × Tree)) (x : ℕ × Tree) → forest_of (insert xs 0 x) ≡ forest_of (x ∷ xs)
  insert_first [] x = refl
  insert_first (y ∷ ys) x = refl

-- the place of a new label is at most the length
pub place_le : (ordered : Bool) (cs : List (ℕ × Tree)) (l : ℕ) → place_of ordered cs l ≤ length cs
place_le true cs l = position_or_len_le (λ c. nat_lt l c.0) cs
place_le false cs l = omega arith

-- a path put into the empty tree is one chain of nodes, whatever the order
pub put-empty : (ordered : Bool) (path : List ℕ) (v : ℤ) → put empty_tree ordered path v ≡ put empty_tree true path v
put-empty ordered [] v = refl
put-empty true (l ∷ path) v = refl
put-empty false (l ∷ path) v =
    ap (λ (t : Tree). record { number = None; children = child l t.number t.children none }) (put-empty false path v)

-- what is held at a path that begins with the label of a child
pub number_at_child : (n : Option ℤ) (cs : List (ℕ × Tree)) (i l : ℕ) (rest : List ℕ) (d : ℕ × Tree) → IsPlace cs i l → number_at (record { number = n; children = forest_of cs }) (l ∷ rest) ≡ number_at (get_or cs i d).1 rest
number_at_child n cs i l rest d p = ap (λ t. number_at t rest) (subtree_at cs i l d p)

-- and nothing at one that begins with no child's label
pub number_at_none : (n : Option ℤ) (cs : List (ℕ × Tree)) (l : ℕ) (rest : List ℕ) → has_label (forest_of cs) l ≡ false → number_at (record { number = n; children = forest_of cs }) (l ∷ rest) ≡ None
number_at_none n cs l rest h = ap (λ t. number_at t rest) (subtree_absent (forest_of cs) l h) ∙ number_at-empty rest

-- a cut at a path that begins with no child's label changes nothing
pub cut_none : (cs : List (ℕ × Tree)) (l : ℕ) (rest : List ℕ) → has_label (forest_of cs) l ≡ false → settle (forest_of cs) l (cut (subtree (forest_of cs) l) rest) ≡ forest_of cs
cut_none cs l rest h =
    ap (settle (forest_of cs) l) (ap (λ t. cut t rest) (subtree_absent (forest_of cs) l h) ∙ cut-empty rest) ∙ without_absent (forest_of cs) l h

-- a cut below a child that is bare afterwards, and below one that is not
pub cut_bare : (cs : List (ℕ × Tree)) (i l m : ℕ) (rest : List ℕ) (d : ℕ × Tree) (u : Tree) → IsPlace cs i l → u ≡ cut (get_or cs i d).1 rest → is_bare u ≡ true → forest_of (remove (set cs i (m, u)) i) ≡ settle (forest_of cs) l (cut (subtree (forest_of cs) l) rest)
cut_bare cs i l m rest d u p e b =
    ap forest_of (remove-set cs i (m, u)) ∙ without_at cs i l p
    ∙ sym (ap (settle (forest_of cs) l) (ap (λ t. cut t rest) (subtree_at cs i l d p) ∙ sym e) ∙ rw b refl)

pub cut_kept : (cs : List (ℕ × Tree)) (i l m : ℕ) (rest : List ℕ) (d : ℕ × Tree) (u : Tree) → IsPlace cs i l → m ≡ l → u ≡ cut (get_or cs i d).1 rest → is_bare u ≡ false → forest_of (set cs i (m, u)) ≡ settle (forest_of cs) l (cut (subtree (forest_of cs) l) rest)
cut_kept cs i l m rest d u p el e b =
    replace_at cs i l m u p el
    ∙ sym (ap (settle (forest_of cs) l) (ap (λ t. cut t rest) (subtree_at cs i l d p) ∙ sym e) ∙ rw b refl)

childless : (cs : List (ℕ × Tree)) → forest_of cs ≡ none → cs ≡ []
childless [] h = refl
childless (c ∷ cs) h = absurd (child-none c.0 c.1.number c.1.children (forest_of cs) h) where
  child-none : (l : ℕ) (n : Option ℤ) (below rest : Forest) → child l n below rest ≡ none → ⊥
  child-none l n below rest h = cc

-- nothing is held where the number is none
pub not_held : (o : Option ℤ) → o ≡ None → IsSome o → ⊥
not_held None e h = false≢true h
not_held (Some v) e h = absurd (some-none v e) where
  some-none : (v : ℤ) → ◌≡◌ {A = Option ℤ} (Some v) None → ⊥
  some-none v h = cc

-- whether a node with number n and children cs is bare
pub is_bare_seen : (m : ℕ) (n : Option ℤ) (cs : List (ℕ × Tree)) (node : ℕ × Tree) → ◌≡◌ {A = ℕ × Tree} (m, record { number = n; children = forest_of cs }) node
    → is_some n ≡ false → (len : ℕ) → len ≡ length cs → (len == 0) ≡ is_bare node.1
is_bare_seen m n [] node seen h len e = rw (← seen, h, e) refl
is_bare_seen m n (c ∷ cs) node seen h len e = rw (← seen, h, e) (ne_eqb (suc (length cs)) 0 (λ z. absurd (omega arith)))

abbrev numbered : ℤ → ℕ × Tree → ℕ × Tree
numbered v c = (c.0, record { number = Some v; children = c.1.children })

pub empty_path : (path : List ℕ) → length path ≡ 0 → path ≡ []
empty_path [] h = refl
empty_path (b ∷ path) h = absurd (omega arith)

-- a fresh node that gets the number of the whole path
pub branch-end : (m : ℕ) (n : Option ℤ) (cs : List (ℕ × Tree)) (l : ℕ) → ◌≡◌ {A = ℕ × Tree} (m, record { number = n; children = forest_of cs }) (l, empty_tree)
    → (path : List ℕ) → path ≡ [] → (v : ℤ) → ◌≡◌ {A = ℕ × Tree} (m, record { number = Some v; children = forest_of cs }) (l, put empty_tree true path v)
branch-end m n cs l seen path e v = rw e (ap (numbered v) seen)

-- what a call of position returns for a node's items, which were passed as a slice
pub position_in : (l : ℕ) {slice cs : List (ℕ × Tree)} {r o : Option ℕ} → slice ≡ cs → r ≡ position (λ c. c.0 == l) slice → r ≡ o → position (λ c. c.0 == l) cs ≡ o
position_in l whole call is = ap (position (λ (c : ℕ × Tree). c.0 == l)) (sym whole) ∙ sym call ∙ is

-- a node with number n and children cs, and a path that begins with l
module _ (m : ℕ) (n : Option ℤ) (cs : List (ℕ × Tree)) (node : ℕ × Tree) (seen : ◌≡◌ {A = ℕ × Tree} (m, record { number = n; children = forest_of cs }) node)
    (path : List ℕ) (l : ℕ) (rest : List ℕ) (split : path ≡ l ∷ rest) where
  pub number_at-absent : position (λ c. c.0 == l) cs ≡ None → number_at node.1 path ≡ None
  number_at-absent h = rw (← seen, split) (number_at_none n cs l rest (absent_from cs l h))

  pub cut-absent : position (λ c. c.0 == l) cs ≡ None → node ≡ (node.0, cut node.1 path)
  cut-absent h = rw (← seen, split) (ap (λ (f : Forest). (m, record { number = n; children = f })) (sym (cut_none cs l rest (absent_from cs l h))))

  pub put-absent : (ordered : Bool) (v : ℤ) → position (λ c. c.0 == l) cs ≡ None
      → ◌≡◌ {A = ℕ × Tree} (m, record { number = n; children = forest_of (insert cs (place_of ordered cs l) (l, put empty_tree ordered rest v)) }) (node.0, put node.1 ordered path v)
  put-absent ordered v h =
      let none : has_label (forest_of cs) l ≡ false = absent_from cs l h in
      rw (← seen, split) (ap (λ (f : Forest). (m, record { number = n; children = f }))
      (put_new ordered cs l (put empty_tree ordered rest v) none
      ∙ ap (λ (t : Tree). put_child ordered (forest_of cs) l (put t ordered rest v)) (sym (subtree_absent (forest_of cs) l none))))

  pub put-inserted : (ordered : Bool) (v : ℤ) → position (λ c. c.0 == l) cs ≡ None
      → (at : ℕ) → at ≡ place_of ordered cs l
      → (fresh : ℕ × Tree) → fresh ≡ (l, put empty_tree true rest v)
      → (items : List (ℕ × Tree)) → items ≡ insert cs at fresh
      → ◌≡◌ {A = ℕ × Tree} (m, record { number = n; children = forest_of items }) (node.0, put node.1 ordered path v)
  put-inserted ordered v h at a fresh b items e =
      rw (e, b ∙ ap (λ (t : Tree). (l, t)) (sym (put-empty ordered rest v)), a) (put-absent ordered v h)

  -- a fresh node, with one child that leads on along the path
  pub branch-pushed : (v : ℤ)
      → (below : ℕ × Tree) → below ≡ (l, put empty_tree true rest v)
      → (items : List (ℕ × Tree)) → items ≡ cs ++ below ∷ []
      → node.1 ≡ empty_tree
      → ◌≡◌ {A = ℕ × Tree} (m, record { number = n; children = forest_of items }) (node.0, put empty_tree true path v)
  branch-pushed v below b items e fresh =
      let bare : ◌≡◌ {A = Tree} (record { number = n; children = forest_of cs }) empty_tree = ap (λ (c : ℕ × Tree). c.1) seen ∙ fresh in
      let label : m ≡ node.0 = ap (λ (c : ℕ × Tree). c.0) seen in
      let leaf : cs ≡ [] = childless cs (ap (λ (t : Tree). t.children) bare) in
      let number : n ≡ None = ap (λ (t : Tree). t.number) bare in
      rw (split, e, leaf, b, number, label) refl

  module _ (i : ℕ) (at : position (λ c. c.0 == l) cs ≡ Some i) (child : ℕ × Tree) (is : child ≡ get_or cs i child) where
    pub number_at-found : number_at node.1 path ≡ number_at child.1 rest
    number_at-found = rw (← seen, split) (number_at_child n cs i l rest child (place_from cs i l at) ∙ ap (λ (c : ℕ × Tree). number_at c.1 rest) (sym is))

    pub found_within : i < length cs
    found_within = place_lt cs i l (place_from cs i l at)

    the_label : child.0 ≡ l
    the_label = ap (λ (c : ℕ × Tree). c.0) is ∙ label_at cs i l child (place_from cs i l at)

    pub put-found : (ordered : Bool) (v : ℤ) (new : ℕ × Tree) → new ≡ (child.0, put child.1 ordered rest v)
        → ◌≡◌ {A = ℕ × Tree} (m, record { number = n; children = forest_of (set cs i new) }) (node.0, put node.1 ordered path v)
    put-found ordered v new e =
        rw (← seen, split) (ap (λ (f : Forest). (m, record { number = n; children = f }))
        (ap (λ c. forest_of (set cs i c)) e
        ∙ put_at ordered cs i l child.0 (put child.1 ordered rest v) (place_from cs i l at) the_label
        ∙ ap (λ (t : Tree). put_child ordered (forest_of cs) l (put t ordered rest v)) (ap (λ (c : ℕ × Tree). c.1) is ∙ sym (subtree_at cs i l child (place_from cs i l at)))))

    pub cut-bare : (new : ℕ × Tree) → new ≡ (child.0, cut child.1 rest) → is_bare new.1 ≡ true
        → ◌≡◌ {A = ℕ × Tree} (m, record { number = n; children = forest_of (remove (set cs i new) i) }) (node.0, cut node.1 path)
    cut-bare new e b =
        rw (← seen, split) (ap (λ (f : Forest). (m, record { number = n; children = f }))
        (cut_bare cs i l new.0 rest child new.1 (place_from cs i l at) (ap (λ (c : ℕ × Tree). c.1) e ∙ ap (λ (c : ℕ × Tree). cut c.1 rest) is) b))

    pub cut-removed : (new : ℕ × Tree) → new ≡ (child.0, cut child.1 rest) → is_bare new.1 ≡ true
        → (items : List (ℕ × Tree)) → items ≡ remove (set cs i new) i
        → ◌≡◌ {A = ℕ × Tree} (m, record { number = n; children = forest_of items }) (node.0, cut node.1 path)
    cut-removed new e b items r = rw r (cut-bare new e b)

    pub cut-kept : (new : ℕ × Tree) → new ≡ (child.0, cut child.1 rest) → is_bare new.1 ≡ false
        → ◌≡◌ {A = ℕ × Tree} (m, record { number = n; children = forest_of (set cs i new) }) (node.0, cut node.1 path)
    cut-kept new e b =
        rw (← seen, split) (ap (λ (f : Forest). (m, record { number = n; children = f }))
        (cut_kept cs i l new.0 rest child new.1 (place_from cs i l at) (ap (λ (c : ℕ × Tree). c.0) e ∙ the_label) (ap (λ (c : ℕ × Tree). c.1) e ∙ ap (λ (c : ℕ × Tree). cut c.1 rest) is) b))
