-- What holds of a child's tree, of a put and of a cut.
use Rattle.std.proofs.Common.{◌≡◌, ℕ, ◌<◌, Bool, true, false, cond, ◌==◌, ◌||◌, ltb, ℤ, List, [], ◌∷◌, Option, Some, None, IfSome, refl, sym, ap, ◌∙◌, eq-eqb, is_none}
use Rattle.std.proofs.lemmas.Bool.{true≢false, false≢true, or_parts, or_left, and_right, eqb-true, eqb-false, ne_eqb}
use Rattle.cedar_tree.specs.Tree.{Forest, none, child, Tree, empty_tree, has_label, subtree, number_at, replace, insert_ascending, put_child, put, is_leafless, is_bare, without, cut, IsSoundBelow, IsSound, IsPath, IsKey, AllNumbers}

-- a key is a path
pub key_is_path : (key : List ℕ) → IsKey key → IsPath key
key_is_path [] h = absurd h
key_is_path (b ∷ rest) h = h

-- no child of this label: the tree under it is empty
pub subtree_absent : (f : Forest) (l : ℕ) → has_label f l ≡ false → subtree f l ≡ empty_tree
subtree_absent none l h = refl
subtree_absent (child m n below rest) l h =
    let p = or_parts (m == l) (has_label rest l) h in rw p.0 (subtree_absent rest l p.1)

-- the tree under a label that was replaced is the new one
pub subtree-replace_same : (f : Forest) (l : ℕ) (u : Tree) → has_label f l ≡ true → subtree (replace f l u) l ≡ u
subtree-replace_same none l u h = absurd (false≢true h)
subtree-replace_same (child m n below rest) l u h =
    (elim (m == l) as (λ b. (m == l) ≡ b → (b || has_label rest l) ≡ true → subtree (cond b (child m u.number u.children rest) (child m n below (replace rest l u))) l ≡ u) [
      | true ↦ λ e _. rw e refl
      | false ↦ λ e k. rw e (subtree-replace_same rest l u k)
    ]) refl h

-- the tree under another label stays
pub subtree-replace_other : (f : Forest) (l q : ℕ) (u : Tree) → (l == q) ≡ false → subtree (replace f l u) q ≡ subtree f q
subtree-replace_other none l q u h = refl
subtree-replace_other (child m n below rest) l q u h =
    (elim (m == l) as (λ b. (m == l) ≡ b → subtree (cond b (child m u.number u.children rest) (child m n below (replace rest l u))) q ≡ subtree (child m n below rest) q) [
      | true ↦ λ e. let d : (m == q) ≡ false = rw (eqb-true m l e) h in rw d refl
      | false ↦ λ e. ap (λ t. cond (m == q) (record { number = n; children = below }) t) (subtree-replace_other rest l q u h)
    ]) refl

-- the tree under a new label is what was put there
pub subtree-insert_same : (f : Forest) (l : ℕ) (u : Tree) → has_label f l ≡ false → subtree (insert_ascending f l u) l ≡ u
subtree-insert_same none l u h = rw (eq-eqb l l refl) refl
subtree-insert_same (child m n below rest) l u h =
    let p = or_parts (m == l) (has_label rest l) h in
    (elim (ltb l m) as (λ b. subtree (cond b (child l u.number u.children (child m n below rest)) (child m n below (insert_ascending rest l u))) l ≡ u) [
      | true ↦ rw (eq-eqb l l refl) refl
      | false ↦ rw p.0 (subtree-insert_same rest l u p.1)
    ])

-- and the tree under another label stays
pub subtree-insert_other : (f : Forest) (l q : ℕ) (u : Tree) → (l == q) ≡ false → subtree (insert_ascending f l u) q ≡ subtree f q
subtree-insert_other none l q u h = rw h refl
subtree-insert_other (child m n below rest) l q u h =
    (elim (ltb l m) as (λ b. subtree (cond b (child l u.number u.children (child m n below rest)) (child m n below (insert_ascending rest l u))) q ≡ subtree (child m n below rest) q) [
      | true ↦ rw h refl
      | false ↦ ap (λ t. cond (m == q) (record { number = n; children = below }) t) (subtree-insert_other rest l q u h)
    ])

-- what the branches of a put_child have in common
pub put_child_cases : (P : Forest → Type 0) (ordered : Bool) (f : Forest) (l : ℕ) (u : Tree)
    → (has_label f l ≡ true → P (replace f l u))
    → (has_label f l ≡ false → P (insert_ascending f l u))
    → (has_label f l ≡ false → P (child l u.number u.children f))
    → P (put_child ordered f l u)
put_child_cases P ordered f l u held ascending first =
    (elim (has_label f l) as (λ b. has_label f l ≡ b → P (cond b (replace f l u) (cond ordered (insert_ascending f l u) (child l u.number u.children f)))) [
      | true ↦ λ e. held e
      | false ↦ λ e. (elim ordered as (λ o. P (cond o (insert_ascending f l u) (child l u.number u.children f))) [ true ↦ ascending e | false ↦ first e ])
    ]) refl

pub subtree-put_same : (ordered : Bool) (f : Forest) (l : ℕ) (u : Tree) → subtree (put_child ordered f l u) l ≡ u
subtree-put_same ordered f l u =
    put_child_cases (λ g. subtree g l ≡ u) ordered f l u
    (subtree-replace_same f l u) (subtree-insert_same f l u) (λ _. rw (eq-eqb l l refl) refl)

pub subtree-put_other : (ordered : Bool) (f : Forest) (l q : ℕ) (u : Tree) → (l == q) ≡ false → subtree (put_child ordered f l u) q ≡ subtree f q
subtree-put_other ordered f l q u h =
    put_child_cases (λ g. subtree g q ≡ subtree f q) ordered f l u
    (λ _. subtree-replace_other f l q u h) (λ _. subtree-insert_other f l q u h) (λ _. rw h refl)

-- the put number is there
pub number_at-put_same : (t : Tree) (ordered : Bool) (k : List ℕ) (v : ℤ) → number_at (put t ordered k v) k ≡ Some v
number_at-put_same t ordered [] v = refl
number_at-put_same t ordered (l ∷ k) v =
    rw (subtree-put_same ordered t.children l (put (subtree t.children l) ordered k v)) (number_at-put_same (subtree t.children l) ordered k v)

-- without the label that is taken away, where it comes once
pub without-insert : (f : Forest) (l : ℕ) (u : Tree) → has_label f l ≡ false → without (insert_ascending f l u) l ≡ f
without-insert none l u h = rw (eq-eqb l l refl) refl
without-insert (child m n below rest) l u h =
    let p = or_parts (m == l) (has_label rest l) h in
    (elim (ltb l m) as (λ b. without (cond b (child l u.number u.children (child m n below rest)) (child m n below (insert_ascending rest l u))) l ≡ child m n below rest) [
      | true ↦ rw (eq-eqb l l refl) refl
      | false ↦ rw p.0 (ap (child m n below) (without-insert rest l u p.1))
    ])

-- a second tree under a label takes the place of the first
pub replace-replace : (f : Forest) (l : ℕ) (u w : Tree) → replace (replace f l u) l w ≡ replace f l w
replace-replace none l u w = refl
replace-replace (child m n below rest) l u w =
    (elim (m == l) as (λ b. (m == l) ≡ b → replace (cond b (child m u.number u.children rest) (child m n below (replace rest l u))) l w ≡ cond b (child m w.number w.children rest) (child m n below (replace rest l w))) [
      | true ↦ λ e. rw e refl
      | false ↦ λ e. rw e (ap (child m n below) (replace-replace rest l u w))
    ]) refl

-- a child that is put back changes nothing
pub replace-subtree : (f : Forest) (l : ℕ) → replace f l (subtree f l) ≡ f
replace-subtree none l = refl
replace-subtree (child m n below rest) l =
    (elim (m == l) as (λ b. (m == l) ≡ b → cond b (child m (subtree (child m n below rest) l).number (subtree (child m n below rest) l).children rest) (child m n below (replace rest l (subtree (child m n below rest) l))) ≡ child m n below rest) [
      | true ↦ λ e. rw e refl
      | false ↦ λ e. rw e (ap (child m n below) (replace-subtree rest l))
    ]) refl

-- a tree that is bare is the empty one
pub bare_empty : (t : Tree) → is_bare t ≡ true → t ≡ empty_tree
bare_empty t h = bare_parts t.number t.children h where
  bare_parts : (n : Option ℤ) (f : Forest) → is_bare (record { number = n; children = f }) ≡ true → ◌≡◌ {A = Tree} (record { number = n; children = f }) empty_tree
  bare_parts None none h = refl
  bare_parts None (child l n below rest) h = absurd (false≢true h)
  bare_parts (Some v) f h = absurd (false≢true h)

-- under a sound node each tree is sound below
pub sound_subtree : (f : Forest) (l : ℕ) → IsSoundBelow f → IsSoundBelow (subtree f l).children
sound_subtree none l s = tt
sound_subtree (child m n below rest) l s =
    elim (m == l) as (λ b. IsSoundBelow (cond b (record { number = n; children = below }) (subtree rest l)).children) [ true ↦ s.4 | false ↦ sound_subtree rest l s.5 ]

-- a child that is there is not bare
pub bare-subtree : (f : Forest) (l : ℕ) → IsSoundBelow f → has_label f l ≡ true → is_bare (subtree f l) ≡ false
bare-subtree none l s h = absurd (false≢true h)
bare-subtree (child m n below rest) l s h =
    (elim (m == l) as (λ b. (b || has_label rest l) ≡ true → is_bare (cond b (record { number = n; children = below }) (subtree rest l)) ≡ false) [ true ↦ λ _. s.3 | false ↦ λ k. bare-subtree rest l s.5 k ]) h

-- what takes the place of a child with this tree
abbrev pub settle : Forest → ℕ → Tree → Forest
settle f l u = cond (is_bare u) (without f l) (replace f l u)

-- a put child that is taken back leaves the siblings as they were
pub settle-put_child : (ordered : Bool) (f : Forest) (l : ℕ) (u : Tree) → IsSoundBelow f → settle (put_child ordered f l u) l (subtree f l) ≡ f
settle-put_child ordered f l u s =
    put_child_cases (λ g. settle g l (subtree f l) ≡ f) ordered f l u
    (λ h. rw (bare-subtree f l s h) (replace-replace f l u (subtree f l) ∙ replace-subtree f l))
    (λ h. rw (subtree_absent f l h) (without-insert f l u h))
    (λ h. rw (subtree_absent f l h, eq-eqb l l refl) refl)

-- a put of a path that is not held is taken back by a cut
pub cut-put : (t : Tree) (ordered : Bool) (k : List ℕ) (v : ℤ) → IsSoundBelow t.children → number_at t k ≡ None → cut (put t ordered k v) k ≡ t
cut-put t ordered [] v s h = ap (λ n. record { number = n; children = t.children }) (sym h)
cut-put t ordered (l ∷ k) v s h =
    let u : Tree = subtree t.children l in
    let same : cut (subtree (put_child ordered t.children l (put u ordered k v)) l) k ≡ u =
    rw (subtree-put_same ordered t.children l (put u ordered k v)) (cut-put u ordered k v (sound_subtree t.children l s) h) in
    ap (λ f. record { number = t.number; children = f })
    (ap (settle (put_child ordered t.children l (put u ordered k v)) l) same ∙ settle-put_child ordered t.children l (put u ordered k v) s)

-- a put leaves each other path's number
pub number_at-put_other : (t : Tree) (ordered : Bool) (k : List ℕ) (v : ℤ) (q : List ℕ) → (q ≡ k → ⊥) → number_at (put t ordered k v) q ≡ number_at t q
number_at-put_other t ordered [] v [] d = absurd (d refl)
number_at-put_other t ordered [] v (m ∷ q) d = refl
number_at-put_other t ordered (l ∷ k) v [] d = refl
number_at-put_other t ordered (l ∷ k) v (m ∷ q) d =
    (elim (l == m) as (λ b. (l == m) ≡ b → number_at (subtree (put_child ordered t.children l (put (subtree t.children l) ordered k v)) m) q ≡ number_at (subtree t.children m) q) [
      | true ↦ λ e.
          let same : l ≡ m = eqb-true l m e in
          let d' : (q ≡ k → ⊥) = λ h. d (cc) in
          rw (← same) (rw (subtree-put_same ordered t.children l (put (subtree t.children l) ordered k v)) (number_at-put_other (subtree t.children l) ordered k v q d'))
      | false ↦ λ e. ap (λ u. number_at u q) (subtree-put_other ordered t.children l m (put (subtree t.children l) ordered k v) e)
    ]) refl

-- nothing is held below the empty tree
pub number_at-empty : (k : List ℕ) → number_at empty_tree k ≡ None
number_at-empty [] = refl
number_at-empty (l ∷ k) = number_at-empty k

-- a path that is held begins with a label that is there
pub held_label : (f : Forest) (l : ℕ) (k : List ℕ) (v : ℤ) → number_at (subtree f l) k ≡ Some v → has_label f l ≡ true
held_label f l k v h =
    (elim (has_label f l) as (λ b. has_label f l ≡ b → b ≡ true) [
      | true ↦ λ _. refl
      | false ↦ λ e. absurd (none-some (sym (number_at-empty k) ∙ ap (λ u. number_at u k) (sym (subtree_absent f l e)) ∙ h))
    ]) refl where
      none-some : ◌≡◌ {A = Option ℤ} None (Some v) → ⊥
      none-some h = cc

-- a put of what is held changes nothing
pub put_held : (t : Tree) (ordered : Bool) (k : List ℕ) (v : ℤ) → number_at t k ≡ Some v → put t ordered k v ≡ t
put_held t ordered [] v h = ap (λ n. record { number = n; children = t.children }) (sym h)
put_held t ordered (l ∷ k) v h =
    ap (λ f. record { number = t.number; children = f })
    (ap (put_child ordered t.children l) (put_held (subtree t.children l) ordered k v h)
    ∙ rw (held_label t.children l k v h) (replace-subtree t.children l))

-- a label that was put is there
pub has_label-replace : (f : Forest) (l q : ℕ) (u : Tree) → has_label (replace f l u) q ≡ has_label f q
has_label-replace none l q u = refl
has_label-replace (child m n below rest) l q u =
    elim (m == l) as (λ b. has_label (cond b (child m u.number u.children rest) (child m n below (replace rest l u))) q ≡ ((m == q) || has_label rest q)) [
      | true ↦ refl
      | false ↦ ap (λ b. (m == q) || b) (has_label-replace rest l q u)
    ]

pub has_label-insert : (f : Forest) (l q : ℕ) (u : Tree) → has_label (insert_ascending f l u) q ≡ ((l == q) || has_label f q)
has_label-insert none l q u = refl
has_label-insert (child m n below rest) l q u =
    elim (ltb l m) as (λ b. has_label (cond b (child l u.number u.children (child m n below rest)) (child m n below (insert_ascending rest l u))) q ≡ ((l == q) || ((m == q) || has_label rest q))) [
      | true ↦ refl
      | false ↦ ap (λ b. (m == q) || b) (has_label-insert rest l q u) ∙ swap_or (m == q) (l == q) (has_label rest q)
    ] where
      swap_or : (a b c : Bool) → (a || (b || c)) ≡ (b || (a || c))
      swap_or true true c = refl
      swap_or true false c = refl
      swap_or false b c = refl

-- a label that was put is there
pub has_label-put_child : (ordered : Bool) (f : Forest) (l : ℕ) (u : Tree) → has_label (put_child ordered f l u) l ≡ true
has_label-put_child ordered f l u =
    put_child_cases (λ g. has_label g l ≡ true) ordered f l u
    (λ h. has_label-replace f l l u ∙ h)
    (λ h. has_label-insert f l l u ∙ or_left (l == l) (has_label f l) (eq-eqb l l refl))
    (λ h. or_left (l == l) (has_label f l) (eq-eqb l l refl))

pub replace-insert : (f : Forest) (l : ℕ) (u w : Tree) → has_label f l ≡ false → replace (insert_ascending f l u) l w ≡ insert_ascending f l w
replace-insert none l u w h = rw (eq-eqb l l refl) refl
replace-insert (child m n below rest) l u w h =
    let p = or_parts (m == l) (has_label rest l) h in
    elim (ltb l m) as (λ b. replace (cond b (child l u.number u.children (child m n below rest)) (child m n below (insert_ascending rest l u))) l w ≡ cond b (child l w.number w.children (child m n below rest)) (child m n below (insert_ascending rest l w))) [
      | true ↦ rw (eq-eqb l l refl) refl
      | false ↦ rw p.0 (ap (child m n below) (replace-insert rest l u w p.1))
    ]

pub replace-put_child : (ordered : Bool) (f : Forest) (l : ℕ) (u w : Tree) → replace (put_child ordered f l u) l w ≡ put_child ordered f l w
replace-put_child ordered f l u w =
    (elim (has_label f l) as (λ b. has_label f l ≡ b → replace (cond b (replace f l u) (cond ordered (insert_ascending f l u) (child l u.number u.children f))) l w ≡ cond b (replace f l w) (cond ordered (insert_ascending f l w) (child l w.number w.children f))) [
      | true ↦ λ _. replace-replace f l u w
      | false ↦ λ e. (elim ordered as (λ o. replace (cond o (insert_ascending f l u) (child l u.number u.children f)) l w ≡ cond o (insert_ascending f l w) (child l w.number w.children f)) [ true ↦ replace-insert f l u w e | false ↦ rw (eq-eqb l l refl) refl ])
    ]) refl

-- of two trees put under a label the second one counts
pub put_child-put_child : (ordered : Bool) (f : Forest) (l : ℕ) (u w : Tree) → put_child ordered (put_child ordered f l u) l w ≡ put_child ordered f l w
put_child-put_child ordered f l u w =
    rw (has_label-put_child ordered f l u) (replace-put_child ordered f l u w)

-- sound siblings stay so with a tree that is not bare and is sound below
pub sound-replace : (f : Forest) (l : ℕ) (u : Tree) → IsSoundBelow f → is_bare u ≡ false → IsSoundBelow u.children → IsSoundBelow (replace f l u)
sound-replace none l u s b w = tt
sound-replace (child m n below rest) l u s b w =
    elim (m == l) as (λ c. IsSoundBelow (cond c (child m u.number u.children rest) (child m n below (replace rest l u)))) [
      | true ↦ (s.0, s.1, s.2, b, w, s.5)
      | false ↦ (s.0, s.1, has_label-replace rest l m u ∙ s.2, s.3, s.4, sound-replace rest l u s.5 b w)
    ]

pub sound-insert : (f : Forest) (l : ℕ) (u : Tree) → 0 < l → l < 256 → has_label f l ≡ false → IsSoundBelow f → is_bare u ≡ false → IsSoundBelow u.children → IsSoundBelow (insert_ascending f l u)
sound-insert none l u low high h s b w = (low, high, refl, b, w, tt)
sound-insert (child m n below rest) l u low high h s b w =
    let p = or_parts (m == l) (has_label rest l) h in
    let lm : (l == m) ≡ false = ne_eqb l m (λ e. eqb-false m l p.0 (sym e)) in
    elim (ltb l m) as (λ c. IsSoundBelow (cond c (child l u.number u.children (child m n below rest)) (child m n below (insert_ascending rest l u)))) [
      | true ↦ (low, high, h, b, w, s)
      | false ↦ (s.0, s.1, has_label-insert rest l m u ∙ rw lm s.2, s.3, s.4, sound-insert rest l u low high p.1 s.5 b w)
    ]

pub sound-put_child : (ordered : Bool) (f : Forest) (l : ℕ) (u : Tree) → 0 < l → l < 256 → IsSoundBelow f → is_bare u ≡ false → IsSoundBelow u.children → IsSoundBelow (put_child ordered f l u)
sound-put_child ordered f l u low high s b w =
    put_child_cases IsSoundBelow ordered f l u
    (λ _. sound-replace f l u s b w) (λ h. sound-insert f l u low high h s b w) (λ h. (low, high, h, b, w, s))

-- of two puts at a path the second one counts
pub put-put : (t : Tree) (ordered : Bool) (k : List ℕ) (v w : ℤ) → put (put t ordered k v) ordered k w ≡ put t ordered k w
put-put t ordered [] v w = refl
put-put t ordered (l ∷ k) v w =
    let u : Tree = put (subtree t.children l) ordered k v in
    ap (λ f. record { number = t.number; children = f })
    (ap (λ x. put_child ordered (put_child ordered t.children l u) l (put x ordered k w)) (subtree-put_same ordered t.children l u)
    ∙ ap (λ x. put_child ordered (put_child ordered t.children l u) l x) (put-put (subtree t.children l) ordered k v w)
    ∙ put_child-put_child ordered t.children l u (put (subtree t.children l) ordered k w))

leafless-put_child : (ordered : Bool) (f : Forest) (l : ℕ) (u : Tree) → is_leafless (put_child ordered f l u) ≡ false
leafless-put_child ordered f l u =
    put_child_cases (λ g. is_leafless g ≡ false) ordered f l u (held f) (λ _. inserted f) (λ _. refl) where
      held : (f : Forest) → has_label f l ≡ true → is_leafless (replace f l u) ≡ false
      held none h = absurd (false≢true h)
      held (child m n below rest) h = elim (m == l) as (λ b. is_leafless (cond b (child m u.number u.children rest) (child m n below (replace rest l u))) ≡ false) [ true ↦ refl | false ↦ refl ]

      inserted : (f : Forest) → is_leafless (insert_ascending f l u) ≡ false
      inserted none = refl
      inserted (child m n below rest) = elim (ltb l m) as (λ b. is_leafless (cond b (child l u.number u.children (child m n below rest)) (child m n below (insert_ascending rest l u))) ≡ false) [ true ↦ refl | false ↦ refl ]

-- a tree is not bare after a put
pub bare-put : (t : Tree) (ordered : Bool) (k : List ℕ) (v : ℤ) → is_bare (put t ordered k v) ≡ false
bare-put t ordered [] v = refl
bare-put t ordered (l ∷ k) v = and_right (is_none t.number) _ (leafless-put_child ordered t.children l (put (subtree t.children l) ordered k v))

-- a put keeps a tree sound
pub sound-put : (t : Tree) (ordered : Bool) (k : List ℕ) (v : ℤ) → IsPath k → IsSoundBelow t.children → IsSoundBelow (put t ordered k v).children
sound-put t ordered [] v p s = s
sound-put t ordered (l ∷ k) v p s =
    sound-put_child ordered t.children l (put (subtree t.children l) ordered k v) p.0 p.1 s
    (bare-put (subtree t.children l) ordered k v)
    (sound-put (subtree t.children l) ordered k v p.2 (sound_subtree t.children l s))

-- taking a label away
pub has_label-without : (f : Forest) (l q : ℕ) → has_label f q ≡ false → has_label (without f l) q ≡ false
has_label-without none l q h = refl
has_label-without (child m n below rest) l q h =
    let p = or_parts (m == q) (has_label rest q) h in
    elim (m == l) as (λ b. has_label (cond b rest (child m n below (without rest l))) q ≡ false) [ true ↦ p.1 | false ↦ rw p.0 (has_label-without rest l q p.1) ]

pub without_absent : (f : Forest) (l : ℕ) → has_label f l ≡ false → without f l ≡ f
without_absent none l h = refl
without_absent (child m n below rest) l h =
    let p = or_parts (m == l) (has_label rest l) h in rw p.0 (ap (child m n below) (without_absent rest l p.1))

sound-without : (f : Forest) (l : ℕ) → IsSoundBelow f → IsSoundBelow (without f l)
sound-without none l s = tt
sound-without (child m n below rest) l s =
    elim (m == l) as (λ b. IsSoundBelow (cond b rest (child m n below (without rest l)))) [
      | true ↦ s.5
      | false ↦ (s.0, s.1, has_label-without rest l m s.2, s.3, s.4, sound-without rest l s.5)
    ]

subtree-without_same : (f : Forest) (l : ℕ) → IsSoundBelow f → subtree (without f l) l ≡ empty_tree
subtree-without_same none l s = refl
subtree-without_same (child m n below rest) l s =
    (elim (m == l) as (λ b. (m == l) ≡ b → subtree (cond b rest (child m n below (without rest l))) l ≡ empty_tree) [
      | true ↦ λ e. rw (← eqb-true m l e) (subtree_absent rest m s.2)
      | false ↦ λ e. rw e (subtree-without_same rest l s.5)
    ]) refl

subtree-without_other : (f : Forest) (l q : ℕ) → (l == q) ≡ false → subtree (without f l) q ≡ subtree f q
subtree-without_other none l q h = refl
subtree-without_other (child m n below rest) l q h =
    (elim (m == l) as (λ b. (m == l) ≡ b → subtree (cond b rest (child m n below (without rest l))) q ≡ subtree (child m n below rest) q) [
      | true ↦ λ e. let d : (m == q) ≡ false = rw (eqb-true m l e) h in rw d refl
      | false ↦ λ e. ap (λ t. cond (m == q) (record { number = n; children = below }) t) (subtree-without_other rest l q h)
    ]) refl

-- a cut of the empty tree leaves it
pub cut-empty : (k : List ℕ) → cut empty_tree k ≡ empty_tree
cut-empty [] = refl
cut-empty (l ∷ k) = elim (is_bare (cut empty_tree k)) as (λ b. record { number = None; children = cond b none none } ≡ empty_tree) [ true ↦ refl | false ↦ refl ]

-- the cut tree is under its label, or is empty
pub subtree-settle_same : (f : Forest) (l : ℕ) (k : List ℕ) → IsSoundBelow f → subtree (settle f l (cut (subtree f l) k)) l ≡ cut (subtree f l) k
subtree-settle_same f l k s =
    (elim (is_bare (cut (subtree f l) k)) as (λ b. is_bare (cut (subtree f l) k) ≡ b → subtree (cond b (without f l) (replace f l (cut (subtree f l) k))) l ≡ cut (subtree f l) k) [
      | true ↦ λ e. subtree-without_same f l s ∙ sym (bare_empty (cut (subtree f l) k) e)
      | false ↦ λ e. subtree-replace_same f l (cut (subtree f l) k) (there e)
    ]) refl where
      there : is_bare (cut (subtree f l) k) ≡ false → has_label f l ≡ true
      there e = (elim (has_label f l) as (λ b. has_label f l ≡ b → b ≡ true) [
        | true ↦ λ _. refl
        | false ↦ λ h. absurd (true≢false (sym (ap is_bare (ap (λ u. cut u k) (subtree_absent f l h) ∙ cut-empty k)) ∙ e))
      ]) refl

subtree-settle_other : (f : Forest) (l q : ℕ) (u : Tree) → (l == q) ≡ false → subtree (settle f l u) q ≡ subtree f q
subtree-settle_other f l q u h =
    elim (is_bare u) as (λ b. subtree (cond b (without f l) (replace f l u)) q ≡ subtree f q) [ true ↦ subtree-without_other f l q h | false ↦ subtree-replace_other f l q u h ]

-- what was cut is held no longer
pub number_at-cut_same : (t : Tree) (k : List ℕ) → IsSoundBelow t.children → number_at (cut t k) k ≡ None
number_at-cut_same t [] s = refl
number_at-cut_same t (l ∷ k) s =
    rw (subtree-settle_same t.children l k s) (number_at-cut_same (subtree t.children l) k (sound_subtree t.children l s))

-- a cut leaves each other path's number
pub number_at-cut_other : (t : Tree) (k q : List ℕ) → IsSoundBelow t.children → (q ≡ k → ⊥) → number_at (cut t k) q ≡ number_at t q
number_at-cut_other t [] [] s d = absurd (d refl)
number_at-cut_other t [] (m ∷ q) s d = refl
number_at-cut_other t (l ∷ k) [] s d = refl
number_at-cut_other t (l ∷ k) (m ∷ q) s d =
    (elim (l == m) as (λ b. (l == m) ≡ b → number_at (subtree (settle t.children l (cut (subtree t.children l) k)) m) q ≡ number_at (subtree t.children m) q) [
      | true ↦ λ e.
          let same : l ≡ m = eqb-true l m e in
          let d' : (q ≡ k → ⊥) = λ h. d (cc) in
          rw (← same) (rw (subtree-settle_same t.children l k s) (number_at-cut_other (subtree t.children l) k q (sound_subtree t.children l s) d'))
      | false ↦ λ e. ap (λ u. number_at u q) (subtree-settle_other t.children l m (cut (subtree t.children l) k) e)
    ]) refl

sound-settle : (f : Forest) (l : ℕ) (u : Tree) → IsSoundBelow f → IsSoundBelow u.children → IsSoundBelow (settle f l u)
sound-settle f l u s w =
    (elim (is_bare u) as (λ b. is_bare u ≡ b → IsSoundBelow (cond b (without f l) (replace f l u))) [
      | true ↦ λ _. sound-without f l s
      | false ↦ λ e. sound-replace f l u s e w
    ]) refl

-- a cut keeps a tree sound
pub sound-cut : (t : Tree) (k : List ℕ) → IsSoundBelow t.children → IsSoundBelow (cut t k).children
sound-cut t [] s = s
sound-cut t (l ∷ k) s =
    sound-settle t.children l (cut (subtree t.children l) k) s (sound-cut (subtree t.children l) k (sound_subtree t.children l s))

settle-subtree : (f : Forest) (l : ℕ) → IsSoundBelow f → settle f l (subtree f l) ≡ f
settle-subtree f l s =
    (elim (has_label f l) as (λ b. has_label f l ≡ b → settle f l (subtree f l) ≡ f) [
      | true ↦ λ e. rw (bare-subtree f l s e) (replace-subtree f l)
      | false ↦ λ e. rw (subtree_absent f l e) (without_absent f l e)
    ]) refl

-- a cut of what is not held changes nothing
pub cut_not_held : (t : Tree) (k : List ℕ) → IsSoundBelow t.children → number_at t k ≡ None → cut t k ≡ t
cut_not_held t [] s h = ap (λ n. record { number = n; children = t.children }) (sym h)
cut_not_held t (l ∷ k) s h =
    ap (λ f. record { number = t.number; children = f })
    (ap (settle t.children l) (cut_not_held (subtree t.children l) k (sound_subtree t.children l s) h) ∙ settle-subtree t.children l s)

-- Numbers with a property P: kept by a put of a number with it, and by a cut.
module _ (P : ℤ → Type 0) where
  all_subtree : (f : Forest) (l : ℕ) → AllNumbers P f → IfSome (subtree f l).number P × AllNumbers P (subtree f l).children
  all_subtree none l a = (tt, tt)
  all_subtree (child m n below rest) l a =
      elim (m == l) as (λ b. IfSome (cond b (record { number = n; children = below }) (subtree rest l)).number P × AllNumbers P (cond b (record { number = n; children = below }) (subtree rest l)).children) [
        | true ↦ (a.0, a.1)
        | false ↦ all_subtree rest l a.2
      ]

  all_replace : (f : Forest) (l : ℕ) (u : Tree) → AllNumbers P f → IfSome u.number P → AllNumbers P u.children → AllNumbers P (replace f l u)
  all_replace none l u a n c = tt
  all_replace (child m k below rest) l u a n c =
      elim (m == l) as (λ b. AllNumbers P (cond b (child m u.number u.children rest) (child m k below (replace rest l u)))) [
        | true ↦ (n, c, a.2)
        | false ↦ (a.0, a.1, all_replace rest l u a.2 n c)
      ]

  all_insert : (f : Forest) (l : ℕ) (u : Tree) → AllNumbers P f → IfSome u.number P → AllNumbers P u.children → AllNumbers P (insert_ascending f l u)
  all_insert none l u a n c = (n, c, tt)
  all_insert (child m k below rest) l u a n c =
      elim (ltb l m) as (λ b. AllNumbers P (cond b (child l u.number u.children (child m k below rest)) (child m k below (insert_ascending rest l u)))) [
        | true ↦ (n, c, a)
        | false ↦ (a.0, a.1, all_insert rest l u a.2 n c)
      ]

  all_without : (f : Forest) (l : ℕ) → AllNumbers P f → AllNumbers P (without f l)
  all_without none l a = tt
  all_without (child m n below rest) l a =
      elim (m == l) as (λ b. AllNumbers P (cond b rest (child m n below (without rest l)))) [ true ↦ a.2 | false ↦ (a.0, a.1, all_without rest l a.2) ]

  all_put_child : (ordered : Bool) (f : Forest) (l : ℕ) (u : Tree) → AllNumbers P f → IfSome u.number P → AllNumbers P u.children → AllNumbers P (put_child ordered f l u)
  all_put_child ordered f l u a n c =
      put_child_cases (AllNumbers P) ordered f l u (λ _. all_replace f l u a n c) (λ _. all_insert f l u a n c) (λ _. (n, c, a))

  all_put_both : (t : Tree) (ordered : Bool) (k : List ℕ) (v : ℤ) → P v → IfSome t.number P → AllNumbers P t.children
      → IfSome (put t ordered k v).number P × AllNumbers P (put t ordered k v).children
  all_put_both t ordered [] v p n a = (p, a)
  all_put_both t ordered (l ∷ k) v p n a =
      let s = all_subtree t.children l a in
      let u = all_put_both (subtree t.children l) ordered k v p s.0 s.1 in
      (n, all_put_child ordered t.children l (put (subtree t.children l) ordered k v) a u.0 u.1)

  pub all-put : (t : Tree) (ordered : Bool) (k : List ℕ) (v : ℤ) → P v → AllNumbers P t.children → AllNumbers P (put t ordered k v).children
  all-put t ordered [] v p a = a
  all-put t ordered (l ∷ k) v p a =
      let s = all_subtree t.children l a in
      let u = all_put_both (subtree t.children l) ordered k v p s.0 s.1 in
      all_put_child ordered t.children l (put (subtree t.children l) ordered k v) a u.0 u.1

  all_settle : (f : Forest) (l : ℕ) (u : Tree) → AllNumbers P f → IfSome u.number P → AllNumbers P u.children → AllNumbers P (settle f l u)
  all_settle f l u a n c =
      elim (is_bare u) as (λ b. AllNumbers P (cond b (without f l) (replace f l u))) [ true ↦ all_without f l a | false ↦ all_replace f l u a n c ]

  all_cut_both : (t : Tree) (k : List ℕ) → IfSome t.number P → AllNumbers P t.children → IfSome (cut t k).number P × AllNumbers P (cut t k).children
  all_cut_both t [] n a = (tt, a)
  all_cut_both t (l ∷ k) n a =
      let s = all_subtree t.children l a in
      let u = all_cut_both (subtree t.children l) k s.0 s.1 in
      (n, all_settle t.children l (cut (subtree t.children l) k) a u.0 u.1)

  pub all-cut : (t : Tree) (k : List ℕ) → AllNumbers P t.children → AllNumbers P (cut t k).children
  all-cut t [] a = a
  all-cut t (l ∷ k) a =
      let s = all_subtree t.children l a in
      let u = all_cut_both (subtree t.children l) k s.0 s.1 in
      all_settle t.children l (cut (subtree t.children l) k) a u.0 u.1

  -- each number that is found has the property
  all_at_both : (t : Tree) (k : List ℕ) → IfSome t.number P → AllNumbers P t.children → IfSome (number_at t k) P
  all_at_both t [] n a = n
  all_at_both t (l ∷ k) n a = let s = all_subtree t.children l a in all_at_both (subtree t.children l) k s.0 s.1

  pub all-number_at : (t : Tree) (k : List ℕ) → t.number ≡ None → AllNumbers P t.children → IfSome (number_at t k) P
  all-number_at t k e a = all_at_both t k (rw e tt) a

-- a whole tree, whose root has no number
pub is_sound-put : (t : Tree) (ordered : Bool) (k : List ℕ) (v : ℤ) → IsKey k → IsSound t → IsSound (put t ordered k v)
is_sound-put t ordered [] v p s = absurd p
is_sound-put t ordered (l ∷ k) v p s = (s.0, sound-put t ordered (l ∷ k) v p s.1)

pub is_sound-cut : (t : Tree) (k : List ℕ) → IsSound t → IsSound (cut t k)
is_sound-cut t [] s = (refl, s.1)
is_sound-cut t (l ∷ k) s = (s.0, sound-cut t (l ∷ k) s.1)
