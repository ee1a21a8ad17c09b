-- The ascending order of labels: kept by an ordered put and by a cut, and what it decides.
use Rattle.std.proofs.Common.{◌≡◌, ℕ, ◌<◌, ◌≤◌, Bool, true, false, cond, ◌==◌, ltb, ℤ, List, [], ◌∷◌, ◌++◌, Option, Some, None, refl, sym, ap, subst, ◌∙◌, arith, eq-eqb}
use Rattle.std.proofs.lemmas.Bool.{true≢false, or_parts, ltb-true, ltb-false, eqb-true, eqb-false, ne_eqb}
use Rattle.cedar_tree.specs.Tree.{Forest, none, child, Tree, empty_tree, has_label, subtree, number_at, replace, insert_ascending, put, is_bare, without, cut, IsSoundBelow, IsSound, AllAbove, IsAscending}
use Rattle.cedar_tree.specs.Queries.{node_at}
use Rattle.cedar_tree.proofs.TreeLemmas.{subtree_absent, number_at-empty, sound_subtree}
use Rattle.std.proofs.lemmas.Option.{none-some}

pub all_above_more : (low more : ℕ) (f : Forest) → low < more → AllAbove more f → AllAbove low f
all_above_more low more none h a = tt
all_above_more low more (child m n below rest) h a = let here = a.0 in (omega arith, all_above_more low more rest h a.1)

all_above-replace : (low : ℕ) (f : Forest) (l : ℕ) (u : Tree) → AllAbove low f → AllAbove low (replace f l u)
all_above-replace low none l u a = tt
all_above-replace low (child m n below rest) l u a =
    elim (m == l) as (λ b. AllAbove low (cond b (child m u.number u.children rest) (child m n below (replace rest l u)))) [
      | true ↦ a
      | false ↦ (a.0, all_above-replace low rest l u a.1)
    ]

all_above-insert : (low : ℕ) (f : Forest) (l : ℕ) (u : Tree) → low < l → AllAbove low f → AllAbove low (insert_ascending f l u)
all_above-insert low none l u h a = (h, tt)
all_above-insert low (child m n below rest) l u h a =
    elim (ltb l m) as (λ b. AllAbove low (cond b (child l u.number u.children (child m n below rest)) (child m n below (insert_ascending rest l u)))) [
      | true ↦ (h, a)
      | false ↦ (a.0, all_above-insert low rest l u h a.1)
    ]

all_above-without : (low : ℕ) (f : Forest) (l : ℕ) → AllAbove low f → AllAbove low (without f l)
all_above-without low none l a = tt
all_above-without low (child m n below rest) l a =
    elim (m == l) as (λ b. AllAbove low (cond b rest (child m n below (without rest l)))) [ true ↦ a.1 | false ↦ (a.0, all_above-without low rest l a.1) ]

pub ascending_subtree : (f : Forest) (l : ℕ) → IsAscending f → IsAscending (subtree f l).children
ascending_subtree none l s = tt
ascending_subtree (child m n below rest) l s =
    elim (m == l) as (λ b. IsAscending (cond b (record { number = n; children = below }) (subtree rest l)).children) [ true ↦ s.1 | false ↦ ascending_subtree rest l s.2 ]

pub ascending-replace : (f : Forest) (l : ℕ) (u : Tree) → IsAscending f → IsAscending u.children → IsAscending (replace f l u)
ascending-replace none l u s w = tt
ascending-replace (child m n below rest) l u s w =
    elim (m == l) as (λ b. IsAscending (cond b (child m u.number u.children rest) (child m n below (replace rest l u)))) [
      | true ↦ (s.0, w, s.2)
      | false ↦ (all_above-replace m rest l u s.0, s.1, ascending-replace rest l u s.2 w)
    ]

pub ascending-insert : (f : Forest) (l : ℕ) (u : Tree) → has_label f l ≡ false → IsAscending f → IsAscending u.children → IsAscending (insert_ascending f l u)
ascending-insert none l u h s w = (tt, w, tt)
ascending-insert (child m n below rest) l u h s w =
    let p = or_parts (m == l) (has_label rest l) h in
    (elim (ltb l m) as (λ b. ltb l m ≡ b → IsAscending (cond b (child l u.number u.children (child m n below rest)) (child m n below (insert_ascending rest l u)))) [
      | true ↦ λ e. let less : l < m = ltb-true l m e in ((less, all_above_more l m rest less s.0), w, s)
      | false ↦ λ e.
          let least : m ≤ l = ltb-false l m e in
          let other : (m ≡ l → ⊥) = eqb-false m l p.0 in
          let less : m < l = omega arith in
          (all_above-insert m rest l u less s.0, s.1, ascending-insert rest l u p.1 s.2 w)
    ]) refl

pub ascending-without : (f : Forest) (l : ℕ) → IsAscending f → IsAscending (without f l)
ascending-without none l s = tt
ascending-without (child m n below rest) l s =
    elim (m == l) as (λ b. IsAscending (cond b rest (child m n below (without rest l)))) [
      | true ↦ s.2
      | false ↦ (all_above-without m rest l s.0, s.1, ascending-without rest l s.2)
    ]

-- an ordered put keeps the labels ascending
pub ascending-put : (t : Tree) (k : List ℕ) (v : ℤ) → IsAscending t.children → IsAscending (put t true k v).children
ascending-put t [] v s = s
ascending-put t (l ∷ k) v s =
    let u : Tree = put (subtree t.children l) true k v in
    let w : IsAscending u.children = ascending-put (subtree t.children l) k v (ascending_subtree t.children l s) in
    (elim (has_label t.children l) as (λ b. has_label t.children l ≡ b → IsAscending (cond b (replace t.children l u) (insert_ascending t.children l u))) [
      | true ↦ λ e. ascending-replace t.children l u s w
      | false ↦ λ e. ascending-insert t.children l u e s w
    ]) refl

-- and so does a cut
pub ascending-cut : (t : Tree) (k : List ℕ) → IsAscending t.children → IsAscending (cut t k).children
ascending-cut t [] s = s
ascending-cut t (l ∷ k) s =
    let u : Tree = cut (subtree t.children l) k in
    let w : IsAscending u.children = ascending-cut (subtree t.children l) k (ascending_subtree t.children l s) in
    elim (is_bare u) as (λ b. IsAscending (cond b (without t.children l) (replace t.children l u))) [
      | true ↦ ascending-without t.children l s
      | false ↦ ascending-replace t.children l u s w
    ]

-- the node at a path of the empty tree, and of a sound one
pub node_at-empty : (p : List ℕ) → node_at empty_tree p ≡ empty_tree
node_at-empty [] = refl
node_at-empty (l ∷ p) = node_at-empty p

pub sound_node_at : (t : Tree) (p : List ℕ) → IsSoundBelow t.children → IsSoundBelow (node_at t p).children
sound_node_at t [] s = s
sound_node_at t (l ∷ p) s = sound_node_at (subtree t.children l) p (sound_subtree t.children l s)

-- a longer path is a path from the node at its front
pub number_at-append : (t : Tree) (p rest : List ℕ) → number_at t (p ++ rest) ≡ number_at (node_at t p) rest
number_at-append t [] rest = refl
number_at-append t (l ∷ p) rest = number_at-append (subtree t.children l) p rest

-- the number at a path is the number of its node
pub number_of_node : (t : Tree) (w : List ℕ) → number_at t w ≡ (node_at t w).number
number_of_node t [] = refl
number_of_node t (m ∷ w) = number_of_node (subtree t.children m) w

-- something is held in a sound tree that is not bare
held_in : (n : Option ℤ) (f : Forest) → IsSoundBelow f → is_bare (record { number = n; children = f }) ≡ false
    → (k : List ℕ) × (v : ℤ) × (number_at (record { number = n; children = f }) k ≡ Some v)
held_in (Some v) f s b = ([], v, refl)
held_in None none s b = absurd (true≢false b)
held_in None (child l n below rest) s b =
    let found = held_in n below s.4 s.3 in
    (l ∷ found.0, found.1, rw (eq-eqb l l refl) found.2)

-- the node at a path is not bare exactly where the path is the front of a key that is held
pub front_of_key : (t : Tree) (p : List ℕ) → IsSoundBelow t.children → is_bare (node_at t p) ≡ false
    → (rest : List ℕ) × (v : ℤ) × (number_at t (p ++ rest) ≡ Some v)
front_of_key t p s b =
    let found = held_in (node_at t p).number (node_at t p).children (sound_node_at t p s) b in
    (found.0, found.1, number_at-append t p found.0 ∙ found.2)

pub node_of_front : (t : Tree) (p rest : List ℕ) (v : ℤ) → number_at t (p ++ rest) ≡ Some v → is_bare (node_at t p) ≡ false
node_of_front t p rest v h = not_bare (node_at t p).number (node_at t p).children (sym (number_at-append t p rest) ∙ h) where
  not_bare : (n : Option ℤ) (f : Forest) → number_at (record { number = n; children = f }) rest ≡ Some v → is_bare (record { number = n; children = f }) ≡ false
  not_bare (Some w) f h = refl
  not_bare None (child l n below others) h = refl
  not_bare None none h = absurd (none-some v (sym (number_at-empty rest) ∙ h))

missing : (l : ℕ) (f : Forest) → AllAbove l f → has_label f l ≡ false
missing l none a = refl
missing l (child m n below rest) a =
    let here = a.0 in rw (ne_eqb m l (λ e. absurd (omega arith))) (missing l rest a.1)

-- a child that is there holds something, so its label is not missing where the same is held
held_apart : (l : ℕ) (n : Option ℤ) (below rest g : Forest) → IsSoundBelow (child l n below rest) → has_label g l ≡ false
    → ((k : List ℕ) → number_at (subtree (child l n below rest) l) k ≡ number_at (subtree g l) k) → ⊥
held_apart l n below rest g s h same =
    let found = held_in n below s.4 s.3 in
    let here : number_at (subtree (child l n below rest) l) found.0 ≡ Some found.1 = rw (eq-eqb l l refl) found.2 in
    none-some found.1 (sym (number_at-empty found.0) ∙ ap (λ u. number_at u found.0) (sym (subtree_absent g l h)) ∙ sym (same found.0) ∙ here)

-- the same numbers are held under each label
abbrev Same : Forest → Forest → Type 0
Same f g = (l : ℕ) (k : List ℕ) → number_at (subtree f l) k ≡ number_at (subtree g l) k

first_same : (l : ℕ) (n w : Option ℤ) (below rest above others : Forest) → Same (child l n below rest) (child l w above others)
    → (k : List ℕ) → number_at (record { number = n; children = below }) k ≡ number_at (record { number = w; children = above }) k
first_same l n w below rest above others h k =
    subst (λ (b : Bool). number_at (cond b (record { number = n; children = below }) (subtree rest l)) k ≡ number_at (cond b (record { number = w; children = above }) (subtree others l)) k) (eq-eqb l l refl) (h l k)

later_same : (l : ℕ) (n w : Option ℤ) (below rest above others : Forest) → has_label rest l ≡ false → has_label others l ≡ false
    → Same (child l n below rest) (child l w above others) → Same rest others
later_same l n w below rest above others a b h q k =
    (elim (l == q) as (λ c. (l == q) ≡ c → number_at (cond c (record { number = n; children = below }) (subtree rest q)) k ≡ number_at (cond c (record { number = w; children = above }) (subtree others q)) k
    → number_at (subtree rest q) k ≡ number_at (subtree others q) k) [
      | true ↦ λ e _.
          let label : l ≡ q = eqb-true l q e in
          ap (λ (u : Tree). number_at u k) (subtree_absent rest q (rw (← label) a) ∙ sym (subtree_absent others q (rw (← label) b)))
      | false ↦ λ e same. same
    ]) refl (h q k)

-- sound ascending siblings that hold the same are the same
one_forest : (f g : Forest) → IsSoundBelow f → IsSoundBelow g → IsAscending f → IsAscending g
    → Same f g → f ≡ g
one_forest none none sf sg af ag h = refl
one_forest none (child m w above others) sf sg af ag h = absurd (held_apart m w above others none sg refl (λ k. sym (h m k)))
one_forest (child l n below rest) none sf sg af ag h = absurd (held_apart l n below rest none sf refl (h l))
one_forest (child l n below rest) (child m w above others) sf sg af ag h =
    (elim (ltb l m) as (λ b. ltb l m ≡ b → child l n below rest ≡ child m w above others) [
      | true ↦ λ e.
          let less : l < m = ltb-true l m e in
          absurd (held_apart l n below rest (child m w above others) sf (missing l (child m w above others) (less, all_above_more l m others less ag.0)) (h l))
      | false ↦ λ e. (elim (ltb m l) as (λ b. ltb m l ≡ b → child l n below rest ≡ child m w above others) [
        | true ↦ λ d.
            let less : m < l = ltb-true m l d in
            absurd (held_apart m w above others (child l n below rest) sg (missing m (child l n below rest) (less, all_above_more m l rest less af.0)) (λ k. sym (h m k)))
        | false ↦ λ d.
            let most : m ≤ l = ltb-false l m e in
            let least : l ≤ m = ltb-false m l d in
            let label : l ≡ m = omega arith in
            let same : Same (child l n below rest) (child l w above others) = rw (← label) at h in
            let first = first_same l n w below rest above others same in
            let number : n ≡ w = first [] in
            let inner : below ≡ above = one_forest below above sf.4 sg.4 af.1 ag.1 (λ q k. first (q ∷ k)) in
            let unlike : has_label others l ≡ false = rw label sg.2 in
            let later : rest ≡ others = one_forest rest others sf.5 sg.5 af.2 ag.2 (later_same l n w below rest above others sf.2 unlike same) in
            λ i. child (label i) (number i) (inner i) (later i)
      ]) refl
    ]) refl

-- two sound trees whose labels ascend, and which hold the same, are one
pub one_tree : (t u : Tree) → IsSound t → IsSound u → IsAscending t.children → IsAscending u.children
    → ((k : List ℕ) → number_at t k ≡ number_at u k) → t ≡ u
one_tree t u st su at au h =
    let children : t.children ≡ u.children = one_forest t.children u.children st.1 su.1 at au (λ l k. h (l ∷ k)) in
    let number : t.number ≡ u.number = h [] in
    λ i. record { number = number i; children = children i }
