-- The tree that some pairs make, put one after another.
use Rattle.std.proofs.Common.{◌≡◌, ℕ, Bool, true, false, cond, ◌==◌, ◌&&◌, ℤ, List, [], ◌∷◌, fold, Some, None, refl, sym, ap, ◌∙◌, eq-eqb}
use Rattle.std.specs.List.{AllByRecursion}
use Rattle.std.proofs.lemmas.Bool.{true≢false, false≢true, eqb-true}
use Rattle.cedar_tree.specs.Tree.{Tree, empty_tree, number_at, put, IsKey, IsSound, IsAscending, AllNumbers}
use Rattle.cedar_tree.specs.Queries.{Entry, is_path, last_at, asc}
use Rattle.cedar_tree.proofs.TreeLemmas.{all-put, number_at-put_same, number_at-put_other, number_at-empty, is_sound-put}
use Rattle.cedar_tree.proofs.OrderLemmas.{ascending-put}

pub is_path_itself : (p : List ℕ) → is_path p p ≡ true
is_path_itself [] = refl
is_path_itself (b ∷ p) = rw (eq-eqb b b refl) (is_path_itself p)

pub same_path : (p q : List ℕ) → is_path p q ≡ true → p ≡ q
same_path [] [] h = refl
same_path [] (b ∷ q) h = absurd (false≢true h)
same_path (a ∷ p) [] h = absurd (false≢true h)
same_path (a ∷ p) (b ∷ q) h =
    (elim (a == b) as (λ c. (a == b) ≡ c → (c && is_path p q) ≡ true → ◌≡◌ {A = List ℕ} (a ∷ p) (b ∷ q)) [
      | true ↦ λ e k. let label : a ≡ b = eqb-true a b e in let rest : p ≡ q = same_path p q k in cc
      | false ↦ λ e k. absurd (false≢true k)
    ]) refl h

-- what is held at a path after a put
number_at-put : (t : Tree) (ordered : Bool) (k : List ℕ) (v : ℤ) (q : List ℕ) → number_at (put t ordered k v) q ≡ cond (is_path q k) (Some v) (number_at t q)
number_at-put t ordered k v q =
    (elim (is_path q k) as (λ b. is_path q k ≡ b → number_at (put t ordered k v) q ≡ cond b (Some v) (number_at t q)) [
      | true ↦ λ e. rw (same_path q k e) (number_at-put_same t ordered k v)
      | false ↦ λ e. number_at-put_other t ordered k v q (λ same. absurd (true≢false (sym (is_path_itself q) ∙ ap (is_path q) same ∙ e)))
    ]) refl

abbrev put_pair : Tree → Entry → Tree
put_pair t pair = put t true pair.0 pair.1

number_at-puts : (t : Tree) (pairs : List Entry) (k : List ℕ) → number_at (fold put_pair t pairs) k ≡ last_at k (number_at t k) pairs
number_at-puts t [] k = refl
number_at-puts t (pair ∷ pairs) k =
    number_at-puts (put_pair t pair) pairs k ∙ ap (λ o. last_at k o pairs) (number_at-put t true pair.0 pair.1 k)

-- the last pair with a path gives its number
pub number_at-asc : (pairs : List Entry) (k : List ℕ) → number_at (asc pairs) k ≡ last_at k None pairs
number_at-asc pairs k = number_at-puts empty_tree pairs k ∙ ap (λ o. last_at k o pairs) (number_at-empty k)

sound-puts : (t : Tree) (pairs : List Entry) → AllByRecursion (λ pair. IsKey pair.0) pairs → IsSound t → IsSound (fold put_pair t pairs)
sound-puts t [] keys s = s
sound-puts t (pair ∷ pairs) keys s = sound-puts (put_pair t pair) pairs keys.1 (is_sound-put t true pair.0 pair.1 keys.0 s)

ascending-puts : (t : Tree) (pairs : List Entry) → IsAscending t.children → IsAscending (fold put_pair t pairs).children
ascending-puts t [] a = a
ascending-puts t (pair ∷ pairs) a = ascending-puts (put_pair t pair) pairs (ascending-put t pair.0 pair.1 a)

-- it is sound, and its labels ascend
pub is_sound-asc : (pairs : List Entry) → AllByRecursion (λ pair. IsKey pair.0) pairs → IsSound (asc pairs)
is_sound-asc pairs keys = sound-puts empty_tree pairs keys (refl, tt)

pub ascending-asc : (pairs : List Entry) → IsAscending (asc pairs).children
ascending-asc pairs = ascending-puts empty_tree pairs tt

numbers-puts : (P : ℤ → Type 0) (t : Tree) (pairs : List Entry) → AllByRecursion (λ pair. P pair.1) pairs → AllNumbers P t.children → AllNumbers P (fold put_pair t pairs).children
numbers-puts P t [] numbers a = a
numbers-puts P t (pair ∷ pairs) numbers a = numbers-puts P (put_pair t pair) pairs numbers.1 (all-put P t true pair.0 pair.1 numbers.0 a)

-- a property that each pair's number has, each number of the tree has
pub numbers-asc : (P : ℤ → Type 0) (pairs : List Entry) → AllByRecursion (λ pair. P pair.1) pairs → AllNumbers P (asc pairs).children
numbers-asc P pairs numbers = numbers-puts P empty_tree pairs numbers tt
