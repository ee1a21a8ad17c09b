-- How the prefix walk goes on.
use Rattle.std.proofs.Common.{◌≡◌, ℕ, zero, suc, ◌+◌, ◌-◌, ◌<◌, ◌≤◌, false, ℤ, List, [], length, take, get_or, Some, None, option_map, refl, sym, ap, ◌∙◌, arith}
use Rattle.std.specs.List.{filter_map, cons_option, range_with_len}
use Rattle.std.proofs.lemmas.List.{take_all, take_more}
use Rattle.cedar_tree.specs.Tree.{Tree, empty_tree, has_label, subtree, number_at}
use Rattle.cedar_tree.specs.Queries.{found_at, front, node_at}
use Rattle.cedar_tree.specs.Walks.{front_from}
use Rattle.cedar_tree.proofs.CutLemmas.{node_at-end}
use Rattle.cedar_tree.proofs.TreeLemmas.{subtree_absent}
use Rattle.cedar_tree.proofs.OrderLemmas.{number_of_node}

pub front_begins : (t : Tree) (q : List ℕ) → front_from t q 0 ≡ front t q
front_begins t q = let all : length q - 0 ≡ length q = omega arith in ap (λ n. filter_map (found_at t q) (range_with_len 0 n)) all

pub front_more : (t : Tree) (q : List ℕ) (n : ℕ) → n < length q → front_from t q n ≡ cons_option (found_at t q n) (front_from t q (n + 1))
front_more t q n h =
    let one : length q - n ≡ suc (length q - (n + 1)) = omega arith in
    ap (λ m. filter_map (found_at t q) (range_with_len n m)) one

pub front_ends : (t : Tree) (q : List ℕ) → front_from t q (length q) ≡ []
front_ends t q = let no : length q - length q ≡ 0 = omega arith in ap (λ m. filter_map (found_at t q) (range_with_len (length q) m)) no

pub node_more : (t : Tree) (q : List ℕ) (n : ℕ) → n < length q → node_at t (take (n + 1) q) ≡ subtree (node_at t (take n q)).children (get_or q n 0)
node_more t q n h = ap (node_at t) (take_more q n 0 h) ∙ node_at-end t (take n q) (get_or q n 0)

-- below an empty node all are empty
empty_on : (t : Tree) (q : List ℕ) (n d : ℕ) → node_at t (take (n + 1) q) ≡ empty_tree → n + d < length q → node_at t (take (n + d + 1) q) ≡ empty_tree
empty_on t q n zero e h = let same : n + 0 + 1 ≡ n + 1 = omega arith in ap (λ m. node_at t (take m q)) same ∙ e
empty_on t q n (suc d) e h =
    let same : n + suc d + 1 ≡ n + d + 1 + 1 = omega arith in
    ap (λ m. node_at t (take m q)) same ∙ node_more t q (n + d + 1) (omega arith)
    ∙ ap (λ (u : Tree). subtree u.children (get_or q (n + d + 1) 0)) (empty_on t q n d e (omega arith))

-- so where a byte leads to no node, none is at a longer path
pub nodes_gone : (t : Tree) (q : List ℕ) (n : ℕ) → n < length q → has_label (node_at t (take n q)).children (get_or q n 0) ≡ false → node_at t q ≡ empty_tree
nodes_gone t q n h missing =
    let d : ℕ = length q - n - 1 in
    let whole : n + d + 1 ≡ length q = omega arith in
    let empty : node_at t (take (n + 1) q) ≡ empty_tree = node_more t q n h ∙ subtree_absent (node_at t (take n q)).children (get_or q n 0) missing in
    ap (node_at t) (sym (take_all (n + d + 1) q (omega (arith, whole)))) ∙ empty_on t q n d empty (omega (arith, whole))

none_found : (t : Tree) (q : List ℕ) (a n : ℕ) → ((k : ℕ) → a ≤ k → k < a + n → number_at t (take (k + 1) q) ≡ None) → filter_map (found_at t q) (range_with_len a n) ≡ []
none_found t q a zero h = refl
none_found t q a (suc n) h =
    ap (λ o. cons_option (option_map (λ (v : ℤ). (v, a)) o) (filter_map (found_at t q) (range_with_len (a + 1) n))) (h a (omega arith) (omega arith))
    ∙ none_found t q (a + 1) n (λ k low high. h k (omega arith) (omega arith))

-- where a byte leads to no node, nothing longer is held
pub front_off : (t : Tree) (q : List ℕ) (n : ℕ) → n < length q → has_label (node_at t (take n q)).children (get_or q n 0) ≡ false → front_from t q n ≡ []
front_off t q n h missing = none_found t q n (length q - n) absent
  where
    absent : (k : ℕ) → n ≤ k → k < n + (length q - n) → number_at t (take (k + 1) q) ≡ None
    absent k low high =
        let same : n + (k - n) + 1 ≡ k + 1 = omega arith in
        let empty : node_at t (take (n + 1) q) ≡ empty_tree = node_more t q n h ∙ subtree_absent (node_at t (take n q)).children (get_or q n 0) missing in
        number_of_node t (take (k + 1) q) ∙ ap (λ (u : Tree). u.number) (ap (λ m. node_at t (take m q)) (sym same) ∙ empty_on t q n (k - n) empty (omega arith))

found_few : (t : Tree) (q : List ℕ) (a n : ℕ) → length (filter_map (found_at t q) (range_with_len a n)) ≤ n
found_few t q a zero = omega arith
found_few t q a (suc n) =
    let rest : length (filter_map (found_at t q) (range_with_len (a + 1) n)) ≤ n = found_few t q (a + 1) n in
    elim (number_at t (take (a + 1) q)) as (λ o. length (cons_option (option_map (λ (v : ℤ). (v, a)) o) (filter_map (found_at t q) (range_with_len (a + 1) n))) ≤ suc n) [
      | None ↦ omega (arith, rest)
      | Some v ↦ omega (arith, rest)
    ]

-- there are no more results than bytes
pub front_short : (t : Tree) (q : List ℕ) (n : ℕ) → length (front_from t q n) ≤ length q - n
front_short t q n = found_few t q n (length q - n)
