-- What a node's suffixes are, and how they go on by one byte.
use Rattle.std.proofs.Common.{◌≡◌, ℕ, ◌+◌, ◌≤◌, true, false, cond, ◌&&◌, ℤ, List, [], ◌∷◌, ◌++◌, length, map, Some, None, option_map, refl, sym, ap, ◌∙◌, arith}
use Rattle.std.specs.List.{All, cons_option}
use Rattle.std.proofs.lemmas.Bool.{true≢false}
use Rattle.std.proofs.lemmas.List.Elements.{All-cons, All-nil}
use Rattle.cedar_tree.specs.Tree.{Tree, has_label, subtree, number_at}
use Rattle.cedar_tree.proofs.TreeLemmas.{number_at-empty, subtree_absent}
use Rattle.cedar_scan.specs.Suffixes.{failure, held_suffix, is_node, keys_ending, Occurrence, occurrence_ending, all_ending}

-- a front of a path to a node leads to a node
pub node_front : (t : Tree) (w v : List ℕ) → is_node t (w ++ v) ≡ true → is_node t w ≡ true
node_front t [] v h = refl
node_front t (l ∷ w) v h =
    (elim (has_label t.children l) as (λ b. (b && is_node (subtree t.children l) (w ++ v)) ≡ true → (b && is_node (subtree t.children l) w) ≡ true) [
      | true ↦ λ k. node_front (subtree t.children l) w v k
      | false ↦ λ k. k
    ]) h

-- so a path goes on to no node where a front of it leads to none
pub no_node_further : (t : Tree) (w v : List ℕ) → is_node t w ≡ false → is_node t (w ++ v) ≡ false
no_node_further t w v h =
    (elim (is_node t (w ++ v)) as (λ b. is_node t (w ++ v) ≡ b → b ≡ false) [
      | true ↦ λ e. absurd (true≢false (sym (node_front t w v e) ∙ h))
      | false ↦ λ _. refl
    ]) refl

-- where no node is, no number is
pub no_node_no_number : (t : Tree) (w : List ℕ) → is_node t w ≡ false → number_at t w ≡ None
no_node_no_number t [] h = absurd (true≢false h)
no_node_no_number t (l ∷ w) h =
    (elim (has_label t.children l) as (λ b. has_label t.children l ≡ b → (b && is_node (subtree t.children l) w) ≡ false → number_at (subtree t.children l) w ≡ None) [
      | true ↦ λ e k. no_node_no_number (subtree t.children l) w k
      | false ↦ λ e k. ap (λ u. number_at u w) (subtree_absent t.children l e) ∙ number_at-empty w
    ]) refl h

-- the longest suffix that leads to a node does so
pub held_is_node : (t : Tree) (w : List ℕ) → is_node t (held_suffix t w) ≡ true
held_is_node t [] = refl
held_is_node t (b ∷ w) =
    (elim (is_node t (b ∷ w)) as (λ x. is_node t (b ∷ w) ≡ x → is_node t (cond x (b ∷ w) (held_suffix t w)) ≡ true) [
      | true ↦ λ e. e
      | false ↦ λ e. held_is_node t w
    ]) refl

-- and is the path itself where that does
pub held_of_node : (t : Tree) (w : List ℕ) → is_node t w ≡ true → held_suffix t w ≡ w
held_of_node t [] h = refl
held_of_node t (b ∷ w) h = ap (λ x. cond x (b ∷ w) (held_suffix t w)) h

pub held_of_other : (t : Tree) (b : ℕ) (w : List ℕ) → is_node t (b ∷ w) ≡ false → held_suffix t (b ∷ w) ≡ held_suffix t w
held_of_other t b w h = ap (λ x. cond x (b ∷ w) (held_suffix t w)) h

pub held_shorter : (t : Tree) (w : List ℕ) → length (held_suffix t w) ≤ length w
held_shorter t [] = omega arith
held_shorter t (b ∷ w) =
    (elim (is_node t (b ∷ w)) as (λ x. length (cond x (b ∷ w) (held_suffix t w)) ≤ length (b ∷ w)) [
      | true ↦ omega arith
      | false ↦ let h = held_shorter t w in omega (arith, h)
    ])

-- what a text's suffix becomes by one byte more depends on that suffix alone
pub held_goes_on : (t : Tree) (w : List ℕ) (b : ℕ) → held_suffix t (w ++ b ∷ []) ≡ held_suffix t (held_suffix t w ++ b ∷ [])
held_goes_on t [] b = refl
held_goes_on t (c ∷ w) b =
    (elim (is_node t (c ∷ w)) as (λ x. is_node t (c ∷ w) ≡ x → held_suffix t (c ∷ (w ++ b ∷ [])) ≡ held_suffix t (cond x (c ∷ w) (held_suffix t w) ++ b ∷ [])) [
      | true ↦ λ e. refl
      | false ↦ λ e. held_of_other t c (w ++ b ∷ []) (no_node_further t (c ∷ w) (b ∷ []) e) ∙ held_goes_on t w b
    ]) refl

-- where a node has no child under a byte, its failure link leads on
pub held_by_failure : (t : Tree) (c : ℕ) (w : List ℕ) (b : ℕ) → is_node t ((c ∷ w) ++ b ∷ []) ≡ false
    → held_suffix t ((c ∷ w) ++ b ∷ []) ≡ held_suffix t (failure t (c ∷ w) ++ b ∷ [])
held_by_failure t c w b h = held_of_other t c (w ++ b ∷ []) h ∙ held_goes_on t w b

-- ---- keys

pub keys_of_other : (t : Tree) (b : ℕ) (w : List ℕ) → number_at t (b ∷ w) ≡ None → keys_ending t (b ∷ w) ≡ keys_ending t w
keys_of_other t b w h = ap (λ n. cons_option (option_map (λ (v : ℤ). (v, length (b ∷ w))) n) (keys_ending t w)) h

pub keys_of_key : (t : Tree) (b : ℕ) (w : List ℕ) (v : ℤ) → number_at t (b ∷ w) ≡ Some v → keys_ending t (b ∷ w) ≡ (v, length (b ∷ w)) ∷ keys_ending t w
keys_of_key t b w v h = ap (λ n. cons_option (option_map (λ (x : ℤ). (x, length (b ∷ w))) n) (keys_ending t w)) h

-- the keys that end where a text does end where its suffix does
pub keys_of_held : (t : Tree) (w : List ℕ) → keys_ending t w ≡ keys_ending t (held_suffix t w)
keys_of_held t [] = refl
keys_of_held t (b ∷ w) =
    (elim (is_node t (b ∷ w)) as (λ x. is_node t (b ∷ w) ≡ x → keys_ending t (b ∷ w) ≡ keys_ending t (cond x (b ∷ w) (held_suffix t w))) [
      | true ↦ λ e. refl
      | false ↦ λ e. keys_of_other t b w (no_node_no_number t (b ∷ w) e) ∙ keys_of_held t w
    ]) refl

-- and none has more bytes than the text
pub keys_short : (t : Tree) (w : List ℕ) → All (λ (found : ℤ × ℕ). found.1 ≤ length w) (keys_ending t w)
keys_short t [] = All-nil (λ (found : ℤ × ℕ). found.1 ≤ 0)
keys_short t (b ∷ w) =
    let later : All (λ (found : ℤ × ℕ). found.1 ≤ length (b ∷ w)) (keys_ending t w) = λ k d less. let low = keys_short t w k d less in omega (arith, low) in
    (elim (number_at t (b ∷ w)) as (λ n. All (λ (found : ℤ × ℕ). found.1 ≤ length (b ∷ w)) (cons_option (option_map (λ (v : ℤ). (v, length (b ∷ w))) n) (keys_ending t w))) [
      | None ↦ later
      | Some v ↦ All-cons (λ (found : ℤ × ℕ). found.1 ≤ length (b ∷ w)) (v, length (b ∷ w)) (keys_ending t w) (omega arith) later
    ])

-- ---- texts

-- what is found in the rest of a text depends on the suffix alone
pub spots_of_held : (t : Tree) (read : List ℕ) (place : ℕ) (rest : List ℕ) → all_ending t read place rest ≡ all_ending t (held_suffix t read) place rest
spots_of_held t read place [] = refl
spots_of_held t read place (b ∷ rest) =
    let w = read ++ b ∷ [] in
    let u = held_suffix t read ++ b ∷ [] in
    let next : held_suffix t w ≡ held_suffix t u = held_goes_on t read b in
    let keys : keys_ending t w ≡ keys_ending t u = keys_of_held t w ∙ ap (keys_ending t) next ∙ sym (keys_of_held t u) in
    let later : all_ending t w (place + 1) rest ≡ all_ending t u (place + 1) rest =
    spots_of_held t w (place + 1) rest ∙ ap (λ x. all_ending t x (place + 1) rest) next ∙ sym (spots_of_held t u (place + 1) rest) in
    ap (λ (found : List (ℤ × ℕ)). map (occurrence_ending (place + 1)) found ++ all_ending t w (place + 1) rest) keys
    ∙ ap (λ (spots : List Occurrence). map (occurrence_ending (place + 1)) (keys_ending t u) ++ spots) later
