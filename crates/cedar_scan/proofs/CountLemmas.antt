-- How many labels a path has, beside how many nodes there are.
use Rattle.std.proofs.Common.{◌≡◌, ℕ, ◌+◌, ◌≤◌, true, false, cond, ◌==◌, ◌&&◌, ◌||◌, ℤ, List, [], ◌∷◌, length, Option, refl, arith}
use Rattle.std.proofs.lemmas.Bool.{false≢true}
use Rattle.cedar_tree.specs.Tree.{child, Forest, has_label, none, subtree, Tree}
use Rattle.cedar_scan.specs.Counts.{count_below}
use Rattle.cedar_scan.specs.Suffixes.{is_node}

short_below : (f : Forest) (n : Option ℤ) (w : List ℕ) → is_node (record { number = n; children = f }) w ≡ true → length w ≤ count_below f
short_below none n [] node = omega arith
short_below none n (l ∷ w) node = absurd (false≢true node)
short_below (child m k below rest) n [] node = omega arith
short_below (child m k below rest) n (l ∷ w) node =
    let all : count_below (child m k below rest) ≡ count_below below + count_below rest + 1 = refl in
    (elim (m == l) as (λ b. ((b || has_label rest l) && is_node (cond b (record { number = k; children = below }) (subtree rest l)) w) ≡ true → length (l ∷ w) ≤ count_below (child m k below rest)) [
      | true ↦ λ there. let low = short_below below k w there in omega (arith, low, all)
      | false ↦ λ there. let low = short_below rest n (l ∷ w) there in omega (arith, low, all)
    ]) node

-- a path to a node has no more labels than there are nodes
pub path_short : (t : Tree) (w : List ℕ) → is_node t w ≡ true → length w ≤ count_below t.children
path_short t [] node = omega arith
path_short t (l ∷ w) node = short_below t.children t.number (l ∷ w) node
