-- What a cut leaves on its way up: the node that lost its number or a leaf, and labels that ascend.
use Rattle.std.proofs.Common.{◌≡◌, ℕ, ℤ, true, cond, ◌==◌, List, [], ◌∷◌, ◌++◌, Option, None, refl, sym, ap, ◌∙◌, false}
use Rattle.cedar_tree.specs.Tree.{AllAbove, child, Forest, IsAscending, none, subtree, Tree, without}
use Rattle.cedar_tree.specs.Queries.{node_at}
use Rattle.cedar_tree.specs.Edits.{edit_at, HasPath, number_on, without_leaf, without_number}
use Rattle.cedar_tree.proofs.EntryLemmas.Steps.{changed, edit_is_replace, same_number}
use Rattle.cedar_tree.proofs.OrderLemmas.{ascending-without}
use Rattle.cedar_tree.proofs.TreeLemmas.{subtree-replace_same}

pub node_at-end : (t : Tree) (w : List ℕ) (l : ℕ) → node_at t (w ++ l ∷ []) ≡ subtree (node_at t w).children l
node_at-end t [] l = refl
node_at-end t (m ∷ w) l = node_at-end (subtree t.children m) w l

-- the node at the end of a path after it was changed
node_at-changed : (t : Tree) (w : List ℕ) (number : Option ℤ → Option ℤ) (children : Forest → Forest) → HasPath t w
    → node_at (changed w number children t) w ≡ record { number = number (node_at t w).number; children = children (node_at t w).children }
node_at-changed t [] number children there = refl
node_at-changed t (m ∷ w) number children there =
    let f : Forest = t.children in
    ap (λ (g : Forest). node_at (subtree g m) w) (edit_is_replace m w number children f)
    ∙ ap (λ (y : Tree). node_at y w) (subtree-replace_same f m (changed w number children (subtree f m)) there.0)
    ∙ node_at-changed (subtree f m) w number children there.1

pub node_at-without_leaf : (t : Tree) (w : List ℕ) (l : ℕ) → HasPath t w
    → node_at (without_leaf t w l) w ≡ record { number = (node_at t w).number; children = without (node_at t w).children l }
node_at-without_leaf t w l there =
    ap (λ (n : Option ℤ). node_at (record { number = n; children = edit_at w (λ m. m) (λ g. without g l) t.children }) w) (sym (same_number w t.number))
    ∙ node_at-changed t w (λ n. n) (λ g. without g l) there

pub node_at-without_number : (t : Tree) (l : ℕ) (path : List ℕ) → HasPath t (l ∷ path)
    → node_at (without_number t (l ∷ path)) (l ∷ path) ≡ record { number = None; children = (node_at t (l ∷ path)).children }
node_at-without_number t l path there = node_at-changed t (l ∷ path) (λ _. None) (λ g. g) there

-- ---- ascending labels

all_above-edit : (low : ℕ) (l : ℕ) (path : List ℕ) (number : Option ℤ → Option ℤ) (children : Forest → Forest) (f : Forest) → AllAbove low f → AllAbove low (edit_at (l ∷ path) number children f)
all_above-edit low l path number children none a = tt
all_above-edit low l path number children (child m n below rest) a =
    elim (m == l) as (λ b. AllAbove low (cond b (child m (number_on path number n) (edit_at path number children below) rest) (child m n below (edit_at (l ∷ path) number children rest)))) [
      | true ↦ a
      | false ↦ (a.0, all_above-edit low l path number children rest a.1)
    ]

-- among siblings, where it goes on below one of them
ascending-along : (l : ℕ) (path : List ℕ) (number : Option ℤ → Option ℤ) (children : Forest → Forest) → ((g : Forest) → IsAscending g → IsAscending (edit_at path number children g))
    → (f : Forest) → IsAscending f → IsAscending (edit_at (l ∷ path) number children f)
ascending-along l path number children keeps none s = tt
ascending-along l path number children keeps (child m n below rest) s =
    elim (m == l) as (λ b. IsAscending (cond b (child m (number_on path number n) (edit_at path number children below) rest) (child m n below (edit_at (l ∷ path) number children rest)))) [
      | true ↦ (s.0, keeps below s.1, s.2)
      | false ↦ (all_above-edit m l path number children rest s.0, s.1, ascending-along l path number children keeps rest s.2)
    ]

ascending-edit : (path : List ℕ) (number : Option ℤ → Option ℤ) (children : Forest → Forest) → ((g : Forest) → IsAscending g → IsAscending (children g))
    → (f : Forest) → IsAscending f → IsAscending (edit_at path number children f)
ascending-edit [] number children keeps f s = keeps f s
ascending-edit (l ∷ path) number children keeps f s = ascending-along l path number children (ascending-edit path number children keeps) f s

pub ascending-without_leaf : (t : Tree) (w : List ℕ) (l : ℕ) → IsAscending t.children → IsAscending (without_leaf t w l).children
ascending-without_leaf t w l s = ascending-edit w (λ n. n) (λ g. without g l) (λ g u. ascending-without g l u) t.children s

pub ascending-without_number : (t : Tree) (path : List ℕ) → IsAscending t.children → IsAscending (without_number t path).children
ascending-without_number t path s = ascending-edit path (λ _. None) (λ g. g) (λ g u. u) t.children s
