-- Changes of one node of a tree, one after another.
use Rattle.std.proofs.Common.{◌≡◌, ℕ, true, false, cond, ◌==◌, ℤ, List, [], ◌∷◌, ◌++◌, Option, refl, ap}
use Rattle.cedar_model.specs.Tree.{AllAbove, Forest, IsAscending, none, child, subtree}
use Rattle.cedar_model.specs.Queries.{node_at}
use Rattle.cedar_model.specs.Edits.{number_on, edit_at}

abbrev Number : Type 0
Number = Option ℤ → Option ℤ

abbrev Children : Type 0
Children = Forest → Forest

number_twice : (w : List ℕ) (N M : Number) (n : Option ℤ) → number_on w M (number_on w N n) ≡ number_on w (λ x. M (N x)) n
number_twice [] N M n = refl
number_twice (l ∷ w) N M n = refl

-- two changes of the node at a path are one
pub edit_twice : (w : List ℕ) (N M : Number) (C D : Children) (f : Forest) → edit_at w M D (edit_at w N C f) ≡ edit_at w (λ x. M (N x)) (λ u. D (C u)) f
edit_twice [] N M C D f = refl
edit_twice (l ∷ w) N M C D none = refl
edit_twice (l ∷ w) N M C D (child m n u rest) =
    (elim (m == l) as (λ b. (m == l) ≡ b → edit_at (l ∷ w) M D (cond b (child m (number_on w N n) (edit_at w N C u) rest) (child m n u (edit_at (l ∷ w) N C rest)))
    ≡ cond b (child m (number_on w (λ x. M (N x)) n) (edit_at w (λ x. M (N x)) (λ v. D (C v)) u) rest) (child m n u (edit_at (l ∷ w) (λ x. M (N x)) (λ v. D (C v)) rest))) [
      | true ↦ λ e. let number = number_twice w N M n in let below = edit_twice w N M C D u in rw e (cc)
      | false ↦ λ e. let beside = edit_twice (l ∷ w) N M C D rest in rw e (cc)
    ]) refl

-- a change of a child is one of the node's children
pub edit_below : (w : List ℕ) (l : ℕ) (N : Number) (C : Children) (f : Forest) → edit_at (w ++ l ∷ []) N C f ≡ edit_at w (λ n. n) (edit_at (l ∷ []) N C) f
edit_below [] l N C f = refl
edit_below (m ∷ w) l N C none = refl
edit_below (m ∷ w) l N C (child k n u rest) =
    (elim (k == m) as (λ b. cond b (child k (number_on (w ++ l ∷ []) N n) (edit_at (w ++ l ∷ []) N C u) rest) (child k n u (edit_at (m ∷ (w ++ l ∷ [])) N C rest))
    ≡ cond b (child k (number_on w (λ x. x) n) (edit_at w (λ x. x) (edit_at (l ∷ []) N C) u) rest) (child k n u (edit_at (m ∷ w) (λ x. x) (edit_at (l ∷ []) N C) rest))) [
      | true ↦ let number = unchanged w n in let below = edit_below w l N C u in cc
      | false ↦ ap (child k n u) (edit_below (m ∷ w) l N C rest)
    ])
  where
    unchanged : (v : List ℕ) (x : Option ℤ) → number_on (v ++ l ∷ []) N x ≡ number_on v (λ y. y) x
    unchanged [] x = refl
    unchanged (j ∷ v) x = refl

-- changes that do the same at the node are the same
pub edit_alike : (w : List ℕ) (N M : Number) (C D : Children) (n : Option ℤ) (f : Forest) → N (node_at (record { number = n; children = f }) w).number ≡ M (node_at (record { number = n; children = f }) w).number
    → C (node_at (record { number = n; children = f }) w).children ≡ D (node_at (record { number = n; children = f }) w).children → edit_at w N C f ≡ edit_at w M D f
edit_alike [] N M C D n f number children = children
edit_alike (l ∷ w) N M C D n none number children = refl
edit_alike (l ∷ w) N M C D n (child m k u rest) number children =
    (elim (m == l) as (λ b. N (node_at (cond b (record { number = k; children = u }) (subtree rest l)) w).number ≡ M (node_at (cond b (record { number = k; children = u }) (subtree rest l)) w).number
    → C (node_at (cond b (record { number = k; children = u }) (subtree rest l)) w).children ≡ D (node_at (cond b (record { number = k; children = u }) (subtree rest l)) w).children
    → cond b (child m (number_on w N k) (edit_at w N C u) rest) (child m k u (edit_at (l ∷ w) N C rest)) ≡ cond b (child m (number_on w M k) (edit_at w M D u) rest) (child m k u (edit_at (l ∷ w) M D rest))) [
      | true ↦ λ same_number same_children. let own = number_alike w same_number in let below = edit_alike w N M C D k u same_number same_children in cc
      | false ↦ λ same_number same_children. ap (child m k u) (edit_alike (l ∷ w) N M C D n rest same_number same_children)
    ]) number children
  where
    number_alike : (v : List ℕ) → N (node_at (record { number = k; children = u }) v).number ≡ M (node_at (record { number = k; children = u }) v).number → number_on v N k ≡ number_on v M k
    number_alike [] h = h
    number_alike (j ∷ v) h = refl

-- a change of nothing
pub edit_nothing : (w : List ℕ) (f : Forest) → edit_at w (λ n. n) (λ u. u) f ≡ f
edit_nothing [] f = refl
edit_nothing (l ∷ w) none = refl
edit_nothing (l ∷ w) (child m n u rest) =
    elim (m == l) as (λ b. cond b (child m (number_on w (λ x. x) n) (edit_at w (λ x. x) (λ v. v) u) rest) (child m n u (edit_at (l ∷ w) (λ x. x) (λ v. v) rest)) ≡ child m n u rest) [
      | true ↦ let number = unchanged w n in let below = edit_nothing w u in cc
      | false ↦ ap (child m n u) (edit_nothing (l ∷ w) rest)
    ]
  where
    unchanged : (v : List ℕ) (x : Option ℤ) → number_on v (λ y. y) x ≡ x
    unchanged [] x = refl
    unchanged (j ∷ v) x = refl

above_edit : (low : ℕ) (l : ℕ) (w : List ℕ) (N : Number) (C : Children) (f : Forest) → AllAbove low f → AllAbove low (edit_at (l ∷ w) N C f)
above_edit low l w N C none a = tt
above_edit low l w N C (child m n u rest) a =
    elim (m == l) as (λ b. AllAbove low (cond b (child m (number_on w N n) (edit_at w N C u) rest) (child m n u (edit_at (l ∷ w) N C rest)))) [
      | true ↦ (a.0, a.1)
      | false ↦ (a.0, above_edit low l w N C rest a.1)
    ]

-- labels ascend still, if the node's new ones do
pub ascending_edit : (w : List ℕ) (N : Number) (C : Children) → ((g : Forest) → IsAscending g → IsAscending (C g)) → (f : Forest) → IsAscending f → IsAscending (edit_at w N C f)
ascending_edit [] N C keeps f a = keeps f a
ascending_edit (l ∷ w) N C keeps none a = tt
ascending_edit (l ∷ w) N C keeps (child m n u rest) a =
    elim (m == l) as (λ b. IsAscending (cond b (child m (number_on w N n) (edit_at w N C u) rest) (child m n u (edit_at (l ∷ w) N C rest)))) [
      | true ↦ (a.0, ascending_edit w N C keeps u a.1, a.2)
      | false ↦ (above_edit m l w N C rest a.0, a.1, ascending_edit (l ∷ w) N C keeps rest a.2)
    ]

-- a node's children, once its number was set
pub edit_children : (w : List ℕ) (number : Option ℤ) (n : Option ℤ) (f : Forest) → (node_at (record { number = n; children = f }) w).children ≡ none → (node_at (record { number = n; children = edit_at w (λ _. number) (λ u. u) f }) w).children ≡ none
edit_children [] number n f e = e
edit_children (l ∷ w) number n none e = e
edit_children (l ∷ w) number n (child m k u rest) e =
    (elim (m == l) as (λ b. (m == l) ≡ b → (node_at (cond b (record { number = k; children = u }) (subtree rest l)) w).children ≡ none
    → (node_at (subtree (cond b (child m (number_on w (λ _. number) k) (edit_at w (λ _. number) (λ v. v) u) rest) (child m k u (edit_at (l ∷ w) (λ _. number) (λ v. v) rest))) l) w).children ≡ none) [
      | true ↦ λ same h. rw same (any_number w (edit_children w number k u h))
      | false ↦ λ other h. rw other (edit_children (l ∷ w) number n rest h)
    ]) refl e
  where
    any_number : (v : List ℕ) → (node_at (record { number = k; children = edit_at v (λ _. number) (λ x. x) u }) v).children ≡ none → (node_at (record { number = number_on v (λ _. number) k; children = edit_at v (λ _. number) (λ x. x) u }) v).children ≡ none
    any_number [] h = h
    any_number (j ∷ v) h = h
