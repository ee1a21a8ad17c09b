-- That a walk over all nodes of a tree comes to each path that leads to a node, with its number.
use Rattle.std.proofs.Common.{◌≡◌, ℕ, true, false, ◌==◌, ℤ, List, [], ◌∷◌, map, Option, None, refl, sym, ap, subst, ◌∙◌, eq-eqb}
use Rattle.std.specs.List.{Contains}
use Rattle.std.proofs.lemmas.Bool.{and_parts, eqb-true, false≢true, true≢false}
use Rattle.std.proofs.lemmas.List.Elements.{Contains-append_cases, Contains-append_left, Contains-append_right}
use Rattle.cedar_tree.specs.Tree.{child, Forest, has_label, IsSoundBelow, none, number_at, subtree, Tree}
use Rattle.cedar_tree.specs.Walks.{Visit, visit_from, visits_below}
use Rattle.cedar_tree.proofs.MemberLemmas.{contains_first_or_later, contains_here, contains_later, contains_none, either_part, from_map, into_map}
use Rattle.cedar_scan.specs.Suffixes.{is_node}

-- a tree of these children without a number
abbrev pub root_of : Forest → Tree
root_of f = record { number = None; children = f }

-- a node below siblings, with its number
pub record IsVisitOf (f : Forest) (v : Visit) : Type 0 where
  pub label : ℕ
  pub rest : List ℕ
  pub path : v.0 ≡ label ∷ rest
  pub node : is_node (root_of f) (label ∷ rest) ≡ true
  pub number : v.1 ≡ number_at (root_of f) (label ∷ rest)

here_node : (l : ℕ) (n : Option ℤ) (below rest : Forest) (p : List ℕ) → is_node (root_of (child l n below rest)) (l ∷ p) ≡ is_node (record { number = n; children = below }) p
here_node l n below rest p = rw (eq-eqb l l refl) refl

here_number : (l : ℕ) (n : Option ℤ) (below rest : Forest) (p : List ℕ) → number_at (root_of (child l n below rest)) (l ∷ p) ≡ number_at (record { number = n; children = below }) p
here_number l n below rest p = rw (eq-eqb l l refl) refl

beside_node : (l : ℕ) (n : Option ℤ) (below rest : Forest) (x : ℕ) (p : List ℕ) → (l == x) ≡ false → is_node (root_of (child l n below rest)) (x ∷ p) ≡ is_node (root_of rest) (x ∷ p)
beside_node l n below rest x p e = rw e refl

beside_number : (l : ℕ) (n : Option ℤ) (below rest : Forest) (x : ℕ) (p : List ℕ) → (l == x) ≡ false → number_at (root_of (child l n below rest)) (x ∷ p) ≡ number_at (root_of rest) (x ∷ p)
beside_number l n below rest x p e = rw e refl

-- a label of the siblings behind a child isn't the child's
other_label : (f : Forest) (l x : ℕ) (p : List ℕ) → has_label f l ≡ false → is_node (root_of f) (x ∷ p) ≡ true → (l == x) ≡ false
other_label f l x p lacks node =
    (elim (l == x) as (λ b. (l == x) ≡ b → b ≡ false) [
      | true ↦ λ e. absurd (true≢false (sym (and_parts (has_label f x) (is_node (subtree f x) p) node).0 ∙ ap (has_label f) (sym (eqb-true l x e)) ∙ lacks))
      | false ↦ λ _. refl
    ]) refl

-- each node that the walk comes to is one of the tree
pub visit_right : (f : Forest) → IsSoundBelow f → (v : Visit) → Contains (visits_below f) v → IsVisitOf f v
visit_right none sound v c = absurd (contains_none v c)
visit_right (child l n below rest) sound v c =
    either_part (Contains-append_cases (map (visit_from (l ∷ [])) (([], n) ∷ visits_below below)) (visits_below rest) v c)
    (λ first.
    let u = from_map (visit_from (l ∷ [])) (([], n) ∷ visits_below below) v first in
    either_part (contains_first_or_later ([], n) (visits_below below) u.0 u.1)
    (λ own. record {
      label = l;
      rest = [];
      path = ap (λ (x : Visit). x.0) (sym u.2) ∙ ap (λ (x : Visit). l ∷ x.0) (sym own);
      node = here_node l n below rest [];
      number = ap (λ (x : Visit). x.1) (sym u.2) ∙ ap (λ (x : Visit). x.1) (sym own) ∙ sym (here_number l n below rest []);
    })
    (λ further.
    let r = visit_right below sound.4 u.0 further in
    record {
      label = l;
      rest = r.label ∷ r.rest;
      path = ap (λ (x : Visit). x.0) (sym u.2) ∙ ap (λ w. l ∷ w) r.path;
      node = here_node l n below rest (r.label ∷ r.rest) ∙ r.node;
      number = ap (λ (x : Visit). x.1) (sym u.2) ∙ r.number ∙ sym (here_number l n below rest (r.label ∷ r.rest));
    }))
    (λ later.
    let r = visit_right rest sound.5 v later in
    let other = other_label rest l r.label r.rest sound.2 r.node in
    record {
      label = r.label;
      rest = r.rest;
      path = r.path;
      node = beside_node l n below rest r.label r.rest other ∙ r.node;
      number = r.number ∙ sym (beside_number l n below rest r.label r.rest other);
    })

-- the walk comes to each node under a label, where it comes to each one further down
visit_under : (x : ℕ) (p : List ℕ) (l : ℕ) (n : Option ℤ) (below rest : Forest) → l ≡ x
    → ((y : ℕ) (r : List ℕ) → is_node (root_of below) (y ∷ r) ≡ true → Contains (visits_below below) (y ∷ r, number_at (root_of below) (y ∷ r)))
    → is_node (root_of (child l n below rest)) (x ∷ p) ≡ true → Contains (visits_below (child l n below rest)) (x ∷ p, number_at (root_of (child l n below rest)) (x ∷ p))
visit_under x p l n below rest e further node = subst (λ y. Contains (visits_below (child l n below rest)) (y ∷ p, number_at (root_of (child l n below rest)) (y ∷ p))) e own
  where
    under : (q : List ℕ) → is_node (record { number = n; children = below }) q ≡ true → Contains (([], n) ∷ visits_below below) (q, number_at (record { number = n; children = below }) q)
    under [] k = contains_here ([], n) (visits_below below)
    under (y ∷ r) k = contains_later ([], n) (visits_below below) (y ∷ r, number_at (root_of below) (y ∷ r)) (further y r k)

    there : is_node (record { number = n; children = below }) p ≡ true
    there = sym (here_node l n below rest p) ∙ ap (λ y. is_node (root_of (child l n below rest)) (y ∷ p)) e ∙ node

    own : Contains (visits_below (child l n below rest)) (l ∷ p, number_at (root_of (child l n below rest)) (l ∷ p))
    own =
        subst (λ m. Contains (visits_below (child l n below rest)) (l ∷ p, m)) (sym (here_number l n below rest p))
        (Contains-append_left (map (visit_from (l ∷ [])) (([], n) ∷ visits_below below)) (visits_below rest) (l ∷ p, number_at (record { number = n; children = below }) p)
        (into_map (visit_from (l ∷ [])) (([], n) ∷ visits_below below) (p, number_at (record { number = n; children = below }) p) (under p there)))

-- and so it comes to each
pub visit_there : (f : Forest) (x : ℕ) (p : List ℕ) → is_node (root_of f) (x ∷ p) ≡ true → Contains (visits_below f) (x ∷ p, number_at (root_of f) (x ∷ p))
visit_there none x p node = absurd (false≢true node)
visit_there (child l n below rest) x p node =
    (elim (l == x) as (λ b. (l == x) ≡ b → Contains (visits_below (child l n below rest)) (x ∷ p, number_at (root_of (child l n below rest)) (x ∷ p))) [
      | true ↦ λ e. visit_under x p l n below rest (eqb-true l x e) (λ y r. visit_there below y r) node
      | false ↦ λ e.
          subst (λ m. Contains (visits_below (child l n below rest)) (x ∷ p, m)) (sym (beside_number l n below rest x p e))
          (Contains-append_right (map (visit_from (l ∷ [])) (([], n) ∷ visits_below below)) (visits_below rest) (x ∷ p, number_at (root_of rest) (x ∷ p))
          (visit_there rest x p (sym (beside_node l n below rest x p e) ∙ node)))
    ]) refl
