-- The entries whose paths begin with a path: those of its node.
use Rattle.std.proofs.Common.{◌≡◌, ℕ, Bool, true, false, ◌==◌, ◌&&◌, nat_eq, ℤ, List, [], ◌∷◌, ◌++◌, map, Option, Some, None, refl, sym, ap, ◌∙◌, eq-eqb}
use Rattle.std.specs.List.{filter, starts_with}
use Rattle.std.proofs.lemmas.Bool.{eqb-true}
use Rattle.std.proofs.lemmas.List.{append-nil}
use Rattle.std.proofs.lemmas.List.Elements.{filter-append}
use Rattle.cedar_model.specs.Tree.{Forest, none, child, Tree, subtree, IsSoundBelow}
use Rattle.cedar_model.specs.Queries.{Entry, own_entry, under, walk_forest, walk, node_at}
use Rattle.cedar_model.proofs.TreeLemmas.{subtree_absent}
use Rattle.cedar_model.proofs.OrderLemmas.{node_at-empty}
use Rattle.cedar_model.proofs.PredictLemmas.{filter-every, map-after}
use Rattle.cedar_model.proofs.WalkLemmas.{filter-map, eqb_turned, filter-none}
use Rattle.cedar_walk.specs.Ranges.{behind_path, entries_with}
use Rattle.cedar_walk.proofs.WalkLemmas.Since.{behind_none}

own_with : (m : ℕ) (q : List ℕ) (n : Option ℤ) → filter (λ e. starts_with nat_eq e.0 (m ∷ q)) (own_entry n) ≡ []
own_with m q None = refl
own_with m q (Some v) = refl

with_forest : (m : ℕ) (q : List ℕ)
    → ((t : Tree) → IsSoundBelow t.children → entries_with t q ≡ map (behind_path q) (walk (node_at t q)))
    → (f : Forest) → IsSoundBelow f → filter (λ e. starts_with nat_eq e.0 (m ∷ q)) (walk_forest f) ≡ map (behind_path (m ∷ q)) (walk (node_at (subtree f m) q))
with_forest m q ih none s = ap (λ (u : Tree). map (behind_path (m ∷ q)) (walk u)) (sym (node_at-empty q))
with_forest m q ih (child l n below rest) s =
    let t : Tree = record { number = n; children = below } in
    let p : Entry → Bool = λ e. starts_with nat_eq e.0 (m ∷ q) in
    let later : filter p (walk_forest rest) ≡ map (behind_path (m ∷ q)) (walk (node_at (subtree rest m) q)) = with_forest m q ih rest s.5 in
    filter-append p (map (under l) (walk t)) (walk_forest rest)
    ∙ ap (λ (x : List Entry). x ++ filter p (walk_forest rest)) (filter-map (under l) p (walk t))
    ∙ (elim (m == l) as (λ b. (m == l) ≡ b → map (under l) (filter (λ e. b && starts_with nat_eq e.0 q) (walk t)) ++ filter p (walk_forest rest) ≡ map (behind_path (m ∷ q)) (walk (node_at (subtree (child l n below rest) m) q))) [
      | true ↦ λ e.
          let label : m ≡ l = eqb-true m l e in
          let others : filter p (walk_forest rest) ≡ [] =
          later ∙ ap (λ (u : Tree). map (behind_path (m ∷ q)) (walk u)) (ap (λ (u : Tree). node_at u q) (subtree_absent rest m (rw label s.2)) ∙ node_at-empty q) in
          ap (λ (x : List Entry). map (under l) (filter (λ e. starts_with nat_eq e.0 q) (walk t)) ++ x) others
          ∙ append-nil (map (under l) (filter (λ e. starts_with nat_eq e.0 q) (walk t)))
          ∙ ap (map (under l)) (ih t s.4)
          ∙ map-after (under l) (behind_path q) (behind_path (l ∷ q)) (walk (node_at t q)) (λ e. refl)
          ∙ rw (label, eq-eqb l l refl) refl
      | false ↦ λ e.
          let apart : (l == m) ≡ false = eqb_turned m l e in
          ap (λ (x : List Entry). map (under l) x ++ filter p (walk_forest rest)) (filter-none (λ (x : Entry). false) (walk t) (λ _. refl))
          ∙ rw apart later
    ]) refl

-- of a sound tree they are the entries of the node at the path, with the path before each
pub entries_with_node : (t : Tree) (q : List ℕ) → IsSoundBelow t.children → entries_with t q ≡ map (behind_path q) (walk (node_at t q))
entries_with_node t [] s = filter-every (walk t) ∙ behind_none (walk t)
entries_with_node t (m ∷ q) s =
    let p : Entry → Bool = λ e. starts_with nat_eq e.0 (m ∷ q) in
    filter-append p (own_entry t.number) (walk_forest t.children)
    ∙ ap (λ (x : List Entry). x ++ filter p (walk_forest t.children)) (own_with m q t.number)
    ∙ with_forest m q (λ u su. entries_with_node u q su) t.children s
