-- What a step leads to, and what it costs.
use Rattle.std.proofs.Common.{◌≡◌, ℕ, ◌+◌, ◌<◌, ◌≤◌, true, false, cond, List, [], ◌∷◌, ◌++◌, length, length-append, Some, None, refl, sym, ap, subst, ◌∙◌, arith}
use Rattle.cedar_tree.specs.Tree.{Tree}
use Rattle.cedar_scan.specs.declared.state.State.{State}
use Rattle.cedar_scan.specs.Automata.{child_in, IsLinked, IsStepFrom, path_in, state_at}
use Rattle.cedar_scan.specs.Suffixes.{failure, held_suffix, is_node}
use Rattle.cedar_scan.proofs.PathLemmas.{path_long}
use Rattle.cedar_scan.proofs.SuffixLemmas.{held_by_failure, held_is_node, held_of_node, held_of_other, held_shorter}

-- a step from the path u by a label has come to a slot by failure links
pub record IsOnWay (t : Tree) (slot_of : List ℕ → ℕ) (u : List ℕ) (label slot before after : ℕ) : Type 0 where
  pub path : List ℕ
  pub node : is_node t path ≡ true
  pub at : slot ≡ slot_of path
  pub shorter : length path ≤ length u
  pub same : held_suffix t (path ++ label ∷ []) ≡ held_suffix t (u ++ label ∷ [])
  pub cost : after + length path ≤ before + length u

some_is : (x y : ℕ) → Some x ≡ Some y → x ≡ y
some_is x y e = cc

none_some : (x : ℕ) → None ≡ Some x → ⊥
none_some x e = absurd (cc)

one_more : (w : List ℕ) (l : ℕ) → length (w ++ l ∷ []) ≡ length w + 1
one_more w l = length-append w (l ∷ [])

module _ (t : Tree) (slot_of : List ℕ → ℕ) (states : List State) (from label before after : ℕ) (u : List ℕ) (h : IsStepFrom t slot_of states from) (node : is_node t u ≡ true) (at : from ≡ slot_of u) where
  -- the path that the slot is known by is this one
  same_path : h.path ≡ u
  same_path = h.placing.one h.path u h.node node (sym h.slot ∙ at)

  -- what is read of a slot on the way
  module _ (slot : ℕ) (way : IsOnWay t slot_of u label slot before after) where
    child_is : child_in states slot label ≡ cond (is_node t (way.path ++ label ∷ [])) (Some (slot_of (way.path ++ label ∷ []))) None
    child_is = ap (λ s. child_in states s label) way.at ∙ h.goto.child way.path label way.node

    linked : IsLinked t slot_of states way.path
    linked = let shorter = way.shorter in let same = ap length same_path in h.links way.path way.node (omega (arith, shorter, same))

    pub way_inside : slot < length states
    way_inside = subst (λ s. s < length states) (sym way.at) (h.goto.within way.path way.node)

    way_long : length (path_in t states slot) ≡ length way.path
    way_long = ap (λ s. length (path_in t states s)) way.at ∙ path_long t slot_of states h.placing h.goto way.path way.node

    -- there is a child
    pub found : (child : ℕ) → child_in states slot label ≡ Some child → is_node t (way.path ++ label ∷ []) ≡ true
    found child is =
        (elim (is_node t (way.path ++ label ∷ [])) as (λ b. cond b (Some (slot_of (way.path ++ label ∷ []))) None ≡ Some child → b ≡ true) [
          | true ↦ λ _. refl
          | false ↦ λ e. absurd (none_some child e)
        ]) (sym child_is ∙ is)

    found_path : (child : ℕ) → child_in states slot label ≡ Some child → held_suffix t (u ++ label ∷ []) ≡ way.path ++ label ∷ []
    found_path child is = sym way.same ∙ held_of_node t (way.path ++ label ∷ []) (found child is)

    pub found_slot : (child : ℕ) → child_in states slot label ≡ Some child → child ≡ slot_of (held_suffix t (u ++ label ∷ []))
    found_slot child is =
        let there : child_in states slot label ≡ Some (slot_of (way.path ++ label ∷ [])) = child_is ∙ ap (λ b. cond b (Some (slot_of (way.path ++ label ∷ []))) None) (found child is) in
        some_is child (slot_of (way.path ++ label ∷ [])) (sym is ∙ there) ∙ ap slot_of (sym (found_path child is))

    pub found_cost : (child : ℕ) → child_in states slot label ≡ Some child → (after + 1) + length (held_suffix t (u ++ label ∷ [])) ≤ before + length u + 2
    found_cost child is =
        let cost = way.cost in
        let long = ap length (found_path child is) ∙ one_more way.path label in
        omega (arith, cost, long)

    -- there is none
    pub missing : child_in states slot label ≡ None → is_node t (way.path ++ label ∷ []) ≡ false
    missing is =
        (elim (is_node t (way.path ++ label ∷ [])) as (λ b. cond b (Some (slot_of (way.path ++ label ∷ []))) None ≡ None → b ≡ false) [
          | true ↦ λ e. absurd (none_some (slot_of (way.path ++ label ∷ [])) (sym e))
          | false ↦ λ _. refl
        ]) (sym child_is ∙ is)

    at_root : slot ≡ 0 → way.path ≡ []
    at_root zero = h.placing.one way.path [] way.node refl (sym way.at ∙ zero ∙ sym h.placing.root)

    pub root_path : slot ≡ 0 → child_in states slot label ≡ None → held_suffix t (u ++ label ∷ []) ≡ []
    root_path zero is =
        let empty = at_root zero in
        let gone : is_node t (label ∷ []) ≡ false = ap (λ w. is_node t (w ++ label ∷ [])) (sym empty) ∙ missing is in
        sym way.same ∙ ap (λ w. held_suffix t (w ++ label ∷ [])) empty ∙ held_of_other t label [] gone

    pub root_slot : slot ≡ 0 → child_in states slot label ≡ None → 0 ≡ slot_of (held_suffix t (u ++ label ∷ []))
    root_slot zero is = sym h.placing.root ∙ ap slot_of (sym (root_path zero is))

    pub root_cost : slot ≡ 0 → child_in states slot label ≡ None → (after + 1) + length (held_suffix t (u ++ label ∷ [])) ≤ before + length u + 2
    root_cost zero is =
        let cost = way.cost in
        let long = ap length (root_path zero is) in
        omega (arith, cost, long)

  -- the way goes on by the failure link
  further : (slot : ℕ) (path : List ℕ) → is_node t path ≡ true → slot ≡ slot_of path → (slot ≡ 0 → ⊥) → length path ≤ length u → held_suffix t (path ++ label ∷ []) ≡ held_suffix t (u ++ label ∷ []) → after + length path ≤ before + length u
      → is_node t (path ++ label ∷ []) ≡ false → (to later : ℕ) → to ≡ slot_of (failure t path) → later ≡ after + 1 → IsOnWay t slot_of u label to before later
  further slot [] is here other shorter same cost gone to later next one = absurd (other (here ∙ h.placing.root))
  further slot (c ∷ w) is here other shorter same cost gone to later next one =
      let less = held_shorter t w in
      record {
        path = held_suffix t w;
        node = held_is_node t w;
        at = next;
        shorter = omega (arith, shorter, less);
        same = sym (held_by_failure t c w label gone) ∙ same;
        cost = omega (arith, cost, less, one);
      }

  pub goes_on : (slot : ℕ) (way : IsOnWay t slot_of u label slot before after) → (slot ≡ 0 → ⊥) → child_in states slot label ≡ None → (to later : ℕ) → to ≡ (state_at states slot).failure → later ≡ after + 1 → IsOnWay t slot_of u label to before later
  goes_on slot way other is to later next one =
      further slot way.path way.node way.at other way.shorter way.same way.cost (missing slot way is) to later (next ∙ ap (λ s. (state_at states s).failure) way.at ∙ linked slot way) one

  failure_less : (path : List ℕ) → (slot_of path ≡ 0 → ⊥) → length (failure t path) < length path
  failure_less [] other = absurd (other h.placing.root)
  failure_less (c ∷ w) other = let less = held_shorter t w in omega (arith, less)

  failure_node : (path : List ℕ) → is_node t (failure t path) ≡ true
  failure_node [] = refl
  failure_node (c ∷ w) = held_is_node t w

  pub goes_down : (slot : ℕ) (way : IsOnWay t slot_of u label slot before after) → (slot ≡ 0 → ⊥) → (to : ℕ) → to ≡ (state_at states slot).failure → length (path_in t states to) < length (path_in t states slot)
  goes_down slot way other to next =
      let there : to ≡ slot_of (failure t way.path) = next ∙ ap (λ s. (state_at states s).failure) way.at ∙ linked slot way in
      let deep : length (path_in t states to) ≡ length (failure t way.path) = ap (λ s. length (path_in t states s)) there ∙ path_long t slot_of states h.placing h.goto (failure t way.path) (failure_node way.path) in
      let here = way_long slot way in
      let less = failure_less way.path (λ z. other (way.at ∙ z)) in
      omega (arith, deep, here, less)
