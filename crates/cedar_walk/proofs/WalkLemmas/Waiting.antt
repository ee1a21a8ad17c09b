-- A walk that keeps siblings to which it has still to come.
use Rattle.std.proofs.Common.{◌≡◌, ℕ, ◌+◌, ◌-◌, ◌<◌, ◌≤◌, zero, suc, add-one, List, [], ◌∷◌, ◌++◌, Option, Some, None, Bool, true, false, MatchOption, sym, ◌∙◌, ap, refl, subst, inl, inr, arith}
use Rattle.std.specs.Prelude.{pos, unsigned_abs, cond, get_or, length, set, bit_xor, ◌==◌}
use Rattle.std.proofs.lemmas.Bool.Decides.{eqb_tells}
use Rattle.std.proofs.lemmas.List.{get_or-set_other, get_or-set_same}
use Rattle.std.proofs.lemmas.Nat.{xor_comm}
use Rattle.cedar_model.specs.Queries.{node_at}
use Rattle.cedar_model.specs.Tree.{has_label}
use Rattle.cedar_model.specs.Walks.{visited_entries}
use Rattle.cedar_walk.specs.declared.pending.PendingSibling.{PendingSibling}
use Rattle.cedar_walk.specs.declared.visits.Place.{Place}
use Rattle.cedar_model.specs.Table.Cells.{Cells}
use Rattle.cedar_model.specs.Meaning.Family.{base_of, below}
use Rattle.cedar_model.specs.Edit.NodeEdits.{IsAt}
use Rattle.cedar_model.specs.Table.TableFields.{Fields, size_of}
use Rattle.cedar_model.specs.Meaning.WellFormed.{cells_in, IsWellFormed, tree_of}
use Rattle.cedar_model.proofs.MeaningLemmas.ExclusiveOr.{xor_back}
use Rattle.cedar_walk.specs.Pending.{ComesAt, GoesKeeping, IsPending, kept_behind, ComesNextTo, nearest_first, NoneLeft}
use Rattle.cedar_walk.specs.Visits.{ComesTo, first_sibling_label, GoesToPlace, IsBelow, label_after, left_after, left_at, owner_of, path_to, visited_at}
use Rattle.cedar_walk.proofs.WalkLemmas.NextNode.{at_last, child_inside, child_owned, climbed_none, climbed_on, comes_right, first_is, first_there, last_of, parent_below, sibling_there, stepped}
use Rattle.cedar_walk.proofs.WalkLemmas.NextNumber.{comes_first, number_there}

-- ---- the list

pub nearest_length : (kept : List PendingSibling) (n : ℕ) → length (nearest_first kept n) ≡ n
nearest_length kept zero = refl
nearest_length kept (suc n) = let e = nearest_length kept n in omega (arith, e)

-- one that is put behind them changes none of them
pub nearest_set : (kept : List PendingSibling) (m n : ℕ) (sibling : PendingSibling) → n ≤ m → nearest_first (set kept m sibling) n ≡ nearest_first kept n
nearest_set kept m zero sibling less = refl
nearest_set kept m (suc n) sibling less =
    ap (λ x. x ∷ nearest_first (set kept m sibling) n) (get_or-set_other kept m n sibling (record { slot = 0; depth = 0; label = 0 }) (λ e. omega (arith, e, less)))
    ∙ ap (λ xs. get_or kept n (record { slot = 0; depth = 0; label = 0 }) ∷ xs) (nearest_set kept m n sibling (omega (arith, less)))

pub nearest_put : (kept : List PendingSibling) (n : ℕ) (sibling : PendingSibling) → n < length kept → nearest_first (set kept n sibling) (n + 1) ≡ sibling ∷ nearest_first kept n
nearest_put kept n sibling inside =
    ap (nearest_first (set kept n sibling)) (add-one n)
    ∙ ap (λ x. x ∷ nearest_first (set kept n sibling) n) (get_or-set_same kept n sibling (record { slot = 0; depth = 0; label = 0 }) inside)
    ∙ ap (λ xs. sibling ∷ xs) (nearest_set kept n n sibling (omega arith))

-- one is put before those that are kept, where there is room
pub put_free : (kept : List PendingSibling) (n : ℕ) (sibling : PendingSibling) → n < length kept → (n ≡ 16 → ⊥) → nearest_first (set kept n sibling) (n + 1) ≡ sibling ∷ kept_behind (nearest_first kept n)
put_free kept n sibling inside room = elim (eqb_tells (length (nearest_first kept n)) 16) [
  | inl e ↦ absurd (room (sym (nearest_length kept n) ∙ e.1))
  | inr e ↦ nearest_put kept n sibling inside ∙ ap (λ b. sibling ∷ cond b [] (nearest_first kept n)) (sym e.0)
]

-- those that are kept behind a nearer one are right where all of them were
pub kept_less : (T : Fields) (siblings : List PendingSibling) (n s : ℕ) → IsPending T siblings n s → IsPending T (kept_behind siblings) n s
kept_less T siblings n s h = by_test (length siblings == 16)
  where
    by_test : (full : Bool) → IsPending T (cond full [] siblings) n s
    by_test true = tt
    by_test false = h

-- ---- the label of a slot below its owner

pub base_back : (T : Cells) (p s : ℕ) → bit_xor s (below T p s) ≡ base_of T p
base_back T p s = ap (bit_xor s) (xor_comm (base_of T p) s) ∙ xor_back s (base_of T p)

label_back : (T : Cells) (p c l : ℕ) → owner_of T c ≡ p → c ≡ below T p l → l ≡ below T (owner_of T c) c
label_back T p c l owner slot = sym (ap (λ x. below T x c) owner ∙ ap (below T p) slot ∙ xor_back (base_of T p) l)

abbrev end_of : ℕ → List ℕ → ℕ
end_of d [] = d
end_of d (x ∷ xs) = end_of x xs

end_is : (d : ℕ) (xs : List ℕ) (a : ℕ) → end_of d (xs ++ a ∷ []) ≡ a
end_is d [] a = refl
end_is d (x ∷ xs) a = end_is x xs a

-- a way down ends in the label of its slot
way_ends : (T : Fields) (n s l : ℕ) (front : List ℕ) → 0 < n → path_to T n s ≡ front ++ l ∷ [] → l ≡ below (cells_in T) (owner_of (cells_in T) s) s
way_ends T zero s l front deep e = absurd (omega (arith, deep))
way_ends T (suc n) s l front deep e =
    sym (end_is 0 front l) ∙ ap (end_of 0) (sym e) ∙ end_is 0 (path_to T n (owner_of (cells_in T) s)) (below (cells_in T) (owner_of (cells_in T) s) s)

-- ---- in a well-formed table

module _ (slots : ℕ) (T : Fields) (k : IsWellFormed slots T) where
  -- a node below the one where a walk began has an owner
  pub owned : (start : List ℕ) (n s : ℕ) → IsBelow (cells_in T) start n s → (n ≡ 0 → ⊥) → (cells_in T).check s ≡ pos (owner_of (cells_in T) s)
  owned start n s at some =
      let last = last_of (cells_in T) (start ++ path_to T (n - 1) (owner_of (cells_in T) s)) (below (cells_in T) (owner_of (cells_in T) s) s) s (at_last slots T k start n s n s (climbed_none T start n s at) some) in
      last.check ∙ ap pos (sym (ap unsigned_abs last.check))

  -- the first child is next, and what waits for the node waits for the child
  pub leads_down : (n s l : ℕ) (place : Place) (siblings : List PendingSibling) → ((start : List ℕ) × IsBelow (cells_in T) start n s) → ((w : List ℕ) → IsAt (cells_in T) w s → l ≡ first_sibling_label (node_at (tree_of T) w).children) → (l ≡ 0 → ⊥)
      → place.slot ≡ below (cells_in T) s l → place.depth ≡ n + 1 → place.label ≡ l → IsPending T siblings n s → GoesKeeping T n s siblings place
  leads_down n s l place siblings here first some slot depth label kept =
      let w = here.0 ++ path_to T n s in
      let child = child_owned slots T k w s l here.1 (first_there (node_at (tree_of T) w).children (first w here.1) some) in
      let owner : owner_of (cells_in T) place.slot ≡ s = ap (owner_of (cells_in T)) slot ∙ ap unsigned_abs child in
      let comes : (start : List ℕ) → IsBelow (cells_in T) start n s → ComesTo T start (left_at T start n s) (path_to T n s) (visited_at T start place) = λ start at. comes_first slots T k start n s l place at (first (start ++ path_to T n s) at) some slot depth label in
      record {
        leads = record {
          deep = omega (arith, depth);
          last = label ∙ label_back (cells_in T) s place.slot l owner slot;
          comes = λ start at. record { below = (comes start at).below; entries = ap visited_entries (comes start at).visits };
        };
        kept = subst (λ m. IsPending T siblings m (owner_of (cells_in T) place.slot)) (omega (arith, depth)) (subst (IsPending T siblings n) (sym owner) kept);
      }

  module _ (n s l : ℕ) (here : (start : List ℕ) × IsBelow (cells_in T) start n s) (some : n ≡ 0 → ⊥) (read : (w : List ℕ) (j : ℕ) → IsAt (cells_in T) (w ++ j ∷ []) s → l ≡ label_after (tree_of T) w j) where
    abbrev above : ℕ
    above = owner_of (cells_in T) s

    -- a node without a later sibling leaves what waits for the one above
    pub kept_up : l ≡ 0 → (siblings : List PendingSibling) → IsPending T siblings (n - 1) (owner_of (cells_in T) s) → IsPending T siblings n s
    kept_up z [] h = tt
    kept_up z (sibling ∷ farther) h = (record { deep = h.0.deep; last = h.0.last; comes = comes }, h.1)
      where
        comes : (start : List ℕ) → IsBelow (cells_in T) start n s → ComesAt T start (visited_entries (left_after T start n s)) sibling.depth sibling.slot
        comes start at =
            let o = owned start n s at some in
            let none_yet = climbed_none T start n s at in
            let first = first_is slots T k start n s n s none_yet some above l o read in
            let c = climbed_on slots T k start n s (n - 1) s above l (stepped slots T k start n s n s none_yet some) o first z in
            let found = h.0.comes start c.below in
            record { below = found.below; entries = ap visited_entries c.left ∙ found.entries }

    there : (l ≡ 0 → ⊥) → (start : List ℕ) → IsBelow (cells_in T) start n s → IsBelow (cells_in T) start (n - 1) above × (has_label (node_at (tree_of T) (start ++ path_to T (n - 1) above)).children l ≡ true)
    there named start at =
        let o = owned start n s at some in
        let none_yet = climbed_none T start n s at in
        let on = stepped slots T k start n s n s none_yet some in
        (parent_below slots T k start (n - 1) s above on.below o, sibling_there slots T k start n s (n - 1) s above l on o (first_is slots T k start n s n s none_yet some above l o read) named)

    pub sibling_inside : (l ≡ 0 → ⊥) → below (cells_in T) (owner_of (cells_in T) s) l < size_of T
    sibling_inside named = let found = there named here.0 here.1 in child_inside slots T k (here.0 ++ path_to T (n - 1) above) above l found.0 found.1

    -- a later sibling waits for it
    pub waits : (l ≡ 0 → ⊥) → ComesNextTo T left_after n s n (below (cells_in T) (owner_of (cells_in T) s) l) l × (owner_of (cells_in T) (below (cells_in T) (owner_of (cells_in T) s) l) ≡ owner_of (cells_in T) s)
    waits named = (record { deep = omega (arith, some); last = label_back (cells_in T) above (below (cells_in T) above l) l owner refl; comes = comes }, owner)
      where
        owner : owner_of (cells_in T) (below (cells_in T) above l) ≡ above
        owner = let found = there named here.0 here.1 in ap unsigned_abs (child_owned slots T k (here.0 ++ path_to T (n - 1) above) above l found.0 found.1)

        comes : (start : List ℕ) → IsBelow (cells_in T) start n s → ComesAt T start (visited_entries (left_after T start n s)) n (below (cells_in T) above l)
        comes start at =
            let o = owned start n s at some in
            let none_yet = climbed_none T start n s at in
            let found = there named start at in
            let place : Place = record { slot = below (cells_in T) above l; depth = n; label = l } in
            let number = number_there slots T k start (n - 1) above l place.slot place.depth found.0 found.1 refl (omega (arith, some)) in
            let next = comes_right slots T k start n s (n - 1) s above l (stepped slots T k start n s n s none_yet some) o (first_is slots T k start n s n s none_yet some above l o read) (visited_at T start place) named refl (omega (arith, some)) refl number in
            record { below = next.below; entries = ap visited_entries next.visits }

    -- and is the nearest then
    pub put_before : (l ≡ 0 → ⊥) → (siblings : List PendingSibling) → IsPending T siblings (n - 1) (owner_of (cells_in T) s)
        → (sibling : PendingSibling) → sibling.slot ≡ below (cells_in T) (owner_of (cells_in T) s) l → sibling.depth ≡ n → sibling.label ≡ l → IsPending T (sibling ∷ kept_behind siblings) n s
    put_before named siblings h sibling slot depth label =
        let found = waits named in (
          subst (λ x. ComesNextTo T left_after n s sibling.depth sibling.slot x) (sym label) (subst (λ x. ComesNextTo T left_after n s sibling.depth x l) (sym slot) (subst (λ x. ComesNextTo T left_after n s x (below (cells_in T) above l) l) (sym depth) found.0)),
          subst (λ x. IsPending T (kept_behind siblings) (x - 1) (owner_of (cells_in T) sibling.slot)) (sym depth) (subst (λ x. IsPending T (kept_behind siblings) (n - 1) (owner_of (cells_in T) x)) (sym slot) (subst (IsPending T (kept_behind siblings) (n - 1)) (sym found.1) (kept_less T siblings (n - 1) above h))),
        )

-- ---- where a walk goes on from a node without children

-- to the nearest sibling
pub popped : (T : Fields) (n s : ℕ) (old new : List PendingSibling) (sibling : PendingSibling) (place : Place) → old ≡ sibling ∷ new → IsPending T old n s
    → ((start : List ℕ) → IsBelow (cells_in T) start n s → left_at T start n s ≡ left_after T start n s)
    → place.slot ≡ sibling.slot → place.depth ≡ sibling.depth → place.label ≡ sibling.label → GoesKeeping T n s new place
popped T n s old new sibling place is h past slot depth label =
    let both : IsPending T (sibling ∷ new) n s = subst (λ xs. IsPending T xs n s) is h in
    let leads : ComesNextTo T left_at n s sibling.depth sibling.slot sibling.label = record {
      deep = both.0.deep;
      last = both.0.last;
      comes = λ start at. record { below = (both.0.comes start at).below; entries = ap visited_entries (past start at) ∙ (both.0.comes start at).entries };
    } in
    record {
      leads = subst (ComesNextTo T left_at n s place.depth place.slot) (sym label) (subst (λ x. ComesNextTo T left_at n s place.depth x sibling.label) (sym slot) (subst (λ x. ComesNextTo T left_at n s x sibling.slot sibling.label) (sym depth) leads));
      kept = subst (λ x. IsPending T new (x - 1) (owner_of (cells_in T) place.slot)) (sym depth) (subst (λ x. IsPending T new (sibling.depth - 1) (owner_of (cells_in T) x)) (sym slot) both.1);
    }

-- or, where none is kept, to the one that a climb finds
pub climbed_to : (T : Fields) (n s : ℕ) (siblings : List PendingSibling) (found : Option Place) → siblings ≡ [] → ((start : List ℕ) × IsBelow (cells_in T) start n s)
    → ((start : List ℕ) → IsBelow (cells_in T) start n s → left_at T start n s ≡ left_after T start n s) → GoesToPlace left_after T n s found → MatchOption found (NoneLeft T n s) (GoesKeeping T n s siblings)
climbed_to T n s siblings None empty here past goes = λ start at. ap visited_entries (past start at ∙ goes start at)
climbed_to T n s siblings (Some place) empty here past goes =
    let first = goes here.0 here.1 in
    record {
      leads = record {
        deep = first.deep.0;
        last = way_ends T place.depth place.slot place.label _ first.deep.0 first.way;
        comes = λ start at. record { below = (goes start at).below; entries = ap visited_entries (past start at ∙ (goes start at).visits) };
      };
      kept = subst (λ xs. IsPending T xs (place.depth - 1) (owner_of (cells_in T) place.slot)) (sym empty) tt;
    }
