-- The way to the last node of a walk.
use Rattle.std.proofs.Common.{◌≡◌, ℕ, suc, ◌+◌, ◌-◌, ℤ, List, [], ◌∷◌, ◌++◌, length, map, None, Option, option_map, Some, append_assoc, sym, ◌∙◌, ap, refl, arith, true}
use Rattle.std.specs.Prelude.{pos, unsigned_abs}
use Rattle.std.proofs.lemmas.List.{length-append}
use Rattle.std.proofs.lemmas.List.Elements.{filter_map-append}
use Rattle.cedar_model.specs.Tree.{has_label}
use Rattle.cedar_model.specs.Queries.{Entry, node_at, walk}
use Rattle.cedar_model.specs.Walks.{behind, node_up, Visit, visit_from, visited_entries, visits_below}
use Rattle.cedar_model.specs.Meaning.Family.{below}
use Rattle.cedar_model.specs.Edit.NodeEdits.{IsAt}
use Rattle.cedar_model.specs.Table.TableFields.{Fields}
use Rattle.cedar_model.specs.Meaning.WellFormed.{cells_in, IsWellFormed, tree_of}
use Rattle.cedar_walk.specs.declared.visits.Numbered.{Numbered}
use Rattle.cedar_walk.specs.declared.visits.Place.{Place}
use Rattle.cedar_walk.specs.Ends.{GoesPast, HasPassed, IsLastNumber, IsOnLastWay}
use Rattle.cedar_walk.specs.Visits.{ComesToNumber, entries_at, first_sibling_label, IsBelow, left_after, left_at, number_below, owner_of, path_to, visited_at, way_up}
use Rattle.cedar_walk.proofs.WalkLemmas.NextNode.{at_last, child_owned, Climbed, climbed_none, climbed_on, comes_right, first_is, first_there, none_below, parent_below, sibling_there, stepped}
use Rattle.cedar_walk.proofs.WalkLemmas.NextNumber.{comes_first, number_there, root_walk}

-- the entries of some visits, and then those of others
entries_then : (vs ws : List Visit) → visited_entries (vs ++ ws) ≡ visited_entries vs ++ visited_entries ws
entries_then vs ws = filter_map-append (λ (v : Visit). option_map (λ (x : ℤ). (v.0, x)) v.1) vs ws

abbrev below_here : (T : Fields) (n s : ℕ) → List Visit
below_here T n s = map (visit_from (path_to T n s)) (visits_below (node_up (tree_of T) (way_up (cells_in T) n s)).children)

module _ (slots : ℕ) (T : Fields) (k : IsWellFormed slots T) (place : Place) (on : IsOnLastWay T place) where
  some : place.depth ≡ 0 → ⊥
  some z = omega (arith, on.deep, z)

  climb : Climbed T [] place.depth place.slot place.depth place.slot
  climb = climbed_none T [] place.depth place.slot on.below

  -- its node hangs under a label
  pub hangs : IsAt (cells_in T) (([] ++ path_to T (place.depth - 1) (owner_of (cells_in T) place.slot)) ++ below (cells_in T) (owner_of (cells_in T) place.slot) place.slot ∷ []) place.slot
  hangs = at_last slots T k [] place.depth place.slot place.depth place.slot climb some

  module _ (p l : ℕ) (o : (cells_in T).check place.slot ≡ pos p) (read : (w : List ℕ) (j : ℕ) → IsAt (cells_in T) (w ++ j ∷ []) place.slot → l ≡ first_sibling_label (behind (node_at (tree_of T) w).children j)) where
    stands : Climbed T [] place.depth place.slot (suc (place.depth - 1)) place.slot
    stands = stepped slots T k [] place.depth place.slot place.depth place.slot climb some

    first : l ≡ first_sibling_label (behind (node_at (tree_of T) ([] ++ path_to T (place.depth - 1) p)).children (below (cells_in T) p place.slot))
    first = first_is slots T k [] place.depth place.slot place.depth place.slot climb some p l o read

    pub above_here : IsBelow (cells_in T) [] (place.depth - 1) p
    above_here = parent_below slots T k [] (place.depth - 1) place.slot p stands.below o

    -- the sibling after it
    pub sibling_here : (l ≡ 0 → ⊥) → has_label (node_at (tree_of T) ([] ++ path_to T (place.depth - 1) p)).children l ≡ true
    sibling_here there = sibling_there slots T k [] place.depth place.slot (place.depth - 1) place.slot p l stands o first there

    nothing_above : left_after T [] (place.depth - 1) p ≡ []
    nothing_above = ap (left_after T [] (place.depth - 1)) (sym (ap unsigned_abs o)) ∙ on.alone

    pub goes_right_on : (next : Place) → (l ≡ 0 → ⊥) → next.slot ≡ below (cells_in T) p l → next.depth ≡ place.depth → next.label ≡ l → GoesPast T place next
    goes_right_on next there slot depth label =
        let n = place.depth in
        let s = place.slot in
        let m = place.depth - 1 in
        let deep : next.depth ≡ suc (place.depth - 1) = omega (arith, depth, on.deep) in
        let deep_more : next.depth ≡ (place.depth - 1) + 1 = omega (arith, depth, on.deep) in
        let has = sibling_here there in
        let comes = comes_right slots T k [] n s m s p l stands o first (visited_at T [] next) there slot deep label (number_there slots T k [] m p l next.slot next.depth above_here has slot deep_more) in
        let owner : owner_of (cells_in T) next.slot ≡ p = ap (owner_of (cells_in T)) slot ∙ ap unsigned_abs (child_owned slots T k ([] ++ path_to T m p) p l above_here has) in
        let rest : length (left_after T [] n s) ≡ suc (length (left_at T [] next.depth next.slot)) = ap length comes.visits in
        let whole : length (left_at T [] n s) ≡ length (below_here T n s) + length (left_after T [] n s) = length-append (below_here T n s) (left_after T [] n s) in
        record {
          on = record {
            below = comes.below;
            deep = comes.deep.0;
            alone = ap (λ d. left_after T [] (d - 1) (owner_of (cells_in T) next.slot)) depth ∙ ap (left_after T [] m) owner ∙ nothing_above;
          };
          before = visited_entries ((path_to T n s, number_below T [] n s) ∷ below_here T n s);
          entries =
              entries_then ((path_to T n s, number_below T [] n s) ∷ below_here T n s) (left_after T [] n s)
              ∙ ap (λ (vs : List Visit). visited_entries ((path_to T n s, number_below T [] n s) ∷ below_here T n s) ++ visited_entries vs) comes.visits;
          less = omega (arith, rest, whole);
        }

    -- without one nothing is left once the walk is through with all below the node
    pub alone_here : l ≡ 0 → left_after T [] place.depth place.slot ≡ []
    alone_here z = (climbed_on slots T k [] place.depth place.slot (place.depth - 1) place.slot p l stands o first z).left ∙ nothing_above

  -- its first child
  pub goes_down_on : (l : ℕ) (next : Place) → left_after T [] place.depth place.slot ≡ [] → l ≡ first_sibling_label (node_at (tree_of T) ([] ++ path_to T place.depth place.slot)).children → (l ≡ 0 → ⊥)
      → next.slot ≡ below (cells_in T) place.slot l → next.depth ≡ place.depth + 1 → next.label ≡ l → GoesPast T place next
  goes_down_on l next alone first there slot depth label =
      let n = place.depth in
      let s = place.slot in
      let comes = comes_first slots T k [] n s l next on.below first there slot depth label in
      let owner : owner_of (cells_in T) next.slot ≡ place.slot = ap (owner_of (cells_in T)) slot ∙ ap unsigned_abs (child_owned slots T k ([] ++ path_to T n s) s l on.below (first_there (node_at (tree_of T) ([] ++ path_to T n s)).children first there)) in
      let same : next.depth - 1 ≡ place.depth = omega (arith, depth) in
      let rest : length (left_at T [] n s) ≡ suc (length (left_at T [] next.depth next.slot)) = ap length comes.visits in
      record {
        on = record {
          below = comes.below;
          deep = comes.deep.0;
          alone = ap (λ d. left_after T [] d (owner_of (cells_in T) next.slot)) same ∙ ap (left_after T [] n) owner ∙ alone;
        };
        before = visited_entries ((path_to T n s, number_below T [] n s) ∷ []);
        entries =
            entries_then ((path_to T n s, number_below T [] n s) ∷ []) (left_at T [] n s)
            ∙ ap (λ (vs : List Visit). visited_entries ((path_to T n s, number_below T [] n s) ∷ []) ++ visited_entries vs) comes.visits;
        less = omega (arith, rest);
      }

  -- without one nothing is left
  pub ends_here : (l : ℕ) → left_after T [] place.depth place.slot ≡ [] → l ≡ first_sibling_label (node_at (tree_of T) ([] ++ path_to T place.depth place.slot)).children → l ≡ 0 → left_at T [] place.depth place.slot ≡ []
  ends_here l alone first z = none_below slots T k [] place.depth place.slot l first z ∙ alone

-- ---- where it begins and ends

pub at_top : (T : Fields) → IsAt (cells_in T) [] 0
at_top T = (tt, refl)

module _ (slots : ℕ) (T : Fields) (k : IsWellFormed slots T) (l : ℕ) (first : l ≡ first_sibling_label (node_at (tree_of T) []).children) where
  pub empty_walk : l ≡ 0 → walk (tree_of T) ≡ []
  empty_walk z = root_walk slots T k [] 0 (at_top T) refl ∙ ap visited_entries (none_below slots T k [] 0 0 l first z)

  pub begins_down : (place : Place) → (l ≡ 0 → ⊥) → place.slot ≡ below (cells_in T) 0 l → place.depth ≡ 1 → place.label ≡ l → HasPassed T place
  begins_down place there slot depth label =
      let comes = comes_first slots T k [] 0 0 l place (at_top T) first there slot depth label in
      record {
        on = record {
          below = comes.below;
          deep = comes.deep.0;
          alone = ap (λ d. left_after T [] (d - 1) (owner_of (cells_in T) place.slot)) depth;
        };
        before = [];
        entries = root_walk slots T k [] 0 (at_top T) refl ∙ ap visited_entries comes.visits;
      }

pub passes_on : (T : Fields) (place next : Place) → HasPassed T place → GoesPast T place next → HasPassed T next
passes_on T place next passed goes = record {
  on = goes.on;
  before = passed.before ++ goes.before;
  entries = passed.entries ∙ ap (λ (es : List Entry). passed.before ++ es) goes.entries ∙ sym (append_assoc passed.before goes.before (entries_at T [] next.depth next.slot));
}

-- of one node there is one entry at most
alone_entry : (v : Visit) (e : Entry) (es : List Entry) → visited_entries (v ∷ []) ≡ e ∷ es → es ≡ []
alone_entry v e es same = by_number v.1 same
  where
    by_number : (o : Option ℤ) → visited_entries ((v.0, o) ∷ []) ≡ e ∷ es → es ≡ []
    by_number None is = absurd (cc)
    by_number (Some x) is = cc

pub last_is : (T : Fields) (place : Place) (last : Numbered) → HasPassed T place → left_at T [] place.depth place.slot ≡ [] → ComesToNumber T [] (entries_at T [] place.depth place.slot) last → IsLastNumber T last
last_is T place last passed gone comes =
    let alone : visited_entries ((path_to T place.depth place.slot, number_below T [] place.depth place.slot) ∷ []) ≡ (path_to T last.depth last.slot, last.number) ∷ visited_entries (left_at T [] last.depth last.slot) =
    ap (λ (vs : List Visit). visited_entries ((path_to T place.depth place.slot, number_below T [] place.depth place.slot) ∷ vs)) (sym gone) ∙ comes.entries in
    let none_left = alone_entry (path_to T place.depth place.slot, number_below T [] place.depth place.slot) (path_to T last.depth last.slot, last.number) (visited_entries (left_at T [] last.depth last.slot)) alone in
    record {
      below = (comes.below, last.number, comes.number);
      before = passed.before;
      entries =
          passed.entries
          ∙ ap (λ (es : List Entry). passed.before ++ es) comes.entries
          ∙ ap (λ (es : List Entry). passed.before ++ (path_to T last.depth last.slot, last.number) ∷ es) none_left;
    }
