-- A walk over a range with two bounds: where it ends, and how it goes on.
use Rattle.std.proofs.Common.{◌≡◌, ℕ, suc, ◌+◌, ◌<◌, ◌≤◌, ◌∙◌, ap, arith, Bool, true, false, cond, List, [], ◌∷◌, ◌++◌, length, map, None, Option, Some, refl, subst, sym, ℤ}
use Rattle.std.specs.List.{filter}
use Rattle.std.proofs.lemmas.List.{length-append}
use Rattle.std.specs.Cmp.Lexicographic.{slice_cmp}
use Rattle.std.specs.Ordering.{is_ge, is_lt, nat_cmp}
use Rattle.cedar_tree.specs.Queries.{Entry}
use Rattle.cedar_tree.specs.Walks.{visited_entries}
use Rattle.cedar_tree.proofs.PredictLemmas.{filter-every}
use Rattle.cedar_tree.proofs.WalkLemmas.{filter-none}
use Rattle.cedar_model.specs.Edit.NodeEdits.{follow_on, IsAt}
use Rattle.cedar_model.specs.Meaning.StandsFor.{slot_at}
use Rattle.cedar_model.specs.Meaning.WellFormed.{cells_in, IsWellFormed}
use Rattle.cedar_model.specs.Table.TableFields.{Fields}
use Rattle.cedar_model.proofs.MeaningLemmas.Paths.{one_path}
use Rattle.cedar_model.proofs.UpdateLemmas.MarksAfterUpdate.{follow_one}
use Rattle.cedar_walk.specs.declared.visits.Numbered.{Numbered}
use Rattle.cedar_walk.specs.Keys.{KeyOutgrows}
use Rattle.cedar_walk.specs.Ranges.{behind_path}
use Rattle.cedar_walk.specs.Visits.{left_at, path_to}
use Rattle.cedar_walk.proofs.WalkLemmas.NextNode.{path_length}
use Rattle.cedarwood.specs.RangeWalks.{entries_left, entries_left_before, follows_end, IsEnd, IsRangePlace, precedes_end}
use Rattle.cedarwood.proofs.BetweenLemmas.{after_both, between_none, both_fail, lower, none_passes, opposite, stricter}
use Rattle.cedarwood.proofs.RangeLemmas.{range_place, ranged_is}
use Rattle.cedar_walk.proofs.WalkLemmas.Since.{behind_none}
use Rattle.cedar_walk.specs.Visits.{ComesToNumber}
use Rattle.cedar_walk.specs.Ranges.{entries_since}
use Rattle.cedar_tree.specs.Tree.{Tree}
use Rattle.cedar_tree.specs.Queries.{walk}
use Rattle.cedarwood.specs.RangeWalks.{entries_between}
use Rattle.std.proofs.Common.{MatchOption, Less, Equal, Greater, Ordering}
use Rattle.std.proofs.lemmas.Bool.{true≢false}
use Rattle.cedar_model.specs.Meaning.WellFormed.{tree_of}

abbrev pub left_of : Fields → List ℕ → Numbered → List Entry
left_of T start n = map (behind_path start) (visited_entries (left_at T start n.depth n.slot))

abbrev path_of : Fields → List ℕ → Numbered → List ℕ
path_of T start n = start ++ path_to T n.depth n.slot

abbrev head_path : List Entry → List ℕ
head_path [] = []
head_path (e ∷ es) = e.0

-- of the two tests of a bound just one is passed
not_before : (to : Option (List ℕ)) (w : List ℕ) → follows_end to w ≡ true → precedes_end to w ≡ false
not_before None w e = absurd (true≢false (sym e))
not_before (Some to) w e = opposite (slice_cmp nat_cmp w to) e

not_behind : (to : Option (List ℕ)) (w : List ℕ) → follows_end to w ≡ false → precedes_end to w ≡ true
not_behind None w e = refl
not_behind (Some to) w e = lower (slice_cmp nat_cmp w to) e

module _ (slots : ℕ) (T : Fields) (k : IsWellFormed slots T) (start : List ℕ) (n e : Numbered) (pn : IsRangePlace T start (Some n)) (pe : IsRangePlace T start (Some e)) where
  same_slot : path_of T start n ≡ path_of T start e → n.slot ≡ e.slot
  same_slot w = sym pn.0.1 ∙ ap (λ v. slot_at (cells_in T) (follow_on v [])) w ∙ pe.0.1

  same_path : n.slot ≡ e.slot → path_of T start n ≡ path_of T start e
  same_path s =
      let v = path_of T start n in
      let w = path_of T start e in
      follow_one v w (one_path (cells_in T) k.stands.root (follow_on v []) (follow_on w []) pn.0.0 pe.0.0 (pn.0.1 ∙ s ∙ sym pe.0.1))

  -- the node behind the range is next: nothing is left
  pub ended : (to : Option (List ℕ)) → IsEnd T start to (Some n) (Some e) → n.slot ≡ e.slot → entries_left_before T start to (Some n) ≡ []
  ended to end s =
      let p = path_to T n.depth n.slot in
      let q = path_to T e.depth e.slot in
      let deep : n.depth ≡ e.depth =
      omega (arith, ap length (same_path s), length-append start p, length-append start q, path_length T n.depth n.slot, path_length T e.depth e.slot) in
      let long : length (entries_left T start (Some n)) ≡ length (entries_left T start (Some e)) =
      ap (λ d. suc (length (map (behind_path start) (visited_entries (left_at T start d n.slot))))) deep
      ∙ ap (λ x. suc (length (map (behind_path start) (visited_entries (left_at T start e.depth x))))) s in
      none_passes (λ (x : Entry). follows_end to x.0) (λ x. precedes_end to x.0) (λ x. not_before to x.0) (entries_left T start (Some n))
      (omega (arith, long, ap length end))

  -- where it isn't next, the next entry is no first one of those behind the range
  pub not_first : (v w : ℤ) (xs ys : List Entry) → (n.slot ≡ e.slot → ⊥) → (path_of T start n, v) ∷ xs ≡ (path_of T start e, w) ∷ ys → ⊥
  not_first v w xs ys other same = other (same_slot (ap head_path same))

module _ (slots : ℕ) (T : Fields) (k : IsWellFormed slots T) (start : List ℕ) (n : Numbered) (pn : IsRangePlace T start (Some n)) (to : Option (List ℕ)) where
  -- the next entry is before the bound, and those behind it end where they ended
  pub goes_on : (end : Option Numbered) → IsRangePlace T start end → IsEnd T start to (Some n) end → ((e : Numbered) → end ≡ Some e → n.slot ≡ e.slot → ⊥)
      → (precedes_end to (path_of T start n) ≡ true) × (filter (λ x. follows_end to x.0) (left_of T start n) ≡ entries_left T start end)
  goes_on end pe ends other =
      (elim (follows_end to (path_of T start n)) as (λ b. follows_end to (path_of T start n) ≡ b
      → cond b ((path_of T start n, n.number) ∷ filter (λ x. follows_end to x.0) (left_of T start n)) (filter (λ x. follows_end to x.0) (left_of T start n)) ≡ entries_left T start end
      → (precedes_end to (path_of T start n) ≡ true) × (filter (λ x. follows_end to x.0) (left_of T start n) ≡ entries_left T start end)) [
        | true ↦ λ is same. absurd (at_end end pe other same)
        | false ↦ λ is same. (not_behind to (path_of T start n) is, same)
      ]) refl ends
    where
      at_end : (end : Option Numbered) → IsRangePlace T start end → ((e : Numbered) → end ≡ Some e → n.slot ≡ e.slot → ⊥)
          → (path_of T start n, n.number) ∷ filter (λ x. follows_end to x.0) (left_of T start n) ≡ entries_left T start end → ⊥
      at_end None pe other same = cc
      at_end (Some e) pe other same = not_first slots T k start n e pn pe n.number e.number _ _ (other e refl) same

-- ---- where it begins

is_less : (o : Ordering) → is_lt o ≡ true → o ≡ Less
is_less Less e = refl
is_less Equal e = absurd (true≢false (sym e))
is_less Greater e = absurd (true≢false (sym e))

pub between_turned : (t : Tree) (from to : List ℕ) → is_lt (slice_cmp nat_cmp from to) ≡ false → [] ≡ entries_between t from to
between_turned t from to turned =
    sym (both_fail (λ (e : Entry). is_lt (slice_cmp nat_cmp e.0 to)) (λ e. is_ge (slice_cmp nat_cmp e.0 from)) (λ e. between_none e.0 from to turned) (walk t))

module _ (T : Fields) (from to : List ℕ) (next end : Option Numbered)
    (begins : MatchOption next (entries_since (tree_of T) from ≡ []) (ComesToNumber T [] (entries_since (tree_of T) from)))
    (ends : MatchOption end (entries_since (tree_of T) to ≡ []) (ComesToNumber T [] (entries_since (tree_of T) to))) where
  since_from : entries_left T [] next ≡ entries_since (tree_of T) from
  since_from = ranged_is T [] (entries_since (tree_of T) from) next begins ∙ sym (behind_none (entries_since (tree_of T) from))

  since_end : entries_left T [] end ≡ entries_since (tree_of T) to
  since_end = ranged_is T [] (entries_since (tree_of T) to) end ends ∙ sym (behind_none (entries_since (tree_of T) to))

  pub bounded_is : entries_left_before T [] (Some to) next ≡ entries_between (tree_of T) from to
  bounded_is = ap (filter (λ (e : Entry). is_lt (slice_cmp nat_cmp e.0 to))) since_from

  pub bounded_places : IsRangePlace T [] next × IsRangePlace T [] end
  bounded_places = (range_place T [] (entries_since (tree_of T) from) next begins, range_place T [] (entries_since (tree_of T) to) end ends)

  pub bounded_ends : is_lt (slice_cmp nat_cmp from to) ≡ true → IsEnd T [] (Some to) next end
  bounded_ends up =
      ap (filter (λ (e : Entry). is_ge (slice_cmp nat_cmp e.0 to))) since_from
      ∙ stricter (λ (e : Entry). is_ge (slice_cmp nat_cmp e.0 to)) (λ e. is_ge (slice_cmp nat_cmp e.0 from)) (λ e. after_both e.0 from to (is_less (slice_cmp nat_cmp from to) up)) (walk (tree_of T))
      ∙ sym since_end

-- a walk without a bound gives all
pub unbounded : (T : Fields) (start : List ℕ) (next : Option Numbered) → entries_left_before T start None next ≡ entries_left T start next
unbounded T start next = filter-every (entries_left T start next)

pub no_end : (T : Fields) (start : List ℕ) (next : Option Numbered) → IsEnd T start None next None
no_end T start next = filter-none (λ (e : Entry). false) (entries_left T start next) (λ e. refl)

-- and goes on
pub step_of : (T : Fields) (start : List ℕ) (to : Option (List ℕ)) (n : Numbered) (found : Option Numbered) → precedes_end to (path_of T start n) ≡ true
    → MatchOption found (visited_entries (left_at T start n.depth n.slot) ≡ []) (ComesToNumber T start (visited_entries (left_at T start n.depth n.slot)))
    → entries_left_before T start to (Some n) ≡ (path_of T start n, n.number) ∷ entries_left_before T start to found
step_of T start to n found head m =
    ap (λ b. cond b ((path_of T start n, n.number) ∷ filter (λ (e : Entry). precedes_end to e.0) (left_of T start n)) (filter (λ (e : Entry). precedes_end to e.0) (left_of T start n))) head
    ∙ ap (λ (es : List Entry). (path_of T start n, n.number) ∷ filter (λ (e : Entry). precedes_end to e.0) es) (sym (ranged_is T start (visited_entries (left_at T start n.depth n.slot)) found m))

-- the next entry is one
pub some_left : (T : Fields) (start : List ℕ) (to : Option (List ℕ)) (n : Numbered) → precedes_end to (path_of T start n) ≡ true → 0 < length (entries_left_before T start to (Some n))
some_left T start to n head =
    subst (λ b. 0 < length (cond b ((path_of T start n, n.number) ∷ filter (λ (e : Entry). precedes_end to e.0) (left_of T start n)) (filter (λ (e : Entry). precedes_end to e.0) (left_of T start n)))) (sym head) (omega arith)

-- and its key is the next one to be written
pub next_outgrows : (T : Fields) (start : List ℕ) (to : Option (List ℕ)) (n : Numbered) (room : ℕ) → precedes_end to (path_of T start n) ≡ true → room < length (path_of T start n) → KeyOutgrows room (entries_left_before T start to (Some n))
next_outgrows T start to n room head long =
    subst (λ b. KeyOutgrows room (cond b ((path_of T start n, n.number) ∷ filter (λ (e : Entry). precedes_end to e.0) (left_of T start n)) (filter (λ (e : Entry). precedes_end to e.0) (left_of T start n)))) (sym head) long
