-- A page below a prefix: where it begins, and what the walk there has left.
use Rattle.std.proofs.Common.{◌≡◌, ℕ, zero, suc, ◌+◌, ◌-◌, ◌<◌, ◌≤◌, ◌==◌, ◌&&◌, Bool, true, false, cond, ℤ, List, [], ◌∷◌, ◌++◌, length, drop, map, nat_eq, nat_lt, Option, Some, None, IfSome, IsSome, append_assoc, eq-eqb, refl, sym, ap, subst, ◌∙◌, arith}
use Rattle.std.specs.Prelude.{Err, Ok, OnErr, Result, unsigned_abs}
use Rattle.std.specs.Cmp.Lexicographic.{slice_cmp}
use Rattle.std.specs.List.{filter, starts_with}
use Rattle.std.specs.Option.{is_some}
use Rattle.std.specs.Ordering.{is_ge, is_gt, is_lt, nat_cmp, ordering_reverse, ordering_then}
use Rattle.std.specs.declared.cmp.Ordering.{Ordering}
use Rattle.std.specs.declared.cmp.Ordering.TheVariants.{Equal, Greater, Less}
use Rattle.std.proofs.lemmas.Bool.{eqb-true, false≢true, ltb-true, ne_eqb, true≢false}
use Rattle.std.proofs.lemmas.Cmp.{by_ranked, nat_cmp_total, nat_list_cmp_total, ranked, tied_itself, upto}
use Rattle.std.proofs.lemmas.List.{length-append, length-drop}
use Rattle.cedar_tree.specs.Edits.{HasPath}
use Rattle.cedar_tree.specs.Tree.{number_at, subtree, Tree}
use Rattle.cedar_tree.specs.Queries.{Entry, node_at, walk}
use Rattle.cedar_tree.specs.Walks.{forwards, node_up, visited_entries, visits_left}
use Rattle.cedar_tree.proofs.GeneralLemmas.{filter-same}
use Rattle.cedar_tree.proofs.PredictLemmas.{filter-every}
use Rattle.cedar_tree.proofs.VisitLemmas.{node_up_is}
use Rattle.cedar_tree.proofs.WalkLemmas.{filter-map}
use Rattle.cedar_model.specs.Edit.NodeEdits.{IsAt}
use Rattle.cedar_model.specs.Meaning.Family.{base_of, below}
use Rattle.cedar_model.specs.Meaning.WellFormed.{cells_in, IsWellFormed, tree_of}
use Rattle.cedar_model.specs.Table.TableFields.{Fields, size_of}
use Rattle.cedar_model.proofs.MeaningLemmas.ExclusiveOr.{xor_back}
use Rattle.cedar_model.proofs.MeaningLemmas.KeyPath.{tree_root}
use Rattle.cedar_model.proofs.MeaningLemmas.NodeAtPath.{at_path}
use Rattle.cedar_walk.specs.Ranges.{behind_path, entries_since, entries_with}
use Rattle.cedar_walk.specs.Visits.{IsBelow, left_at, number_below, owner_of, path_to, way_up}
use Rattle.cedar_walk.proofs.WalkLemmas.NextNode.{last_of, path_length}
use Rattle.cedar_walk.proofs.WalkLemmas.NextNumber.{last_label}
use Rattle.cedar_walk.proofs.WalkLemmas.Prefixed.{entries_with_node}
use Rattle.cedar_walk.proofs.WalkLemmas.Since.{ascending_at, behind_none, cmp_above, since_node}
use Rattle.cedar_c.specs.Below.{FindsNoRoom, following_below, MayWantMemory, prefixed_behind, TellsNext}
use Rattle.cedar_c.specs.Entries.{bytes_lacking, entries_behind_key, page_of, spots_of, WritesNothing, WritesPage}
use Rattle.cedar_c.specs.Pairs.{keys_in}
use Rattle.cedar_c.specs.declared.status.TheConstants.{NO_ROOM}
use Rattle.cedar_c.specs.declared.scans.Found.{Found}
use Rattle.cedar_c.proofs.EntryLemmas.{held_first, lacking_since, since_held}

-- ---- filters

abbrev begins : List ℕ → Entry → Bool
begins prefix e = starts_with nat_eq e.0 prefix

abbrev since : List ℕ → Entry → Bool
since q e = is_ge (slice_cmp nat_cmp e.0 q)

abbrev after : List ℕ → Entry → Bool
after q e = is_gt (slice_cmp nat_cmp e.0 q)

swap : (p q : Entry → Bool) (es : List Entry) → filter p (filter q es) ≡ filter q (filter p es)
swap p q [] = refl
swap p q (e ∷ es) =
    (elim (q e) as (λ b. q e ≡ b → filter p (cond b (e ∷ filter q es) (filter q es)) ≡ filter q (cond (p e) (e ∷ filter p es) (filter p es))) [
      | true ↦ λ is. elim (p e) as (λ c. cond c (e ∷ filter p (filter q es)) (filter p (filter q es)) ≡ filter q (cond c (e ∷ filter p es) (filter p es))) [
        | true ↦ ap (λ (r : List Entry). e ∷ r) (swap p q es) ∙ sym (ap (λ b. cond b (e ∷ filter q (filter p es)) (filter q (filter p es))) is)
        | false ↦ swap p q es
      ]
      | false ↦ λ is. elim (p e) as (λ c. filter p (filter q es) ≡ filter q (cond c (e ∷ filter p es) (filter p es))) [
        | true ↦ swap p q es ∙ sym (ap (λ b. cond b (e ∷ filter q (filter p es)) (filter q (filter p es))) is)
        | false ↦ swap p q es
      ]
    ]) refl

-- nothing passes both
none_of : (p q : Entry → Bool) (es : List Entry) → ((e : Entry) → q e ≡ true → p e ≡ false) → filter p (filter q es) ≡ []
none_of p q [] h = refl
none_of p q (e ∷ es) h =
    (elim (q e) as (λ b. q e ≡ b → filter p (cond b (e ∷ filter q es) (filter q es)) ≡ []) [
      | true ↦ λ is. ap (λ b. cond b (e ∷ filter p (filter q es)) (filter p (filter q es))) (h e is) ∙ none_of p q es h
      | false ↦ λ is. none_of p q es h
    ]) refl

-- what passes the one passes the other
all_of : (p q : Entry → Bool) (es : List Entry) → ((e : Entry) → q e ≡ true → p e ≡ true) → filter p (filter q es) ≡ filter q es
all_of p q [] h = refl
all_of p q (e ∷ es) h =
    (elim (q e) as (λ b. q e ≡ b → filter p (cond b (e ∷ filter q es) (filter q es)) ≡ cond b (e ∷ filter q es) (filter q es)) [
      | true ↦ λ is. ap (λ b. cond b (e ∷ filter p (filter q es)) (filter p (filter q es))) (h e is) ∙ ap (λ (r : List Entry). e ∷ r) (all_of p q es h)
      | false ↦ λ is. all_of p q es h
    ]) refl

abbrev first_of : Entry → List Entry → Entry
first_of d [] = d
first_of d (e ∷ es) = e

abbrev rest_of : List Entry → List Entry
rest_of [] = []
rest_of (e ∷ es) = es

first_passes : (q : Entry → Bool) (es : List Entry) (e : Entry) (rest : List Entry) → filter q es ≡ e ∷ rest → q e ≡ true
first_passes q [] e rest is = cc
first_passes q (x ∷ es) e rest is =
    (elim (q x) as (λ b. q x ≡ b → cond b (x ∷ filter q es) (filter q es) ≡ e ∷ rest → q e ≡ true) [
      | true ↦ λ yes same. ap q (sym (ap (first_of x) same)) ∙ yes
      | false ↦ λ no same. first_passes q es e rest same
    ]) refl is

-- ---- keys in their order

both_true : (x y : Bool) → (x && y) ≡ true → (x ≡ true) × (y ≡ true)
both_true true y h = (refl, h)
both_true false y h = absurd (false≢true h)

and_false : (b : Bool) → (b && false) ≡ false
and_false true = refl
and_false false = refl

-- what begins with a prefix comes behind what is before the prefix
above_prefix : (prefix key w : List ℕ) → is_lt (slice_cmp nat_cmp key prefix) ≡ true → starts_with nat_eq w prefix ≡ true → is_gt (slice_cmp nat_cmp w key) ≡ true
above_prefix [] [] w low starts = absurd (false≢true low)
above_prefix [] (b ∷ key) w low starts = absurd (false≢true low)
above_prefix (a ∷ prefix) [] [] low starts = absurd (false≢true starts)
above_prefix (a ∷ prefix) [] (c ∷ w) low starts = refl
above_prefix (a ∷ prefix) (b ∷ key) [] low starts = absurd (false≢true starts)
above_prefix (a ∷ prefix) (b ∷ key) (c ∷ w) low starts =
    let is = both_true (a == c) (starts_with nat_eq w prefix) starts in
    let here : a ≡ c = eqb-true a c is.0 in
    by_ranked (b < a) (b ≡ a) (a < b) (nat_cmp b a) (ranked b a (nat_cmp b a) refl)
    (λ _ less. ap (λ o. is_gt (ordering_then o (slice_cmp nat_cmp w key))) (cmp_above c b (omega (arith, here, less))))
    (λ e same.
    let alike : nat_cmp c b ≡ Equal = ap (λ x. nat_cmp x b) (sym here ∙ sym same) ∙ tied_itself nat_cmp_total b in
    ap (λ o. is_gt (ordering_then o (slice_cmp nat_cmp w key))) alike
    ∙ above_prefix prefix key w (sym (ap (λ o. is_lt (ordering_then o (slice_cmp nat_cmp key prefix))) e) ∙ low) is.1)
    (λ e _. absurd (false≢true (sym (ap (λ o. is_lt (ordering_then o (slice_cmp nat_cmp key prefix))) e) ∙ low)))

past_step : (a b c : ℕ) (prefix key w : List ℕ) → is_lt (ordering_then (nat_cmp b a) (slice_cmp nat_cmp key prefix)) ≡ false → (a == b && starts_with nat_eq key prefix) ≡ false
    → is_ge (ordering_then (nat_cmp c b) (slice_cmp nat_cmp w key)) ≡ true
    → (is_lt (slice_cmp nat_cmp key prefix) ≡ false → starts_with nat_eq key prefix ≡ false → is_ge (slice_cmp nat_cmp w key) ≡ true → starts_with nat_eq w prefix ≡ false)
    → (a == c && starts_with nat_eq w prefix) ≡ false
past_step a b c prefix key w high other at later =
    by_ranked (b < a) (b ≡ a) (a < b) (nat_cmp b a) (ranked b a (nat_cmp b a) refl)
    (λ e _. absurd (true≢false (sym (ap (λ o. is_lt (ordering_then o (slice_cmp nat_cmp key prefix))) e) ∙ high)))
    (λ e same.
    let level : is_lt (slice_cmp nat_cmp key prefix) ≡ false = sym (ap (λ o. is_lt (ordering_then o (slice_cmp nat_cmp key prefix))) e) ∙ high in
    let apart : starts_with nat_eq key prefix ≡ false = sym (ap (λ x. x && starts_with nat_eq key prefix) (eq-eqb a b (sym same))) ∙ other in
    by_place level apart (omega (arith, same)))
    (λ _ more. ap (λ x. x && starts_with nat_eq w prefix) (not_equal (omega (arith, more, at_least))))
  where
    at_least : b ≤ c
    at_least =
        by_ranked (c < b) (c ≡ b) (b < c) (nat_cmp c b) (ranked c b (nat_cmp c b) refl)
        (λ e _. absurd (false≢true (sym (ap (λ o. is_ge (ordering_then o (slice_cmp nat_cmp w key))) e) ∙ at)))
        (λ _ same. omega (arith, same))
        (λ _ more. omega (arith, more))

    not_equal : a < c → (a == c) ≡ false
    not_equal less = ne_eqb a c (λ same. omega (arith, same, less))

    by_place : is_lt (slice_cmp nat_cmp key prefix) ≡ false → starts_with nat_eq key prefix ≡ false → a ≤ b → (a == c && starts_with nat_eq w prefix) ≡ false
    by_place level apart most =
        by_ranked (c < b) (c ≡ b) (b < c) (nat_cmp c b) (ranked c b (nat_cmp c b) refl)
        (λ _ less. absurd (omega (arith, less, at_least)))
        (λ e _. ap (λ x. a == c && x) (later level apart (sym (ap (λ o. is_ge (ordering_then o (slice_cmp nat_cmp w key))) e) ∙ at)) ∙ and_false (a == c))
        (λ _ more. ap (λ x. x && starts_with nat_eq w prefix) (not_equal (omega (arith, more, most))))

-- nothing begins with a prefix that comes from a key on which isn't before the prefix and doesn't begin with it
past_prefix : (prefix key w : List ℕ) → is_lt (slice_cmp nat_cmp key prefix) ≡ false → starts_with nat_eq key prefix ≡ false → is_ge (slice_cmp nat_cmp w key) ≡ true → starts_with nat_eq w prefix ≡ false
past_prefix [] key w high other at = absurd (true≢false other)
past_prefix (a ∷ prefix) [] w high other at = absurd (true≢false high)
past_prefix (a ∷ prefix) (b ∷ key) [] high other at = refl
past_prefix (a ∷ prefix) (b ∷ key) (c ∷ w) high other at = past_step a b c prefix key w high other at (past_prefix prefix key w)

gt_turned : (o : Ordering) → is_gt (ordering_reverse o) ≡ is_lt o
gt_turned Less = refl
gt_turned Equal = refl
gt_turned Greater = refl

turned : (x y : List ℕ) → is_gt (slice_cmp nat_cmp x y) ≡ is_lt (slice_cmp nat_cmp y x)
turned x y = ap is_gt (nat_list_cmp_total.antisymm x y) ∙ gt_turned (slice_cmp nat_cmp y x)

ge_lt : (o : Ordering) → is_ge o ≡ true → is_lt o ≡ false
ge_lt Less h = absurd (false≢true h)
ge_lt Equal h = refl
ge_lt Greater h = refl

gt_ge : (o : Ordering) → is_gt o ≡ true → is_ge o ≡ true
gt_ge Less h = absurd (false≢true h)
gt_ge Equal h = refl
gt_ge Greater h = refl

not_before : (prefix key w : List ℕ) → is_lt (slice_cmp nat_cmp key prefix) ≡ false → is_ge (slice_cmp nat_cmp w key) ≡ true → is_lt (slice_cmp nat_cmp w prefix) ≡ false
not_before prefix key w high at =
    sym (turned prefix w) ∙ upto nat_list_cmp_total prefix key w (turned prefix key ∙ high) (turned key w ∙ ge_lt (slice_cmp nat_cmp w key) at)

-- a front that two keys share makes no difference
same_front : (p a b : List ℕ) → slice_cmp nat_cmp (p ++ a) (p ++ b) ≡ slice_cmp nat_cmp a b
same_front [] a b = refl
same_front (l ∷ p) a b = ap (λ o. ordering_then o (slice_cmp nat_cmp (p ++ a) (p ++ b))) (tied_itself nat_cmp_total l) ∙ same_front p a b

since_behind : (p u : List ℕ) (es : List Entry) → filter (since (p ++ u)) (map (behind_path p) es) ≡ map (behind_path p) (filter (since u) es)
since_behind p u es =
    filter-map (behind_path p) (since (p ++ u)) es
    ∙ ap (map (behind_path p)) (filter-same (λ e. since (p ++ u) (behind_path p e)) (since u) es (λ e. ap is_ge (same_front p e.0 u)))

front_apart : (w prefix : List ℕ) → starts_with nat_eq w prefix ≡ true → w ≡ prefix ++ drop (length prefix) w
front_apart w [] h = refl
front_apart [] (m ∷ q) h = absurd (false≢true h)
front_apart (l ∷ p) (m ∷ q) h =
    let is = both_true (m == l) (starts_with nat_eq p q) h in
    let here : m ≡ l = eqb-true m l is.0 in
    ap (λ x. x ∷ p) (sym here) ∙ ap (λ (x : List ℕ). m ∷ x) (front_apart p q is.1)

-- ---- a node below a prefix

-- the last labels on the way to a node
way_below : (T : Fields) (n : ℕ) (start u : List ℕ) (s : ℕ) → length u ≡ n → IsAt (cells_in T) (start ++ u) s → path_to T n s ≡ u
way_below T zero start [] s e at = refl
way_below T zero start (j ∷ v) s e at = absurd (omega (arith, e))
way_below T (suc n) start [] s e at = absurd (omega (arith, e))
way_below T (suc n) start (j ∷ v) s e at =
    let split = last_label j v in
    let long = ap length split.2 ∙ length-append split.0 (split.1 ∷ []) in
    let there : IsAt (cells_in T) ((start ++ split.0) ++ split.1 ∷ []) s = subst (λ w. IsAt (cells_in T) w s) (ap (λ x. start ++ x) split.2 ∙ sym (append_assoc start split.0 (split.1 ∷ []))) at in
    let last = last_of (cells_in T) (start ++ split.0) split.1 s there in
    let owner : owner_of (cells_in T) s ≡ last.above = ap unsigned_abs last.check in
    ap (λ x. forwards (below (cells_in T) x s ∷ way_up (cells_in T) n x)) owner
    ∙ ap (λ p. p ++ below (cells_in T) last.above s ∷ []) (way_below T n start split.0 last.above (omega (arith, e, long)) last.at)
    ∙ ap (λ x. split.0 ++ x ∷ []) (ap (below (cells_in T) last.above) (sym last.is) ∙ xor_back (base_of (cells_in T) last.above) split.1)
    ∙ sym split.2

node_behind : (t : Tree) (w v : List ℕ) → node_at t (w ++ v) ≡ node_at (node_at t w) v
node_behind t [] v = refl
node_behind t (l ∷ w) v = node_behind (subtree t.children l) w v

path_behind : (t : Tree) (w v : List ℕ) → HasPath t (w ++ v) → HasPath (node_at t w) v
path_behind t [] v h = h
path_behind t (l ∷ w) v h = path_behind (subtree t.children l) w v h.1

-- a node at a path, n labels below a prefix, with its number
pub record LiesBelow (T : Fields) (prefix whole : List ℕ) (n s : ℕ) (v : ℤ) : Type 0 where
  pub below : IsBelow (cells_in T) prefix n s
  pub path : prefix ++ path_to T n s ≡ whole
  pub number : number_below T prefix n s ≡ Some v

-- a node whose path begins with a prefix lies below it
pub lies_below : (T : Fields) (prefix : List ℕ) (d s : ℕ) (v : ℤ) → IsBelow (cells_in T) [] d s → number_below T [] d s ≡ Some v → starts_with nat_eq (path_to T d s) prefix ≡ true
    → LiesBelow T prefix (path_to T d s) (d - length prefix) s v
lies_below T prefix d s v at number starts =
    let path : List ℕ = path_to T d s in
    let u : List ℕ = drop (length prefix) path in
    let apart : path ≡ prefix ++ u = front_apart path prefix starts in
    let long : length u ≡ d - length prefix = length-drop (length prefix) path ∙ ap (λ n. n - length prefix) (path_length T d s) in
    let there : IsAt (cells_in T) (prefix ++ u) s = subst (λ w. IsAt (cells_in T) w s) apart at in
    let way : path_to T (d - length prefix) s ≡ u = way_below T (d - length prefix) prefix u s long there in
    let whole : prefix ++ path_to T (d - length prefix) s ≡ path = ap (λ w. prefix ++ w) way ∙ sym apart in
    record {
      below = subst (λ w. IsAt (cells_in T) w s) (sym whole) at;
      path = whole;
      number = ap (λ w. (node_at (tree_of T) w).number) whole ∙ number;
    }

-- a prefix of a path has no more bytes
pub front_short : (T : Fields) (prefix : List ℕ) (d s : ℕ) → starts_with nat_eq (path_to T d s) prefix ≡ true → length prefix ≤ d
front_short T prefix d s starts =
    let path : List ℕ = path_to T d s in
    let long = ap length (front_apart path prefix starts) ∙ length-append prefix (drop (length prefix) path) in
    omega (arith, long, path_length T d s)

-- what comes behind a key comes from it on
none_behind_it : (t : Tree) (prefix key : List ℕ) → filter (begins prefix) (entries_since t key) ≡ [] → prefixed_behind t prefix key ≡ []
none_behind_it t prefix key none =
    let part : filter (after key) (entries_since t key) ≡ entries_behind_key t key =
    swap (after key) (since key) (walk t) ∙ all_of (since key) (after key) (walk t) (λ e. gt_ge (slice_cmp nat_cmp e.0 key)) in
    ap (filter (begins prefix)) (sym part) ∙ swap (begins prefix) (after key) (entries_since t key) ∙ ap (filter (after key)) none

none_of_some : (o : Option ℤ) → (IsSome o → ⊥) → o ≡ None
none_of_some None lacks = refl
none_of_some (Some v) lacks = absurd (lacks refl)

module _ (slots : ℕ) (T : Fields) (k : IsWellFormed slots T) (ordered : T.ordered ≡ true) where
  path_held : (w : List ℕ) (s : ℕ) → IsAt (cells_in T) w s → HasPath (tree_of T) w
  path_held w s at = subst (λ (x : Tree). HasPath x w) (sym (tree_root slots T k)) (at_path (size_of T) (cells_in T) (tree_of T).children w s k.stands at)

  -- at a node below a prefix a walk has left there what begins with the prefix from the node's path on
  left_below : (prefix : List ℕ) (n s : ℕ) (v : ℤ) → IsBelow (cells_in T) prefix n s → number_below T prefix n s ≡ Some v
      → (prefix ++ path_to T n s, v) ∷ map (behind_path prefix) (visited_entries (left_at T prefix n s)) ≡ filter (begins prefix) (entries_since (tree_of T) (prefix ++ path_to T n s))
  left_below prefix n s v at number =
      let sub : Tree = node_at (tree_of T) prefix in
      let up : List ℕ = way_up (cells_in T) n s in
      let u : List ℕ = path_to T n s in
      let held : HasPath sub u = path_behind (tree_of T) prefix u (path_held (prefix ++ u) s at) in
      let here : (node_up sub up).number ≡ Some v = ap (λ (x : Tree). x.number) (node_up_is sub up ∙ sym (node_behind (tree_of T) prefix u)) ∙ number in
      let all : entries_since sub u ≡ visited_entries ((u, Some v) ∷ visits_left sub up) =
      since_node sub up (ascending_at (tree_of T) prefix (k.ascending ordered)) held ∙ ap (λ (o : Option ℤ). visited_entries ((u, o) ∷ visits_left sub up)) here in
      ap (map (behind_path prefix)) (sym all)
      ∙ sym (since_behind prefix u (walk sub))
      ∙ ap (filter (since (prefix ++ u))) (sym (entries_with_node (tree_of T) prefix k.sound))
      ∙ swap (since (prefix ++ u)) (begins prefix) (walk (tree_of T))

  -- a walk over all comes first to a node at a key or after it
  module _ (key : List ℕ) (d s : ℕ) (v : ℤ) (at : IsBelow (cells_in T) [] d s) (number : number_below T [] d s ≡ Some v)
      (is : entries_since (tree_of T) key ≡ (path_to T d s, v) ∷ visited_entries (left_at T [] d s)) where
    same_since : entries_since (tree_of T) (path_to T d s) ≡ entries_since (tree_of T) key
    same_since =
        sym (filter-every (entries_since (tree_of T) (path_to T d s)))
        ∙ sym (left_below [] d s v at number)
        ∙ ap (λ (es : List Entry). (path_to T d s, v) ∷ es) (sym (behind_none (visited_entries (left_at T [] d s))))
        ∙ sym is

    -- if the key is held it is the node's
    pub held_path : IsSome (number_at (tree_of T) key) → path_to T d s ≡ key
    held_path some =
        (elim (number_at (tree_of T) key) as (λ o. number_at (tree_of T) key ≡ o → path_to T d s ≡ key) [
          | None ↦ λ none. absurd (true≢false (sym some ∙ ap is_some none))
          | Some n ↦ λ held. ap (λ (e : Entry). e.0) (ap (first_of (key, n)) (sym is ∙ since_held (tree_of T) key k.sound (k.ascending ordered) n held))
        ]) refl

    module _ (prefix : List ℕ) (starts : starts_with nat_eq (path_to T d s) prefix ≡ true) where
      from_first : filter (begins prefix) (entries_since (tree_of T) key)
          ≡ (prefix ++ path_to T (d - length prefix) s, v) ∷ map (behind_path prefix) (visited_entries (left_at T prefix (d - length prefix) s))
      from_first =
          let lies = lies_below T prefix d s v at number starts in
          ap (filter (begins prefix)) (sym same_since)
          ∙ ap (λ w. filter (begins prefix) (entries_since (tree_of T) w)) (sym lies.path)
          ∙ sym (left_below prefix (d - length prefix) s v lies.below lies.number)

      -- behind a key that isn't held the page begins at the node
      pub behind_lacking : (IsSome (number_at (tree_of T) key) → ⊥)
          → (prefix ++ path_to T (d - length prefix) s, v) ∷ map (behind_path prefix) (visited_entries (left_at T prefix (d - length prefix) s)) ≡ prefixed_behind (tree_of T) prefix key
      behind_lacking lacks = sym from_first ∙ ap (filter (begins prefix)) (lacking_since (tree_of T) key k.sound (k.ascending ordered) lacks)

      -- so if it finds no room, its key has more bytes than there is room for
      pub lacks_room : (room : ℕ) → (IsSome (number_at (tree_of T) key) → ⊥) → FindsNoRoom room (prefixed_behind (tree_of T) prefix key) → room < d
      lacks_room room lacks none =
          let lies = lies_below T prefix d s v at number starts in
          let short : room < length (prefix ++ path_to T (d - length prefix) s) = subst (FindsNoRoom room) (sym (behind_lacking lacks)) none in
          omega (arith, short, ap length lies.path, path_length T d s)

      -- and behind one that is held with what follows
      pub behind_held : IsSome (number_at (tree_of T) key)
          → map (behind_path prefix) (visited_entries (left_at T prefix (d - length prefix) s)) ≡ prefixed_behind (tree_of T) prefix key
      behind_held some =
          let first : Entry = (path_to T d s, v) in
          let es : List Entry = visited_entries (left_at T [] d s) in
          ap rest_of (sym from_first ∙ ap (filter (begins prefix)) is ∙ ap (λ b. cond b (first ∷ filter (begins prefix) es) (filter (begins prefix) es)) starts)
          ∙ ap (filter (begins prefix)) (sym (held_first (tree_of T) key k.sound (k.ascending ordered) some first es is))

    -- where there is no room for its key, memory may be wanted
    pub wants_memory : (room : ℕ) → (IsSome (number_at (tree_of T) key) → ⊥) → room < d → MayWantMemory (tree_of T) key room
    wants_memory room lacks short =
        let same : entries_behind_key (tree_of T) key ≡ (path_to T d s, v) ∷ visited_entries (left_at T [] d s) = sym (lacking_since (tree_of T) key k.sound (k.ascending ordered) lacks) ∙ is in (
          none_of_some (number_at (tree_of T) key) lacks,
          subst (FindsNoRoom room) (sym same) (omega (arith, short, path_length T d s)),
        )

    -- if it doesn't begin with a prefix that the key isn't before, nothing does from there on
    pub none_since : (prefix : List ℕ) → is_lt (slice_cmp nat_cmp key prefix) ≡ false → starts_with nat_eq (path_to T d s) prefix ≡ false → prefixed_behind (tree_of T) prefix key ≡ []
    none_since prefix high other =
        let at_key = first_passes (since key) (walk (tree_of T)) (path_to T d s, v) (visited_entries (left_at T [] d s)) is in
        none_behind_it (tree_of T) prefix key
        (ap (filter (begins prefix)) (sym same_since)
        ∙ none_of (begins prefix) (since (path_to T d s)) (walk (tree_of T)) (λ e. past_prefix prefix (path_to T d s) e.0 (not_before prefix key (path_to T d s) high at_key) other))

pub none_from : (t : Tree) (prefix key : List ℕ) → entries_since t key ≡ [] → prefixed_behind t prefix key ≡ []
none_from t prefix key gone = none_behind_it t prefix key (ap (filter (begins prefix)) gone)

-- all with a prefix come behind a key that is before it
pub all_behind : (t : Tree) (prefix key : List ℕ) → is_lt (slice_cmp nat_cmp key prefix) ≡ true → entries_with t prefix ≡ prefixed_behind t prefix key
all_behind t prefix key low =
    sym (swap (begins prefix) (after key) (walk t) ∙ all_of (after key) (begins prefix) (walk t) (λ e. above_prefix prefix key e.0 low))

-- behind a key with a byte
pub below_some : (t : Tree) (prefix key : List ℕ) → 0 < length key → prefixed_behind t prefix key ≡ following_below t prefix key
below_some t prefix [] some = absurd (omega (arith, some))
below_some t prefix (b ∷ key) some = refl

-- ---- the buffer that the keys are written into

-- what holds whatever is returned holds if an error is
pub holds_on_error : {A E : Type 0} (r : Result A E) (P : Type 0) → P → OnErr r P
holds_on_error (Ok a) P p = tt
holds_on_error (Err e) P p = p

pub finds_none : (room : ℕ) (es : List Entry) → es ≡ [] → FindsNoRoom room es → ⊥
finds_none room es none lacks = subst (FindsNoRoom room) none lacks

lacks_same : (places room : ℕ) (es : List Entry) (P Q : ℕ → Type 0) → (FindsNoRoom room es → (n : ℕ) → P n → Q n) → IfSome (bytes_lacking places room es) P → IfSome (bytes_lacking places room es) Q
lacks_same zero room es P Q more h = h
lacks_same (suc places) room [] P Q more h = h
lacks_same (suc places) room (e ∷ es) P Q more h =
    (elim (nat_lt room (length e.0)) as (λ b. nat_lt room (length e.0) ≡ b → IfSome (cond b (Some (length e.0)) None) P → IfSome (cond b (Some (length e.0)) None) Q) [
      | true ↦ λ short p. more (ltb-true room (length e.0) short) (length e.0) p
      | false ↦ λ _ p. p
    ]) refl h

-- a page is the same whatever the buffer held, as long as it held what it holds where nothing is written
written_same : (prefix : List ℕ) (es : List Entry) (found told : List Found) (old bytes written : List ℕ) (counted : ℕ) → length bytes ≡ length old
    → WritesPage prefix es found told bytes written counted → WritesPage prefix es found told old written counted
written_same prefix es found told old bytes written counted size page = record {
  number = page.number ∙ ap (λ n. length (page_of prefix (length found) n es)) size;
  spots = page.spots ∙ ap (λ n. spots_of 0 (page_of prefix (length found) n es) ++ drop counted found) size;
  keys = (page.keys.0, page.keys.1 ∙ ap (λ n. keys_in (page_of prefix (length found) n es) ++ page.keys.0) size);
  size = page.size ∙ size;
}

pub told_same : (prefix : List ℕ) (es : List Entry) (found told : List Found) (old bytes written : List ℕ) (count counted wanted status : ℕ) → length bytes ≡ length old → (FindsNoRoom (length old) es → bytes ≡ old)
    → TellsNext prefix es found told bytes written count counted wanted status → TellsNext prefix es found told old written count counted wanted status
told_same prefix es found told old bytes written count counted wanted status size kept tells = record {
  page = λ fits.
      let page = tells.page (ap (λ n. bytes_lacking (length found) n es) size ∙ fits) in
      (page.0, written_same prefix es found told old bytes written counted size page.1, page.2);
  lacks =
      lacks_same (length found) (length old) es (λ n. (status ≡ NO_ROOM) × (wanted ≡ n) × WritesNothing found told bytes written count counted) (λ n. (status ≡ NO_ROOM) × (wanted ≡ n) × WritesNothing found told old written count counted)
      (λ short n h. (h.0, h.1, (h.2.0, h.2.1 ∙ kept short, h.2.2)))
      (subst (λ room. IfSome (bytes_lacking (length found) room es) (λ n. (status ≡ NO_ROOM) × (wanted ≡ n) × WritesNothing found told bytes written count counted)) size tells.lacks);
}
