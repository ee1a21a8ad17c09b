-- Which nodes and entries a walk by an automaton leaves out.
use Rattle.std.proofs.Common.{◌≡◌, ℕ, zero, suc, ◌+◌, ◌-◌, ◌<◌, ◌≤◌, ℤ, Bool, true, false, cond, ◌&&◌, List, [], ◌∷◌, ◌++◌, length, map, take, filter, Option, Some, None, option_map, MatchOption, refl, sym, ◌∙◌, ap, arith, append-nil, inl, inr}
use Rattle.std.specs.Prelude.{fold, slice_get}
use Rattle.std.specs.List.{cons_option}
use Rattle.std.proofs.lemmas.Bool.{and_parts, cases_lt}
use Rattle.std.proofs.lemmas.List.{length-append, map-append, length-take-le, take_all}
use Rattle.std.proofs.lemmas.List.Elements.{filter-append}
use Rattle.cedar_tree.specs.Tree.{Forest, none, child, Tree}
use Rattle.cedar_tree.specs.Queries.{Entry, prefixes, prefixes_forest, walk}
use Rattle.cedar_tree.proofs.VisitLemmas.{visits_from_none, walk_visits}
use Rattle.cedar_tree.specs.Walks.{behind, forwards, node_up, Visit, visit_from, visited_entries, visits_after, visits_below, visits_left}
use Rattle.cedar_walk.proofs.WalkLemmas.NextNode.{forwards_length}
use Rattle.cedar_match.specs.declared.nodes.Node.{Node}
use Rattle.cedar_match.specs.Matching.{ReachesNode, entries_to_come, MatchLeads, leads_on, MatchLeadsTo, left_from, left_past, visit_count, nodes_to_come, path_on, states_along, wanted_entries}

-- ---- paths

forwards_end : (w : List ℕ) (l : ℕ) → forwards (w ++ l ∷ []) ≡ l ∷ forwards w
forwards_end [] l = refl
forwards_end (x ∷ w) l = ap (λ u. u ++ x ∷ []) (forwards_end w l)

pub forwards_twice : (w : List ℕ) → forwards (forwards w) ≡ w
forwards_twice [] = refl
forwards_twice (x ∷ w) = forwards_end (forwards w) x ∙ ap (λ u. x ∷ u) (forwards_twice w)

-- ---- nodes that don't pass a test

-- those of some visits that do
abbrev passing : (List ℕ → Bool) → List Visit → List Visit
passing test visits = filter (λ (v : Visit). test v.0) visits

none_under : (test : List ℕ → Bool) (l : ℕ) → ((w : List ℕ) → test (l ∷ w) ≡ false) → (vs : List Visit) → passing test (map (visit_from (l ∷ [])) vs) ≡ []
none_under test l fails [] = refl
none_under test l fails (v ∷ vs) =
    ap (λ b. cond b (visit_from (l ∷ []) v ∷ passing test (map (visit_from (l ∷ [])) vs)) (passing test (map (visit_from (l ∷ [])) vs))) (fails v.0)
    ∙ none_under test l fails vs

none_below : (test : List ℕ → Bool) → ((l : ℕ) (w : List ℕ) → test (l ∷ w) ≡ false) → (f : Forest) → passing test (visits_below f) ≡ []
none_below test fails none = refl
none_below test fails (child l n below rest) =
    filter-append (λ (v : Visit). test v.0) (map (visit_from (l ∷ [])) (([], n) ∷ visits_below below)) (visits_below rest)
    ∙ (λ i. none_under test l (fails l) (([], n) ∷ visits_below below) i ++ none_below test fails rest i)

-- the same seen from above
none_further : (test : List ℕ → Bool) (path : List ℕ) (vs : List Visit) → passing (λ w. test (path ++ w)) vs ≡ [] → passing test (map (visit_from path) vs) ≡ []
none_further test path [] h = refl
none_further test path (v ∷ vs) h = at (test (path ++ v.0)) (none_further test path vs) h
  where
    at : (b : Bool) → (passing (λ w. test (path ++ w)) vs ≡ [] → passing test (map (visit_from path) vs) ≡ [])
        → cond b (v ∷ passing (λ w. test (path ++ w)) vs) (passing (λ w. test (path ++ w)) vs) ≡ []
        → cond b (visit_from path v ∷ passing test (map (visit_from path) vs)) (passing test (map (visit_from path) vs)) ≡ []
    at true later h = cc
    at false later h = later h

-- what a walk has left has no more of them than what it has left behind all below the node
passes_below : (test : List ℕ → Bool) (t : Tree) (up : List ℕ) → ((l : ℕ) (w : List ℕ) → test (forwards up ++ (l ∷ w)) ≡ false)
    → passing test (visits_left t up) ≡ passing test (visits_after t up)
passes_below test t up fails =
    filter-append (λ (v : Visit). test v.0) (map (visit_from (forwards up)) (visits_below (node_up t up).children)) (visits_after t up)
    ∙ ap (λ vs. vs ++ passing test (visits_after t up))
    (none_further test (forwards up) (visits_below (node_up t up).children) (none_below (λ w. test (forwards up ++ w)) fails (node_up t up).children))

-- the entries that pass are those of the nodes that do
wanted_is : (test : List ℕ → Bool) (vs : List Visit) → wanted_entries test vs ≡ visited_entries (passing test vs)
wanted_is test [] = refl
wanted_is test (v ∷ vs) =
    let later = wanted_is test vs in
    let more = passing test vs in
    elim v.1 as (λ o. filter (λ (e : Entry). test e.0) (cons_option (option_map (λ (x : ℤ). (v.0, x)) o) (visited_entries vs)) ≡ visited_entries (cond (test v.0) ((v.0, o) ∷ more) more)) [
      | None ↦ elim (test v.0) as (λ b. wanted_entries test vs ≡ visited_entries (cond b ((v.0, None) ∷ more) more)) [ true ↦ later | false ↦ later ]
      | Some x ↦
          elim (test v.0) as (λ b. cond b ((v.0, x) ∷ wanted_entries test vs) (wanted_entries test vs) ≡ visited_entries (cond b ((v.0, Some x) ∷ more) more)) [
            | true ↦ ap (λ (es : List Entry). (v.0, x) ∷ es) later
            | false ↦ later
          ]
    ]

-- ---- the whole tree

paths_under : (l : ℕ) (vs : List Visit) → map (λ (v : Visit). v.0) (map (visit_from (l ∷ [])) vs) ≡ map (λ p. l ∷ p) (map (λ (v : Visit). v.0) vs)
paths_under l [] = refl
paths_under l (v ∷ vs) = ap (λ ps. (l ∷ v.0) ∷ ps) (paths_under l vs)

-- the paths of all nodes are the prefixes
paths_below : (f : Forest) → map (λ (v : Visit). v.0) (visits_below f) ≡ prefixes_forest f
paths_below none = refl
paths_below (child l n below rest) =
    map-append (λ (v : Visit). v.0) (map (visit_from (l ∷ [])) (([], n) ∷ visits_below below)) (visits_below rest)
    ∙ (λ i. ((l ∷ []) ∷ (paths_under l (visits_below below) ∙ ap (map (λ p. l ∷ p)) (paths_below below)) i) ++ paths_below rest i)

paths_that_pass : (test : List ℕ → Bool) (vs : List Visit) → length (passing test vs) ≡ length (filter test (map (λ (v : Visit). v.0) vs))
paths_that_pass test [] = refl
paths_that_pass test (v ∷ vs) =
    let later = paths_that_pass test vs in
    elim (test v.0) as (λ b. length (cond b (v ∷ passing test vs) (passing test vs)) ≡ length (cond b (v.0 ∷ filter test (map (λ (u : Visit). u.0) vs)) (filter test (map (λ (u : Visit). u.0) vs)))) [
      | true ↦ ap suc later
      | false ↦ later
    ]

all_left : (t : Tree) → left_from t [] ≡ visits_below t.children
all_left t = append-nil (map (visit_from []) (visits_below t.children)) ∙ visits_from_none (visits_below t.children)

-- so those that pass are as many
pub nodes_of : (test : List ℕ → Bool) (t : Tree) → nodes_to_come t test [] ≡ length (filter test (prefixes t))
nodes_of test t = ap (visit_count test) (all_left t) ∙ paths_that_pass test (visits_below t.children) ∙ ap (λ ps. length (filter test ps)) (paths_below t.children)

-- the entries are those of the walk, where the root has no number
pub entries_of : (test : List ℕ → Bool) (t : Tree) → t.number ≡ None → entries_to_come t test [] ≡ filter (λ (e : Entry). test e.0) (walk t)
entries_of test t bare =
    ap (filter (λ (e : Entry). test e.0)) (sym (walk_visits t ∙ ap (λ (o : Option ℤ). visited_entries (([], o) ∷ visits_left t [])) bare))

-- ---- the nodes that an automaton leads to

module _ {S : Type 0} (after : S → ℕ → S) (may : S → Bool) where
  pub leads_end : (state : S) (w : List ℕ) (l : ℕ) → leads_on after may state (w ++ l ∷ []) ≡ (leads_on after may state w && may (fold after state w))
  unfolding leads_on
  leads_end state [] l = ends (may state)
    where
      ends : (b : Bool) → (b && true) ≡ b
      ends true = refl
      ends false = refl
  leads_end state (b ∷ w) l = at (may state) (leads_end (after state b) w l)
    where
      at : (c : Bool) → leads_on after may (after state b) (w ++ l ∷ []) ≡ (leads_on after may (after state b) w && may (fold after (after state b) w))
          → (c && leads_on after may (after state b) (w ++ l ∷ [])) ≡ ((c && leads_on after may (after state b) w) && may (fold after (after state b) w))
      at true h = h
      at false h = refl

  leads_stop : (state : S) (w : List ℕ) (l : ℕ) (v : List ℕ) → may (fold after state w) ≡ false → leads_on after may state (w ++ (l ∷ v)) ≡ false
  unfolding leads_on
  leads_stop state [] l v h = ap (λ b. b && leads_on after may (after state l) v) h
  leads_stop state (b ∷ w) l v h = ap (λ c. may state && c) (leads_stop (after state b) w l v h) ∙ ends (may state)
    where
      ends : (b : Bool) → (b && false) ≡ false
      ends true = refl
      ends false = refl

  leads_front : (state : S) (w : List ℕ) (n : ℕ) → leads_on after may state w ≡ true → leads_on after may state (take n w) ≡ true
  unfolding leads_on
  leads_front state w zero h = refl
  leads_front state [] (suc n) h = refl
  leads_front state (b ∷ w) (suc n) h =
      let parts = and_parts (may state) (leads_on after may (after state b) w) h in
      (λ i. parts.0 i && leads_front (after state b) w n parts.1 i)

  leads_at : (state : S) (w : List ℕ) (n : ℕ) → leads_on after may state w ≡ true → n < length w → may (fold after state (take n w)) ≡ true
  unfolding leads_on
  leads_at state [] n h low = absurd (omega (arith, low))
  leads_at state (b ∷ w) zero h low = (and_parts (may state) (leads_on after may (after state b) w) h).0
  leads_at state (b ∷ w) (suc n) h low = leads_at (after state b) w n (and_parts (may state) (leads_on after may (after state b) w) h).1 (omega (arith, low))

  -- the states along some bytes
  pub states_long : (state : S) (w : List ℕ) → length (states_along after state w) ≡ length w
  unfolding states_along
  states_long state [] = refl
  states_long state (b ∷ w) = ap suc (states_long (after state b) w)

  pub states_get : (state : S) (w : List ℕ) (n : ℕ) → n < length w → slice_get (states_along after state w) n ≡ Some (fold after state (take (suc n) w))
  unfolding states_along
  states_get state [] n low = absurd (omega (arith, low))
  states_get state (b ∷ w) zero low = refl
  states_get state (b ∷ w) (suc n) low = states_get (after state b) w n (omega (arith, low))

  pub states_take : (state : S) (w : List ℕ) (n : ℕ) → take n (states_along after state w) ≡ states_along after state (take n w)
  unfolding states_along
  states_take state w zero = refl
  states_take state [] (suc n) = refl
  states_take state (b ∷ w) (suc n) = ap (λ t. after state b ∷ t) (states_take (after state b) w n)

  pub states_end : (state : S) (w : List ℕ) (l : ℕ) → states_along after state (w ++ l ∷ []) ≡ states_along after state w ++ after (fold after state w) l ∷ []
  unfolding states_along
  states_end state [] l = refl
  states_end state (b ∷ w) l = ap (λ t. after state b ∷ t) (states_end (after state b) w l)

  -- the state at the end of a key
  pub whole_state : (state : S) (key : List ℕ) (depth : ℕ) → depth ≡ length key → fold after state (take depth key) ≡ fold after state key
  whole_state state key depth is = ap (fold after state) (take_all depth key (omega (arith, is)))

  -- the states at a node that was entered
  pub states_enter : (state : S) (key : List ℕ) (next : Node) (states : List S) (before : ℕ) → states ≡ states_along after state key → before ≡ next.depth - 1
      → take before states ++ after (fold after state (take before key)) next.label ∷ [] ≡ states_along after state (path_on key next)
  states_enter state key next states before along is =
      ap (λ (t : List S). take before t ++ after (fold after state (take before key)) next.label ∷ []) along
      ∙ ap (λ (t : List S). t ++ after (fold after state (take before key)) next.label ∷ []) (states_take state key before)
      ∙ sym (states_end state (take before key) next.label)
      ∙ ap (λ n. states_along after state (take n key ++ next.label ∷ [])) is

-- ---- the next node

-- a path on is as long as the node is deep
on_long : (path : List ℕ) (next : Node) → 0 < next.depth → next.depth ≤ length path + 1 → length (path_on path next) ≡ next.depth
on_long path next some deep =
    let front : length (take (next.depth - 1) path) ≡ next.depth - 1 = length-take-le (next.depth - 1) path (omega arith) in
    omega (arith, some, front, length-append (take (next.depth - 1) path) (next.label ∷ []))

-- what is left behind a node begins no deeper than it
past_short : (t : Tree) (up : List ℕ) (v : Visit) (vs : List Visit) → visits_after t up ≡ v ∷ vs → length v.0 ≤ length up
past_short t [] v vs is = absurd (no_first v vs is)
  where
    no_first : (v : Visit) (vs : List Visit) → ◌≡◌ {A = List Visit} [] (v ∷ vs) → ⊥
    no_first v vs is = cc
past_short t (l ∷ up) v vs is = at (behind (node_up t up).children l) (past_short t up v vs) is
  where
    first : (p : List ℕ) (q : List Visit) (n : Option ℤ) (m : ℕ) → ◌≡◌ {A = List Visit} ((p ++ m ∷ [], n) ∷ q) (v ∷ vs) → p ++ m ∷ [] ≡ v.0
    first p q n m same = ap path_of same
      where
        path_of : List Visit → List ℕ
        path_of [] = []
        path_of (w ∷ ws) = w.0

    at : (f : Forest) → (visits_after t up ≡ v ∷ vs → length v.0 ≤ length up) → map (visit_from (forwards up)) (visits_below f) ++ visits_after t up ≡ v ∷ vs → length v.0 ≤ suc (length up)
    at none later h = (let few = later h in omega (arith, few))
    at (child m n below rest) later h =
        let e = first (forwards up) _ n m h in
        omega (arith, ap length e, length-append (forwards up) (m ∷ []), forwards_length up)

module _ {S : Type 0} (stands : List ℕ → ℕ → Type 0) (tree : Tree) (accepts : List ℕ → Bool) (after : S → ℕ → S) (may : S → Bool) (initial : S) where
  led_on : (key : List ℕ) (next : Node) → leads_on after may initial key ≡ true → (next.depth ≡ length key + 1 → may (fold after initial key) ≡ true)
      → (0 < next.depth) × (next.depth ≤ length key + 1) → leads_on after may initial (path_on key next) ≡ true
  led_on key next led can deep =
      leads_end after may initial (take (next.depth - 1) key) next.label
      ∙ (λ i. leads_front after may initial key (next.depth - 1) led i && last i)
    where
      last : may (fold after initial (take (next.depth - 1) key)) ≡ true
      last =
          elim (cases_lt (next.depth - 1) (length key)) [
            | inl short ↦ leads_at after may initial key (next.depth - 1) led short
            | inr whole ↦
                ap (λ w. may (fold after initial w)) (take_all (next.depth - 1) key whole) ∙ can (omega (arith, whole, deep.0, deep.1))
          ]

  one_more : (key : List ℕ) (next : Node) → leads_on after may initial (path_on key next) ≡ true → (vs : List Visit)
      → visit_count (leads_on after may initial) ((path_on key next, next.number) ∷ vs) ≡ 1 + visit_count (leads_on after may initial) vs
  one_more key next led vs =
      let leads = leads_on after may initial in
      let counted : visit_count leads ((path_on key next, next.number) ∷ vs) ≡ suc (visit_count leads vs) =
      ap (λ b. length (cond b ((path_on key next, next.number) ∷ passing leads vs) (passing leads vs))) led in
      omega (arith, counted)

  -- where it can match, all that is left is left to it
  leads_after : (key : List ℕ) (next : Node) → leads_on after may initial key ≡ true → may (fold after initial key) ≡ true → ReachesNode stands tree (left_from tree key) key next
      → MatchLeadsTo stands tree accepts (leads_on after may initial) (left_from tree key) key next
  leads_after key next led can comes =
      let here = led_on key next led (λ whole. can) comes.deep in
      record {
        there = comes.there;
        led = here;
        entries = ap (wanted_entries accepts) comes.visits;
        nodes = ap (visit_count (leads_on after may initial)) comes.visits ∙ one_more key next here (left_from tree (path_on key next));
        deep = comes.deep;
      }

  -- where it can't, nothing below the node is
  passing_past : (test : List ℕ → Bool) (key : List ℕ) → ((l : ℕ) (w : List ℕ) → test (key ++ (l ∷ w)) ≡ false) → passing test (left_from tree key) ≡ passing test (left_past tree key)
  passing_past test key fails =
      passes_below test tree (forwards key) (λ l w. ap (λ p. test (p ++ (l ∷ w))) (forwards_twice key) ∙ fails l w)

  wanted_past : (key : List ℕ) → ((rest : List ℕ) → accepts (key ++ rest) ≡ false) → wanted_entries accepts (left_from tree key) ≡ wanted_entries accepts (left_past tree key)
  wanted_past key prunes =
      wanted_is accepts (left_from tree key) ∙ ap visited_entries (passing_past accepts key (λ l w. prunes (l ∷ w))) ∙ sym (wanted_is accepts (left_past tree key))

  nodes_past : (key : List ℕ) → may (fold after initial key) ≡ false → visit_count (leads_on after may initial) (left_from tree key) ≡ visit_count (leads_on after may initial) (left_past tree key)
  nodes_past key cannot = ap length (passing_past (leads_on after may initial) key (λ l w. leads_stop after may initial key l w cannot))

  leads_past : (key : List ℕ) (next : Node) → leads_on after may initial key ≡ true → may (fold after initial key) ≡ false → ((rest : List ℕ) → accepts (key ++ rest) ≡ false)
      → ReachesNode stands tree (left_past tree key) key next → MatchLeadsTo stands tree accepts (leads_on after may initial) (left_from tree key) key next
  leads_past key next led cannot prunes comes =
      let short = past_short tree (forwards key) (path_on key next, next.number) (left_from tree (path_on key next)) comes.visits in
      let long = on_long key next comes.deep.0 comes.deep.1 in
      let here = led_on key next led (λ whole. absurd (omega (arith, whole, short, long, forwards_length key))) comes.deep in
      record {
        there = comes.there;
        led = here;
        entries = wanted_past key prunes ∙ ap (wanted_entries accepts) comes.visits;
        nodes = nodes_past key cannot ∙ ap (visit_count (leads_on after may initial)) comes.visits ∙ one_more key next here (left_from tree (path_on key next));
        deep = comes.deep;
      }

  pub led_after : (key : List ℕ) (next : Option Node) → leads_on after may initial key ≡ true → may (fold after initial key) ≡ true
      → MatchOption next (left_from tree key ≡ []) (ReachesNode stands tree (left_from tree key) key) → MatchLeads stands tree accepts (leads_on after may initial) key next
  led_after key None led can ends = record { entries = ap (wanted_entries accepts) ends; nodes = ap (visit_count (leads_on after may initial)) ends }
  led_after key (Some next) led can comes = leads_after key next led can comes

  pub led_past : (key : List ℕ) (next : Option Node) → leads_on after may initial key ≡ true → may (fold after initial key) ≡ false → ((rest : List ℕ) → accepts (key ++ rest) ≡ false)
      → MatchOption next (left_past tree key ≡ []) (ReachesNode stands tree (left_past tree key) key) → MatchLeads stands tree accepts (leads_on after may initial) key next
  led_past key None led cannot prunes ends = record {
    entries = wanted_past key prunes ∙ ap (wanted_entries accepts) ends;
    nodes = nodes_past key cannot ∙ ap (visit_count (leads_on after may initial)) ends;
  }
  led_past key (Some next) led cannot prunes comes = leads_past key next led cannot prunes comes

  -- ---- a step of the walk

  -- one whose path is accepted is the first that is wanted
  pub found_here : (key : List ℕ) (next : Node) (found : List ℕ) (v w : ℤ) → found ≡ path_on key next → MatchLeadsTo stands tree accepts (leads_on after may initial) (left_from tree key) key next
      → next.number ≡ Some v → w ≡ v → accepts found ≡ true → entries_to_come tree accepts key ≡ (found, w) ∷ entries_to_come tree accepts found
  found_here key next found v w is leads numbered same taken =
      leads.entries
      ∙ ap (λ (n : Option ℤ). wanted_entries accepts ((path_on key next, n) ∷ left_from tree (path_on key next))) numbered
      ∙ ap (λ p. wanted_entries accepts ((p, Some v) ∷ left_from tree p)) (sym is)
      ∙ ap (λ b. cond {A = List Entry} b ((found, v) ∷ entries_to_come tree accepts found) (entries_to_come tree accepts found)) taken
      ∙ ap (λ (x : ℤ). (found, x) ∷ entries_to_come tree accepts found) (sym same)

  -- each node that it comes to is one less
  pub one_less : (key : List ℕ) (next : Node) (found : List ℕ) → found ≡ path_on key next → MatchLeadsTo stands tree accepts (leads_on after may initial) (left_from tree key) key next
      → nodes_to_come tree (leads_on after may initial) key ≡ 1 + nodes_to_come tree (leads_on after may initial) found
  one_less key next found is leads = leads.nodes ∙ ap (λ w. 1 + nodes_to_come tree (leads_on after may initial) w) (sym is)
