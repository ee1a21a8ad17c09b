-- The nodes of a table, each in a slot of its own, and how they are listed.
use Rattle.std.proofs.Common.{◌≡◌, ◌⊎◌, inl, inr, ℕ, zero, suc, ◌+◌, ◌-◌, ◌*◌, ◌^◌, ◌<◌, ◌≤◌, true, ◌||◌, List, [], ◌∷◌, ◌++◌, append_assoc, get_or, length, map, take, refl, sym, ap, subst, ◌∙◌, arith}
use Rattle.std.specs.List.{All, Contains}
use Rattle.std.proofs.lemmas.Bool.{and_parts, false≢true}
use Rattle.std.proofs.lemmas.Bool.Decides.{eqb_tells}
use Rattle.std.proofs.lemmas.List.{append-nil, get_or-take, get_or_append_left, get_or_push, length-take-le, length_push, take-append-le, take-take, take_all}
use Rattle.std.proofs.lemmas.List.Elements.{All-head, All-nil, All-push, All-tail, Contains-append_left, Contains-get_or, Contains-push}
use Rattle.cedar_tree.specs.Queries.{node_at}
use Rattle.cedar_tree.specs.Tree.{child, Forest, has_label, IsSoundBelow, none, number_at, subtree, Tree}
use Rattle.cedar_tree.specs.Walks.{Visit, visit_from, visits_below}
use Rattle.cedar_tree.proofs.CutLemmas.{node_at-end}
use Rattle.cedar_tree.proofs.MemberLemmas.{contains_first_or_later, contains_none, either_part}
use Rattle.cedar_tree.proofs.OrderLemmas.{sound_node_at}
use Rattle.cedar_tree.proofs.VisitLemmas.{visits_from_none}
use Rattle.cedar_model.specs.Edit.NodeEdits.{follow_on, IsAt}
use Rattle.cedar_model.specs.Meaning.Family.{base_of, below}
use Rattle.cedar_model.specs.Meaning.StandsFor.{OnPath, slot_at}
use Rattle.cedar_model.specs.Meaning.WellFormed.{cells_in, IsWellFormed, tree_of}
use Rattle.cedar_model.specs.Table.TableFields.{Fields, size_of}
use Rattle.cedar_model.proofs.MeaningLemmas.KeyPath.{tree_root}
use Rattle.cedar_model.proofs.MeaningLemmas.NodeAtPath.{follow_last}
use Rattle.cedar_model.proofs.MeaningLemmas.Paths.{one_path}
use Rattle.cedar_model.proofs.UpdateLemmas.MarksAfterUpdate.{follow_one}
use Rattle.cedar_walk.specs.Visits.{ComesTo, IsBelow, left_at, path_to}
use Rattle.cedar_walk.specs.declared.visits.Visited.{Visited}
use Rattle.cedar_walk.proofs.WalkLemmas.NextNode.{child_is_at, node_inside, path_length, short_way}
use Rattle.cedar_scan.specs.declared.state.PlacedNode.{PlacedNode}
use Rattle.cedar_scan.specs.Automata.{AreNodes, IsListedNode, IsPlacing}
use Rattle.cedar_scan.specs.Suffixes.{is_node}
use Rattle.cedar_scan.specs.Tables.{slot_in}
use Rattle.cedar_scan.proofs.ListLemmas.{snoc_not_empty}
use Rattle.cedar_scan.proofs.VisitedLemmas.{IsVisitOf, root_of, visit_right, visit_there}

-- a label of sound siblings isn't 0
label_positive : (f : Forest) (l : ℕ) → IsSoundBelow f → has_label f l ≡ true → 0 < l
label_positive none l sound has = absurd (false≢true has)
label_positive (child m n u rest) l sound has = elim (eqb_tells m l) [
  | inl same ↦ subst (λ x. 0 < x) same.1 sound.0
  | inr other ↦ label_positive rest l sound.5 (ap (λ b. b || has_label rest l) (sym other.0) ∙ has)
]

-- ---- the walk that lists them

-- what a walk comes to is a node
abbrev pub IsRight : Fields → Visit → Type 0
IsRight T v = IsVisitOf (tree_of T).children v

abbrev pub IsListed : Fields → List PlacedNode → Visit → Type 0
IsListed T nodes v = (n : PlacedNode) × Contains nodes n × (n.slot ≡ slot_in T v.0)

-- a node that a walk has come to, below the node at slot p
abbrev pub placed_as : Visited → ℕ → PlacedNode
placed_as next p = record { slot = next.slot; parent = p; depth = next.depth; label = next.label; number = next.number }

-- the nodes that a walk has been at are listed, and the slots on the way to the last one are known
pub record AreListed (T : Fields) (nodes : List PlacedNode) (way : List ℕ) (depth slot : ℕ) : Type 0 where
  pub place : IsBelow (cells_in T) [] depth slot
  pub size : length way ≡ depth + 1
  pub slots_to : (i : ℕ) → i ≤ depth → get_or way i 0 ≡ slot_in T (take i (path_to T depth slot))
  pub each : All (IsListedNode (tree_of T) (slot_in T)) nodes
  pub right : All (IsRight T) (left_at T [] depth slot)
  pub rest : (v : Visit) → Contains (left_at T [] 0 0) v → IsListed T nodes v ⊎ Contains (left_at T [] depth slot) v

module _ (slots : ℕ) (T : Fields) (k : IsWellFormed slots T) where
  -- ---- each path that leads to a node has a slot

  label_at : (w : List ℕ) (s l : ℕ) → IsAt (cells_in T) w s → has_label (node_at (tree_of T) w).children l ≡ true → IsAt (cells_in T) (w ++ l ∷ []) (below (cells_in T) s l)
  label_at w s l at has = child_is_at slots T k w s l (label_positive (node_at (tree_of T) w).children l (sound_node_at (tree_of T) w k.sound) has) at has

  nodes_from : (w q : List ℕ) (a : ℕ) → IsAt (cells_in T) q a → is_node (node_at (tree_of T) q) w ≡ true → (s : ℕ) × IsAt (cells_in T) (q ++ w) s
  nodes_from [] q a at node = (a, subst (λ x. IsAt (cells_in T) x a) (sym (append-nil q)) at)
  nodes_from (l ∷ w) q a at node =
      let parts = and_parts (has_label (node_at (tree_of T) q).children l) (is_node (subtree (node_at (tree_of T) q).children l) w) node in
      let rest : is_node (node_at (tree_of T) (q ++ l ∷ [])) w ≡ true = ap (λ (u : Tree). is_node u w) (node_at-end (tree_of T) q l) ∙ parts.1 in
      let found = nodes_from w (q ++ l ∷ []) (below (cells_in T) a l) (label_at q a l at parts.0) rest in
      (found.0, subst (λ x. IsAt (cells_in T) x found.0) (append_assoc q (l ∷ []) w) found.1)

  at_root : IsAt (cells_in T) [] 0
  at_root = (tt, refl)

  on_path : (w : List ℕ) → is_node (tree_of T) w ≡ true → OnPath (cells_in T) (follow_on w [])
  on_path w node = (nodes_from w [] 0 at_root node).1.0

  pub size_small : size_of T ≤ 2 ^ 30
  size_small =
      let active : T.places.blocks.active ≤ length T.places.blocks.records = k.table.sound.shaped.blocks.active_in in
      let within : 256 * length T.places.blocks.records ≤ slots = k.table.within in
      let limit : slots ≤ 2 ^ 30 = k.table.limit.most in
      omega (arith, active, within, limit)

  pub placing : IsPlacing (tree_of T) (slot_in T)
  placing = record {
    root = refl;
    base = λ w. base_of (cells_in T) (slot_in T w);
    below = λ w l node. ap (slot_at (cells_in T)) (follow_last l w []);
    one = λ w v here there e. follow_one w v (one_path (cells_in T) k.stands.root (follow_on w []) (follow_on v []) (on_path w here) (on_path v there) e);
    small = λ w node. let low = node_inside slots T k w (slot_in T w) (on_path w node, refl) in let few = size_small in omega (arith, low, few);
  }

  all_visits : left_at T [] 0 0 ≡ visits_below (tree_of T).children
  all_visits = append-nil (map (visit_from []) (visits_below (tree_of T).children)) ∙ visits_from_none (visits_below (tree_of T).children)

  all_right : All (IsRight T) (left_at T [] 0 0)
  all_right = subst (All (IsRight T)) (sym all_visits) (λ i d less. visit_right (tree_of T).children k.sound (get_or (visits_below (tree_of T).children) i d) (Contains-get_or (visits_below (tree_of T).children) i d less))

  first_way : (i : ℕ) → i ≤ 0 → get_or (0 ∷ []) i 0 ≡ slot_in T (take i [])
  first_way zero low = refl
  first_way (suc i) low = absurd (omega (arith, low))

  pub listed_none : (nodes : List PlacedNode) (way : List ℕ) → nodes ≡ [] → way ≡ 0 ∷ [] → AreListed T nodes way 0 0
  listed_none nodes way no_node one =
      subst (λ ns. AreListed T ns way 0 0) (sym no_node) (subst (λ ws. AreListed T [] ws 0 0) (sym one) (record {
        place = at_root;
        size = omega arith;
        slots_to = first_way;
        each = All-nil (IsListedNode (tree_of T) (slot_in T));
        right = all_right;
        rest = λ v there. inr there;
      }))

  module _ (nodes : List PlacedNode) (way : List ℕ) (depth slot : ℕ) (listed : AreListed T nodes way depth slot) (next : Visited) (comes : ComesTo T [] (left_at T [] depth slot) (path_to T depth slot) next) where
    path_is : path_to T next.depth next.slot ≡ take (next.depth - 1) (path_to T depth slot) ++ next.label ∷ []
    path_is = comes.way

    pub next_deep : (0 < next.depth) × (next.depth ≤ depth + 1)
    next_deep = let long = path_length T depth slot in let most = comes.deep.1 in (comes.deep.0, omega (arith, long, most))

    pub next_small : next.slot < 2 ^ 30
    next_small = let low = node_inside slots T k (path_to T next.depth next.slot) next.slot comes.below in let few = size_small in omega (arith, low, few)

    pub depth_small : next.depth ≤ 2 ^ 30
    depth_small = let low = short_way slots T k [] next.depth next.slot comes.below in let few = size_small in omega (arith, low, few)

    next_right : IsRight T (path_to T next.depth next.slot, next.number)
    next_right = All-head (IsRight T) (path_to T next.depth next.slot, next.number) (left_at T [] next.depth next.slot) (subst (All (IsRight T)) comes.visits listed.right)

    next_node : is_node (tree_of T) (path_to T next.depth next.slot) ≡ true
    next_node = ap (λ (t : Tree). is_node t (path_to T next.depth next.slot)) (tree_root slots T k) ∙ ap (is_node (root_of (tree_of T).children)) next_right.path ∙ next_right.node

    next_number : next.number ≡ number_at (tree_of T) (path_to T next.depth next.slot)
    next_number = next_right.number ∙ ap (number_at (root_of (tree_of T).children)) (sym next_right.path) ∙ ap (λ (t : Tree). number_at t (path_to T next.depth next.slot)) (sym (tree_root slots T k))

    next_slot : next.slot ≡ slot_in T (path_to T next.depth next.slot)
    next_slot = sym comes.below.1

    listed_node : (p : ℕ) → p ≡ get_or way (next.depth - 1) 0 → IsListedNode (tree_of T) (slot_in T) (placed_as next p)
    listed_node p above =
        let low = next_deep in
        let some = low.0 in
        let most = low.1 in
        let long = path_length T depth slot in
        let front : length (take (next.depth - 1) (path_to T depth slot)) ≡ next.depth - 1 = length-take-le (next.depth - 1) (path_to T depth slot) (omega (arith, long, most)) in
        record {
          path = take (next.depth - 1) (path_to T depth slot);
          node = ap (is_node (tree_of T)) (sym path_is) ∙ next_node;
          slot = next_slot ∙ ap (slot_in T) path_is;
          parent = above ∙ listed.slots_to (next.depth - 1) (omega (arith, some, most));
          depth = omega (arith, front, some);
          number = next_number ∙ ap (number_at (tree_of T)) path_is;
        }

    -- the slots on the way to the next node
    next_way : (i : ℕ) → i ≤ next.depth → get_or (take next.depth way ++ next.slot ∷ []) i 0 ≡ slot_in T (take i (path_to T next.depth next.slot))
    next_way i low = elim (eqb_tells i next.depth) [
      | inl last ↦
          let long = path_length T next.depth next.slot in
          ap (λ j. get_or (take next.depth way ++ next.slot ∷ []) j 0) last.1 ∙ way_last ∙ next_slot
          ∙ ap (slot_in T) (sym (ap (λ j. take j (path_to T next.depth next.slot)) last.1 ∙ take_all next.depth (path_to T next.depth next.slot) (omega (arith, long))))
      | inr other ↦
          let before = other.1 in
          let less : i < next.depth = omega (arith, low, before) in
          let most = next_deep.1 in
          let old = listed.slots_to i (omega (arith, less, most)) in
          let long = path_length T depth slot in
          let front : length (take (next.depth - 1) (path_to T depth slot)) ≡ next.depth - 1 = length-take-le (next.depth - 1) (path_to T depth slot) (omega (arith, long, most)) in
          way_before i less ∙ old
          ∙ ap (slot_in T) (sym (ap (take i) path_is ∙ take-append-le i (take (next.depth - 1) (path_to T depth slot)) (next.label ∷ []) (omega (arith, less, front)) ∙ take-take i (next.depth - 1) (path_to T depth slot) (omega (arith, less))))
    ]
      where
        cut : length (take next.depth way) ≡ next.depth
        cut = let most = next_deep.1 in let size = listed.size in length-take-le next.depth way (omega (arith, most, size))

        way_last : get_or (take next.depth way ++ next.slot ∷ []) next.depth 0 ≡ next.slot
        way_last = get_or_push (take next.depth way) next.slot 0 next.depth cut

        way_before : (j : ℕ) → j < next.depth → get_or (take next.depth way ++ next.slot ∷ []) j 0 ≡ get_or way j 0
        way_before j less = get_or_append_left (take next.depth way) (next.slot ∷ []) 0 j (omega (arith, less, cut)) ∙ get_or-take next.depth way j 0 less

    pub listed_more : (more : List PlacedNode) (ways : List ℕ) (p : ℕ) → p ≡ get_or way (next.depth - 1) 0 → more ≡ nodes ++ placed_as next p ∷ []
        → ways ≡ take next.depth way ++ next.slot ∷ [] → AreListed T more ways next.depth next.slot
    listed_more more ways p above longer further =
        let most = next_deep.1 in
        let size = listed.size in
        let cut : length (take next.depth way) ≡ next.depth = length-take-le next.depth way (omega (arith, most, size)) in
        let one = length_push (take next.depth way) next.slot in
        subst (λ ns. AreListed T ns ways next.depth next.slot) (sym longer)
        (subst (λ ws. AreListed T (nodes ++ placed_as next p ∷ []) ws next.depth next.slot) (sym further) (record {
          place = comes.below;
          size = omega (arith, one, cut);
          slots_to = next_way;
          each = All-push (IsListedNode (tree_of T) (slot_in T)) nodes (placed_as next p) listed.each (listed_node p above);
          right = All-tail (IsRight T) (path_to T next.depth next.slot, next.number) (left_at T [] next.depth next.slot) (subst (All (IsRight T)) comes.visits listed.right);
          rest = λ v there. elim (listed.rest v there) [
            | inl done ↦ inl (done.0, Contains-append_left nodes (placed_as next p ∷ []) done.0 done.1, done.2)
            | inr left ↦ either_part (contains_first_or_later (path_to T next.depth next.slot, next.number) (left_at T [] next.depth next.slot) v (subst (λ (vs : List Visit). Contains vs v) comes.visits left))
                (λ same. inl (placed_as next p, Contains-push nodes (placed_as next p), next_slot ∙ ap (λ (x : Visit). slot_in T x.0) same))
                (λ later. inr later)
          ];
        }))

  -- at the end all are listed
  pub all_listed : (nodes : List PlacedNode) (way : List ℕ) (depth slot : ℕ) → AreListed T nodes way depth slot → left_at T [] depth slot ≡ [] → AreNodes (tree_of T) (slot_in T) nodes
  all_listed nodes way depth slot listed end = record {
    each = listed.each;
    all = λ w l node. by_path (w ++ l ∷ []) node (λ e. snoc_not_empty w l e);
  }
    where
      by_path : (v : List ℕ) → is_node (tree_of T) v ≡ true → (v ≡ [] → ⊥) → (n : PlacedNode) × Contains nodes n × (n.slot ≡ slot_in T v)
      by_path [] node some = absurd (some refl)
      by_path (x ∷ p) node some =
          let there = visit_there (tree_of T).children x p (ap (λ (t : Tree). is_node t (x ∷ p)) (sym (tree_root slots T k)) ∙ node) in
          let v : Visit = (x ∷ p, number_at (root_of (tree_of T).children) (x ∷ p)) in
          elim (listed.rest v (subst (λ (vs : List Visit). Contains vs v) (sym all_visits) there)) [
            | inl done ↦ done
            | inr left ↦ absurd (contains_none v (subst (λ (vs : List Visit). Contains vs v) end left))
          ]
