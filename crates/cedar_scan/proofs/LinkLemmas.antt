-- How nodes get their links.
use Rattle.std.proofs.Common.{◌≡◌, inl, inr, ℕ, ◌+◌, ◌%◌, ◌^◌, ◌<◌, ◌≤◌, true, cond, ◌&&◌, ◌==◌, ltb, ℤ, List, [], ◌∷◌, ◌++◌, get_or, length, length-append, MatchOption, Some, None, refl, sym, ap, subst, ◌∙◌, arith}
use Rattle.std.specs.Prelude.{bit_xor}
use Rattle.std.specs.Int.{bit_at}
use Rattle.std.specs.List.Sorted.{IsPermutation}
use Rattle.std.proofs.lemmas.Bool.Decides.{eqb_tells, leb_tells}
use Rattle.std.proofs.lemmas.List.{get_or_default}
use Rattle.std.proofs.lemmas.List.Sorted.{All-permutation, Contains-permutation}
use Rattle.cedar_tree.specs.Tree.{number_at, Tree}
use Rattle.cedar_scan.specs.declared.state.ListedKey.{ListedKey}
use Rattle.cedar_scan.specs.declared.state.PlacedNode.{PlacedNode}
use Rattle.cedar_scan.specs.declared.state.State.{State}
use Rattle.cedar_scan.specs.Automata.{AreByDepth, AreLaid, AreLinkedFirst, AreNodes, AreSlotsWithin, CanLink, CanListKey, child_in, FailsTo, HasOutput, IsAutomaton, IsGoto, IsLinked, IsListedNode, IsPlacing, IsStepFrom, GetsLinks, may_have, state_at, GoesToSuffix, with_links, with_node}
use Rattle.cedar_scan.specs.Listed.{AreListedKeys, keys_from, ListsKey, no_key}
use Rattle.cedar_scan.specs.Suffixes.{failure, held_suffix, is_node, keys_ending}
use Rattle.cedar_scan.proofs.LayoutLemmas.{laid_goto, laid_more}
use Rattle.cedar_scan.proofs.ListLemmas.{field_kept, same_front, snoc, still_inside, written_elsewhere, written_here}
use Rattle.cedar_scan.proofs.ListedLemmas.{from_kept, from_new, from_none, listed_more}
use Rattle.cedar_scan.proofs.SuffixLemmas.{held_goes_on, held_is_node, held_shorter, keys_of_held, keys_of_key, keys_of_other, node_front}

pub failure_node : (t : Tree) (path : List ℕ) → is_node t (failure t path) ≡ true
failure_node t [] = refl
failure_node t (c ∷ w) = held_is_node t w

failure_short : (t : Tree) (path : List ℕ) → length (failure t path) ≤ length path
failure_short t [] = omega arith
failure_short t (c ∷ w) = let less = held_shorter t w in omega (arith, less)

-- the failure link of a path that goes on by a label
failure_on : (t : Tree) (w : List ℕ) (l : ℕ) → (w ≡ [] → ⊥) → failure t (w ++ l ∷ []) ≡ held_suffix t (failure t w ++ l ∷ [])
failure_on t [] l some = absurd (some refl)
failure_on t (c ∷ w) l some = held_goes_on t w l

failure_of_one : (t : Tree) (w : List ℕ) (l : ℕ) → w ≡ [] → failure t (w ++ l ∷ []) ≡ []
failure_of_one t w l e = ap (λ v. failure t (v ++ l ∷ [])) e

-- the keys that end where a path does that isn't one, and where one does that is
keys_by_failure : (t : Tree) (w : List ℕ) (l : ℕ) → number_at t (w ++ l ∷ []) ≡ None → keys_ending t (w ++ l ∷ []) ≡ keys_ending t (failure t (w ++ l ∷ []))
keys_by_failure t [] l none = keys_of_other t l [] none
keys_by_failure t (c ∷ w) l none = keys_of_other t c (w ++ l ∷ []) none ∙ keys_of_held t (w ++ l ∷ [])

keys_by_own : (t : Tree) (w : List ℕ) (l : ℕ) (v : ℤ) → number_at t (w ++ l ∷ []) ≡ Some v
    → keys_ending t (w ++ l ∷ []) ≡ (v, length (w ++ l ∷ [])) ∷ keys_ending t (failure t (w ++ l ∷ []))
keys_by_own t [] l v held = keys_of_key t l [] v held
keys_by_own t (c ∷ w) l v held =
    keys_of_key t c (w ++ l ∷ []) v held ∙ ap (λ (ks : List (ℤ × ℕ)). (v, length (c ∷ (w ++ l ∷ []))) ∷ ks) (keys_of_held t (w ++ l ∷ []))

failure_shorter : (t : Tree) (w : List ℕ) (l : ℕ) → length (failure t (w ++ l ∷ [])) ≤ length w
failure_shorter t [] l = omega arith
failure_shorter t (c ∷ w) l =
    let less = held_shorter t (w ++ l ∷ []) in
    let one = length-append w (l ∷ []) in
    omega (arith, less, one)

module _ (t : Tree) (slot_of : List ℕ → ℕ) (states : List State) (n : PlacedNode) (can : CanLink t slot_of states n) where
  above_node : is_node t can.is.path ≡ true
  above_node = node_front t can.is.path (n.label ∷ []) can.is.node

  pub above_inside : n.parent < length states
  above_inside = subst (λ s. s < length states) (sym can.is.parent) (can.goto.within can.is.path above_node)

  pub own_inside : n.slot < length states
  own_inside = subst (λ s. s < length states) (sym can.is.slot) (can.goto.within (can.is.path ++ n.label ∷ []) can.is.node)

  above_failure : (state_at states n.parent).failure ≡ slot_of (failure t can.is.path)
  above_failure = ap (λ s. (state_at states s).failure) can.is.parent ∙ can.links can.is.path above_node (omega arith)

  -- from there a step can be taken
  pub step_from_above : IsStepFrom t slot_of states (state_at states n.parent).failure
  step_from_above =
      let short = failure_short t can.is.path in
      record {
        placing = can.placing;
        goto = can.goto;
        path = failure t can.is.path;
        node = failure_node t can.is.path;
        slot = above_failure;
        links = λ w node less. can.links w node (omega (arith, less, short));
      }

  same_path : (is : IsListedNode t slot_of n) → is.path ++ n.label ∷ [] ≡ can.is.path ++ n.label ∷ []
  same_path is = can.placing.one (is.path ++ n.label ∷ []) (can.is.path ++ n.label ∷ []) is.node can.is.node (sym is.slot ∙ can.is.slot)

  pub fails_to_root : n.parent ≡ 0 → FailsTo t slot_of n 0
  fails_to_root zero = λ is.
      let empty : can.is.path ≡ [] = can.placing.one can.is.path [] above_node refl (sym can.is.parent ∙ zero ∙ sym can.placing.root) in
      sym can.placing.root ∙ ap slot_of (sym (failure_of_one t can.is.path n.label empty)) ∙ ap (λ w. slot_of (failure t w)) (sym (same_path is))

  pub fails_on : (n.parent ≡ 0 → ⊥) → (to : ℕ) → GoesToSuffix t slot_of (state_at states n.parent).failure n.label to → FailsTo t slot_of n to
  fails_on other to steps = λ is.
      let some : (can.is.path ≡ [] → ⊥) = λ e. other (can.is.parent ∙ ap slot_of e ∙ can.placing.root) in
      steps (failure t can.is.path) (failure_node t can.is.path) above_failure
      ∙ ap slot_of (sym (failure_on t can.is.path n.label some)) ∙ ap (λ w. slot_of (failure t w)) (sym (same_path is))

  -- ---- the links of the node

  module _ (to : ℕ) (fails : FailsTo t slot_of n to) where
    pub failure_is : to ≡ slot_of (failure t (can.is.path ++ n.label ∷ []))
    failure_is = fails can.is

    pub failure_in : to < length states
    failure_in = subst (λ s. s < length states) (sym failure_is) (can.goto.within (failure t (can.is.path ++ n.label ∷ [])) (failure_node t (can.is.path ++ n.label ∷ [])))

    pub failure_small : to < 2 ^ 30
    failure_small = subst (λ s. s < 2 ^ 30) (sym failure_is) (can.placing.small (failure t (can.is.path ++ n.label ∷ [])) (failure_node t (can.is.path ++ n.label ∷ [])))

    -- the output is that of the longest key that ends where the path does
    module _ (keys : List ListedKey) (ready : CanListKey t slot_of states keys n) where
      fails_short : HasOutput t slot_of states keys (failure t (can.is.path ++ n.label ∷ []))
      fails_short =
          let path = failure t (can.is.path ++ n.label ∷ []) in
          let short = failure_shorter t can.is.path n.label in
          let deep = can.is.depth in
          ready.outputs path (failure_node t (can.is.path ++ n.label ∷ [])) (omega (arith, short, deep))

      shorter_inside : (state_at states to).output < length keys
      shorter_inside = subst (λ s. (state_at states s).output < length keys) (sym failure_is) fails_short.inside

      shorter_gives : keys_from keys (state_at states to).output ≡ keys_ending t (failure t (can.is.path ++ n.label ∷ []))
      shorter_gives = ap (λ s. keys_from keys (state_at states s).output) failure_is ∙ fails_short.gives

      -- what is listed then, and from which index on the keys are those of the path
      pub record IsListedKey (out : ℕ) (more : List ListedKey) : Type 0 where
        pub listed : AreListedKeys more
        pub inside : out < length more
        pub gives : keys_from more out ≡ keys_ending t (can.is.path ++ n.label ∷ [])
        pub longer : length keys ≤ length more
        pub kept : (k : ℕ) → k < length keys → keys_from more k ≡ keys_from keys k

      unlisted : n.number ≡ None → (out : ℕ) (more : List ListedKey) → out ≡ (state_at states to).output → more ≡ keys → IsListedKey out more
      unlisted none out more at same = subst (IsListedKey out) (sym same) (subst (λ o. IsListedKey o keys) (sym at) (record {
        listed = ready.listed;
        inside = shorter_inside;
        gives = shorter_gives ∙ sym (keys_by_failure t can.is.path n.label (sym can.is.number ∙ none));
        longer = omega arith;
        kept = λ k inside. refl;
      }))

      listed_key : (v : ℤ) → n.number ≡ Some v → (out : ℕ) (more : List ListedKey) → out ≡ length keys → more ≡ keys ++ record { len = n.depth; value = v; next = (state_at states to).output } ∷ [] → IsListedKey out more
      listed_key v some out more at same =
          let key : ListedKey = record { len = n.depth; value = v; next = (state_at states to).output } in
          let one = length-append keys (key ∷ []) in
          let path = length-append can.is.path (n.label ∷ []) in
          let deep = can.is.depth in
          let long : n.depth ≡ length (can.is.path ++ n.label ∷ []) = omega (arith, path, deep) in
          subst (IsListedKey out) (sym same) (subst (λ o. IsListedKey o (keys ++ key ∷ [])) (sym at) (record {
            listed = listed_more keys ready.listed key shorter_inside;
            inside = omega (arith, one);
            gives =
                from_new keys ready.listed key shorter_inside
                ∙ ap (λ (ks : List (ℤ × ℕ)). (v, n.depth) ∷ ks) shorter_gives
                ∙ ap (λ (m : ℕ). (v, m) ∷ keys_ending t (failure t (can.is.path ++ n.label ∷ []))) long
                ∙ sym (keys_by_own t can.is.path n.label v (sym can.is.number ∙ some));
            longer = omega (arith, one);
            kept = λ k inside. from_kept keys ready.listed key k inside;
          }))

      pub lists_key : (out : ℕ) (more : List ListedKey) → ListsKey n (state_at states to).output keys out more → IsListedKey out more
      lists_key out more lists =
          (elim n.number as (λ o. n.number ≡ o
          → MatchOption o ((out ≡ (state_at states to).output) × (more ≡ keys)) (λ (v : ℤ). (out ≡ length keys) × (more ≡ keys ++ record { len = n.depth; value = v; next = (state_at states to).output } ∷ [])) → IsListedKey out more) [
            | None ↦ λ e is. unlisted e out more is.0 is.1
            | Some v ↦ λ e is. listed_key v e out more is.0 is.1
          ]) refl lists

      module _ (out : ℕ) (more : List ListedKey) (own : IsListedKey out more) where
        kept_field : {X : Type 0} (f : State → X) (y : ℕ) → f (record (state_at states n.slot) { failure = to; output = out }) ≡ f (state_at states n.slot) → f (state_at (with_links states n.slot to out) y) ≡ f (state_at states y)
        kept_field f y same = field_kept f states n.slot (record (state_at states n.slot) { failure = to; output = out }) y own_inside same

        same_length : length (with_links states n.slot to out) ≡ length states
        same_length = still_inside states n.slot (record (state_at states n.slot) { failure = to; output = out })

        same_child : (s l : ℕ) → child_in (with_links states n.slot to out) s l ≡ child_in states s l
        same_child s l =
            let later = with_links states n.slot to out in
            let slot = bit_xor (state_at states s).base l in
            ap (λ m. cond ((bit_at m (l % 32) == 1) && (ltb (bit_xor (state_at later s).base l) (length later) && ((state_at later (bit_xor (state_at later s).base l)).owner == s))) (Some (bit_xor (state_at later s).base l)) None) (kept_field (λ (x : State). x.labels) s refl)
            ∙ ap (λ b. cond (may_have (state_at states s) l && (ltb (bit_xor b l) (length later) && ((state_at later (bit_xor b l)).owner == s))) (Some (bit_xor b l)) None) (kept_field (λ (x : State). x.base) s refl)
            ∙ ap (λ m. cond (may_have (state_at states s) l && (ltb slot m && ((state_at later slot).owner == s))) (Some slot) None) same_length
            ∙ ap (λ o. cond (may_have (state_at states s) l && (ltb slot (length states) && (o == s))) (Some slot) None) (kept_field (λ (x : State). x.owner) slot refl)

        linked_here : (w : List ℕ) → w ≡ can.is.path ++ n.label ∷ [] → IsLinked t slot_of (with_links states n.slot to out) w × HasOutput t slot_of (with_links states n.slot to out) more w
        linked_here w e =
            let here : slot_of w ≡ n.slot = ap slot_of e ∙ sym can.is.slot in
            let now = written_here states n.slot (record (state_at states n.slot) { failure = to; output = out }) (slot_of w) own_inside here in
            let output : (state_at (with_links states n.slot to out) (slot_of w)).output ≡ out = ap (λ (s : State). s.output) now in (
              ap (λ (s : State). s.failure) now ∙ failure_is ∙ ap (λ v. slot_of (failure t v)) (sym e),
              record {
                inside = subst (λ o. o < length more) (sym output) own.inside;
                gives = ap (keys_from more) output ∙ own.gives ∙ ap (keys_ending t) (sym e);
              },
            )

        linked_kept : (w : List ℕ) → is_node t w ≡ true → IsLinked t slot_of states w × HasOutput t slot_of states keys w
            → IsLinked t slot_of (with_links states n.slot to out) w × HasOutput t slot_of (with_links states n.slot to out) more w
        linked_kept w node was = elim (eqb_tells (slot_of w) n.slot) [
          | inl here ↦ linked_here w (can.placing.one w (can.is.path ++ n.label ∷ []) node can.is.node (here.1 ∙ can.is.slot))
          | inr other ↦
              let same = written_elsewhere states n.slot (record (state_at states n.slot) { failure = to; output = out }) (slot_of w) other.1 in
              let output : (state_at (with_links states n.slot to out) (slot_of w)).output ≡ (state_at states (slot_of w)).output = ap (λ (s : State). s.output) same in
              let low = was.1.inside in
              let longer = own.longer in
              let fits : (state_at states (slot_of w)).output < length more = omega (arith, low, longer) in (
                ap (λ (s : State). s.failure) same ∙ was.0,
                record {
                  inside = subst (λ o. o < length more) (sym output) fits;
                  gives = ap (keys_from more) output ∙ own.kept (state_at states (slot_of w)).output low ∙ was.1.gives;
                },
              )
        ]

        pub links : GetsLinks t slot_of n states keys (with_links states n.slot to out) more
        links = record {
          goto = record {
            within = λ w node. subst (λ m. slot_of w < m) (sym same_length) (can.goto.within w node);
            child = λ w l node. same_child (slot_of w) l ∙ can.goto.child w l node;
          };
          listed = own.listed;
          here = λ w node at. linked_here w (can.placing.one w (can.is.path ++ n.label ∷ []) node can.is.node (sym at ∙ can.is.slot));
          kept = linked_kept;
        }

-- ---- all nodes, the shorter paths first

module _ (t : Tree) (slot_of : List ℕ → ℕ) (p : IsPlacing t slot_of) (nodes : List PlacedNode) (all : AreNodes t slot_of nodes) where
  -- where a node is in the list
  pub record IsListed (w : List ℕ) : Type 0 where
    pub node : PlacedNode
    pub index : ℕ
    pub inside : index < length nodes
    pub at : (d : PlacedNode) → get_or nodes index d ≡ node
    pub slot : node.slot ≡ slot_of w
    pub depth : node.depth ≡ length w

  listed_end : (w v : List ℕ) (l : ℕ) → w ≡ v ++ l ∷ [] → is_node t w ≡ true → IsListed w
  listed_end w v l e node =
      let there : is_node t (v ++ l ∷ []) ≡ true = ap (is_node t) (sym e) ∙ node in
      let found = all.all v l there in
      let n = found.0 in
      let k = found.1.0 in
      let is = subst (IsListedNode t slot_of) found.1.2 (all.each k n found.1.1) in
      let path : is.path ++ n.label ∷ [] ≡ v ++ l ∷ [] = p.one (is.path ++ n.label ∷ []) (v ++ l ∷ []) is.node there (sym is.slot ∙ found.2) in
      let front : is.path ≡ v = same_front is.path v n.label l path in
      let one = length-append v (l ∷ []) in
      let long = ap length e in
      let same = ap length front in
      let deep = is.depth in
      record {
        node = n;
        index = k;
        inside = found.1.1;
        at = λ d. get_or_default nodes k d n found.1.1 ∙ found.1.2;
        slot = found.2 ∙ ap slot_of (sym e);
        depth = omega (arith, one, long, same, deep);
      }

  pub listed : (b : ℕ) (u : List ℕ) → is_node t (b ∷ u) ≡ true → IsListed (b ∷ u)
  listed b u node = let s = snoc b u in listed_end (b ∷ u) s.0 s.1 s.2 node

  -- once the first ones have their links, so have all with shorter paths than the next
  module _ (sorted : AreByDepth nodes) (i : ℕ) (inside : i < length nodes) (states : List State) (keys : List ListedKey) (first : AreLinkedFirst t slot_of nodes i states keys) (x : PlacedNode) (at : (d : PlacedNode) → get_or nodes i d ≡ x) (is : IsListedNode t slot_of x) where
    linked : (w : List ℕ) → is_node t w ≡ true → length w < x.depth → IsLinked t slot_of states w × HasOutput t slot_of states keys w
    linked [] node less = first.root
    linked (b ∷ u) node less =
        let l = listed b u node in
        elim (leb_tells i l.index) [
          | inl late ↦
              let order : (get_or nodes i x).depth ≤ (get_or nodes l.index x).depth = sorted i l.index x late.1 l.inside in
              let here = ap (λ (n : PlacedNode). n.depth) (at x) in
              let there = ap (λ (n : PlacedNode). n.depth) (l.at x) in
              let deep = l.depth in
              absurd (omega (arith, order, here, there, deep, less))
          | inr early ↦ first.each l.index x early.1 (b ∷ u) node (ap (λ (n : PlacedNode). n.slot) (l.at x) ∙ l.slot)
        ]

    pub can_link : CanLink t slot_of states x
    can_link = record {
      placing = p;
      goto = first.goto;
      is = is;
      links = λ w node less. let own = is.depth in (linked w node (omega (arith, less, own))).0;
    }

    pub can_list : CanListKey t slot_of states keys x
    can_list = record { listed = first.listed; outputs = λ w node less. (linked w node less).1 }

    pub linked_more : (new : List State) (more : List ListedKey) → GetsLinks t slot_of x states keys new more → AreLinkedFirst t slot_of nodes (i + 1) new more
    linked_more new more links = record {
      goto = links.goto;
      listed = links.listed;
      root = links.kept [] refl first.root;
      each = λ k d less w node slot. elim (eqb_tells k i) [
        | inl here ↦ links.here w node (sym (ap (λ (n : PlacedNode). n.slot) (ap (λ j. get_or nodes j d) here.1 ∙ at d)) ∙ slot)
        | inr other ↦ let before = other.1 in links.kept w node (first.each k d (omega (arith, less, before)) w node slot)
      ];
    }

  pub all_linked : (states : List State) (keys : List ListedKey) → AreLinkedFirst t slot_of nodes (length nodes) states keys → IsAutomaton t slot_of states keys
  all_linked states keys first = record {
    placing = p;
    goto = first.goto;
    listed = first.listed;
    links = λ w node. (each w node).0;
    outputs = λ w node. (each w node).1;
  }
    where
      each : (w : List ℕ) → is_node t w ≡ true → IsLinked t slot_of states w × HasOutput t slot_of states keys w
      each [] node = first.root
      each (b ∷ u) node =
          let l = listed b u node in
          first.each l.index l.node l.inside (b ∷ u) node (ap (λ (n : PlacedNode). n.slot) (l.at l.node) ∙ l.slot)

  -- before any node has its links the root has its own, as all links lead to it, and no key is listed
  pub linked_none : (states : List State) → IsGoto t slot_of states → AreLaid t slot_of nodes (length nodes) states → AreLinkedFirst t slot_of nodes 0 states (no_key ∷ [])
  linked_none states goto laid =
      let none : (state_at states (slot_of [])).output ≡ 0 = (laid.links (slot_of [])).1 in
      record {
        goto = goto;
        listed = record { some = omega arith; down = λ k some inside. absurd (omega (arith, some, inside)) };
        root = (
          (laid.links (slot_of [])).0 ∙ sym p.root,
          record {
            inside = omega (arith, none);
            gives = from_none (no_key ∷ []) (state_at states (slot_of [])).output none;
          },
        );
        each = λ k d less w node slot. absurd (omega (arith, less));
      }

  -- each slot is one of those of the list, or the root's
  pub slots_inside : (slots : ℕ) → 0 < slots → AreSlotsWithin slots nodes → (w : List ℕ) → is_node t w ≡ true → slot_of w < slots
  slots_inside slots some within [] node = subst (λ s. s < slots) (sym p.root) some
  slots_inside slots some within (b ∷ u) node =
      let l = listed b u node in
      subst (λ s. s < slots) (ap (λ (n : PlacedNode). n.slot) (l.at l.node) ∙ l.slot) (within l.index l.node l.inside)

  -- of the list's nodes, the slot and that of the node above are inside
  module _ (slots : ℕ) (some : 0 < slots) (within : AreSlotsWithin slots nodes) (i : ℕ) (d : PlacedNode) (inside : i < length nodes) (states : List State) (size : length states ≡ slots) where
    pub parent_inside : (get_or nodes i d).parent < length states
    parent_inside =
        let is = all.each i d inside in
        let low = slots_inside slots some within is.path (node_front t is.path ((get_or nodes i d).label ∷ []) is.node) in
        let at = is.parent in
        omega (arith, low, at, size)

    pub slot_inside : (get_or nodes i d).slot < length states
    slot_inside = let low = within i d inside in omega (arith, low, size)

    pub laid_next : AreLaid t slot_of nodes i states → (new : List State) → new ≡ with_node states (get_or nodes i d) → AreLaid t slot_of nodes (i + 1) new
    laid_next laid new e =
        subst (AreLaid t slot_of nodes (i + 1)) (sym e)
        (laid_more t slot_of p states (get_or nodes i d) (all.each i d inside) parent_inside slot_inside nodes i (λ k x. all.each k x) inside (λ x. get_or_default nodes i x d inside) laid)

-- the list in another order has the same nodes
pub sorted_nodes : (t : Tree) (slot_of : List ℕ → ℕ) (nodes sorted : List PlacedNode) → IsPermutation nodes sorted → AreNodes t slot_of nodes → AreNodes t slot_of sorted
sorted_nodes t slot_of nodes sorted moved all = record {
  each = All-permutation (IsListedNode t slot_of) nodes sorted moved all.each;
  all = λ w l node. let found = all.all w l node in (found.0, Contains-permutation nodes sorted found.0 moved found.1, found.2);
}

-- what the places were given to can get its links
pub first_links : (t : Tree) (slot_of : List ℕ → ℕ) → IsPlacing t slot_of → (nodes : List PlacedNode) → AreNodes t slot_of nodes → (slots : ℕ) → 0 < slots → AreSlotsWithin slots nodes → (states : List State) → length states ≡ slots
    → AreLaid t slot_of nodes (length nodes) states → AreLinkedFirst t slot_of nodes 0 states (no_key ∷ [])
first_links t slot_of p nodes all slots some within states size laid =
    let inside : (w : List ℕ) → is_node t w ≡ true → slot_of w < length states = λ w node. let low = slots_inside t slot_of p nodes all slots some within w node in omega (arith, low, size) in
    linked_none t slot_of p nodes all states (laid_goto t slot_of p nodes all states laid inside) laid
