-- Slots that are chosen for the nodes of a dictionary.
use Rattle.std.proofs.Common.{◌≡◌, inl, inr, ℕ, suc, ◌+◌, ◌^◌, ◌<◌, ◌≤◌, Bool, true, false, cond, List, [], ◌∷◌, ◌++◌, append_assoc, get_or, length, length-append, map, take, None, Some, refl, sym, ap, subst, ◌∙◌, arith}
use Rattle.std.specs.Prelude.{bit_xor, unwrap_or}
use Rattle.std.proofs.Math.Seq.{get_or-append_seam, take-suc}
use Rattle.std.proofs.lemmas.Bool.Decides.{eqb_tells}
use Rattle.std.proofs.lemmas.List.{append-nil, get_or-map, get_or_append_left, get_or_default, length-map, map-append, take_all}
use Rattle.std.proofs.lemmas.List.Elements.{All-map}
use Rattle.cedar_tree.specs.Tree.{Tree}
use Rattle.cedar_scan.specs.declared.state.ListedKey.{ListedKey}
use Rattle.cedar_scan.specs.declared.state.PlacedNode.{PlacedNode}
use Rattle.cedar_scan.specs.declared.state.State.{State}
use Rattle.cedar_scan.specs.Automata.{AreNodes, child_in, GoesToSuffix, HasOutput, IsAutomaton, IsGoto, IsLinked, IsListedNode, IsPlacing, IsStepFrom, slot_of_path, state_at, slot_along}
use Rattle.cedar_scan.specs.Falls.{AreFalls, fall_at, pops_of}
use Rattle.cedar_scan.specs.Keywords.{IsKeywordAutomaton}
use Rattle.cedar_scan.specs.Leftmost.{IsFall}
use Rattle.cedar_scan.specs.Listed.{keys_from}
use Rattle.cedar_scan.specs.Places.{ArePutAnew, IsPutAnew, chosen_slot, placed_by, placed_node}
use Rattle.cedar_scan.specs.Suffixes.{failure, held_suffix, is_node}
use Rattle.cedar_scan.specs.declared.falls.Fall.{Fall}
use Rattle.cedar_scan.specs.declared.falls.Popped.{Popped}
use Rattle.cedar_scan.proofs.LinkLemmas.{failure_node}
use Rattle.cedar_scan.proofs.ListLemmas.{same_front, same_last, snoc}
use Rattle.cedar_scan.proofs.SuffixLemmas.{held_is_node, node_front}

-- ---- what was checked is a placing

module _ (t : Tree) (slot_of : List ℕ → ℕ) (p : IsPlacing t slot_of) (nodes : List PlacedNode) (all : AreNodes t slot_of nodes) where
  module _ (places bases owners : List ℕ) (put : ArePutAnew places bases owners nodes) where
    -- what was checked of the node at the end of a path
    record IsChosen (w : List ℕ) (l : ℕ) : Type 0 where
      pub below : chosen_slot places (slot_of (w ++ l ∷ [])) ≡ bit_xor (chosen_slot bases (slot_of w)) l
      pub owner : chosen_slot owners (chosen_slot places (slot_of (w ++ l ∷ []))) ≡ slot_of (w ++ l ∷ [])
      pub small : chosen_slot places (slot_of (w ++ l ∷ [])) < 2 ^ 30

    chosen_by : (w : List ℕ) (l : ℕ) → is_node t (w ++ l ∷ []) ≡ true → (n : PlacedNode) (is : IsListedNode t slot_of n) → n.slot ≡ slot_of (w ++ l ∷ []) → IsPutAnew places bases owners n → IsChosen w l
    chosen_by w l node n is slot here =
        let path : is.path ++ n.label ∷ [] ≡ w ++ l ∷ [] = p.one (is.path ++ n.label ∷ []) (w ++ l ∷ []) is.node node (sym is.slot ∙ slot) in
        let front : is.path ≡ w = same_front is.path w n.label l path in
        let last : n.label ≡ l = same_last is.path w n.label l path in
        let parent : n.parent ≡ slot_of w = is.parent ∙ ap slot_of front in
        record {
          below = ap (chosen_slot places) (sym slot) ∙ here.below ∙ ap (λ s. bit_xor (chosen_slot bases s) n.label) parent ∙ ap (bit_xor (chosen_slot bases (slot_of w))) last;
          owner = ap (λ s. chosen_slot owners (chosen_slot places s)) (sym slot) ∙ here.owner ∙ slot;
          small = subst (λ s. chosen_slot places s < 2 ^ 30) slot here.small;
        }

    chosen : (w : List ℕ) (l : ℕ) → is_node t (w ++ l ∷ []) ≡ true → IsChosen w l
    chosen w l node =
        let listed = all.all w l node in
        let n = listed.0 in
        let k = listed.1.0 in
        let same : get_or nodes k n ≡ n = listed.1.2 in
        chosen_by w l node n (subst (IsListedNode t slot_of) same (all.each k n listed.1.1)) listed.2 (subst (IsPutAnew places bases owners) same (put.each k n listed.1.1))

    at_root : placed_by places slot_of [] ≡ 0
    at_root = ap (chosen_slot places) p.root ∙ put.root

    -- by its chosen slot the own one of a node is known
    known : (w : List ℕ) → is_node t w ≡ true → chosen_slot owners (placed_by places slot_of w) ≡ slot_of w
    known [] node = ap (chosen_slot owners) at_root ∙ put.owner ∙ sym p.root
    known (b ∷ v) node =
        let s = snoc b v in
        ap (λ w. chosen_slot owners (placed_by places slot_of w)) s.2 ∙ (chosen s.0 s.1 (ap (is_node t) (sym s.2) ∙ node)).owner ∙ ap slot_of (sym s.2)

    small : (w : List ℕ) → is_node t w ≡ true → placed_by places slot_of w < 2 ^ 30
    small [] node = let zero = at_root in omega (arith, zero)
    small (b ∷ v) node =
        let s = snoc b v in
        subst (λ w. placed_by places slot_of w < 2 ^ 30) (sym s.2) (chosen s.0 s.1 (ap (is_node t) (sym s.2) ∙ node)).small

    pub put_is_placing : IsPlacing t (placed_by places slot_of)
    put_is_placing = record {
      root = at_root;
      base = λ w. chosen_slot bases (slot_of w);
      below = λ w l node. (chosen w l node).below;
      one = λ w v node other same. p.one w v node other (sym (known w node) ∙ ap (chosen_slot owners) same ∙ known v other);
      small = small;
    }

-- a node has the slots that were chosen
placed_listed : (t : Tree) (slot_of : List ℕ → ℕ) (places : List ℕ) (n : PlacedNode) → IsListedNode t slot_of n → IsListedNode t (placed_by places slot_of) (placed_node places n)
placed_listed t slot_of places n is = record {
  path = is.path;
  node = is.node;
  slot = ap (chosen_slot places) is.slot;
  parent = ap (chosen_slot places) is.parent;
  depth = is.depth;
  number = is.number;
}

-- ---- what was checked and listed so far

pub put_more : (places bases owners : List ℕ) (nodes : List PlacedNode) (i : ℕ) → i < length nodes → ((k : ℕ) (d : PlacedNode) → k < i → IsPutAnew places bases owners (get_or nodes k d))
    → (e : PlacedNode) → IsPutAnew places bases owners (get_or nodes i e) → (k : ℕ) (d : PlacedNode) → k < i + 1 → IsPutAnew places bases owners (get_or nodes k d)
put_more places bases owners nodes i inside before e here k d less = elim (eqb_tells k i) [
  | inl same ↦ subst (IsPutAnew places bases owners) (get_or_default nodes i e d inside ∙ ap (λ j. get_or nodes j d) (sym same.1)) here
  | inr other ↦ let apart = other.1 in before k d (omega (arith, less, apart))
]

pub all_put : (places bases owners : List ℕ) (nodes : List PlacedNode) (i : ℕ) → length nodes ≤ i → ((k : ℕ) (d : PlacedNode) → k < i → IsPutAnew places bases owners (get_or nodes k d))
    → chosen_slot places 0 ≡ 0 → chosen_slot owners 0 ≡ 0 → ArePutAnew places bases owners nodes
all_put places bases owners nodes i end each root owner = record { root = root; owner = owner; each = λ k d less. each k d (omega (arith, less, end)) }

pub placed_more : (places : List ℕ) (nodes : List PlacedNode) (i : ℕ) (d : PlacedNode) → i < length nodes → (old new : List PlacedNode) (kept : PlacedNode) → kept ≡ placed_node places (get_or nodes i d) → new ≡ old ++ kept ∷ []
    → old ≡ map (placed_node places) (take i nodes) → new ≡ map (placed_node places) (take (i + 1) nodes)
placed_more places nodes i d inside old new kept is pushed so_far =
    let one : suc i ≡ i + 1 = omega arith in
    pushed
    ∙ ap (λ xs. xs ++ kept ∷ []) so_far
    ∙ ap (λ n. map (placed_node places) (take i nodes) ++ n ∷ []) is
    ∙ sym (map-append (placed_node places) (take i nodes) (get_or nodes i d ∷ []))
    ∙ ap (map (placed_node places)) (sym (take-suc nodes i d inside))
    ∙ ap (λ n. map (placed_node places) (take n nodes)) one

pub all_placed : (t : Tree) (slot_of : List ℕ → ℕ) (places : List ℕ) (nodes : List PlacedNode) → AreNodes t slot_of nodes → (i : ℕ) → i ≡ length nodes → (list : List PlacedNode) → list ≡ map (placed_node places) (take i nodes)
    → AreNodes t (placed_by places slot_of) list
all_placed t slot_of places nodes all i end list is =
    let whole : list ≡ map (placed_node places) nodes = is ∙ ap (map (placed_node places)) (take_all i nodes (omega (arith, end))) in
    subst (AreNodes t (placed_by places slot_of)) (sym whole) (record {
      each = All-map (IsListedNode t (placed_by places slot_of)) (placed_node places) nodes (λ k d less. placed_listed t slot_of places (get_or nodes k d) (all.each k d less));
      all = λ w l node.
          let found = all.all w l node in
          let n = found.0 in
          let k = found.1.0 in
          let low : k < length (map (placed_node places) nodes) = subst (λ m. k < m) (sym (length-map nodes (placed_node places))) found.1.1 in
          (placed_node places n, (k, low, get_or-map (placed_node places) nodes k n (placed_node places n) found.1.1 ∙ ap (placed_node places) found.1.2), ap (chosen_slot places) found.2);
    })

pub one_own : (i : ℕ) (old new : List ℕ) → new ≡ old ++ i ∷ [] → (length old ≡ i) × ((s : ℕ) → s < i → get_or old s 0 ≡ s) → (length new ≡ i + 1) × ((s : ℕ) → s < i + 1 → get_or new s 0 ≡ s)
one_own i old new pushed so_far =
    let long = ap length pushed in
    let one = length-append old (i ∷ []) in
    let size = so_far.0 in (
      omega (arith, long, one, size),
      λ s less. elim (eqb_tells s i) [
        | inl here ↦ ap (λ xs. get_or xs s 0) pushed ∙ ap (λ k. get_or (old ++ i ∷ []) k 0) (here.1 ∙ sym size) ∙ get_or-append_seam old i [] 0 ∙ sym here.1
        | inr other ↦
            let apart = other.1 in
            ap (λ xs. get_or xs s 0) pushed ∙ get_or_append_left old (i ∷ []) 0 s (omega (arith, less, apart, size)) ∙ so_far.1 s (omega (arith, less, apart))
      ],
    )

-- ---- the same slots by another function of the paths

module _ (t : Tree) (slot_of other : List ℕ → ℕ) (same : (w : List ℕ) → is_node t w ≡ true → slot_of w ≡ other w) where
  pub same_placing : IsPlacing t slot_of → IsPlacing t other
  same_placing p = record {
    root = sym (same [] refl) ∙ p.root;
    base = p.base;
    below = λ w l node. sym (same (w ++ l ∷ []) node) ∙ p.below w l node;
    one = λ w v a b e. p.one w v a b (same w a ∙ e ∙ sym (same v b));
    small = λ w node. subst (λ s. s < 2 ^ 30) (same w node) (p.small w node);
  }

  same_some : (w : List ℕ) (b : Bool) → is_node t w ≡ b → cond b (Some (slot_of w)) None ≡ cond b (Some (other w)) None
  same_some w true node = ap Some (same w node)
  same_some w false node = refl

  pub same_goto : (states : List State) → IsGoto t slot_of states → IsGoto t other states
  same_goto states h = record {
    within = λ w node. subst (λ s. s < length states) (same w node) (h.within w node);
    child = λ w l node. ap (λ s. child_in states s l) (sym (same w node)) ∙ h.child w l node ∙ same_some (w ++ l ∷ []) (is_node t (w ++ l ∷ [])) refl;
  }

  pub same_linked : (states : List State) (w : List ℕ) → is_node t w ≡ true → IsLinked t slot_of states w → IsLinked t other states w
  same_linked states w node h = ap (λ s. (state_at states s).failure) (sym (same w node)) ∙ h ∙ same (failure t w) (failure_node t w)

  same_output : (states : List State) (keys : List ListedKey) (w : List ℕ) → is_node t w ≡ true → HasOutput t slot_of states keys w → HasOutput t other states keys w
  same_output states keys w node h = record {
    inside = subst (λ s. (state_at states s).output < length keys) (same w node) h.inside;
    gives = ap (λ s. keys_from keys (state_at states s).output) (sym (same w node)) ∙ h.gives;
  }

  pub same_automaton : (states : List State) (keys : List ListedKey) → IsAutomaton t slot_of states keys → IsAutomaton t other states keys
  same_automaton states keys h = record {
    placing = same_placing h.placing;
    goto = same_goto states h.goto;
    listed = h.listed;
    links = λ w node. same_linked states w node (h.links w node);
    outputs = λ w node. same_output states keys w node (h.outputs w node);
  }

  pub same_falls : (falls : List Fall) (popped : List Popped) → AreFalls t slot_of falls popped → AreFalls t other falls popped
  same_falls falls popped h = λ w node some.
      let is = h w node some in
      record {
        rest = is.rest;
        to = ap (λ s. (fall_at falls s).to) (sym (same w node)) ∙ is.to ∙ same is.rest is.fall.node;
        range = subst (λ s. (fall_at falls s).first ≤ (fall_at falls s).last) (same w node) is.range;
        inside = subst (λ s. (fall_at falls s).last ≤ length popped) (same w node) is.inside;
        depth = ap (λ s. (fall_at falls s).depth) (sym (same w node)) ∙ is.depth;
        fall = subst (λ s. IsFall t w (pops_of (fall_at falls s) popped) is.rest) (same w node) is.fall;
      }

  pub same_keyword_automaton : (states : List State) (falls : List Fall) (popped : List Popped) → IsKeywordAutomaton t slot_of states falls popped → IsKeywordAutomaton t other states falls popped
  same_keyword_automaton states falls popped h = record {
    placing = same_placing h.placing;
    goto = same_goto states h.goto;
    size = h.size;
    each = same_falls falls popped h.each;
  }

  -- a step by the other function
  pub same_step : (states : List State) (from : ℕ) → IsStepFrom t slot_of states from → IsStepFrom t other states from
  same_step states from h = record {
    placing = same_placing h.placing;
    goto = same_goto states h.goto;
    path = h.path;
    node = h.node;
    slot = h.slot ∙ same h.path h.node;
    links = λ w node less. same_linked states w node (h.links w node less);
  }

  pub same_goes : (from label to : ℕ) → GoesToSuffix t other from label to → GoesToSuffix t slot_of from label to
  same_goes from label to goes = λ path node at.
      goes path node (at ∙ same path node) ∙ sym (same (held_suffix t (path ++ label ∷ [])) (held_is_node t (path ++ label ∷ [])))

-- ---- what the states lead to

module _ (t : Tree) (slot_of : List ℕ → ℕ) (states : List State) (p : IsPlacing t slot_of) (h : IsGoto t slot_of states) where
  leads : (v : List ℕ) (w : List ℕ) → is_node t (v ++ w) ≡ true → slot_along states (slot_of v) w ≡ slot_of (v ++ w)
  unfolding slot_along
  leads v [] node = ap slot_of (sym (append-nil v))
  leads v (l ∷ w) node =
      let whole : (v ++ l ∷ []) ++ w ≡ v ++ l ∷ w = append_assoc v (l ∷ []) w in
      let there : is_node t ((v ++ l ∷ []) ++ w) ≡ true = ap (is_node t) whole ∙ node in
      let next : is_node t (v ++ l ∷ []) ≡ true = node_front t (v ++ l ∷ []) w there in
      let child : child_in states (slot_of v) l ≡ Some (slot_of (v ++ l ∷ [])) = h.child v l (node_front t v (l ∷ []) next) ∙ ap (λ b. cond b (Some (slot_of (v ++ l ∷ []))) None) next in
      ap (λ o. slot_along states (unwrap_or o 0) w) child ∙ leads (v ++ l ∷ []) w there ∙ ap slot_of whole

  pub is_reached : (w : List ℕ) → is_node t w ≡ true → slot_of w ≡ slot_of_path states w
  is_reached w node = sym (leads [] w node) ∙ ap (λ s. slot_along states s w) p.root

-- the slots of the dictionary as they are
pub own_are_placing : (t : Tree) (slot_of : List ℕ → ℕ) → IsPlacing t slot_of → (slots : ℕ) → ((w : List ℕ) → is_node t w ≡ true → slot_of w < slots) → (places : List ℕ) → ((s : ℕ) → s < slots → chosen_slot places s ≡ s) → IsPlacing t (placed_by places slot_of)
own_are_placing t slot_of p slots inside places own = same_placing t slot_of (placed_by places slot_of) (λ w node. sym (own (slot_of w) (inside w node))) p

-- the slots of an automaton are those that its states lead to
pub reached_automaton : (t : Tree) (slot_of : List ℕ → ℕ) (states : List State) (keys : List ListedKey) → IsAutomaton t slot_of states keys → IsAutomaton t (slot_of_path states) states keys
reached_automaton t slot_of states keys h = same_automaton t slot_of (slot_of_path states) (is_reached t slot_of states h.placing h.goto) states keys h

pub reached_keywords : (t : Tree) (slot_of : List ℕ → ℕ) (states : List State) (falls : List Fall) (popped : List Popped) → IsKeywordAutomaton t slot_of states falls popped → IsKeywordAutomaton t (slot_of_path states) states falls popped
reached_keywords t slot_of states falls popped h = same_keyword_automaton t slot_of (slot_of_path states) (is_reached t slot_of states h.placing h.goto) states falls popped h
