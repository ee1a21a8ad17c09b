-- What the states are once each node has its place.
use Rattle.std.proofs.Common.{◌≡◌, ◌⊎◌, inl, inr, ℕ, ◌+◌, ◌*◌, ◌%◌, ◌^◌, ◌<◌, true, false, cond, ◌&&◌, ◌==◌, ltb, List, [], ◌∷◌, ◌++◌, get_or, length, Some, None, refl, sym, ap, subst, ◌∙◌, arith, eq-eqb, w32}
use Rattle.std.specs.Prelude.{bit_or, bit_xor}
use Rattle.std.specs.Int.{bit_at}
use Rattle.std.proofs.lemmas.Bool.{and_from, and_parts, eqb-true, lt-ltb, ltb-true, true≢false}
use Rattle.std.proofs.lemmas.Bool.Decides.{eqb_tells}
use Rattle.std.proofs.lemmas.Nat.Bits.{bit_at_set_other, bit_at_set_same}
use Rattle.cedar_tree.specs.Tree.{Tree}
use Rattle.cedar_model.proofs.MeaningLemmas.ExclusiveOr.{xor_again, xor_injective}
use Rattle.cedar_scan.specs.declared.state.PlacedNode.{PlacedNode}
use Rattle.cedar_scan.specs.declared.state.State.{State}
use Rattle.cedar_scan.specs.Automata.{AreLaid, AreNodes, child_in, IsChildSlot, IsGoto, IsLaid, IsListedNode, IsPlacing, may_have, state_at, with_base, with_child_label, with_node}
use Rattle.cedar_scan.specs.Suffixes.{is_node}
use Rattle.cedar_scan.proofs.ListLemmas.{field_kept, same_front, same_last, still_inside, written_elsewhere, written_here}
use Rattle.cedar_scan.proofs.SuffixLemmas.{node_front}

label_set : (labels l : ℕ) → bit_at (bit_or labels (1 * 2 ^ (l % 32) % 2 ^ 32)) (l % 32) ≡ 1
label_set labels l = bit_at_set_same w32 labels (l % 32) (omega (arith))

label_kept : (labels l i : ℕ) → bit_at labels i ≡ 1 → bit_at (bit_or labels (1 * 2 ^ (l % 32) % 2 ^ 32)) i ≡ 1
label_kept labels l i was = elim (eqb_tells i (l % 32)) [
  | inl same ↦ ap (bit_at (bit_or labels (1 * 2 ^ (l % 32) % 2 ^ 32))) same.1 ∙ label_set labels l
  | inr other ↦ bit_at_set_other w32 labels (l % 32) (omega (arith)) i other.1 ∙ was
]

module _ (t : Tree) (slot_of : List ℕ → ℕ) (p : IsPlacing t slot_of) where
  -- the base of a node's children, by any of them
  child_base : (n : PlacedNode) (is : IsListedNode t slot_of n) → bit_xor n.slot n.label ≡ p.base is.path
  child_base n is = ap (λ s. bit_xor s n.label) (is.slot ∙ p.below is.path n.label is.node) ∙ xor_again (p.base is.path) n.label

  above : (n : PlacedNode) (is : IsListedNode t slot_of n) → is_node t is.path ≡ true
  above n is = node_front t is.path (n.label ∷ []) is.node

  -- two nodes with one slot above them have one node above them, and two with one slot are one
  one_above : (m x : PlacedNode) (a : IsListedNode t slot_of m) (b : IsListedNode t slot_of x) → m.parent ≡ x.parent → a.path ≡ b.path
  one_above m x a b e = p.one a.path b.path (above m a) (above x b) (sym a.parent ∙ e ∙ b.parent)

  one_path : (m x : PlacedNode) (a : IsListedNode t slot_of m) (b : IsListedNode t slot_of x) → m.slot ≡ x.slot → a.path ++ m.label ∷ [] ≡ b.path ++ x.label ∷ []
  one_path m x a b e = p.one (a.path ++ m.label ∷ []) (b.path ++ x.label ∷ []) a.node b.node (sym a.slot ∙ e ∙ b.slot)

  module _ (states : List State) (x : PlacedNode) (b : IsListedNode t slot_of x) (parent_in : x.parent < length states) (slot_in : x.slot < length states) where
    -- the second of the two writes is inside too
    slot_still : x.slot < length (with_base states x)
    slot_still = subst (λ n. x.slot < n) (sym (still_inside states x.parent (with_child_label (state_at states x.parent) x))) slot_in

    -- what the two writes leave
    base_kept : (y : ℕ) → (state_at (with_node states x) y).base ≡ (state_at (with_base states x) y).base
    base_kept y = field_kept (λ (s : State). s.base) (with_base states x) x.slot (record (state_at (with_base states x) x.slot) { owner = x.parent }) y slot_still refl

    failure_kept : (y : ℕ) → (state_at (with_node states x) y).failure ≡ (state_at states y).failure
    failure_kept y =
        field_kept (λ (s : State). s.failure) (with_base states x) x.slot (record (state_at (with_base states x) x.slot) { owner = x.parent }) y slot_still refl
        ∙ field_kept (λ (s : State). s.failure) states x.parent (with_child_label (state_at states x.parent) x) y parent_in refl

    output_kept : (y : ℕ) → (state_at (with_node states x) y).output ≡ (state_at states y).output
    output_kept y =
        field_kept (λ (s : State). s.output) (with_base states x) x.slot (record (state_at (with_base states x) x.slot) { owner = x.parent }) y slot_still refl
        ∙ field_kept (λ (s : State). s.output) states x.parent (with_child_label (state_at states x.parent) x) y parent_in refl

    base_here : (y : ℕ) → y ≡ x.parent → (state_at (with_node states x) y).base ≡ bit_xor x.slot x.label
    base_here y e = base_kept y ∙ ap (λ (s : State). s.base) (written_here states x.parent (with_child_label (state_at states x.parent) x) y parent_in e)

    base_elsewhere : (y : ℕ) → (y ≡ x.parent → ⊥) → (state_at (with_node states x) y).base ≡ (state_at states y).base
    base_elsewhere y other = base_kept y ∙ ap (λ (s : State). s.base) (written_elsewhere states x.parent (with_child_label (state_at states x.parent) x) y other)

    labels_kept : (y : ℕ) → (state_at (with_node states x) y).labels ≡ (state_at (with_base states x) y).labels
    labels_kept y = field_kept (λ (s : State). s.labels) (with_base states x) x.slot (record (state_at (with_base states x) x.slot) { owner = x.parent }) y slot_still refl

    labels_here : (y : ℕ) → y ≡ x.parent → (state_at (with_node states x) y).labels ≡ (with_child_label (state_at states x.parent) x).labels
    labels_here y e = labels_kept y ∙ ap (λ (s : State). s.labels) (written_here states x.parent (with_child_label (state_at states x.parent) x) y parent_in e)

    labels_elsewhere : (y : ℕ) → (y ≡ x.parent → ⊥) → (state_at (with_node states x) y).labels ≡ (state_at states y).labels
    labels_elsewhere y other = labels_kept y ∙ ap (λ (s : State). s.labels) (written_elsewhere states x.parent (with_child_label (state_at states x.parent) x) y other)

    may_have_here : may_have (state_at (with_node states x) x.parent) x.label ≡ true
    may_have_here = ap (λ m. bit_at m (x.label % 32) == 1) (labels_here x.parent refl) ∙ eq-eqb (bit_at (with_child_label (state_at states x.parent) x).labels (x.label % 32)) 1 (label_set (state_at states x.parent).labels x.label)

    may_have_kept : (y l : ℕ) → may_have (state_at states y) l ≡ true → may_have (state_at (with_node states x) y) l ≡ true
    may_have_kept y l was = elim (eqb_tells y x.parent) [
      | inl here ↦
          let old : bit_at (state_at states x.parent).labels (l % 32) ≡ 1 = ap (λ k. bit_at (state_at states k).labels (l % 32)) (sym here.1) ∙ eqb-true (bit_at (state_at states y).labels (l % 32)) 1 was in
          ap (λ m. bit_at m (l % 32) == 1) (labels_here y here.1) ∙ eq-eqb (bit_at (with_child_label (state_at states x.parent) x).labels (l % 32)) 1 (label_kept (state_at states x.parent).labels x.label (l % 32) old)
      | inr other ↦ ap (λ m. bit_at m (l % 32) == 1) (labels_elsewhere y other.1) ∙ was
    ]

    -- in the slot of the node
    own : (y : ℕ) → y ≡ x.slot → state_at (with_node states x) y ≡ record (state_at (with_base states x) x.slot) { owner = x.parent }
    own y e = written_here (with_base states x) x.slot (record (state_at (with_base states x) x.slot) { owner = x.parent }) y slot_still e

    -- and in each other one
    elsewhere : {X : Type 0} (f : State → X) (y : ℕ) → f (with_child_label (state_at states x.parent) x) ≡ f (state_at states x.parent) → (y ≡ x.slot → ⊥) → f (state_at (with_node states x) y) ≡ f (state_at states y)
    elsewhere f y same other =
        ap f (written_elsewhere (with_base states x) x.slot (record (state_at (with_base states x) x.slot) { owner = x.parent }) y other)
        ∙ field_kept f states x.parent (with_child_label (state_at states x.parent) x) y parent_in same

    laid_here : IsLaid (with_node states x) x
    laid_here = record {
      base = base_here x.parent refl;
      labels = may_have_here;
      owner = ap (λ (s : State). s.owner) (own x.slot refl);
    }

    laid_kept : (m : PlacedNode) → IsListedNode t slot_of m → IsLaid states m → IsLaid (with_node states x) m
    laid_kept m a laid = record {
      base = elim (eqb_tells m.parent x.parent) [
        | inl same ↦ base_here m.parent same.1 ∙ child_base x b ∙ ap p.base (sym (one_above m x a b same.1)) ∙ sym (child_base m a)
        | inr other ↦ base_elsewhere m.parent other.1 ∙ laid.base
      ];
      labels = may_have_kept m.parent m.label laid.labels;
      owner = elim (eqb_tells m.slot x.slot) [
        | inl same ↦ ap (λ (s : State). s.owner) (own m.slot same.1) ∙ b.parent ∙ ap slot_of (sym (same_front a.path b.path m.label x.label (one_path m x a b same.1))) ∙ sym a.parent
        | inr other ↦ elsewhere (λ (s : State). s.owner) m.slot refl other.1 ∙ laid.owner
      ];
    }

    only_here : (y : ℕ) → y ≡ x.slot → IsChildSlot t slot_of (with_node states x) y
    only_here y e = record {
      path = b.path;
      label = x.label;
      node = b.node;
      slot = e ∙ b.slot;
      owner = ap (λ (s : State). s.owner) (own y e) ∙ b.parent;
    }

    still_child : (y : ℕ) → (y ≡ x.slot → ⊥) → IsChildSlot t slot_of states y → IsChildSlot t slot_of (with_node states x) y
    still_child y other was = record { path = was.path; label = was.label; node = was.node; slot = was.slot; owner = elsewhere (λ (s : State). s.owner) y refl other ∙ was.owner }

    only_kept : (y : ℕ) → ((state_at states y).owner ≡ 4294967295) ⊎ IsChildSlot t slot_of states y → ((state_at (with_node states x) y).owner ≡ 4294967295) ⊎ IsChildSlot t slot_of (with_node states x) y
    only_kept y was = elim (eqb_tells y x.slot) [
      | inl here ↦ inr (only_here y here.1)
      | inr other ↦ elim was [
        | inl free ↦ inl (elsewhere (λ (s : State). s.owner) y refl other.1 ∙ free)
        | inr child ↦ inr (still_child y other.1 child)
      ]
    ]

    -- one node more has its place
    pub laid_more : (nodes : List PlacedNode) (n : ℕ) → ((k : ℕ) (d : PlacedNode) → k < length nodes → IsListedNode t slot_of (get_or nodes k d)) → n < length nodes → ((d : PlacedNode) → get_or nodes n d ≡ x) → AreLaid t slot_of nodes n states
        → AreLaid t slot_of nodes (n + 1) (with_node states x)
    laid_more nodes n each inside is laid = record {
      each = λ k d less. elim (eqb_tells k n) [
        | inl here ↦ subst (IsLaid (with_node states x)) (sym (ap (λ i. get_or nodes i d) here.1 ∙ is d)) laid_here
        | inr other ↦ let before = other.1 in let low : k < n = omega (arith, less, before) in laid_kept (get_or nodes k d) (each k d (omega (arith, low, inside))) (laid.each k d low)
      ];
      only = λ y less. only_kept y (laid.only y (subst (λ m. y < m) same_length less));
      links = λ y. (failure_kept y ∙ (laid.links y).0, output_kept y ∙ (laid.links y).1);
    }
      where
        same_length : length (with_node states x) ≡ length states
        same_length =
            still_inside (with_base states x) x.slot (record (state_at (with_base states x) x.slot) { owner = x.parent })
            ∙ still_inside states x.parent (with_child_label (state_at states x.parent) x)

  -- ---- all nodes have their places

  module _ (nodes : List PlacedNode) (all : AreNodes t slot_of nodes) (states : List State) (laid : AreLaid t slot_of nodes (length nodes) states) (inside : (w : List ℕ) → is_node t w ≡ true → slot_of w < length states) where
    -- what is read of a node at the end of a path
    pub record IsRead (w : List ℕ) (l : ℕ) : Type 0 where
      pub base : (state_at states (slot_of w)).base ≡ bit_xor (slot_of (w ++ l ∷ [])) l
      pub labels : may_have (state_at states (slot_of w)) l ≡ true
      pub owner : (state_at states (slot_of (w ++ l ∷ []))).owner ≡ slot_of w

    read_by : (w : List ℕ) (l : ℕ) → is_node t (w ++ l ∷ []) ≡ true → (n : PlacedNode) (is : IsListedNode t slot_of n) → n.slot ≡ slot_of (w ++ l ∷ []) → IsLaid states n → IsRead w l
    read_by w l node n is slot here =
        let path : is.path ++ n.label ∷ [] ≡ w ++ l ∷ [] = p.one (is.path ++ n.label ∷ []) (w ++ l ∷ []) is.node node (sym is.slot ∙ slot) in
        let front : is.path ≡ w = same_front is.path w n.label l path in
        let last : n.label ≡ l = same_last is.path w n.label l path in
        let parent : n.parent ≡ slot_of w = is.parent ∙ ap slot_of front in
        record {
          base = ap (λ s. (state_at states s).base) (sym parent) ∙ here.base ∙ ap (λ s. bit_xor s n.label) slot ∙ ap (bit_xor (slot_of (w ++ l ∷ []))) last;
          labels = ap (λ s. may_have (state_at states s) l) (sym parent) ∙ ap (may_have (state_at states n.parent)) (sym last) ∙ here.labels;
          owner = ap (λ s. (state_at states s).owner) (sym slot) ∙ here.owner ∙ parent;
        }

    read_at : (w : List ℕ) (l : ℕ) → is_node t (w ++ l ∷ []) ≡ true → IsRead w l
    read_at w l node =
        let listed = all.all w l node in
        let n = listed.0 in
        let k = listed.1.0 in
        let same : get_or nodes k n ≡ n = listed.1.2 in
        read_by w l node n (subst (IsListedNode t slot_of) same (all.each k n listed.1.1)) listed.2 (subst (IsLaid states) same (laid.each k n listed.1.1))

    -- a child is found
    found : (w : List ℕ) (l : ℕ) → is_node t (w ++ l ∷ []) ≡ true → child_in states (slot_of w) l ≡ Some (slot_of (w ++ l ∷ []))
    found w l node =
        let read = read_at w l node in
        let child = slot_of (w ++ l ∷ []) in
        let at : bit_xor (state_at states (slot_of w)).base l ≡ child = ap (λ b. bit_xor b l) read.base ∙ xor_again child l in
        let low : child < length states = inside (w ++ l ∷ []) node in
        let holds : (ltb child (length states) && ((state_at states child).owner == slot_of w)) ≡ true = and_from (ltb child (length states)) ((state_at states child).owner == slot_of w) (lt-ltb child (length states) low) (eq-eqb (state_at states child).owner (slot_of w) read.owner) in
        ap (λ s. cond (may_have (state_at states (slot_of w)) l && (ltb s (length states) && ((state_at states s).owner == slot_of w))) (Some s) None) at
        ∙ ap (λ b. cond b (Some child) None) (and_from (may_have (state_at states (slot_of w)) l) (ltb child (length states) && ((state_at states child).owner == slot_of w)) read.labels holds)

    -- and what isn't one isn't
    no_child : (w : List ℕ) (l : ℕ) → is_node t w ≡ true → is_node t (w ++ l ∷ []) ≡ false → (s : ℕ) → s ≡ bit_xor (state_at states (slot_of w)).base l → s < length states → (state_at states s).owner ≡ slot_of w → ⊥
    no_child w l node none s is less owner = elim (laid.only s less) [
      | inl free ↦ let small = p.small w node in let same = sym free ∙ owner in absurd (omega (arith, small, same))
      | inr child ↦
          let front : child.path ≡ w = p.one child.path w (node_front t child.path (child.label ∷ []) child.node) node (sym child.owner ∙ owner) in
          let there : is_node t (w ++ child.label ∷ []) ≡ true = ap (λ v. is_node t (v ++ child.label ∷ [])) (sym front) ∙ child.node in
          let slot : s ≡ slot_of (w ++ child.label ∷ []) = child.slot ∙ ap (λ v. slot_of (v ++ child.label ∷ [])) front in
          let base : (state_at states (slot_of w)).base ≡ bit_xor s child.label = (read_at w child.label there).base ∙ ap (λ x. bit_xor x child.label) (sym slot) in
          let back : bit_xor (state_at states (slot_of w)).base child.label ≡ s = ap (λ b. bit_xor b child.label) base ∙ xor_again s child.label in
          let label : child.label ≡ l = xor_injective (state_at states (slot_of w)).base child.label l (back ∙ is) in
          true≢false (sym there ∙ ap (λ x. is_node t (w ++ x ∷ [])) label ∙ none)
    ]

    missed : (w : List ℕ) (l : ℕ) → is_node t w ≡ true → is_node t (w ++ l ∷ []) ≡ false → child_in states (slot_of w) l ≡ None
    missed w l node none =
        let s = bit_xor (state_at states (slot_of w)).base l in
        let has = may_have (state_at states (slot_of w)) l in
        let owned = ltb s (length states) && ((state_at states s).owner == slot_of w) in
        (elim (has && owned) as (λ b. (has && owned) ≡ b → cond b (Some s) None ≡ None) [
          | true ↦ λ e.
              let parts = and_parts (ltb s (length states)) ((state_at states s).owner == slot_of w) (and_parts has owned e).1 in
              absurd (no_child w l node none s refl (ltb-true s (length states) parts.0) (eqb-true (state_at states s).owner (slot_of w) parts.1))
          | false ↦ λ _. refl
        ]) refl

    child : (w : List ℕ) (l : ℕ) → is_node t w ≡ true → child_in states (slot_of w) l ≡ cond (is_node t (w ++ l ∷ [])) (Some (slot_of (w ++ l ∷ []))) None
    child w l node =
        (elim (is_node t (w ++ l ∷ [])) as (λ b. is_node t (w ++ l ∷ []) ≡ b → child_in states (slot_of w) l ≡ cond b (Some (slot_of (w ++ l ∷ []))) None) [
          | true ↦ λ e. found w l e
          | false ↦ λ e. missed w l node e
        ]) refl

    pub laid_goto : IsGoto t slot_of states
    laid_goto = record { within = inside; child = child }
