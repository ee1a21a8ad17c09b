-- How the nodes are listed with those numbers alone that can count.
use Rattle.std.proofs.Common.{◌≡◌, ℕ, ◌+◌, ◌<◌, ◌≤◌, true, ℤ, List, [], ◌∷◌, ◌++◌, get_or, length, length-append, Option, None, refl, sym, ap, subst, ◌∙◌, arith, inl, inr}
use Rattle.std.specs.Prelude.{slice_set}
use Rattle.std.proofs.lemmas.Bool.Decides.{eqb_tells, leb_tells}
use Rattle.std.proofs.lemmas.List.{get_or-set_other, get_or-set_same, get_or_append_left, get_or_default}
use Rattle.std.proofs.lemmas.List.Elements.{All-append, All-cons, All-nil}
use Rattle.cedar_tree.specs.Tree.{Tree}
use Rattle.cedar_scan.specs.declared.state.PlacedNode.{PlacedNode}
use Rattle.cedar_scan.specs.Automata.{AreByDepth, AreNodes, AreSlotsWithin, IsListedNode, IsPlacing}
use Rattle.cedar_scan.specs.Preferred.{AreFirst, AreLeast, first_tree, if_less, least_on, lesser, least_in}
use Rattle.cedar_scan.specs.Suffixes.{is_node}
use Rattle.cedar_scan.proofs.LinkLemmas.{listed, slots_inside}
use Rattle.cedar_scan.proofs.ListLemmas.{snoc_not_empty}
use Rattle.cedar_scan.proofs.PreferredLemmas.{least_next, node_kept, number_kept}
use Rattle.cedar_scan.proofs.SuffixLemmas.{node_front}

last_added : (xs : List PlacedNode) (x d : PlacedNode) → get_or (xs ++ x ∷ []) (length xs) d ≡ x
last_added [] x d = refl
last_added (y ∷ xs) x d = last_added xs x d

module _ (t : Tree) (slot_of : List ℕ → ℕ) (p : IsPlacing t slot_of) (nodes : List PlacedNode) (all : AreNodes t slot_of nodes) (sorted : AreByDepth nodes) where
  pub none_least : (least : List (Option ℤ)) → 0 < length least → ((s : ℕ) → s < length least → least_in least s ≡ None) → AreLeast t slot_of nodes 0 least
  none_least least some free = record {
    root = let root = p.root in free (slot_of []) (omega (arith, root, some));
    each = λ k d less w node slot. absurd (omega (arith, less));
  }

  pub none_first : (first : List PlacedNode) → first ≡ [] → AreFirst t slot_of nodes 0 first
  none_first first e = subst (AreFirst t slot_of nodes 0) (sym e) (record { size = refl; each = All-nil (IsListedNode (first_tree t) slot_of); slots = λ k d less. absurd (omega (arith, less)) })

  module _ (i : ℕ) (d : PlacedNode) (inside : i < length nodes) (least : List (Option ℤ)) (so_far : AreLeast t slot_of nodes i least) where
    pub own : IsListedNode t slot_of (get_or nodes i d)
    own = all.each i d inside

    above_node : is_node t own.path ≡ true
    above_node = node_front t own.path ((get_or nodes i d).label ∷ []) own.node

    -- its slot and that of the node above it are inside
    pub above_below : (slots : ℕ) → 0 < slots → AreSlotsWithin slots nodes → (get_or nodes i d).parent < slots
    above_below slots some within =
        let low = slots_inside t slot_of p nodes all slots some within own.path above_node in
        let at = own.parent in
        omega (arith, low, at)

    by_path : (w : List ℕ) → own.path ≡ w → least_in least (slot_of w) ≡ least_on None t w
    by_path [] e = so_far.root
    by_path (b ∷ u) e =
        let node : is_node t (b ∷ u) ≡ true = ap (is_node t) (sym e) ∙ above_node in
        let l = listed t slot_of p nodes all b u node in
        elim (leb_tells i l.index) [
          | inl late ↦
              let order : (get_or nodes i d).depth ≤ (get_or nodes l.index d).depth = sorted i l.index d late.1 l.inside in
              let there = ap (λ (n : PlacedNode). n.depth) (l.at d) in
              let deep = l.depth in
              let long = ap length e in
              let here = own.depth in
              absurd (omega (arith, order, there, deep, long, here))
          | inr early ↦ so_far.each l.index d early.1 (b ∷ u) node (ap (λ (n : PlacedNode). n.slot) (l.at d) ∙ l.slot)
        ]

    pub above_is : least_in least (get_or nodes i d).parent ≡ least_on None t own.path
    above_is = ap (least_in least) own.parent ∙ by_path own.path refl

    pub slot_least : (own_inside : (get_or nodes i d).slot < length least) → AreLeast t slot_of nodes (i + 1) (slice_set least (get_or nodes i d).slot (lesser (least_in least (get_or nodes i d).parent) (get_or nodes i d).number))
    slot_least own_inside =
        let n = get_or nodes i d in
        let now : Option ℤ = lesser (least_in least n.parent) n.number in
        let now_is : now ≡ least_on None t (own.path ++ n.label ∷ []) =
        ap (λ (o : Option ℤ). lesser o n.number) above_is ∙ ap (lesser (least_on None t own.path)) own.number ∙ sym (least_next None t own.path n.label) in
        let here : (w : List ℕ) → is_node t w ≡ true → n.slot ≡ slot_of w → least_in (slice_set least n.slot now) (slot_of w) ≡ least_on None t w = λ w node slot.
        let same : own.path ++ n.label ∷ [] ≡ w = p.one (own.path ++ n.label ∷ []) w own.node node (sym own.slot ∙ slot) in
        ap (least_in (slice_set least n.slot now)) (sym slot) ∙ get_or-set_same least n.slot now None own_inside ∙ now_is ∙ ap (least_on None t) same in
        let other_root : slot_of [] ≡ n.slot → ⊥ = λ e. snoc_not_empty own.path n.label (p.one (own.path ++ n.label ∷ []) [] own.node refl (sym own.slot ∙ sym e)) in
        record {
          root = get_or-set_other least n.slot (slot_of []) now None other_root ∙ so_far.root;
          each = λ k x less w node slot. elim (eqb_tells (slot_of w) n.slot) [
            | inl same ↦ here w node (sym same.1)
            | inr other ↦ elim (eqb_tells k i) [
              | inl last ↦ absurd (other.1 (sym slot ∙ ap (λ (m : PlacedNode). m.slot) (ap (λ j. get_or nodes j x) last.1 ∙ get_or_default nodes i x d inside)))
              | inr before ↦
                  let differ = before.1 in
                  get_or-set_other least n.slot (slot_of w) now None other.1 ∙ so_far.each k x (omega (arith, less, differ)) w node slot
            ]
          ];
        }

    pub one_first : (first : List PlacedNode) → AreFirst t slot_of nodes i first → (new : PlacedNode)
        → new ≡ record { slot = (get_or nodes i d).slot; parent = (get_or nodes i d).parent; depth = (get_or nodes i d).depth; label = (get_or nodes i d).label; number = if_less (least_in least (get_or nodes i d).parent) (get_or nodes i d).number }
        → AreFirst t slot_of nodes (i + 1) (first ++ new ∷ [])
    one_first first are new is =
        let n = get_or nodes i d in
        let one = length-append first (new ∷ []) in
        let size = are.size in
        let made : IsListedNode (first_tree t) slot_of (record { slot = n.slot; parent = n.parent; depth = n.depth; label = n.label; number = if_less (least_in least n.parent) n.number }) = record {
          path = own.path;
          node = node_kept t (own.path ++ n.label ∷ []) ∙ own.node;
          slot = own.slot;
          parent = own.parent;
          depth = own.depth;
          number = ap (λ (o : Option ℤ). if_less o n.number) above_is ∙ ap (if_less (least_on None t own.path)) own.number ∙ sym (number_kept t own.path n.label);
        } in
        record {
          size = omega (arith, one, size);
          each = All-append (IsListedNode (first_tree t) slot_of) first (new ∷ []) are.each (All-cons (IsListedNode (first_tree t) slot_of) new [] (subst (IsListedNode (first_tree t) slot_of) (sym is) made) (All-nil (IsListedNode (first_tree t) slot_of)));
          slots = λ k x less. elim (eqb_tells k i) [
            | inl last ↦
                ap (λ j. (get_or (first ++ new ∷ []) j x).slot) (last.1 ∙ sym size) ∙ ap (λ (m : PlacedNode). m.slot) (last_added first new x ∙ is)
                ∙ sym (ap (λ (m : PlacedNode). m.slot) (ap (λ j. get_or nodes j x) last.1 ∙ get_or_default nodes i x d inside))
            | inr before ↦
                let differ = before.1 in
                ap (λ (m : PlacedNode). m.slot) (get_or_append_left first (new ∷ []) x k (omega (arith, less, differ, size))) ∙ are.slots k x (omega (arith, less, differ))
          ];
        }

  pub all_first : (first : List PlacedNode) → AreFirst t slot_of nodes (length nodes) first → AreNodes (first_tree t) slot_of first
  all_first first are = record {
    each = are.each;
    all = λ w l node.
        let there : is_node t (w ++ l ∷ []) ≡ true = sym (node_kept t (w ++ l ∷ [])) ∙ node in
        let found = all.all w l there in
        let n = found.0 in
        let k = found.1.0 in
        let size = are.size in
        let low = found.1.1 in
        let inside : k < length first = omega (arith, size, low) in
        let x = get_or first k n in
        (x, (k, inside, get_or_default first k x n inside), are.slots k n low ∙ ap (λ (m : PlacedNode). m.slot) found.1.2 ∙ found.2);
  }
