-- How nodes get their falls.
use Rattle.std.proofs.Common.{◌≡◌, inl, inr, ℕ, suc, ◌+◌, ◌-◌, ◌^◌, ◌<◌, ◌≤◌, true, false, cond, ℤ, List, [], ◌∷◌, ◌++◌, append_assoc, drop, get_or, length, length-append, map, take, Some, None, refl, sym, ap, subst, ◌∙◌, arith}
use Rattle.std.specs.Prelude.{slice_set}
use Rattle.std.proofs.Math.Seq.{drop-length, take-suc}
use Rattle.std.proofs.lemmas.Bool.Decides.{eqb_tells, leb_tells}
use Rattle.std.proofs.lemmas.List.{append-nil, drop-append-le, get_or-drop, get_or-set_other, get_or-set_same, get_or_append_left, get_or_default, length-drop, map-append, take-append-le, take_all}
use Rattle.cedar_tree.specs.Tree.{number_at, Tree}
use Rattle.cedar_words.specs.Spots.{Spot}
use Rattle.cedar_scan.specs.declared.falls.Fall.{Fall}
use Rattle.cedar_scan.specs.declared.falls.Popped.{Popped}
use Rattle.cedar_scan.specs.declared.state.PlacedNode.{PlacedNode}
use Rattle.cedar_scan.specs.declared.state.State.{State}
use Rattle.cedar_scan.specs.Automata.{AreByDepth, AreNodes, child_in, IsGoto, IsPlacing, path_in}
use Rattle.cedar_scan.specs.Falls.{AddsFall, AddsPopped, AreFalls, AreFallsFirst, CanFall, fall_at, FallsTo, HasFall, popped_key, pops_of}
use Rattle.cedar_scan.specs.Leftmost.{IsFall, IsFallOn, popped_at}
use Rattle.cedar_scan.specs.Suffixes.{is_node}
use Rattle.cedar_scan.proofs.LeftmostLemmas.{fall_of_byte, fall_of_key, fall_to_child, fall_to_root, falls_further, falls_on}
use Rattle.cedar_scan.proofs.LinkLemmas.{listed}
use Rattle.cedar_scan.proofs.PathLemmas.{path_long}
use Rattle.cedar_scan.proofs.SuffixLemmas.{node_front}

-- ---- lists of keys that grow

pops_kept : (fall : Fall) (popped added : List Popped) → fall.first ≤ fall.last → fall.last ≤ length popped → pops_of fall (popped ++ added) ≡ pops_of fall popped
pops_kept fall popped added range inside =
    let left = length-drop fall.first popped in
    ap (λ (x : List Popped). map popped_key (take (fall.last - fall.first) x)) (drop-append-le fall.first popped added (omega (arith, range, inside)))
    ∙ ap (map popped_key) (take-append-le (fall.last - fall.first) (drop fall.first popped) added (omega (arith, left, range, inside)))

pops_new : (fall : Fall) (popped added : List Popped) → fall.first ≡ length popped → fall.last ≡ length popped + length added → pops_of fall (popped ++ added) ≡ map popped_key added
pops_new fall popped added first last =
    ap (λ n. map popped_key (take (fall.last - fall.first) (drop n (popped ++ added)))) first
    ∙ ap (λ (x : List Popped). map popped_key (take (fall.last - fall.first) x)) (drop-append-le (length popped) popped added (omega arith) ∙ ap (λ (x : List Popped). x ++ added) (drop-length popped))
    ∙ ap (map popped_key) (take_all (fall.last - fall.first) added (omega (arith, first, last)))

pub adds_nothing : (popped : List Popped) → AddsPopped popped [] popped
adds_nothing popped = record { added = []; whole = sym (append-nil popped); are = refl }

pub adds_more : (old : List Popped) (pops : List Spot) (now : List Popped) (more : List Spot) (new : List Popped) → AddsPopped old pops now → AddsPopped now more new → AddsPopped old (pops ++ more) new
adds_more old pops now more new first second = record {
  added = first.added ++ second.added;
  whole = second.whole ∙ ap (λ (x : List Popped). x ++ second.added) first.whole ∙ append_assoc old first.added second.added;
  are = map-append popped_key first.added second.added ∙ ap (λ (x : List Spot). x ++ map popped_key second.added) first.are ∙ ap (λ (x : List Spot). pops ++ x) second.are;
}

adds_length : (old : List Popped) (pops : List Spot) (new : List Popped) (adds : AddsPopped old pops new) → length new ≡ length old + length adds.added
adds_length old pops new adds = ap length adds.whole ∙ length-append old adds.added

-- ---- keys that are given once more

-- so many of them
pub record AreCopied (old : List Popped) (fall : Fall) (shift index : ℕ) (new : List Popped) : Type 0 where
  pub adds : AddsPopped old (map (popped_at shift) (map popped_key (take (index - fall.first) (drop fall.first old)))) new

pub none_copied : (old : List Popped) (fall : Fall) (shift : ℕ) → AreCopied old fall shift fall.first old
none_copied old fall shift = let none : fall.first - fall.first ≡ 0 = omega arith in record { adds = subst (λ n. AddsPopped old (map (popped_at shift) (map popped_key (take n (drop fall.first old)))) old) (sym none) (adds_nothing old) }

pub copied_inside : (old : List Popped) (fall : Fall) (shift index : ℕ) (now : List Popped) → AreCopied old fall shift index now → index < fall.last → fall.last ≤ length old → index < length now
copied_inside old fall shift index now so_far high inside =
    let long = adds_length old (map (popped_at shift) (map popped_key (take (index - fall.first) (drop fall.first old)))) now so_far.adds in
    omega (arith, long, high, inside)

pub all_copied : (old : List Popped) (fall : Fall) (shift index : ℕ) (now : List Popped) → AreCopied old fall shift index now → fall.last ≤ index → index ≤ fall.last → AddsPopped old (map (popped_at shift) (pops_of fall old)) now
all_copied old fall shift index now so_far past low =
    let all : index ≡ fall.last = omega (arith, past, low) in
    subst (λ n. AddsPopped old (map (popped_at shift) (map popped_key (take (n - fall.first) (drop fall.first old)))) now) all so_far.adds

pub one_copied : (old : List Popped) (fall : Fall) (shift index : ℕ) (now : List Popped) (key new_key : Popped) (new : List Popped) → AreCopied old fall shift index now → fall.first ≤ index → index < fall.last → fall.last ≤ length old
    → key ≡ get_or now index key → popped_key new_key ≡ popped_at shift (popped_key key) → new ≡ now ++ new_key ∷ [] → AreCopied old fall shift (index + 1) new
one_copied old fall shift index now key new_key new so_far low high inside is same whole =
    let long = adds_length old (map (popped_at shift) (map popped_key (take (index - fall.first) (drop fall.first old)))) now so_far.adds in
    let here : key ≡ get_or old index key = is ∙ ap (λ (x : List Popped). get_or x index key) so_far.adds.whole ∙ get_or_append_left old so_far.adds.added key index (omega (arith, high, inside)) in
    let left = length-drop fall.first old in
    let at : get_or (drop fall.first old) (index - fall.first) key ≡ key =
    get_or-drop fall.first old (index - fall.first) key ∙ (let sum : fall.first + (index - fall.first) ≡ index = omega (arith, low) in ap (λ n. get_or old n key) sum) ∙ sym here in
    let next : index + 1 - fall.first ≡ suc (index - fall.first) = omega (arith, low) in
    let front : take (index + 1 - fall.first) (drop fall.first old) ≡ take (index - fall.first) (drop fall.first old) ++ key ∷ [] =
    ap (λ n. take n (drop fall.first old)) next ∙ take-suc (drop fall.first old) (index - fall.first) key (omega (arith, left, low, high, inside)) ∙ ap (λ (x : Popped). take (index - fall.first) (drop fall.first old) ++ x ∷ []) at in
    let one : AddsPopped now (popped_at shift (popped_key key) ∷ []) new = record { added = new_key ∷ []; whole = whole; are = ap (λ (s : Spot). s ∷ []) same } in
    let all : map (popped_at shift) (map popped_key (take (index - fall.first) (drop fall.first old))) ++ popped_at shift (popped_key key) ∷ [] ≡ map (popped_at shift) (map popped_key (take (index + 1 - fall.first) (drop fall.first old))) =
    sym (ap (λ (x : List Popped). map (popped_at shift) (map popped_key x)) front ∙ ap (map (popped_at shift)) (map-append popped_key (take (index - fall.first) (drop fall.first old)) (key ∷ [])) ∙ map-append (popped_at shift) (map popped_key (take (index - fall.first) (drop fall.first old))) (popped_key key ∷ [])) in
    record { adds = subst (λ (x : List Spot). AddsPopped old x new) all (adds_more old (map (popped_at shift) (map popped_key (take (index - fall.first) (drop fall.first old)))) now (popped_at shift (popped_key key) ∷ []) new so_far.adds one) }

-- ---- a node that is no key

none_some : (x : ℕ) → None ≡ Some x → ⊥
none_some x e = absurd (cc)

some_is : (x y : ℕ) → Some x ≡ Some y → x ≡ y
some_is x y e = cc

-- what was given so far of a node below the one at the path `front`, where a path is left that can't go on
pub record IsFalling (t : Tree) (slot_of : List ℕ → ℕ) (n : PlacedNode) (old : List Popped) (slot : ℕ) (now : List Popped) : Type 0 where
  pub front : List ℕ
  pub front_node : is_node t front ≡ true
  pub above : n.parent ≡ slot_of front
  pub path : List ℕ
  pub node : is_node t path ≡ true
  pub some : 0 < length path
  pub short : length path ≤ length front
  pub at : slot ≡ slot_of path
  pub pops : List Spot
  pub adds : AddsPopped old pops now
  pub goes : (more : List Spot) (next : List ℕ) → IsFall t path more next → IsFallOn t front n.label (pops ++ map (popped_at (length front - length path)) more) next

module _ (t : Tree) (slot_of : List ℕ → ℕ) (states : List State) (falls : List Fall) (old : List Popped) (n : PlacedNode) (can : CanFall t slot_of states falls old n) (none : n.number ≡ None) where
  above_node : is_node t can.is.path ≡ true
  above_node = node_front t can.is.path (n.label ∷ []) can.is.node

  no_number : number_at t (can.is.path ++ n.label ∷ []) ≡ None
  no_number = sym can.is.number ∙ none

  unshifted : (k : ℕ) (more : List Spot) → k ≡ 0 → map (popped_at k) more ≡ more
  unshifted k [] z = refl
  unshifted k (p ∷ more) z = let same : k + p.0 ≡ p.0 = omega (arith, z) in ap (λ (m : ℕ). (m, p.1, p.2) ∷ map (popped_at k) more) same ∙ ap (λ (ps : List Spot). (p.0, p.1, p.2) ∷ ps) (unshifted k more z)

  pub falling : (n.parent ≡ 0 → ⊥) → IsFalling t slot_of n old n.parent old
  falling other = record {
    front = can.is.path;
    front_node = above_node;
    above = can.is.parent;
    path = can.is.path;
    node = above_node;
    some = by_path can.is.path refl;
    short = omega arith;
    at = can.is.parent;
    pops = [];
    adds = adds_nothing old;
    goes = λ more next fall. subst (λ (ps : List Spot). IsFallOn t can.is.path n.label ps next) (sym (unshifted (length can.is.path - length can.is.path) more (omega arith))) (falls_on t can.is.path n.label more next fall);
  }
    where
      by_path : (w : List ℕ) → can.is.path ≡ w → 0 < length w
      by_path [] e = absurd (other (can.is.parent ∙ ap slot_of e ∙ can.placing.root))
      by_path (b ∷ w) e = omega arith

  -- a single byte
  pub passes_byte : n.parent ≡ 0 → FallsTo t slot_of n old 0 old
  passes_byte root_is =
      let empty : can.is.path ≡ [] = can.placing.one can.is.path [] above_node refl (sym can.is.parent ∙ root_is ∙ sym can.placing.root) in
      record {
        rest = [];
        at = sym can.placing.root;
        pops = [];
        adds = adds_nothing old;
        fall = λ is.
            let same : is.path ≡ [] = can.placing.one is.path [] (node_front t is.path (n.label ∷ []) is.node) refl (sym is.parent ∙ root_is ∙ sym can.placing.root) in
            subst (λ w. IsFall t (w ++ n.label ∷ []) [] []) (sym same) (fall_of_byte t n.label (ap (λ w. number_at t (w ++ n.label ∷ [])) (sym empty) ∙ no_number));
      }

  module _ (slot : ℕ) (now : List Popped) (so_far : IsFalling t slot_of n old slot now) where
    same_front_path : so_far.front ≡ can.is.path
    same_front_path = can.placing.one so_far.front can.is.path so_far.front_node above_node (sym so_far.above ∙ can.is.parent)

    still_short : length so_far.path ≤ length can.is.path
    still_short = subst (λ u. length so_far.path ≤ length u) same_front_path so_far.short

    still_goes : (more : List Spot) (next : List ℕ) → IsFall t so_far.path more next → IsFallOn t can.is.path n.label (so_far.pops ++ map (popped_at (length can.is.path - length so_far.path)) more) next
    still_goes = subst (λ u. (more : List Spot) (next : List ℕ) → IsFall t so_far.path more next → IsFallOn t u n.label (so_far.pops ++ map (popped_at (length u - length so_far.path)) more) next) same_front_path so_far.goes

    own : HasFall t slot_of falls old so_far.path
    own = can.shorter so_far.path so_far.node so_far.some still_short

    pub slot_inside : slot < length states
    slot_inside = subst (λ s. s < length states) (sym so_far.at) (can.goto.within so_far.path so_far.node)

    pub fall_inside : slot < length falls
    fall_inside = let low = slot_inside in let size = can.size in omega (arith, low, size)

    same_fall : fall_at falls slot ≡ fall_at falls (slot_of so_far.path)
    same_fall = ap (fall_at falls) so_far.at

    pub fall_range : (fall_at falls slot).first ≤ (fall_at falls slot).last
    fall_range = subst (λ (f : Fall). f.first ≤ f.last) (sym same_fall) own.range

    pub fall_end : (fall_at falls slot).last ≤ length now
    fall_end =
        let low = own.inside in
        let same = ap (λ (f : Fall). f.last) same_fall in
        let more = adds_length old so_far.pops now so_far.adds in
        omega (arith, low, same, more)

    slot_depth : (fall_at falls slot).depth ≡ length so_far.path
    slot_depth = ap (λ (f : Fall). f.depth) same_fall ∙ own.depth

    front_depth : n.depth ≡ length can.is.path + 1
    front_depth = can.is.depth

    pub front_above : (fall_at falls slot).depth ≤ n.depth - 1
    front_above = let deep = slot_depth in let front = front_depth in let short = still_short in omega (arith, deep, front, short)

    to_is : (fall_at falls slot).to ≡ slot_of own.rest
    to_is = ap (λ (f : Fall). f.to) same_fall ∙ own.to

    pub to_inside : (fall_at falls slot).to < length states
    to_inside = subst (λ s. s < length states) (sym to_is) (can.goto.within own.rest own.fall.node)

    -- once its own keys were given too
    module _ (shift : ℕ) (shift_is : shift ≡ n.depth - 1 - (fall_at falls slot).depth) (new : List Popped) (copied : AddsPopped now (map (popped_at shift) (pops_of (fall_at falls slot) now)) new) where
      same_pops : map (popped_at shift) (pops_of (fall_at falls slot) now) ≡ map (popped_at (length can.is.path - length so_far.path)) (pops_of (fall_at falls (slot_of so_far.path)) old)
      same_pops =
          let deep = slot_depth in
          let front = front_depth in
          let equal : shift ≡ length can.is.path - length so_far.path = omega (arith, shift_is, deep, front) in
          ap (λ k. map (popped_at k) (pops_of (fall_at falls slot) now)) equal
          ∙ ap (map (popped_at (length can.is.path - length so_far.path)))
          (ap (λ (f : Fall). pops_of f now) same_fall ∙ ap (pops_of (fall_at falls (slot_of so_far.path))) so_far.adds.whole ∙ pops_kept (fall_at falls (slot_of so_far.path)) old so_far.adds.added own.range own.inside)

      added_all : AddsPopped old (so_far.pops ++ map (popped_at (length can.is.path - length so_far.path)) (pops_of (fall_at falls (slot_of so_far.path)) old)) new
      added_all = adds_more old so_far.pops now (map (popped_at (length can.is.path - length so_far.path)) (pops_of (fall_at falls (slot_of so_far.path)) old)) new so_far.adds (subst (λ (ps : List Spot). AddsPopped now ps new) same_pops copied)

      goes_by : IsFallOn t can.is.path n.label (so_far.pops ++ map (popped_at (length can.is.path - length so_far.path)) (pops_of (fall_at falls (slot_of so_far.path)) old)) own.rest
      goes_by = still_goes (pops_of (fall_at falls (slot_of so_far.path)) old) own.rest own.fall

      child_is : child_in states (fall_at falls slot).to n.label ≡ cond (is_node t (own.rest ++ n.label ∷ [])) (Some (slot_of (own.rest ++ n.label ∷ []))) None
      child_is = ap (λ s. child_in states s n.label) to_is ∙ can.goto.child own.rest n.label own.fall.node

      pub ends_at_child : (child : ℕ) → child_in states (fall_at falls slot).to n.label ≡ Some child → FallsTo t slot_of n old child new
      ends_at_child child found =
          let there : is_node t (own.rest ++ n.label ∷ []) ≡ true =
          (elim (is_node t (own.rest ++ n.label ∷ [])) as (λ b. cond b (Some (slot_of (own.rest ++ n.label ∷ []))) None ≡ Some child → b ≡ true) [
            | true ↦ λ _. refl
            | false ↦ λ e. absurd (none_some child e)
          ]) (sym child_is ∙ found) in
          let at : child ≡ slot_of (own.rest ++ n.label ∷ []) = some_is child (slot_of (own.rest ++ n.label ∷ [])) (sym found ∙ child_is ∙ ap (λ b. cond b (Some (slot_of (own.rest ++ n.label ∷ []))) None) there) in
          record {
            rest = own.rest ++ n.label ∷ [];
            at = at;
            pops = so_far.pops ++ map (popped_at (length can.is.path - length so_far.path)) (pops_of (fall_at falls (slot_of so_far.path)) old);
            adds = added_all;
            fall = λ is.
                let same = can.placing.one (can.is.path ++ n.label ∷ []) (is.path ++ n.label ∷ []) can.is.node is.node (sym can.is.slot ∙ is.slot) in
                subst (λ w. IsFall t w (so_far.pops ++ map (popped_at (length can.is.path - length so_far.path)) (pops_of (fall_at falls (slot_of so_far.path)) old)) (own.rest ++ n.label ∷ [])) same
                (fall_to_child t can.is.path n.label (so_far.pops ++ map (popped_at (length can.is.path - length so_far.path)) (pops_of (fall_at falls (slot_of so_far.path)) old)) own.rest goes_by no_number there);
          }

      gone : child_in states (fall_at falls slot).to n.label ≡ None → is_node t (own.rest ++ n.label ∷ []) ≡ false
      gone missed =
          (elim (is_node t (own.rest ++ n.label ∷ [])) as (λ b. cond b (Some (slot_of (own.rest ++ n.label ∷ []))) None ≡ None → b ≡ false) [
            | true ↦ λ e. absurd (none_some (slot_of (own.rest ++ n.label ∷ [])) (sym e))
            | false ↦ λ _. refl
          ]) (sym child_is ∙ missed)

      pub ends_at_root : child_in states (fall_at falls slot).to n.label ≡ None → (fall_at falls slot).to ≡ 0 → FallsTo t slot_of n old 0 new
      ends_at_root missed root_is =
          let empty : own.rest ≡ [] = can.placing.one own.rest [] own.fall.node refl (sym to_is ∙ root_is ∙ sym can.placing.root) in
          let pops : List Spot = so_far.pops ++ map (popped_at (length can.is.path - length so_far.path)) (pops_of (fall_at falls (slot_of so_far.path)) old) in
          record {
            rest = [];
            at = sym can.placing.root;
            pops = pops;
            adds = added_all;
            fall = λ is.
                let same = can.placing.one (can.is.path ++ n.label ∷ []) (is.path ++ n.label ∷ []) can.is.node is.node (sym can.is.slot ∙ is.slot) in
                subst (λ w. IsFall t w pops []) same
                (fall_to_root t can.is.path n.label pops (subst (IsFallOn t can.is.path n.label pops) empty goes_by) no_number (ap (λ w. is_node t (w ++ n.label ∷ [])) (sym empty) ∙ gone missed));
          }

      pub falls_more : child_in states (fall_at falls slot).to n.label ≡ None → ((fall_at falls slot).to ≡ 0 → ⊥) → IsFalling t slot_of n old (fall_at falls slot).to new
      falls_more missed other =
          let pops : List Spot = so_far.pops ++ map (popped_at (length can.is.path - length so_far.path)) (pops_of (fall_at falls (slot_of so_far.path)) old) in
          let less = own.fall.shorter in
          let low = still_short in
          record {
            front = can.is.path;
            front_node = above_node;
            above = can.is.parent;
            path = own.rest;
            node = own.fall.node;
            some = by_path own.rest refl;
            short = omega (arith, less, low);
            at = to_is;
            pops = pops;
            adds = added_all;
            goes = λ later next fall. falls_further t can.is.path n.label pops own.rest later next goes_by (gone missed) fall;
          }
        where
          by_path : (w : List ℕ) → own.rest ≡ w → 0 < length w
          by_path [] e = absurd (other (to_is ∙ ap slot_of e ∙ can.placing.root))
          by_path (b ∷ w) e = omega arith

      pub falls_down : length (path_in t states (fall_at falls slot).to) < length (path_in t states slot)
      falls_down =
          let deep : length (path_in t states (fall_at falls slot).to) ≡ length own.rest = ap (λ s. length (path_in t states s)) to_is ∙ path_long t slot_of states can.placing can.goto own.rest own.fall.node in
          let here : length (path_in t states slot) ≡ length so_far.path = ap (λ s. length (path_in t states s)) so_far.at ∙ path_long t slot_of states can.placing can.goto so_far.path so_far.node in
          let less = own.fall.shorter in
          omega (arith, deep, here, less)

-- ---- the fall of a node is written

module _ (t : Tree) (slot_of : List ℕ → ℕ) (states : List State) (falls : List Fall) (old : List Popped) (n : PlacedNode) (can : CanFall t slot_of states falls old n) where
  pub key_falls : (v : ℤ) → n.number ≡ Some v → (key : Popped) → popped_key key ≡ (0, n.depth, v) → FallsTo t slot_of n old 0 (old ++ key ∷ [])
  key_falls v number key is_key = record {
    rest = [];
    at = sym can.placing.root;
    pops = (0, n.depth, v) ∷ [];
    adds = record { added = key ∷ []; whole = refl; are = ap (λ (s : Spot). s ∷ []) is_key };
    fall = λ is.
        let one = length-append is.path (n.label ∷ []) in
        let deep = is.depth in
        let long : length (is.path ++ n.label ∷ []) ≡ n.depth = omega (arith, one, deep) in
        subst (λ m. IsFall t (is.path ++ n.label ∷ []) ((0, m, v) ∷ []) []) long (fall_of_key t (is.path ++ n.label ∷ []) v (omega (arith, one)) (sym is.number ∙ number));
  }

  pub own_inside : n.slot < length falls
  own_inside =
      let low = can.goto.within (can.is.path ++ n.label ∷ []) can.is.node in
      let at = can.is.slot in
      let size = can.size in
      omega (arith, low, at, size)

  module _ (to : ℕ) (new : List Popped) (falls_to : FallsTo t slot_of n old to new) where
    pub to_small : to < 2 ^ 30
    to_small = subst (λ s. s < 2 ^ 30) (sym falls_to.at) (can.placing.small falls_to.rest (falls_to.fall can.is).node)

    module _ (own : Fall) (first : own.first ≡ length old) (last : own.last ≡ length new) (leads : own.to ≡ to) (deep : own.depth ≡ n.depth) where
      grown : length new ≡ length old + length falls_to.adds.added
      grown = adds_length old falls_to.pops new falls_to.adds

      own_pops : pops_of own new ≡ falls_to.pops
      own_pops = let more = grown in ap (pops_of own) falls_to.adds.whole ∙ pops_new own old falls_to.adds.added first (omega (arith, last, more)) ∙ falls_to.adds.are

      own_long : n.depth ≡ length (can.is.path ++ n.label ∷ [])
      own_long = let one = length-append can.is.path (n.label ∷ []) in let below = can.is.depth in omega (arith, one, below)

      here : (w : List ℕ) → is_node t w ≡ true → n.slot ≡ slot_of w → HasFall t slot_of (slice_set falls n.slot own) new w
      here w node at =
          let same : can.is.path ++ n.label ∷ [] ≡ w = can.placing.one (can.is.path ++ n.label ∷ []) w can.is.node node (sym can.is.slot ∙ at) in
          let written : fall_at (slice_set falls n.slot own) (slot_of w) ≡ own =
          ap (fall_at (slice_set falls n.slot own)) (sym at) ∙ get_or-set_same falls n.slot own (record { to = 0; first = 0; last = 0; depth = 0 }) own_inside in
          let more = grown in
          let low : own.first ≤ own.last = omega (arith, first, last, more) in
          let high : own.last ≤ length new = omega (arith, last) in
          record {
            rest = falls_to.rest;
            to = ap (λ (f : Fall). f.to) written ∙ leads ∙ falls_to.at;
            range = subst (λ (f : Fall). f.first ≤ f.last) (sym written) low;
            inside = subst (λ (f : Fall). f.last ≤ length new) (sym written) high;
            depth = ap (λ (f : Fall). f.depth) written ∙ deep ∙ own_long ∙ ap length same;
            fall = subst (λ (ps : List Spot). IsFall t w ps falls_to.rest) (sym (ap (λ (f : Fall). pops_of f new) written ∙ own_pops))
                (subst (λ v. IsFall t v falls_to.pops falls_to.rest) same (falls_to.fall can.is));
          }

      kept : (w : List ℕ) → is_node t w ≡ true → HasFall t slot_of falls old w → HasFall t slot_of (slice_set falls n.slot own) new w
      kept w node was = elim (eqb_tells (slot_of w) n.slot) [
        | inl same ↦ here w node (sym same.1)
        | inr other ↦
            let still : fall_at (slice_set falls n.slot own) (slot_of w) ≡ fall_at falls (slot_of w) = get_or-set_other falls n.slot (slot_of w) own (record { to = 0; first = 0; last = 0; depth = 0 }) other.1 in
            let more = grown in
            let low = was.inside in
            let fits : (fall_at falls (slot_of w)).last ≤ length new = omega (arith, low, more) in
            record {
              rest = was.rest;
              to = ap (λ (f : Fall). f.to) still ∙ was.to;
              range = subst (λ (f : Fall). f.first ≤ f.last) (sym still) was.range;
              inside = subst (λ (f : Fall). f.last ≤ length new) (sym still) fits;
              depth = ap (λ (f : Fall). f.depth) still ∙ was.depth;
              fall = subst (λ (ps : List Spot). IsFall t w ps was.rest)
                  (sym (ap (λ (f : Fall). pops_of f new) still ∙ ap (pops_of (fall_at falls (slot_of w))) falls_to.adds.whole ∙ pops_kept (fall_at falls (slot_of w)) old falls_to.adds.added was.range was.inside)) was.fall;
            }
      ]

      pub adds_fall : AddsFall t slot_of n falls old (slice_set falls n.slot own) new
      adds_fall = record { here = here; kept = kept }

-- ---- all nodes, the shorter paths first

module _ (t : Tree) (slot_of : List ℕ → ℕ) (p : IsPlacing t slot_of) (nodes : List PlacedNode) (all : AreNodes t slot_of nodes) (states : List State) (goto : IsGoto t slot_of states) (sorted : AreByDepth nodes) where
  module _ (i : ℕ) (d : PlacedNode) (inside : i < length nodes) (falls : List Fall) (popped : List Popped) (size : length falls ≡ length states) (first : AreFallsFirst t slot_of nodes i falls popped) where
    has_fall : (w : List ℕ) → is_node t w ≡ true → 0 < length w → length w ≤ length (all.each i d inside).path → HasFall t slot_of falls popped w
    has_fall [] node some less = absurd (omega (arith, some))
    has_fall (b ∷ u) node some less =
        let l = listed t slot_of p nodes all b u node in
        let is = all.each i d inside in
        elim (leb_tells i l.index) [
          | inl late ↦
              let order : (get_or nodes i d).depth ≤ (get_or nodes l.index d).depth = sorted i l.index d late.1 l.inside in
              let there = ap (λ (n : PlacedNode). n.depth) (l.at d) in
              let deep = l.depth in
              let own = is.depth in
              absurd (omega (arith, order, there, deep, own, less))
          | inr early ↦ first l.index d early.1 (b ∷ u) node (ap (λ (n : PlacedNode). n.slot) (l.at d) ∙ l.slot)
        ]

    pub can_fall : CanFall t slot_of states falls popped (get_or nodes i d)
    can_fall = record { placing = p; goto = goto; size = size; is = all.each i d inside; shorter = has_fall }

    pub falls_next : (new : List Fall) (more : List Popped) → AddsFall t slot_of (get_or nodes i d) falls popped new more → AreFallsFirst t slot_of nodes (i + 1) new more
    falls_next new more adds = λ k x less w node slot. elim (eqb_tells k i) [
      | inl here ↦ adds.here w node (sym (ap (λ (n : PlacedNode). n.slot) (ap (λ j. get_or nodes j x) here.1 ∙ get_or_default nodes i x d inside)) ∙ slot)
      | inr other ↦ let before = other.1 in adds.kept w node (first k x (omega (arith, less, before)) w node slot)
    ]

  pub falls_none : (falls : List Fall) (popped : List Popped) → AreFallsFirst t slot_of nodes 0 falls popped
  falls_none falls popped = λ k d less w node slot. absurd (omega (arith, less))

  pub all_fall : (falls : List Fall) (popped : List Popped) → AreFallsFirst t slot_of nodes (length nodes) falls popped → AreFalls t slot_of falls popped
  all_fall falls popped first = each
    where
      each : (w : List ℕ) → is_node t w ≡ true → 0 < length w → HasFall t slot_of falls popped w
      each [] node some = absurd (omega (arith, some))
      each (b ∷ u) node some =
          let l = listed t slot_of p nodes all b u node in
          first l.index l.node l.inside (b ∷ u) node (ap (λ (n : PlacedNode). n.slot) (l.at l.node) ∙ l.slot)
