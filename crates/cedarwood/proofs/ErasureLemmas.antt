-- Entries under a path erased one after another.
use Rattle.std.proofs.Common.{◌≡◌, ◌∙◌, ◌<◌, ◌+◌, ◌-◌, ℕ, ℤ, nat_eq, ap, arith, Bool, true, false, cond, List, [], ◌∷◌, ◌++◌, length, map, None, Option, Some, refl, subst, sym}
use Rattle.std.specs.Prelude.{◌↔◌, is_some, not}
use Rattle.std.specs.List.{Contains, filter, starts_with}
use Rattle.std.proofs.lemmas.Bool.{false≢true}
use Rattle.cedar_tree.specs.Tree.{cut, empty_tree, is_bare, IsSoundBelow, number_at, Tree}
use Rattle.cedar_tree.specs.Queries.{Entry, entry_at, is_path, node_at, walk}
use Rattle.cedar_tree.specs.State.{after_erase, State}
use Rattle.cedar_tree.specs.Walks.{visited_entries}
use Rattle.cedar_tree.proofs.EntryLemmas.Built.{is_path_itself, same_path}
use Rattle.cedar_tree.proofs.EntryLemmas.Changes.{walk-cut}
use Rattle.cedar_tree.proofs.MemberLemmas.{contains_none, into_filter, walk_from_held}
use Rattle.cedar_tree.proofs.OrderLemmas.{front_of_key, number_of_node}
use Rattle.cedar_tree.proofs.PredictLemmas.{filter-every}
use Rattle.cedar_tree.proofs.TreeLemmas.{bare_empty, number_at-cut_other}
use Rattle.cedar_tree.proofs.WalkLemmas.{walk_at}
use Rattle.cedar_model.specs.Edit.Steps.{SameModes}
use Rattle.cedar_model.specs.Meaning.Marks.{HasMark, marks, MarksCut}
use Rattle.cedar_model.specs.Meaning.WellFormed.{IsWellFormed, tree_of}
use Rattle.cedar_model.specs.Table.TableFields.{capacity_of, Fields, size_of}
use Rattle.cedar_model.proofs.UpdateLemmas.Erasure.{unheld_same}
use Rattle.cedar_model.proofs.UpdateLemmas.MarkedTree.{marked_held, marks_cut}
use Rattle.cedar_walk.specs.declared.visits.Numbered.{Numbered}
use Rattle.cedar_walk.specs.Ranges.{behind_path, entries_with}
use Rattle.cedar_walk.specs.Visits.{ComesToNumber, left_at, path_to}
use Rattle.cedar_walk.proofs.WalkLemmas.Prefixed.{entries_with_node}
use Rattle.cedar_bulk.proofs.BulkLemmas.Spans.{some_none}
use Rattle.cedarwood.specs.declared.erasing.Found.{Found}
use Rattle.cedarwood.specs.Batches.{IsErasure, IsFound}
use Rattle.cedarwood.specs.Dictionary.{some_numbers}
use Rattle.cedarwood.specs.Erasures.{all_erased, entries_without, erased_under, IsCleared, IsErasedUnder, MarksCutUnder}
use Rattle.cedarwood.specs.OnTable.{dictionary_of}
use Rattle.cedarwood.proofs.BetweenLemmas.{stricter}
use Rattle.cedarwood.proofs.MarkedLemmas.{is_marked}

-- ---- lists

abbrev tail_of : {X : Type 0} → List X → List X
tail_of [] = []
tail_of (x ∷ xs) = xs

first_passes : {X : Type 0} (p : X → Bool) (xs : List X) (y : X) (ys : List X) → filter p xs ≡ y ∷ ys → p y ≡ true
first_passes p [] y ys h = absurd (some_none y ys (sym h))
first_passes p (x ∷ xs) y ys h =
    (elim (p x) as (λ b. p x ≡ b → cond b (x ∷ filter p xs) (filter p xs) ≡ y ∷ ys → p y ≡ true) [
      | true ↦ λ e k. let same : x ≡ y = cc in subst (λ z. p z ≡ true) same e
      | false ↦ λ _ k. first_passes p xs y ys k
    ]) refl h

either_order : {X : Type 0} (p q : X → Bool) (xs : List X) → filter p (filter q xs) ≡ filter q (filter p xs)
either_order p q [] = refl
either_order p q (x ∷ xs) =
    (elim (p x) as (λ b. p x ≡ b → filter p (cond (q x) (x ∷ filter q xs) (filter q xs)) ≡ filter q (cond b (x ∷ filter p xs) (filter p xs))) [
      | true ↦ λ e. elim (q x) as (λ d. filter p (cond d (x ∷ filter q xs) (filter q xs)) ≡ cond d (x ∷ filter q (filter p xs)) (filter q (filter p xs))) [
        | true ↦ ap (λ b. cond b (x ∷ filter p (filter q xs)) (filter p (filter q xs))) e ∙ ap (λ r. x ∷ r) (either_order p q xs)
        | false ↦ either_order p q xs
      ]
      | false ↦ λ e. elim (q x) as (λ d. filter p (cond d (x ∷ filter q xs) (filter q xs)) ≡ filter q (filter p xs)) [
        | true ↦ ap (λ b. cond b (x ∷ filter p (filter q xs)) (filter p (filter q xs))) e ∙ either_order p q xs
        | false ↦ either_order p q xs
      ]
    ]) refl

-- where none passes a test, all fail it
all_fail : {X : Type 0} (p : X → Bool) (xs : List X) → filter p xs ≡ [] → filter (λ x. not (p x)) xs ≡ xs
all_fail p [] h = refl
all_fail p (x ∷ xs) h =
    (elim (p x) as (λ b. cond b (x ∷ filter p xs) (filter p xs) ≡ [] → cond (not b) (x ∷ filter (λ y. not (p y)) xs) (filter (λ y. not (p y)) xs) ≡ x ∷ xs) [
      | true ↦ λ k. absurd (some_none x (filter p xs) k)
      | false ↦ λ k. ap (λ r. x ∷ r) (all_fail p xs k)
    ]) h

parts_count : {X : Type 0} (p : X → Bool) (xs : List X) → length (filter p xs) + length (filter (λ x. not (p x)) xs) ≡ length xs
parts_count p [] = refl
parts_count p (x ∷ xs) =
    let later = parts_count p xs in
    elim (p x) as (λ b. length (cond b (x ∷ filter p xs) (filter p xs)) + length (cond (not b) (x ∷ filter (λ y. not (p y)) xs) (filter (λ y. not (p y)) xs)) ≡ length (x ∷ xs)) [
      | true ↦ omega (arith, later)
      | false ↦ omega (arith, later)
    ]

-- ---- the tree without the first entry under a path

-- of the entries at one path there is one at most
one_at : (p : Entry → Bool) (k : List ℕ) (o : Option ℤ) (x : Entry) (xs : List Entry) → x ∷ xs ≡ filter p (entry_at k o) → xs ≡ []
one_at p k None x xs h = absurd (some_none x xs h)
one_at p k (Some v) x xs h =
    (elim (p (k, v)) as (λ b. x ∷ xs ≡ cond b ((k, v) ∷ []) [] → xs ≡ []) [
      | true ↦ λ e. ap tail_of e
      | false ↦ λ e. absurd (some_none x xs e)
    ]) h

module _ (t : Tree) (q k : List ℕ) (v : ℤ) (rest : List Entry) (sound : IsSoundBelow t.children) (first : entries_with t q ≡ (k, v) ∷ rest) where
  pub begins : starts_with nat_eq k q ≡ true
  begins = first_passes (λ (e : Entry). starts_with nat_eq e.0 q) (walk t) (k, v) rest first

  none_later : filter (λ (e : Entry). is_path k e.0) rest ≡ []
  none_later =
      let at : Entry → Bool = λ e. is_path k e.0 in
      let p : Entry → Bool = λ e. starts_with nat_eq e.0 q in
      let here : filter at ((k, v) ∷ rest) ≡ (k, v) ∷ filter at rest = ap (λ b. cond b ((k, v) ∷ filter at rest) (filter at rest)) (is_path_itself k) in
      one_at p k (number_at t k) (k, v) (filter at rest) (sym here ∙ ap (filter at) (sym first) ∙ either_order at p (walk t) ∙ ap (filter p) (walk_at t k sound))

  -- the others stay
  pub with_cut : entries_with (cut t k) q ≡ rest
  with_cut =
      let p : Entry → Bool = λ e. starts_with nat_eq e.0 q in
      let other : Entry → Bool = λ e. not (is_path k e.0) in
      ap (filter p) (walk-cut t k sound)
      ∙ either_order p other (walk t)
      ∙ ap (filter other) first
      ∙ ap (λ b. cond (not b) ((k, v) ∷ filter other rest) (filter other rest)) (is_path_itself k)
      ∙ all_fail (λ (e : Entry). is_path k e.0) rest none_later

  -- and so do those at other paths
  pub without_cut : entries_without (cut t k) q ≡ entries_without t q
  without_cut =
      ap (filter (λ (e : Entry). not (starts_with nat_eq e.0 q))) (walk-cut t k sound)
      ∙ stricter (λ (e : Entry). not (starts_with nat_eq e.0 q)) (λ (e : Entry). not (is_path k e.0)) (λ e outside. by_test e (is_path k e.0) refl outside) (walk t)
    where
      by_test : (e : Entry) (b : Bool) → is_path k e.0 ≡ b → not (starts_with nat_eq e.0 q) ≡ true → not (is_path k e.0) ≡ true
      by_test e true at outside =
          absurd (false≢true (ap not (sym begins) ∙ ap (λ w. not (starts_with nat_eq w q)) (same_path k e.0 at) ∙ outside))
      by_test e false at outside = ap not at

  pub apart : (w : List ℕ) → starts_with nat_eq w q ≡ false → w ≡ k → ⊥
  apart w outside is = false≢true (sym outside ∙ ap (λ x. starts_with nat_eq x q) is ∙ begins)

-- where no entry is left under a path, none of these paths is held
none_held : (t : Tree) (q k : List ℕ) → IsSoundBelow t.children → entries_with t q ≡ [] → starts_with nat_eq k q ≡ true → number_at t k ≡ None
none_held t q k sound gone under = by_number (number_at t k) refl
  where
    by_number : (o : Option ℤ) → number_at t k ≡ o → number_at t k ≡ None
    by_number None e = e
    by_number (Some v) e =
        absurd (contains_none (k, v) (subst (λ (es : List Entry). Contains es (k, v)) gone (into_filter (λ (e : Entry). starts_with nat_eq e.0 q) (walk t) (k, v) under (walk_from_held t k v sound e))))

-- a sound tree without entries is empty
no_entries : (t : Tree) → IsSoundBelow t.children → walk t ≡ [] → t ≡ empty_tree
no_entries t sound gone =
    (elim (is_bare t) as (λ b. is_bare t ≡ b → t ≡ empty_tree) [
      | true ↦ λ e. bare_empty t e
      | false ↦ λ e.
          let some = front_of_key t [] sound e in
          absurd (contains_none (some.0, some.1) (subst (λ (es : List Entry). Contains es (some.0, some.1)) gone (walk_from_held t some.0 some.1 sound some.2)))
    ]) refl

-- ---- a table, entry by entry

abbrev pub state_of : Fields → State
state_of T = record { tree = tree_of T; ordered = T.ordered }

-- some of the entries under a path are erased: with the others erased too it is the same, and at other paths nothing has changed
pub record Erases (slots : ℕ) (T T' : Fields) (q : List ℕ) : Type 0 where
  pub formed : IsWellFormed slots T'
  pub state : erased_under (state_of T') q ≡ erased_under (state_of T) q
  pub others : entries_without (tree_of T') q ≡ entries_without (tree_of T) q
  pub held : (k : List ℕ) → starts_with nat_eq k q ≡ false → number_at (tree_of T') k ≡ number_at (tree_of T) k
  pub marked : (w : List ℕ) → starts_with nat_eq w q ≡ false → HasMark (marks T') w ↔ HasMark (marks T) w
  pub size : size_of T' ≡ size_of T
  pub capacity : capacity_of T' ≡ capacity_of T
  pub modes : SameModes T T'

pub erases_none : (slots : ℕ) (T : Fields) (q : List ℕ) → IsWellFormed slots T → Erases slots T T q
erases_none slots T q well = record {
  formed = well;
  state = refl;
  others = refl;
  held = λ k _. refl;
  marked = λ w _. (λ h. h, λ h. h);
  size = refl;
  capacity = refl;
  modes = record { ordered = refl; max_trial = refl };
}

-- the key of the first entry under a path, which a walk has come to, and the entries behind that
abbrev pub key_of : Fields → List ℕ → Numbered → List ℕ
key_of T q found = q ++ path_to T found.depth found.slot

abbrev pub later : Fields → List ℕ → Numbered → List Entry
later T q found = map (behind_path q) (visited_entries (left_at T q found.depth found.slot))

pub found_first : (slots : ℕ) (T : Fields) (q : List ℕ) (found : Numbered) → IsWellFormed slots T → ComesToNumber T q (walk (node_at (tree_of T) q)) found
    → entries_with (tree_of T) q ≡ (key_of T q found, found.number) ∷ later T q found
found_first slots T q found well comes = entries_with_node (tree_of T) q well.sound ∙ ap (map (behind_path q)) comes.entries

pub found_none : (slots : ℕ) (T : Fields) (q : List ℕ) → IsWellFormed slots T → walk (node_at (tree_of T) q) ≡ [] → entries_with (tree_of T) q ≡ []
found_none slots T q well nothing = entries_with_node (tree_of T) q well.sound ∙ ap (map (behind_path q)) nothing

pub found_held : (T : Fields) (q : List ℕ) (left : List Entry) (found : Numbered) → ComesToNumber T q left found → is_some (number_at (tree_of T) (key_of T q found)) ≡ true
found_held T q left found comes = ap is_some (number_of_node (tree_of T) (key_of T q found) ∙ comes.number)

-- one entry more
module _ (slots : ℕ) (T U V : Fields) (q k : List ℕ) (v : ℤ) (rest : List Entry) (so_far : Erases slots T U q) (first : entries_with (tree_of U) q ≡ (k, v) ∷ rest) (tree : tree_of V ≡ cut (tree_of U) k) where
  left : entries_with (tree_of V) q ≡ rest
  left = ap (λ (t : Tree). entries_with t q) tree ∙ with_cut (tree_of U) q k v rest so_far.formed.sound first

  pub fewer : length (entries_with (tree_of V) q) < length (entries_with (tree_of U) q)
  fewer = omega (arith, ap length left, ap length first)

  pub erases_on : IsWellFormed slots V → MarksCut (marks U) (marks V) k → size_of V ≡ size_of U → capacity_of V ≡ capacity_of U → SameModes U V → Erases slots T V q
  erases_on well cut_mark size capacity modes =
      let sound : IsSoundBelow (tree_of U).children = so_far.formed.sound in
      let same : state_of V ≡ after_erase (state_of U) k = λ i. record { tree = tree i; ordered = modes.ordered i } in
      record {
        formed = well;
        state = (λ i. all_erased (same i) (left i)) ∙ sym (ap (all_erased (state_of U)) first) ∙ so_far.state;
        others = ap (λ (t : Tree). entries_without t q) tree ∙ without_cut (tree_of U) q k v rest sound first ∙ so_far.others;
        held = λ w outside. ap (λ (t : Tree). number_at t w) tree ∙ number_at-cut_other (tree_of U) k w sound (apart (tree_of U) q k v rest sound first w outside) ∙ so_far.held w outside;
        marked = λ w outside. (
          λ h. (so_far.marked w outside).0 ((cut_mark w).0 h).1,
          λ h. (cut_mark w).1 (apart (tree_of U) q k v rest sound first w outside, (so_far.marked w outside).1 h),
        );
        size = size ∙ so_far.size;
        capacity = capacity ∙ so_far.capacity;
        modes = record { ordered = modes.ordered ∙ so_far.modes.ordered; max_trial = modes.max_trial ∙ so_far.modes.max_trial };
      }

-- all entries
module _ (slots : ℕ) (T U : Fields) (q : List ℕ) (well : IsWellFormed slots T) (done : Erases slots T U q) (gone : entries_with (tree_of U) q ≡ []) where
  others_left : walk (tree_of U) ≡ entries_without (tree_of T) q
  others_left = sym (all_fail (λ (e : Entry). starts_with nat_eq e.0 q) (walk (tree_of U)) gone) ∙ done.others

  pub erased_count : U.entries + length (entries_with (tree_of T) q) ≡ T.entries
  erased_count =
      let parts : length (entries_with (tree_of T) q) + length (entries_without (tree_of T) q) ≡ length (walk (tree_of T)) = parts_count (λ (e : Entry). starts_with nat_eq e.0 q) (walk (tree_of T)) in
      omega (arith, well.entries, done.formed.entries, ap length others_left, parts)

  all_gone : erased_under (state_of U) q ≡ state_of U
  all_gone = ap (all_erased (state_of U)) gone

  held_now : (k : List ℕ) (b : Bool) → starts_with nat_eq k q ≡ b → number_at (tree_of U) k ≡ cond (starts_with nat_eq k q) None (number_at (tree_of T) k)
  held_now k true under = none_held (tree_of U) q k done.formed.sound gone under ∙ sym (ap (λ b. cond b None (number_at (tree_of T) k)) under)
  held_now k false outside = done.held k outside ∙ sym (ap (λ b. cond b None (number_at (tree_of T) k)) outside)

  marks_now : MarksCutUnder (marks T) (marks U) q
  marks_now w = (λ h. by_test (starts_with nat_eq w q) refl h, λ h. (done.marked w h.0).1 h.1)
    where
      by_test : (b : Bool) → starts_with nat_eq w q ≡ b → HasMark (marks U) w → (starts_with nat_eq w q ≡ false) × HasMark (marks T) w
      by_test true under h =
          absurd (false≢true (ap is_some (sym (none_held (tree_of U) q w done.formed.sound gone under)) ∙ marked_held slots U done.formed w h))
      by_test false outside h = (outside, (done.marked w outside).0 h)

  pub erases_all : (limit n : ℕ) → n ≡ T.entries - U.entries → IsErasedUnder (dictionary_of limit T) (dictionary_of limit U) q n
  erases_all limit n is =
      let count = erased_count in
      record {
        count = omega (arith, is, count);
        state = sym all_gone ∙ done.state;
        others = others_left;
        gone = gone;
        held = λ k. held_now k (starts_with nat_eq k q) refl;
        ordered = done.modes.ordered;
        marks = marks_now;
        marked = is_marked slots U done.formed;
        size = (done.size, done.capacity);
        max_trial = done.modes.max_trial;
        search_limit = refl;
      }

-- under the empty path are all entries
pub cleared : (slots limit : ℕ) (T U : Fields) (q : List ℕ) (n : ℕ) → q ≡ [] → IsWellFormed slots U → IsErasedUnder (dictionary_of limit T) (dictionary_of limit U) q n
    → IsCleared (dictionary_of limit T) (dictionary_of limit U)
cleared slots limit T U q n whole well e =
    let gone : walk (tree_of U) ≡ [] = sym (filter-every (walk (tree_of U))) ∙ subst (λ p. entries_with (tree_of U) p ≡ []) whole e.gone in
    let tree : tree_of U ≡ empty_tree = no_entries (tree_of U) well.sound gone in
    record {
      tree = tree;
      unmarked = e.marked ∙ ap (some_numbers (λ path. is_some (number_at (marks U) path))) tree;
      ordered = e.ordered;
      size = e.size;
      max_trial = e.max_trial;
      search_limit = e.search_limit;
    }

-- ---- a key that was found, and is erased without being looked up again

-- to erase a key that isn't held changes nothing
pub unheld : (slots limit : ℕ) (T : Fields) (key : List ℕ) → IsWellFormed slots T → number_at (tree_of T) key ≡ None → IsErasure (dictionary_of limit T) (dictionary_of limit T) key false
unheld slots limit T key well none =
    let same = unheld_same slots T key well none in
    record {
      answer = (λ h. absurd (false≢true h), λ h. absurd (false≢true (sym (ap is_some none) ∙ h)));
      state = ap (λ (t : Tree). record { tree = t; ordered = T.ordered }) same;
      marks = marks_cut slots T T key well well same (λ w m _ k. k);
      marked = is_marked slots T well;
      size = (refl, refl);
      max_trial = refl;
      search_limit = refl;
    }

-- the number of a key that was found is held
pub found_is_held : (limit : ℕ) (T : Fields) (key : List ℕ) (found : Found) → IsFound (dictionary_of limit T) key found → is_some (number_at (tree_of T) key) ≡ true
found_is_held limit T key found is = ap is_some is.value

-- once it is cut away, the key is erased
pub erased_found : (slots limit : ℕ) (T U : Fields) (key : List ℕ) (found : Found) → IsFound (dictionary_of 0 T) key found → IsWellFormed slots U → tree_of U ≡ cut (tree_of T) key
    → MarksCut (marks T) (marks U) key → size_of U ≡ size_of T → capacity_of U ≡ capacity_of T → SameModes T U → IsErasure (dictionary_of limit T) (dictionary_of limit U) key true
erased_found slots limit T U key found is well tree cut_mark size capacity modes = record {
  answer = (λ _. found_is_held 0 T key found is, λ _. refl);
  state = λ i. record { tree = tree i; ordered = modes.ordered i };
  marks = cut_mark;
  marked = is_marked slots U well;
  size = (size, capacity);
  max_trial = modes.max_trial;
  search_limit = refl;
}
