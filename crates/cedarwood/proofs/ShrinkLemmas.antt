-- A dictionary built anew of another one's entries, from the last one to the first.
use Rattle.std.proofs.Common.{◌≡◌, ◌∙◌, ◌++◌, ◌⊎◌, ◌↔◌, inl, inr, ℕ, zero, suc, ◌+◌, ◌*◌, ◌<◌, ◌≤◌, Bool, ℤ, List, [], ◌∷◌, length, map, drop, get_or, MatchOption, MatchResult, Option, Some, None, IfSome, Result, Ok, Err, ap, arith, refl, subst, sym}
use Rattle.std.specs.Prelude.{is_some}
use Rattle.std.specs.List.{AllByRecursion}
use Rattle.std.proofs.lemmas.List.{append_assoc, append-nil, drop_more, map-append}
use Rattle.cedar_tree.specs.Tree.{Tree, empty_tree, IsKey, number_at, put}
use Rattle.cedar_tree.specs.Queries.{Entry, prefixes, walk}
use Rattle.cedar_tree.specs.State.{after_put, State}
use Rattle.cedar_tree.specs.Walks.{visited_entries}
use Rattle.cedar_tree.proofs.EntryLemmas.Keys.{held_key}
use Rattle.cedar_tree.proofs.OrderLemmas.{number_of_node}
use Rattle.cedar_bulk.specs.SortedMarks.{IsInnerKey, SortedMarks}
use Rattle.cedar_model.specs.Meaning.Marks.{HasMark}
use Rattle.cedar_model.specs.Table.Layouts.{LayoutKind}
use Rattle.cedar_model.specs.Table.TableFields.{Fields}
use Rattle.cedar_model.specs.Meaning.WellFormed.{IsWellFormed, tree_of}
use Rattle.cedar_walk.specs.declared.visits.Numbered.{Numbered}
use Rattle.cedar_walk.specs.Visits.{ComesToNumber, left_at, path_to}
use Rattle.cedar_model.proofs.UpdateLemmas.AlongKey.{key_some}
use Rattle.cedarwood.specs.declared.builder.CedarBuilder.{CedarBuilder}
use Rattle.cedarwood.specs.declared.error.CedarError.{CedarError}
use Rattle.cedarwood.specs.declared.error.CedarError.TheVariants.{DuplicateKey, EmptyKey, InvalidMaxTrial, InvalidValue, KeysNotSorted, Memory, NulByte, SlotLimit}
use Rattle.cedarwood.specs.Dictionary.{capacity_after, Dictionary, first_bytes, Grows, some_numbers}
use Rattle.cedarwood.specs.Fault.{fault, IsShortage, or_else, value_fault}
use Rattle.cedarwood.specs.Making.{IsEmpty}
use Rattle.cedarwood.specs.Shrinking.{entries_after, entry_of, IsEntryPlace, IsNextPlace, IsPutBack, IsRebuilt, IsShrunk, key_bytes, LacksPlaces, PutsEntry}
use Rattle.cedarwood.specs.Updates.{IsUpdate}
use Rattle.cedarwood.proofs.CompactLemmas.{compact_more, rebuilt_fits}
use Rattle.cedarwood.proofs.DictionaryLemmas.{held_in_range, is_sound}
use Rattle.cedarwood.proofs.GrowthLemmas.{capacity_after-sum, dictionary_of}
use Rattle.cedarwood.proofs.InnerMarksLemmas.{inner_empty, inner_put}
use Rattle.cedarwood.proofs.PutBackLemmas.{walk_put_back}
use Rattle.cedarwood.proofs.SortedInputLemmas.{clean_key, key_clean}
use Rattle.cedar_tree.proofs.GeneralLemmas.{all_and_one}
use Rattle.cedarwood.proofs.FaultLemmas.{key_without_fault}

-- ---- the nodes of all entries

-- a walk that comes to the first of some entries has these left
pub next_is : (T : Fields) (left : List Entry) (found : Option Numbered) → MatchOption found (left ≡ []) (ComesToNumber T [] left) → left ≡ entries_after T found
next_is T left None gone = gone
next_is T left (Some place) comes = comes.entries

pub next_there : (T : Fields) (left : List Entry) (found : Option Numbered) → MatchOption found (left ≡ []) (ComesToNumber T [] left) → IsNextPlace T found
next_there T left None gone = tt
next_there T left (Some place) comes = (comes.below, comes.number)

-- one place more is listed
listed_more : (T : Fields) (all : List Entry) (places : List Numbered) (place : Numbered) (next : Option Numbered) → all ≡ map (entry_of T) places ++ entries_after T (Some place)
    → visited_entries (left_at T [] place.depth place.slot) ≡ entries_after T next → all ≡ map (entry_of T) (places ++ place ∷ []) ++ entries_after T next
listed_more T all places place next so_far rest =
    so_far
    ∙ ap (λ (es : List Entry). map (entry_of T) places ++ entry_of T place ∷ es) rest
    ∙ sym (append_assoc (map (entry_of T) places) (entry_of T place ∷ []) (entries_after T next))
    ∙ ap (λ (es : List Entry). es ++ entries_after T next) (sym (map-append (entry_of T) places (place ∷ [])))

pub lists_on : (T : Fields) (all : List Entry) (places places' : List Numbered) (place : Numbered) (next found : Option Numbered) → next ≡ Some place → all ≡ map (entry_of T) places ++ entries_after T next
    → AllByRecursion (IsEntryPlace T) places → IsNextPlace T next → places' ≡ places ++ place ∷ []
    → MatchOption found (visited_entries (left_at T [] place.depth place.slot) ≡ []) (ComesToNumber T [] (visited_entries (left_at T [] place.depth place.slot)))
    → (all ≡ map (entry_of T) places' ++ entries_after T found) × AllByRecursion (IsEntryPlace T) places' × IsNextPlace T found
lists_on T all places places' place next found is so_far each there pushed comes =
    let left : List Entry = visited_entries (left_at T [] place.depth place.slot) in
    let here : all ≡ map (entry_of T) places ++ entries_after T (Some place) = so_far ∙ ap (λ (o : Option Numbered). map (entry_of T) places ++ entries_after T o) is in (
      listed_more T all places place found here (next_is T left found comes) ∙ ap (λ (ps : List Numbered). map (entry_of T) ps ++ entries_after T found) (sym pushed),
      subst (AllByRecursion (IsEntryPlace T)) (sym pushed) (all_and_one (IsEntryPlace T) places place each (subst (IsNextPlace T) is there)),
      next_there T left found comes,
    )

pub listed_all : (T : Fields) (all : List Entry) (places : List Numbered) (next : Option Numbered) → all ≡ map (entry_of T) places ++ entries_after T next → next ≡ None → all ≡ map (entry_of T) places
listed_all T all places next so_far ends =
    so_far ∙ ap (λ (o : Option Numbered). map (entry_of T) places ++ entries_after T o) ends ∙ append-nil (map (entry_of T) places)

-- ---- an entry of a well-formed table has no fault

pub place_fault : (slots : ℕ) (T : Fields) → IsWellFormed slots T → (place : Numbered) → IsEntryPlace T place → fault (path_to T place.depth place.slot) place.number ≡ None
place_fault slots T well place at =
    let key : List ℕ = path_to T place.depth place.slot in
    let held : number_at (tree_of T) key ≡ Some place.number = number_of_node (tree_of T) key ∙ at.1 in
    let is : IsKey key = held_key (tree_of T) key place.number (is_sound slots T well) held in
    let range : value_fault place.number ≡ None = subst (λ (o : Option ℤ). IfSome o (λ v. value_fault v ≡ None)) held (held_in_range slots T key well) in
    ap (λ f. or_else f (value_fault place.number)) (clean_key key (key_clean key is) (key_some key is)) ∙ range

-- ---- entries put

-- nothing was put yet
pub none_put : (layout : LayoutKind) (settings : CedarBuilder) (d : Dictionary) → IsEmpty settings d → IsPutBack layout d.state.ordered d.max_trial d.search_limit [] d
unfolding capacity_after
none_put layout settings d e = record {
  state = ap (λ (t : Tree). record { tree = t; ordered = d.state.ordered }) e.tree;
  max_trial = refl;
  search_limit = refl;
  marks = record {
    inner = λ _ w. subst (λ (m : Tree). HasMark m w ↔ IsInnerKey d.state.tree w) (sym e.unmarked) (subst (λ (t : Tree). HasMark empty_tree w ↔ IsInnerKey t w) (sym e.tree) (inner_empty w));
    by_default = λ _. e.unmarked ∙ sym e.tree;
  };
  marked = subst (λ (m : Tree). m ≡ some_numbers (λ path. is_some (number_at m path)) d.state.tree) (sym e.unmarked)
      (ap (some_numbers (λ path. is_some (number_at empty_tree path))) (sym e.tree));
  size = (0, omega arith, omega (arith, e.size.0), e.size.1);
  compact = record {
    first = let nothing : first_bytes d.state.tree ≡ 0 = ap first_bytes e.tree in omega (arith, nothing);
    entries = let nothing : length (walk d.state.tree) ≡ 0 = ap (λ (t : Tree). length (walk t)) e.tree in omega (arith, nothing);
    slots = let nothing : first_bytes d.state.tree ≡ 0 = ap first_bytes e.tree in omega (arith, nothing, e.size.0);
  };
}

module _ (layout : LayoutKind) (slots : ℕ) (order : Bool) (trials : ℤ) (limit : ℕ) (es : List Entry) (e : Entry) (d d' : Dictionary) (so_far : IsPutBack layout order trials limit es d) (fine : fault e.0 e.1 ≡ None) where
  -- one more
  pub put_more : IsUpdate layout slots d d' e.0 e.1 (Ok tt) → IsPutBack layout order trials limit (e ∷ es) d'
  put_more u =
      let tree : d'.state.tree ≡ put d.state.tree d.state.ordered e.0 e.1 = ap (λ (s : State). s.tree) u.ok in
      let m = so_far.size in
      let n = u.blocks in
      let grown : Grows n.0 d d' = n.3 in
      record {
        state = u.ok ∙ ap (λ (s : State). after_put s e.0 e.1) so_far.state;
        max_trial = u.max_trial ∙ so_far.max_trial;
        search_limit = u.search_limit ∙ so_far.search_limit;
        marks = record {
          inner = λ reduced w. subst (λ (t : Tree). HasMark d'.marked w ↔ IsInnerKey t w) (sym tree)
              (inner_put d.state.tree d.state.ordered e.0 e.1 (key_without_fault e.0 e.1 fine) d.marked d'.marked (u.marks reduced) (so_far.marks.inner reduced) w);
          by_default = u.by_default;
        };
        marked = u.marked;
        size = (
          m.0 + n.0,
          omega (arith, m.1, n.1),
          omega (arith, grown.size, m.2),
          grown.capacity ∙ ap (λ s. capacity_after n.0 s d.capacity) m.2 ∙ ap (capacity_after n.0 (256 + 256 * m.0)) m.3 ∙ sym (capacity_after-sum m.0 n.0 256 256),
        );
        compact = compact_more (length es) d d' e.0 e.1 so_far.compact so_far.marked u.marked tree u.packs;
      }

  -- why it was refused
  lack : (x : CedarError) → IsShortage x → (x ≡ SlotLimit → slots ≤ 256 * key_bytes (e ∷ es)) → LacksPlaces slots (e ∷ es) x
  lack EmptyKey h full = absurd h
  lack (NulByte position) h full = absurd h
  lack (InvalidValue value) h full = absurd h
  lack (InvalidMaxTrial value) h full = absurd h
  lack (DuplicateKey index) h full = absurd h
  lack (KeysNotSorted index) h full = absurd h
  lack Memory h full = inl refl
  lack SlotLimit h full = inr (refl, full refl)

  pub put_refused : (x : CedarError) → IsUpdate layout slots d d' e.0 e.1 (Err x) → LacksPlaces slots (e ∷ es) x
  put_refused x u =
      let m = so_far.size in
      let n = u.blocks in
      let grown : Grows n.0 d d' = n.3 in
      let few : n.0 < length e.0 = n.2 fine in
      lack x (u.refused fine).0 (λ is. let all : d'.size ≡ slots = u.limit (ap Err is) in omega (arith, m.1, few, grown.size, m.2, all))

-- the bytes of later keys are some of all
bytes_of_places : (T : Fields) (places : List Numbered) (i : ℕ) → key_bytes (map (entry_of T) (drop i places)) ≤ key_bytes (map (entry_of T) places)
bytes_of_places T places zero = omega arith
bytes_of_places T [] (suc i) = omega arith
bytes_of_places T (p ∷ places) (suc i) =
    let later : key_bytes (map (entry_of T) (drop i places)) ≤ key_bytes (map (entry_of T) places) = bytes_of_places T places i in omega (arith, later)

-- ---- one place after another, from the last one on

-- the entry is put, or there was no memory for its key
pub no_key : (layout : LayoutKind) (slots : ℕ) (before after : Dictionary) (entry : Entry) (r : Result (Unit {0}) CedarError) (e : CedarError) → r ≡ Err e → e ≡ Memory → PutsEntry layout slots before after entry r
no_key layout slots before after entry r e is memory = subst (PutsEntry layout slots before after entry) (sym is) (record { put = tt; refused = inl memory })

pub is_put : (layout : LayoutKind) (slots : ℕ) (before after : Dictionary) (entry : Entry) (key : List ℕ) (v : ℤ) (r : Result (Unit {0}) CedarError) → key ≡ entry.0 → v ≡ entry.1
    → IsUpdate layout slots before after key v r → PutsEntry layout slots before after entry r
is_put layout slots before after entry key v r same_key same_value u =
    by_result r (subst (λ (w : ℤ). IsUpdate layout slots before after entry.0 w r) same_value (subst (λ k. IsUpdate layout slots before after k v r) same_key u))
  where
    by_result : (r : Result (Unit {0}) CedarError) → IsUpdate layout slots before after entry.0 entry.1 r → PutsEntry layout slots before after entry r
    by_result (Ok x) u = record { put = u; refused = tt }
    by_result (Err e) u = record { put = tt; refused = inr u }

fewer_lack : (slots : ℕ) (es all : List Entry) (x : CedarError) → key_bytes es ≤ key_bytes all → LacksPlaces slots es x → LacksPlaces slots all x
fewer_lack slots es all x fewer (inl memory) = inl memory
fewer_lack slots es all x fewer (inr limit) = let few : slots ≤ 256 * key_bytes es = limit.1 in inr (limit.0, omega (arith, fewer, few))

module _ (layout : LayoutKind) (slots : ℕ) (order : Bool) (trials : ℤ) (limit : ℕ) (T : Fields) (places : List Numbered) (left i : ℕ) (blank : Numbered) (d d' : Dictionary) (next : left ≡ i + 1) (inside : i < length places)
    (fine : fault (path_to T (get_or places i blank).depth (get_or places i blank).slot) (get_or places i blank).number ≡ None) (so_far : IsPutBack layout order trials limit (map (entry_of T) (drop left places)) d)
    (r : Result (Unit {0}) CedarError) (puts : PutsEntry layout slots d d' (entry_of T (get_or places i blank)) r) where
  abbrev later : List Entry
  later = map (entry_of T) (drop left places)

  abbrev place : Numbered
  place = get_or places i blank

  one_more : map (entry_of T) (drop i places) ≡ entry_of T place ∷ later
  one_more = ap (map (entry_of T)) (drop_more places i blank inside) ∙ ap (λ n. entry_of T place ∷ map (entry_of T) (drop n places)) (sym next)

  pub turn_put : r ≡ Ok tt → IsPutBack layout order trials limit (map (entry_of T) (drop i places)) d'
  turn_put is =
      let u : IsUpdate layout slots d d' (entry_of T place).0 (entry_of T place).1 (Ok tt) = (subst (PutsEntry layout slots d d' (entry_of T place)) is puts).put in
      subst (λ (es : List Entry). IsPutBack layout order trials limit es d') (sym one_more) (put_more layout slots order trials limit later (entry_of T place) d d' so_far fine u)

  pub turn_refused : (x : CedarError) → r ≡ Err x → LacksPlaces slots (map (entry_of T) places) x
  turn_refused x is = why (subst (PutsEntry layout slots d d' (entry_of T place)) is puts).refused
    where
      why : (x ≡ Memory) ⊎ IsUpdate layout slots d d' (entry_of T place).0 (entry_of T place).1 (Err x) → LacksPlaces slots (map (entry_of T) places) x
      why (inl memory) = inl memory
      why (inr u) =
          fewer_lack slots (map (entry_of T) (drop i places)) (map (entry_of T) places) x (bytes_of_places T places i)
          (subst (λ (es : List Entry). LacksPlaces slots es x) (sym one_more) (put_refused layout slots order trials limit later (entry_of T place) d d' so_far fine x u))

-- what is said of a refusal
pub lacking : {X E : Type 0} (P : X → Type 0) (Q : E → Type 0) (r : Result X E) (e : E) → r ≡ Err e → Q e → MatchResult r P Q
lacking {X} {E} P Q r e is q = subst (λ (x : Result X E). MatchResult x P Q) (sym is) q

-- ---- all of them

pub put_as_asked : (layout : LayoutKind) (order order' : Bool) (trials trials' : ℤ) (limit limit' : ℕ) (es es' : List Entry) (d : Dictionary) → order ≡ order' → trials ≡ trials' → limit ≡ limit' → es ≡ es'
    → IsPutBack layout order trials limit es d → IsPutBack layout order' trials' limit' es' d
put_as_asked layout order order' trials trials' limit limit' es es' d orders settings limits entries back =
    subst (λ o. IsPutBack layout o trials' limit' es' d) orders (subst (λ (n : ℤ). IsPutBack layout order n limit' es' d) settings
    (subst (λ (n : ℕ). IsPutBack layout order trials n es' d) limits (subst (λ (xs : List Entry). IsPutBack layout order trials limit xs d) entries back)))

of_table : (layout : LayoutKind) (slots limit : ℕ) (T : Fields) (d : Dictionary) → IsWellFormed slots T → IsPutBack layout T.ordered T.places.blocks.max_trial limit (walk (tree_of T)) d → IsRebuilt layout (dictionary_of limit T) d
of_table layout slots limit T d well back =
    let state : d.state ≡ record { tree = tree_of T; ordered = T.ordered } = back.state ∙ ap (λ (t : Tree). record { tree = t; ordered = T.ordered }) (walk_put_back T.ordered (tree_of T) well.sound well.ascending) in
    record {
      state = state;
      max_trial = back.max_trial;
      search_limit = back.search_limit;
      marks = subst (λ (t : Tree). SortedMarks layout t d.marked) (ap (λ (s : State). s.tree) state) back.marks;
      marked = back.marked;
      size = back.size;
      slots = subst (λ (t : Tree). d.size + 257 * first_bytes t ≤ 511 + length (prefixes t) + 257 * length (walk (tree_of T))) (ap (λ (s : State). s.tree) state) back.compact.slots;
    }

-- what is made of the entries of a dictionary's table is that dictionary, rebuilt
pub is_rebuilt : (layout : LayoutKind) (slots limit : ℕ) (T : Fields) (before : Dictionary) (order : Bool) (trials : ℤ) (r : Result Dictionary CedarError) → dictionary_of limit T ≡ before → IsWellFormed slots T → order ≡ T.ordered
    → trials ≡ T.places.blocks.max_trial → MatchResult r (IsPutBack layout order trials limit (walk (tree_of before.table))) (LacksPlaces slots (walk (tree_of before.table)))
    → MatchResult r (IsRebuilt layout before) (LacksPlaces slots (walk before.state.tree))
is_rebuilt layout slots limit T before order trials r same well orders settings =
    subst (λ (x : Dictionary). MatchResult r (IsPutBack layout order trials limit (walk (tree_of x.table))) (LacksPlaces slots (walk (tree_of x.table))) → MatchResult r (IsRebuilt layout x) (LacksPlaces slots (walk x.state.tree))) same (by_result r)
  where
    by_result : (r : Result Dictionary CedarError) → MatchResult r (IsPutBack layout order trials limit (walk (tree_of T))) (LacksPlaces slots (walk (tree_of T))) → MatchResult r (IsRebuilt layout (dictionary_of limit T)) (LacksPlaces slots (walk (tree_of T)))
    by_result (Ok d) back = of_table layout slots limit T d well (put_as_asked layout order T.ordered trials T.places.blocks.max_trial limit limit (walk (tree_of T)) (walk (tree_of T)) d orders settings refl refl back)
    by_result (Err e) lacks = lacks

-- ---- in the place of the one before

pub stays : (layout : LayoutKind) (slots : ℕ) (before made : Dictionary) → IsRebuilt layout before made → before.capacity < made.capacity → IsShrunk layout slots before before (Ok tt)
stays layout slots before made is more = record {
  state = refl;
  max_trial = refl;
  search_limit = refl;
  capacity = omega arith;
  rebuilt = (made, is, (λ less. absurd (omega (arith, less, more))), (λ _. refl));
  bounded = omega (arith, more, rebuilt_fits layout before made is);
  unchanged = tt;
  refused = tt;
}

pub replaced : (layout : LayoutKind) (slots : ℕ) (before made : Dictionary) → IsRebuilt layout before made → made.capacity ≤ before.capacity → IsShrunk layout slots before made (Ok tt)
replaced layout slots before made is less = record {
  state = is.state;
  max_trial = is.max_trial;
  search_limit = is.search_limit;
  capacity = less;
  rebuilt = (made, is, (λ _. refl), (λ more. absurd (omega (arith, less, more))));
  bounded = rebuilt_fits layout before made is;
  unchanged = tt;
  refused = tt;
}
