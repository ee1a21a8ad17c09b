-- What a batch of updates or of erasures leaves, by the changes that it is made of.
use Rattle.std.proofs.Common.{◌≡◌, ◌∙◌, ◌↔◌, ℕ, suc, ◌+◌, ◌<◌, ◌≤◌, pos, inl, inr, Bool, true, false, IsTrue, List, [], ◌∷◌, ◌++◌, length, take, drop, get_or, set, Option, Some, None, IsSome, is_some, Result, Ok, Err, refl, sym, ap, subst, arith}
use Rattle.std.proofs.lemmas.Bool.{cases_lt}
use Rattle.std.proofs.lemmas.List.{drop_all, drop-drop, drop-set-lt, get_or-map, length-map, take-append-drop, take_all, take_more, take_more_set}
use Rattle.std.specs.Borrow.{Bor}
use Rattle.cedar_walk.specs.Batch.{keys_of}
use Rattle.cedar_walk.proofs.WalkLemmas.Lanes.{key_count}
use Rattle.cedar_tree.specs.Queries.{Entry}
use Rattle.cedar_tree.specs.State.{State, after_erase}
use Rattle.cedar_tree.specs.Tree.{number_at}
use Rattle.cedar_bulk.specs.Sorted.{Pair, entries_of}
use Rattle.cedar_model.specs.Table.Layouts.{LayoutKind}
use Rattle.cedarwood.specs.declared.error.CedarError.{CedarError}
use Rattle.cedarwood.specs.Batches.{pair_at, held_in_turn, IsErasure, IsErasures, keys_erased}
use Rattle.cedarwood.specs.Builds.{IsBuild}
use Rattle.cedarwood.specs.Dictionary.{Dictionary}
use Rattle.cedarwood.specs.Updates.{IsUpdate}

-- ---- updates

no_refusal : {T : Type 0} (e : CedarError) → ◌≡◌ {A = Result (Unit {0}) CedarError} (Ok tt) (Err e) → T
no_refusal {T} e h = absurd (apart e h) where
  apart : (e : CedarError) → ◌≡◌ {A = Result (Unit {0}) CedarError} (Ok tt) (Err e) → ⊥
  apart e h = cc

-- one pair more is stored
built_more : (layout : LayoutKind) (slots : ℕ) (s t u : Dictionary) (es : List Entry) (e : Entry) → IsBuild layout slots s es (Ok tt) t → IsUpdate layout slots t u e.0 e.1 (Ok tt)
    → IsBuild layout slots s (es ++ e ∷ []) (Ok tt) u
built_more layout slots s t u [] e h last = inl (u, subst (λ (d : Dictionary). IsUpdate layout slots d u e.0 e.1 (Ok tt)) h.1 last, (refl, refl))
built_more layout slots s t u (x ∷ xs) e h last = elim h [
  | inl m ↦ inl (m.0, m.1, built_more layout slots m.0 t u xs e m.2 last)
  | inr y ↦ no_refusal y.0 y.1
]

-- the entry of the pair at an index
pub entry_there : (pairs : List Pair) (i : ℕ) (d : Pair) → i < length pairs → pair_at (entries_of pairs) i ≡ ((get_or pairs i d).0.now, (get_or pairs i d).1)
entry_there pairs i d h = get_or-map (λ (q : Pair). (q.0.now, q.1)) pairs i d ([], pos 0) h

pub entry_count : (pairs : List Pair) → length (entries_of pairs) ≡ length pairs
entry_count pairs = length-map pairs (λ (q : Pair). (q.0.now, q.1))

-- an update of the pair at an index
pub update_there : (layout : LayoutKind) (slots : ℕ) (t u : Dictionary) (pairs : List Pair) (i : ℕ) (d : Pair) (r : Result (Unit {0}) CedarError) → i < length pairs
    → IsUpdate layout slots t u (get_or pairs i d).0.now (get_or pairs i d).1 r → IsUpdate layout slots t u (pair_at (entries_of pairs) i).0 (pair_at (entries_of pairs) i).1 r
update_there layout slots t u pairs i d r h is = subst (λ (e : Entry). IsUpdate layout slots t u e.0 e.1 r) (sym (entry_there pairs i d h)) is

pub update_more : (layout : LayoutKind) (slots : ℕ) (s t u : Dictionary) (pairs : List Pair) (i : ℕ) (d : Pair) → i < length pairs
    → IsBuild layout slots s (take i (entries_of pairs)) (Ok tt) t → IsUpdate layout slots t u (get_or pairs i d).0.now (get_or pairs i d).1 (Ok tt) → IsBuild layout slots s (take (i + 1) (entries_of pairs)) (Ok tt) u
update_more layout slots s t u pairs i d h so_far last =
    let es : List Entry = entries_of pairs in
    let inside : i < length es = subst (λ n. i < n) (sym (entry_count pairs)) h in
    subst (λ (x : List Entry). IsBuild layout slots s x (Ok tt) u) (sym (take_more es i ([], pos 0) inside))
    (built_more layout slots s t u (take i es) (pair_at es i) so_far (update_there layout slots t u pairs i d (Ok tt) h last))

pub all_built : (layout : LayoutKind) (slots : ℕ) (s t : Dictionary) (pairs : List Pair) (i : ℕ) → length pairs ≤ i → IsBuild layout slots s (take i (entries_of pairs)) (Ok tt) t
    → IsBuild layout slots s (entries_of pairs) (Ok tt) t
all_built layout slots s t pairs i h so_far = subst (λ (x : List Entry). IsBuild layout slots s x (Ok tt) t) (take_all i (entries_of pairs) (subst (λ n. n ≤ i) (sym (entry_count pairs)) h)) so_far

-- ---- erasures

-- one key more is erased
erased_more : (s t u : Dictionary) (ks : List (List ℕ)) (answers : List Bool) (k : List ℕ) (a : Bool) → IsErasures s t ks answers → IsErasure t u k a → IsErasures s u (ks ++ k ∷ []) (answers ++ a ∷ [])
erased_more s t u [] answers k a h last =
    (u, a, [], ap (λ (x : List Bool). x ++ a ∷ []) h.0, subst (λ (d : Dictionary). IsErasure d u k a) h.1 last, (refl, refl))
erased_more s t u (x ∷ xs) answers k a h last =
    (h.0, h.1, h.2 ++ a ∷ [], ap (λ (x : List Bool). x ++ a ∷ []) h.3, h.4, erased_more h.0 t u xs h.2 k a h.5 last)

pub state_of : (s t : Dictionary) (ks : List (List ℕ)) (answers : List Bool) → IsErasures s t ks answers → t.state ≡ keys_erased s.state ks
state_of s t [] answers h = ap (λ (d : Dictionary). d.state) h.1
state_of s t (k ∷ ks) answers h = state_of h.0 t ks h.2 h.5 ∙ ap (λ (x : State). keys_erased x ks) h.4.state

pub held_as : {X : Type 0} (a : Bool) (o : Option X) → IsTrue a ↔ IsSome o → a ≡ is_some o
held_as true (Some x) h = refl
held_as true None h = absurd (let apart : false ≡ true = h.0 refl in cc)
held_as false (Some x) h = absurd (let apart : false ≡ true = h.1 refl in cc)
held_as false None h = refl

-- there is an answer for each key
pub length-held_in_turn : (s : State) (keys : List (List ℕ)) → length (held_in_turn s keys) ≡ length keys
length-held_in_turn s [] = refl
length-held_in_turn s (key ∷ keys) = ap suc (length-held_in_turn (after_erase s key) keys)

pub answers_of : (s t : Dictionary) (ks : List (List ℕ)) (answers : List Bool) → IsErasures s t ks answers → answers ≡ held_in_turn s.state ks
answers_of s t [] answers h = h.0
answers_of s t (k ∷ ks) answers h =
    h.3
    ∙ ap (λ (x : Bool). x ∷ h.2) (held_as h.1 (number_at s.state.tree k) h.4.answer)
    ∙ ap (λ (x : List Bool). is_some (number_at s.state.tree k) ∷ x) (answers_of h.0 t ks h.2 h.5 ∙ ap (λ (x : State). held_in_turn x ks) h.4.state)

pub sizes_of : (s t : Dictionary) (ks : List (List ℕ)) (answers : List Bool) → IsErasures s t ks answers → (t.size ≡ s.size) × (t.capacity ≡ s.capacity) × (t.max_trial ≡ s.max_trial) × (t.search_limit ≡ s.search_limit)
sizes_of s t [] answers h =
    (ap (λ (d : Dictionary). d.size) h.1, ap (λ (d : Dictionary). d.capacity) h.1, ap (λ (d : Dictionary). d.max_trial) h.1, ap (λ (d : Dictionary). d.search_limit) h.1)
sizes_of s t (k ∷ ks) answers h =
    let later = sizes_of h.0 t ks h.2 h.5 in
    let first = h.4 in
    (later.0 ∙ first.size.0, later.1 ∙ first.size.1, later.2 ∙ first.max_trial, later.3 ∙ first.search_limit)

-- ---- erasures, a key at a time

-- the key at an index is erased, and its result is known
pub erasure_more : (s t u : Dictionary) (keys : List (Bor (List ℕ))) (answers : List Bool) (i : ℕ) (d : Bor (List ℕ)) (held : Bool) → i < length keys → i < length answers
    → IsErasures s t (take i (keys_of keys)) (take i answers) → IsErasure t u (get_or keys i d).now held → IsErasures s u (take (i + 1) (keys_of keys)) (take (i + 1) (set answers i held))
erasure_more s t u keys answers i d held h room so_far last =
    let ks : List (List ℕ) = keys_of keys in
    let inside : i < length ks = subst (λ n. i < n) (sym (key_count keys)) h in
    let key : get_or ks i [] ≡ (get_or keys i d).now = get_or-map (λ (k : Bor (List ℕ)). k.now) keys i d [] h in
    let more : take (i + 1) ks ≡ take i ks ++ (get_or keys i d).now ∷ [] = take_more ks i [] inside ∙ ap (λ (k : List ℕ). take i ks ++ k ∷ []) key in
    subst (λ (x : List (List ℕ)). IsErasures s u x (take (i + 1) (set answers i held))) (sym more)
    (subst (λ (x : List Bool). IsErasures s u (take i ks ++ (get_or keys i d).now ∷ []) x) (sym (take_more_set answers i held room))
    (erased_more s t u (take i ks) (take i answers) (get_or keys i d).now held so_far last))

-- those behind it stay
pub behind_stay : (old answers : List Bool) (i : ℕ) (held : Bool) → drop i answers ≡ drop i old → drop (i + 1) (set answers i held) ≡ drop (i + 1) old
behind_stay old answers i held same =
    drop-set-lt (i + 1) answers i held (omega arith) ∙ sym (drop-drop 1 i answers) ∙ ap (drop 1) same ∙ drop-drop 1 i old

-- as far as keys and room go
module _ (s t : Dictionary) (keys : List (Bor (List ℕ))) (old answers : List Bool) (i : ℕ) (fewer : length keys ≤ length old → i ≡ length keys) (more : length old ≤ length keys → i ≡ length old)
    (same : length answers ≡ length old) (so_far : IsErasures s t (take i (keys_of keys)) (take i answers)) (rest : drop i answers ≡ drop i old) where
  keys_taken : take i (keys_of keys) ≡ take (length old) (keys_of keys)
  keys_taken =
      let ks : List (List ℕ) = keys_of keys in
      let all : length ks ≡ length keys = key_count keys in
      elim (cases_lt (length keys) (length old)) [
        | inl h ↦ let e = fewer (omega arith) in take_all i ks (omega arith) ∙ sym (take_all (length old) ks (omega arith))
        | inr h ↦ ap (λ n. take n ks) (more h)
      ]

  answers_taken : take i answers ≡ take (length keys) answers
  answers_taken = elim (cases_lt (length keys) (length old)) [
    | inl h ↦ ap (λ n. take n answers) (fewer (omega arith))
    | inr h ↦ let e = more h in take_all i answers (omega arith) ∙ sym (take_all (length keys) answers (omega arith))
  ]

  left_alone : drop i old ≡ drop (length keys) old
  left_alone = elim (cases_lt (length keys) (length old)) [
    | inl h ↦ ap (λ n. drop n old) (fewer (omega arith))
    | inr h ↦ let e = more h in drop_all i old (omega arith) ∙ sym (drop_all (length keys) old (omega arith))
  ]

  pub all_erasures : IsErasures s t (take (length old) (keys_of keys)) (take (length keys) answers)
  all_erasures =
      subst (λ (x : List (List ℕ)). IsErasures s t x (take (length keys) answers)) keys_taken
      (subst (λ (x : List Bool). IsErasures s t (take i (keys_of keys)) x) answers_taken so_far)

  pub all_answers : answers ≡ held_in_turn s.state (take (length old) (keys_of keys)) ++ drop (length keys) old
  all_answers =
      sym (take-append-drop i answers)
      ∙ ap (λ (x : List Bool). x ++ drop i answers) (answers_of s t (take i (keys_of keys)) (take i answers) so_far ∙ ap (held_in_turn s.state) keys_taken)
      ∙ ap (λ (x : List Bool). held_in_turn s.state (take (length old) (keys_of keys)) ++ x) (rest ∙ left_alone)
