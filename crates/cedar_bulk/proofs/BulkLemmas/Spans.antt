-- What sorted pairs say of a node: its number, its labels, and the pairs of each child.
use Rattle.std.proofs.Common.{◌≡◌, ℕ, zero, suc, ◌+◌, ◌<◌, ◌≤◌, ◌∙◌, sym, ap, subst, refl, inl, inr, arith, Bool, true, false, cond, ◌==◌, Option, Some, None, List, [], ◌∷◌, ◌++◌, map, length, take, drop, get_or, append_assoc, length-append, length-drop, ◌-◌}
use Rattle.std.proofs.lemmas.List.{drop-map, length-map, take_all, append-nil}
use Rattle.std.specs.Prelude.{ℤ, nat_lt, is_some, bit_xor}
use mir.Val.{bool_byte}
use Rattle.std.proofs.lemmas.Bool.{or_parts, true≢false}
use Rattle.std.proofs.lemmas.Bool.Decides.{eqb_tells, nat_tests}
use Rattle.cedar_model.specs.Tree.{AllAbove, Forest, none, child, Tree, has_label, is_bare, IsAscending, IsSoundBelow}
use Rattle.cedar_model.specs.Queries.{Entry, own_entry, under, walk, walk_forest}
use Rattle.cedar_model.specs.Meaning.StandsFor.{labels}
use Rattle.cedar_bulk.specs.Sorted.{entries_by, label_of, run, slot_labels}
use Rattle.cedar_bulk.specs.Spans.{Covers, first_label, first_number, IsDeeper, IsTreeOfSpan, Lists, Part, entries_behind}
use Rattle.cedar_model.specs.Edit.NodeEdits.{Above}
use Rattle.cedar_model.proofs.MeaningLemmas.AmongLabels.{above_labels}

-- ---- a key's bytes

pub drop_label : (d : ℕ) (key : List ℕ) (l : ℕ) (q : List ℕ) → drop d key ≡ l ∷ q → (get_or key d 0 ≡ l) × (drop (suc d) key ≡ q) × (d < length key)
drop_label zero [] l q e = cc
drop_label zero (b ∷ key) l q e = let first : b ≡ l = cc in let rest : key ≡ q = cc in (first, rest, omega arith)
drop_label (suc d) [] l q e = cc
drop_label (suc d) (b ∷ key) l q e = let k = drop_label d key l q e in (k.0, k.1, omega (arith, k.2))

drop_none : (d : ℕ) (key : List ℕ) → drop d key ≡ [] → length key ≤ d
drop_none zero [] e = omega arith
drop_none zero (b ∷ key) e = cc
drop_none (suc d) [] e = omega arith
drop_none (suc d) (b ∷ key) e = omega (arith, drop_none d key e)

-- ---- walks

-- a node with a number or a child has an entry
pub walk_some : (n : Option ℤ) (f : Forest) → is_bare (record { number = n; children = f }) ≡ false → IsSoundBelow f → (e : Entry) × (es : List Entry) × (own_entry n ++ walk_forest f ≡ e ∷ es)
walk_some (Some v) f b s = (([], v), walk_forest f, refl)
walk_some None none b s = absurd (true≢false b)
walk_some None (child l n u rest) b s =
    let k = walk_some n u s.3 s.4 in
    (under l k.0, map (under l) k.1 ++ walk_forest rest, ap (λ es. map (under l) es ++ walk_forest rest) k.2)

-- no entry begins with this label
abbrev NotFirst : ℕ → List Entry → Type 0
NotFirst l [] = Unit {0}
NotFirst l (([], v) ∷ es) = ⊥
NotFirst l ((m ∷ q, v) ∷ es) = m ≡ l → ⊥

not_first : (l : ℕ) (f : Forest) → has_label f l ≡ false → IsSoundBelow f → NotFirst l (walk_forest f)
not_first l none h s = tt
not_first l (child m n u rest) h s =
    let parts = or_parts (m == l) (has_label rest l) h in
    let k = walk_some n u s.3 s.4 in
    subst (λ es. NotFirst l (map (under m) es ++ walk_forest rest)) (sym k.2) (other parts.0)
  where
    other : (m == l) ≡ false → m ≡ l → ⊥
    other e same = elim (eqb_tells m l) [ inl t ↦ true≢false (sym t.0 ∙ e) | inr t ↦ t.1 same ]

-- ---- the first of some entries

abbrev first_path : List Entry → List ℕ
first_path [] = []
first_path (e ∷ es) = e.0

abbrev first_value : ℤ → List Entry → ℤ
first_value v [] = v
first_value v (e ∷ es) = e.1

abbrev later : List Entry → List Entry
later [] = []
later (e ∷ es) = es

pub some_none : {X : Type 0} (x : X) (xs : List X) → x ∷ xs ≡ [] → ⊥
some_none x xs e = cc

-- the pairs of the first child are those with its label
module _ (d l : ℕ) (rest : List Entry) (no : NotFirst l rest) where
  label_other : (p : Entry) (ps : List Entry) → rest ≡ entries_behind d (p ∷ ps) → label_of d p ≡ l → ⊥
  label_other p ps e same = by_path (drop d p.0) refl (subst (NotFirst l) e no)
    where
      by_path : (path : List ℕ) → drop d p.0 ≡ path → NotFirst l ((path, p.1) ∷ entries_behind d ps) → ⊥
      by_path [] is n = n
      by_path (m ∷ q) is n = n (sym (drop_label d p.0 m q is).0 ∙ same)

  pub run_other : (p : Entry) (ps : List Entry) → (label_of d p ≡ l → ⊥) → run d l (p ∷ ps) ≡ 0
  run_other p ps n = elim (eqb_tells (label_of d p) l) [
    | inl t ↦ absurd (n t.1)
    | inr t ↦ ap (λ b. cond b (1 + run d l ps) 0) t.0
  ]

  pub run_same : (p : Entry) (ps : List Entry) → label_of d p ≡ l → run d l (p ∷ ps) ≡ 1 + run d l ps
  run_same p ps e = elim (eqb_tells (label_of d p) l) [
    | inl t ↦ ap (λ b. cond b (1 + run d l ps) 0) t.0
    | inr t ↦ absurd (t.1 e)
  ]

  run_split : (es : List Entry) (ps : List Entry) → map (under l) es ++ rest ≡ entries_behind d ps
      → (run d l ps ≡ length es) × (entries_behind (suc d) (take (length es) ps) ≡ es) × (entries_behind d (drop (length es) ps) ≡ rest) × (length es ≤ length ps)
  run_split [] [] e = (refl, refl, sym e, omega arith)
  run_split [] (p ∷ ps) e = (run_other p ps (label_other p ps e), refl, sym e, omega arith)
  run_split (w ∷ es) [] e = absurd (some_none (under l w) (map (under l) es ++ rest) e)
  run_split (w ∷ es) (p ∷ ps) e =
      let path : drop d p.0 ≡ l ∷ w.0 = sym (ap first_path e) in
      let value : p.1 ≡ w.1 = sym (ap (first_value p.1) e) in
      let key = drop_label d p.0 l w.0 path in
      let more = run_split es ps (ap later e) in
      let entry : ◌≡◌ {A = Entry} (drop (suc d) p.0, p.1) w = ap (λ q. (q, p.1)) key.1 ∙ ap (λ v. (w.0, v)) value in (
        omega (arith, run_same p ps key.0, more.0),
        ap (λ x. x ∷ entries_behind (suc d) (take (length es) ps)) entry ∙ ap (λ xs. w ∷ xs) more.1,
        more.2,
        omega (arith, more.3),
      )

-- ---- what a node's pairs say

-- its number
pub number_first : (d : ℕ) (n : Option ℤ) (f : Forest) (p : Entry) (ps : List Entry) → own_entry n ++ walk_forest f ≡ entries_behind d (p ∷ ps) → IsSoundBelow f
    → (first_number d (p ∷ ps) ≡ n) × (walk_forest f ≡ entries_behind d (drop (cond (is_some n) 1 0) (p ∷ ps)))
number_first d (Some v) f p ps e s =
    let path : drop d p.0 ≡ [] = sym (ap first_path e) in
    let value : p.1 ≡ v = sym (ap (first_value p.1) e) in
    let short : length p.0 ≤ d = drop_none d p.0 path in
    let test : nat_lt d (length p.0) ≡ false = grind (arith, nat_tests) in
    (ap (λ b. cond b None (Some p.1)) test ∙ ap Some value, ap later e)
number_first d None none p ps e s = absurd (some_none (drop d p.0, p.1) (entries_behind d ps) (sym e))
number_first d None (child l n u rest) p ps e s =
    let k = walk_some n u s.3 s.4 in
    let begins : under l k.0 ∷ (map (under l) k.1 ++ walk_forest rest) ≡ entries_behind d (p ∷ ps) = sym (ap (λ es. map (under l) es ++ walk_forest rest) k.2) ∙ e in
    let path : drop d p.0 ≡ l ∷ k.0.0 = sym (ap first_path begins) in
    let long : d < length p.0 = (drop_label d p.0 l k.0.0 path).2 in
    let test : nat_lt d (length p.0) ≡ true = grind (arith, nat_tests) in
    (ap (λ b. cond b None (Some p.1)) test, e)

-- no pair, no child
pub lists_none : (d : ℕ) (f : Forest) → Lists d [] f → f ≡ none
lists_none d none k = refl
lists_none d (child l n u rest) k =
    let w = walk_some n u k.sound.3 k.sound.4 in
    absurd (some_none (under l w.0) (map (under l) w.1 ++ walk_forest rest) (sym (ap (λ es. map (under l) es ++ walk_forest rest) w.2) ∙ k.walks))

-- its first child
pub record First (d : ℕ) (p : Entry) (ps : List Entry) (f : Forest) : Type 0 where
  pub label : ℕ
  pub number : Option ℤ
  pub below : Forest
  pub rest : Forest
  pub is : f ≡ child label number below rest
  pub same_label : label_of d p ≡ label
  pub long : d < length p.0
  pub some : 0 < run d label (p ∷ ps)
  pub few : run d label (p ∷ ps) ≤ length (p ∷ ps)
  pub walks : walk (record { number = number; children = below }) ≡ entries_behind (suc d) (take (run d label (p ∷ ps)) (p ∷ ps))
  pub others : Lists d (drop (run d label (p ∷ ps)) (p ∷ ps)) rest

pub first_of : (d : ℕ) (p : Entry) (ps : List Entry) (f : Forest) → Lists d (p ∷ ps) f → First d p ps f
first_of d p ps none k = absurd (some_none (drop d p.0, p.1) (entries_behind d ps) (sym k.walks))
first_of d p ps (child l n u rest) k =
    let w = walk_some n u k.sound.3 k.sound.4 in
    let es : List Entry = own_entry n ++ walk_forest u in
    let begins : under l w.0 ∷ (map (under l) w.1 ++ walk_forest rest) ≡ entries_behind d (p ∷ ps) = sym (ap (λ xs. map (under l) xs ++ walk_forest rest) w.2) ∙ k.walks in
    let path : drop d p.0 ≡ l ∷ w.0.0 = sym (ap first_path begins) in
    let split = run_split d l (walk_forest rest) (not_first l rest k.sound.2 k.sound.5) es (p ∷ ps) k.walks in
    let count : run d l (p ∷ ps) ≡ length es = split.0 in
    let long : length es ≡ suc (length w.1) = ap length w.2 in
    record {
      label = l;
      number = n;
      below = u;
      rest = rest;
      is = refl;
      same_label = (drop_label d p.0 l w.0.0 path).0;
      long = (drop_label d p.0 l w.0.0 path).2;
      some = omega (arith, count, long);
      few = omega (arith, count, split.3);
      walks = sym (ap (λ m. entries_behind (suc d) (take m (p ∷ ps))) count ∙ split.1);
      others = record { walks = sym (ap (λ m. entries_behind d (drop m (p ∷ ps))) count ∙ split.2); sound = k.sound.5; ascending = k.ascending.2 };
    }

-- ---- a scan for the labels

-- the labels that were found and those of the children that are left are all; each of these is above low
pub record Scan (d : ℕ) (ps : List Entry) (f : Forest) (number : Option ℤ) (found : List ℕ) : Type 0 where
  pub todo : Forest
  pub lists : Lists d ps todo
  pub low : ℕ
  pub above : AllAbove low todo
  pub count : length found ≤ low + 1
  pub whole : found ++ labels todo ≡ slot_labels number (labels f)

pub all_positive : (f : Forest) → IsSoundBelow f → AllAbove 0 f
all_positive none s = tt
all_positive (child l n u rest) s = (s.0, all_positive rest s.5)

pub scan_begins : (d : ℕ) (ps : List Entry) (f : Forest) (number : Option ℤ) (found : List ℕ) → found ≡ slot_labels number [] → Lists d ps f → Scan d ps f number found
scan_begins d ps f number found e k = record {
  todo = f;
  lists = k;
  low = 0;
  above = all_positive f k.sound;
  count = subst (λ xs. length xs ≤ 1) (sym e) (one number);
  whole = subst (λ xs. xs ++ labels f ≡ slot_labels number (labels f)) (sym e) (all number);
}
  where
    one : (o : Option ℤ) → length (slot_labels o []) ≤ 1
    one None = omega arith
    one (Some v) = omega arith

    all : (o : Option ℤ) → slot_labels o [] ++ labels f ≡ slot_labels o (labels f)
    all None = refl
    all (Some v) = refl

module _ (d : ℕ) (p : Entry) (ps : List Entry) (f : Forest) (number : Option ℤ) (found : List ℕ) (k : Scan d (p ∷ ps) f number found) where
  next : First d p ps k.todo
  next = first_of d p ps k.todo k.lists

  low_less : k.low < next.label
  low_less = (subst (AllAbove k.low) next.is k.above).0

  small : next.label < 256
  small = (subst IsSoundBelow next.is k.lists.sound).1

  pub scan_room : length found < 256
  scan_room = omega (arith, k.count, low_less, small)

  pub scan_moves : (0 < run d (label_of d p) (p ∷ ps)) × (run d (label_of d p) (p ∷ ps) ≤ length (p ∷ ps))
  scan_moves = subst (λ l. (0 < run d l (p ∷ ps)) × (run d l (p ∷ ps) ≤ length (p ∷ ps))) (sym next.same_label) (next.some, next.few)

  pub scan_on : Scan d (drop (run d (label_of d p) (p ∷ ps)) (p ∷ ps)) f number (found ++ label_of d p ∷ [])
  scan_on = subst (λ l. Scan d (drop (run d l (p ∷ ps)) (p ∷ ps)) f number (found ++ l ∷ [])) (sym next.same_label) (record {
    todo = next.rest;
    lists = next.others;
    low = next.label;
    above = (subst IsAscending next.is k.lists.ascending).0;
    count = omega (arith, length-append found (next.label ∷ []), k.count, low_less);
    whole = append_assoc found (next.label ∷ []) (labels next.rest) ∙ ap (λ g. found ++ labels g) (sym next.is) ∙ k.whole;
  })

pub scan_ends : (d : ℕ) (f : Forest) (number : Option ℤ) (found : List ℕ) → Scan d [] f number found → found ≡ slot_labels number (labels f)
scan_ends d f number found k = sym (append-nil found) ∙ ap (λ g. found ++ labels g) (sym (lists_none d k.todo k.lists)) ∙ k.whole

-- ---- a scan for the spans

pub record Pushed (d : ℕ) (ps : List Entry) (f : Forest) (base : ℕ) (old new : List Part) : Type 0 where
  pub todo : Forest
  pub lists : Lists d ps todo
  pub spans : List Part
  pub whole : new ≡ old ++ spans
  pub covers : Covers base spans f todo

append_none : (xs : List Part) → xs ++ [] ≡ xs
append_none [] = refl
append_none (x ∷ xs) = ap (λ ys. x ∷ ys) (append_none xs)

pub push_begins : (d : ℕ) (ps : List Entry) (f : Forest) (base : ℕ) (old : List Part) → Lists d ps f → Pushed d ps f base old old
push_begins d ps f base old k = record { todo = f; lists = k; spans = []; whole = sym (append_none old); covers = refl }

covers_more : (base : ℕ) (spans : List Part) (f : Forest) (l : ℕ) (n : Option ℤ) (u rest : Forest) (s : Part) → Covers base spans f (child l n u rest) → s.node ≡ bit_xor base l → walk (record { number = n; children = u }) ≡ entries_behind s.depth s.entries
    → Covers base (spans ++ s ∷ []) f rest
covers_more base [] f l n u rest s c node walks = subst (λ g. Covers base (s ∷ []) g rest) (sym c) (node, walks, refl)
covers_more base (x ∷ spans) none l n u rest s c node walks = absurd c
covers_more base (x ∷ spans) (child m k v more) l n u rest s c node walks = (c.0, c.1, covers_more base spans more l n u rest s c.2 node walks)

pub push_on : (d : ℕ) (p : Entry) (ps : List Entry) (f : Forest) (base : ℕ) (old new new' : List Part) (s : Part) → Pushed d (p ∷ ps) f base old new → new' ≡ new ++ s ∷ []
    → s.node ≡ bit_xor base (label_of d p) → s.depth ≡ suc d → s.entries ≡ take (run d (label_of d p) (p ∷ ps)) (p ∷ ps) → Pushed d (drop (run d (label_of d p) (p ∷ ps)) (p ∷ ps)) f base old new'
push_on d p ps f base old new new' s k more node depth pairs =
    let next = first_of d p ps k.todo k.lists in
    let label = next.same_label in
    record {
      todo = next.rest;
      lists = subst (λ l. Lists d (drop (run d l (p ∷ ps)) (p ∷ ps)) next.rest) (sym label) next.others;
      spans = k.spans ++ s ∷ [];
      whole = more ∙ ap (λ xs. xs ++ s ∷ []) k.whole ∙ append_assoc old k.spans (s ∷ []);
      covers = covers_more base k.spans f next.label next.number next.below next.rest s (subst (Covers base k.spans f) next.is k.covers) (node ∙ ap (bit_xor base) label)
          (next.walks ∙ ap (λ l. entries_behind (suc d) (take (run d l (p ∷ ps)) (p ∷ ps))) (sym label) ∙ sym (ap (λ m. entries_behind m (take (run d (label_of d p) (p ∷ ps)) (p ∷ ps))) depth) ∙ ap (entries_behind s.depth) (sym pairs));
    }

pub push_ends : (d : ℕ) (f : Forest) (base : ℕ) (old new : List Part) → Pushed d [] f base old new → (spans : List Part) × (new ≡ old ++ spans) × Covers base spans f none
push_ends d f base old new k = (k.spans, k.whole, subst (Covers base k.spans f) (lists_none d k.todo k.lists) k.covers)

-- ---- pairs as entries

module _ {K : Type 0} (bytes : K → List ℕ) where
  pub as_many : (pairs : List (K × ℤ)) → length (entries_by bytes pairs) ≡ length pairs
  as_many pairs = length-map pairs (λ (q : K × ℤ). (bytes q.0, q.1))

  -- those behind the first ones
  pub back_is : (n : ℕ) (pairs : List (K × ℤ)) → entries_by bytes (drop n pairs) ≡ drop n (entries_by bytes pairs)
  back_is n pairs = sym (drop-map (λ (q : K × ℤ). (bytes q.0, q.1)) n pairs)

  -- the first ones
  pub front_is : (n : ℕ) (pairs : List (K × ℤ)) → entries_by bytes (take n pairs) ≡ take n (entries_by bytes pairs)
  front_is zero pairs = refl
  front_is (suc n) [] = refl
  front_is (suc n) (p ∷ ps) = ap (λ (es : List Entry). (bytes p.0, p.1) ∷ es) (front_is n ps)

  -- a part up to the end
  pub part_is : (pairs : List (K × ℤ)) (i : ℕ) → entries_by bytes (take (length pairs - i) (drop i pairs)) ≡ drop i (entries_by bytes pairs)
  part_is pairs i = ap (entries_by bytes) (take_all (length pairs - i) (drop i pairs) (omega (arith, length-drop i pairs))) ∙ back_is i pairs

  pub part_some : (pairs : List (K × ℤ)) (i : ℕ) → i < length pairs → 0 < length (drop i (entries_by bytes pairs))
  part_some pairs i h = omega (arith, length-drop i (entries_by bytes pairs), as_many pairs)

  pub part_none : (pairs : List (K × ℤ)) (i : ℕ) → length pairs ≤ i → drop i (entries_by bytes pairs) ≡ []
  part_none pairs i h = empty (drop i (entries_by bytes pairs)) (omega (arith, length-drop i (entries_by bytes pairs), as_many pairs))
    where
      empty : (xs : List Entry) → length xs ≡ 0 → xs ≡ []
      empty [] e = refl
      empty (x ∷ xs) e = absurd (omega (arith, e))

module _ (d : ℕ) (f : Forest) where
  pub scan_room_at : (number : Option ℤ) (found : List ℕ) (rest : List Entry) → 0 < length rest → Scan d rest f number found → length found < 256
  scan_room_at number found [] some k = absurd (omega (arith, some))
  scan_room_at number found (p ∷ ps) some k = scan_room d p ps f number found k

  pub scan_on_at : (number : Option ℤ) (found found' : List ℕ) (rest : List Entry) (l count : ℕ) → 0 < length rest → Scan d rest f number found → l ≡ first_label d rest → count ≡ run d l rest → found' ≡ found ++ l ∷ [] → (0 < count) × Scan d (drop count rest) f number found'
  scan_on_at number found found' [] l count some k label is more = absurd (omega (arith, some))
  scan_on_at number found found' (p ∷ ps) l count some k label is more =
      let same : count ≡ run d (label_of d p) (p ∷ ps) = is ∙ ap (λ x. run d x (p ∷ ps)) label in (
        subst (λ n. 0 < n) (sym same) (scan_moves d p ps f number found k).0,
        subst (λ n. Scan d (drop n (p ∷ ps)) f number found') (sym same)
            (subst (Scan d (drop (run d (label_of d p) (p ∷ ps)) (p ∷ ps)) f number) (ap (λ x. found ++ x ∷ []) (sym label) ∙ sym more) (scan_on d p ps f number found k)),
      )

  pub deeper_at : (base : ℕ) (old new : List Part) (rest : List Entry) → 0 < length rest → Pushed d rest f base old new → IsDeeper d rest
  deeper_at base old new [] some k = absurd (omega (arith, some))
  deeper_at base old new (p ∷ ps) some k = (first_of d p ps k.todo k.lists).long

  pub push_on_at : (base : ℕ) (old new new' : List Part) (rest : List Entry) (s : Part) (l count : ℕ) → 0 < length rest → Pushed d rest f base old new → l ≡ first_label d rest → count ≡ run d l rest → new' ≡ new ++ s ∷ []
      → s.node ≡ bit_xor base l → s.depth ≡ suc d → s.entries ≡ take count rest → (0 < count) × Pushed d (drop count rest) f base old new'
  push_on_at base old new new' [] s l count some k label is more node depth pairs = absurd (omega (arith, some))
  push_on_at base old new new' (p ∷ ps) s l count some k label is more node depth pairs =
      let same : count ≡ run d (label_of d p) (p ∷ ps) = is ∙ ap (λ x. run d x (p ∷ ps)) label in
      let next = first_of d p ps k.todo k.lists in (
        subst (λ n. 0 < n) (ap (λ x. run d x (p ∷ ps)) (sym next.same_label) ∙ sym same) next.some,
        subst (λ n. Pushed d (drop n (p ∷ ps)) f base old new') (sym same)
            (push_on d p ps f base old new new' s k more (node ∙ ap (bit_xor base) label) depth (pairs ∙ ap (λ n. take n (p ∷ ps)) same)),
      )

-- ---- a span's tree

pub record Below (d : ℕ) (ps : List Entry) (t : Tree) (number : Option ℤ) (skipped : ℕ) : Type 0 where
  pub number_is : number ≡ t.number
  pub few : skipped ≤ length ps
  pub lists : Lists d (drop skipped ps) t.children
  pub wanted : drop skipped (slot_labels number (labels t.children)) ≡ labels t.children
  pub wanted_more : skipped ≤ length (slot_labels number (labels t.children))
  pub some : 0 < length (slot_labels number (labels t.children))
  pub most : length (slot_labels number (labels t.children)) ≤ 256
  pub ascends : Above 0 (labels t.children)

-- labels are bytes, so there are not many
few_labels : (low : ℕ) (f : Forest) → AllAbove low f → IsAscending f → IsSoundBelow f → low < 256 → length (labels f) + low ≤ 255
few_labels low none a s b small = omega (arith, small)
few_labels low (child l n u rest) a s b small = omega (arith, a.0, few_labels l rest s.0 s.2 b.5 b.1)

pub below_is : (d : ℕ) (ps : List Entry) (t : Tree) (number : Option ℤ) (skipped : ℕ) → IsTreeOfSpan d ps t → number ≡ first_number d ps → skipped ≡ cond (is_some number) 1 0 → Below d ps t number skipped
below_is d [] t number skipped k is count =
    let w = walk_some t.number t.children k.some k.sound in
    absurd (some_none w.0 w.1 (sym w.2 ∙ k.walks))
below_is d (p ∷ ps) t number skipped k is count =
    let first = number_first d t.number t.children p ps k.walks k.sound in
    let same : number ≡ t.number = is ∙ first.0 in
    let count_is : skipped ≡ cond (is_some t.number) 1 0 = count ∙ ap (λ o. cond (is_some o) 1 0) same in
    let up = above_labels 0 t.children (all_positive t.children k.sound) k.ascending in
    let few : length (labels t.children) + 0 ≤ 255 = few_labels 0 t.children (all_positive t.children k.sound) k.ascending k.sound (omega arith) in
    let w = by_number t.number skipped t.children count_is k.some few in
    record {
      number_is = same;
      few = w.0;
      lists = record { walks = first.1 ∙ ap (λ n. entries_behind d (drop n (p ∷ ps))) (sym count_is); sound = k.sound; ascending = k.ascending };
      wanted = subst (λ o. drop skipped (slot_labels o (labels t.children)) ≡ labels t.children) (sym same) w.1;
      wanted_more = subst (λ o. skipped ≤ length (slot_labels o (labels t.children))) (sym same) w.2;
      some = subst (λ o. 0 < length (slot_labels o (labels t.children))) (sym same) w.3;
      most = subst (λ o. length (slot_labels o (labels t.children)) ≤ 256) (sym same) w.4;
      ascends = up;
    }
  where
    by_number : (o : Option ℤ) (s : ℕ) (f : Forest) → s ≡ cond (is_some o) 1 0 → is_bare (record { number = o; children = f }) ≡ false → length (labels f) + 0 ≤ 255
        → (s ≤ length (p ∷ ps)) × (drop s (slot_labels o (labels f)) ≡ labels f) × (s ≤ length (slot_labels o (labels f))) × (0 < length (slot_labels o (labels f))) × (length (slot_labels o (labels f)) ≤ 256)
    by_number None s f e b few = (omega (arith, e), ap (λ m. drop m (labels f)) e, omega (arith, e), has_label_some f b, omega (arith, few))
      where
        has_label_some : (g : Forest) → is_bare (record { number = None; children = g }) ≡ false → 0 < length (labels g)
        has_label_some none bare = absurd (true≢false bare)
        has_label_some (child l n u rest) bare = omega arith
    by_number (Some v) s f e b few = (omega (arith, e), ap (λ m. drop m (0 ∷ labels f)) e, omega (arith, e), omega arith, omega (arith, few))

pub bit_is : (s : ℕ) (b : Bool) (o : Option ℤ) → s ≡ bool_byte b → b ≡ is_some o → s ≡ cond (is_some o) 1 0
bit_is s b o e is = e ∙ by_bool b ∙ ap (λ x. cond x 1 0) is
  where
    by_bool : (x : Bool) → bool_byte x ≡ cond x 1 0
    by_bool true = refl
    by_bool false = refl
