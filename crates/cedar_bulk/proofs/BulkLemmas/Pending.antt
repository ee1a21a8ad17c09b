-- Nodes that wait for their trees.
use Rattle.std.proofs.Common.{◌≡◌, ℕ, suc, ◌+◌, ◌<◌, ◌≤◌, ◌⊎◌, ◌∙◌, sym, ap, subst, refl, inl, inr, arith, true, Option, Some, None, List, [], ◌∷◌, ◌++◌, map, length, length-append}
use Rattle.std.specs.Prelude.{ℤ, bit_xor}
use Rattle.std.proofs.lemmas.Bool.{true≢false}
use Rattle.std.proofs.lemmas.Bool.Decides.{eqb_tells}
use Rattle.std.proofs.lemmas.List.{length-map}
use Rattle.cedar_model.specs.Tree.{AllNumbers, Forest, none, child, Tree, IsAscending, IsSoundBelow}
use Rattle.cedar_model.specs.Queries.{Entry, own_entry, prefixes_forest, under, walk, walk_forest}
use Rattle.cedar_model.specs.Edits.{edit_at}
use Rattle.cedar_model.specs.declared.layout.Stored.TheVariants.{AtBase}
use Rattle.cedar_bulk.specs.declared.spans.Span.{Span}
use Rattle.cedar_model.specs.Table.Cells.{Cells, Held}
use Rattle.cedar_model.specs.Edit.NodeEdits.{IsAt}
use Rattle.cedar_model.specs.Meaning.Family.{Among}
use Rattle.cedar_model.specs.Meaning.StandsFor.{labels}
use Rattle.cedar_bulk.specs.Sorted.{leaves}
use Rattle.cedar_bulk.specs.Spans.{entry_bytes, Covers, Distinct, IsTreeOfSpan, nodes_of, Part, part_of, parts_of, Pending, entries_behind, work}
use Rattle.cedar_model.specs.Meaning.WellFormed.{is_value}
use Rattle.cedar_model.proofs.MeaningLemmas.SearchStep.{has_among}
use Rattle.cedar_bulk.proofs.BulkLemmas.OneAfterAnother.{edit_below, edit_twice}
use Rattle.cedar_bulk.proofs.BulkLemmas.Spans.{walk_some}
use Rattle.cedar_model.proofs.MeaningLemmas.ExclusiveOr.{xor_injective}
use Rattle.cedar_model.proofs.MeaningLemmas.AmongLabels.{among_front, among_join, among_last, among_push}

-- ---- spans as specs speak of them

pub parts_last : {K : Type 0} (bytes : K → List ℕ) (spans : List (Span K)) (span : Span K) → parts_of bytes (spans ++ span ∷ []) ≡ parts_of bytes spans ++ part_of bytes span ∷ []
parts_last bytes [] span = refl
parts_last bytes (s ∷ spans) span = ap (λ ps. part_of bytes s ∷ ps) (parts_last bytes spans span)

-- ---- the last ones first

pub pending_join : (T : Cells) (ps cs : List Part) (f h g : Forest) (m k : ℕ) → Pending T cs f h m → Pending T ps h g k → Pending T (ps ++ cs) f g (m + k)
pending_join T [] cs f h g m k c p = subst (λ x. Pending T cs f x (m + k)) p.0 (subst (Pending T cs f h) (omega (arith, p.1)) c)
pending_join T (s ∷ ps) cs f h g m k c (w, t, h₀, k₀, awaits, edits, count, rest) =
    (w, t, h₀, m + k₀, awaits, edits, omega (arith, count), pending_join T ps cs f h h₀ m k₀ c rest)

pub pending_split : (T : Cells) (ps : List Part) (s : Part) (f g : Forest) (n : ℕ) → Pending T (ps ++ s ∷ []) f g n → (h : Forest) × (m : ℕ) × (k : ℕ) × (n ≡ m + k) × Pending T (s ∷ []) f h m × Pending T ps h g k
pending_split T [] s f g n p = (g, n, 0, omega arith, p, (refl, refl))
pending_split T (x ∷ ps) s f g n (w, t, h₀, k₀, awaits, edits, count, rest) =
    let r = pending_split T ps s f h₀ k₀ rest in
    (r.0, r.1, 1 + length (prefixes_forest t.children) + r.2, omega (arith, count, r.3), r.4, (w, t, h₀, r.2, awaits, edits, refl, r.5))

-- ---- what others wait for stays

pub pending_at : (T : Cells) (ps : List Part) (f g : Forest) (n : ℕ) → Pending T ps f g n → (x : ℕ) → Among (nodes_of ps) x → (w : List ℕ) × IsAt T w x
pending_at T [] f g n p x among = absurd among
pending_at T (s ∷ ps) f g n (w, t, h₀, k₀, awaits, edits, count, rest) x (inl e) = (w, subst (IsAt T w) e awaits.at)
pending_at T (s ∷ ps) f g n (w, t, h₀, k₀, awaits, edits, count, rest) x (inr h) = pending_at T ps f h₀ k₀ rest x h

pub pending_kept : (T T' : Cells) (ps : List Part) (f g : Forest) (n : ℕ) → ((w : List ℕ) (s : ℕ) → IsAt T w s → IsAt T' w s) → ((x : ℕ) → Among (nodes_of ps) x → T.stored x ≡ AtBase 0 → T'.stored x ≡ AtBase 0)
    → Pending T ps f g n → Pending T' ps f g n
pending_kept T T' [] f g n paths leaf p = p
pending_kept T T' (s ∷ ps) f g n paths leaf (w, t, h₀, k₀, awaits, edits, count, rest) = (
  w,
  t,
  h₀,
  k₀,
  record { at = paths w s.node awaits.at; leaf = leaf s.node (inl refl) awaits.leaf; not_root = awaits.not_root; tree = awaits.tree },
  edits,
  count,
  pending_kept T T' ps f h₀ k₀ paths (λ x h. leaf x (inr h)) rest,
)

-- ---- the children of a node that was filled

-- leaves with these labels before some siblings
abbrev onto : List ℕ → Forest → Forest
onto [] m = m
onto (x ∷ xs) m = child x None none (onto xs m)

onto_last : (xs : List ℕ) (x : ℕ) (m : Forest) → onto (xs ++ x ∷ []) m ≡ onto xs (child x None none m)
onto_last [] x m = refl
onto_last (y ∷ ys) x m = ap (child y None none) (onto_last ys x m)

edit_onto : (xs : List ℕ) (l : ℕ) (n : Option ℤ) (u rest : Forest) → (Among xs l → ⊥) → edit_at (l ∷ []) (λ _. n) (λ _. u) (onto xs (child l None none rest)) ≡ onto xs (child l n u rest)
edit_onto [] l n u rest apart = elim (eqb_tells l l) [
  | inl t ↦ rw t.0 refl
  | inr t ↦ absurd (t.1 refl)
]
edit_onto (x ∷ xs) l n u rest apart = elim (eqb_tells x l) [
  | inl t ↦ absurd (apart (inl t.1))
  | inr t ↦ rw t.0 (ap (child x None none) (edit_onto xs l n u rest (λ h. apart (inr h))))
]

count_child : (l : ℕ) (n : Option ℤ) (u rest : Forest) → length (prefixes_forest (child l n u rest)) ≡ 1 + length (prefixes_forest u) + length (prefixes_forest rest)
count_child l n u rest =
    let joined = length-append (map (λ (p : List ℕ). l ∷ p) (prefixes_forest u)) (prefixes_forest rest) in
    let mapped = length-map {A = List ℕ} {B = List ℕ} (prefixes_forest u) (λ p. l ∷ p) in
    omega (arith, joined, mapped)

module _ (T : Cells) (f : Forest) (w : List ℕ) (number : Option ℤ) (base : ℕ) where
  -- the node with these children
  abbrev with_children : Forest → Forest
  with_children m = edit_at w (λ _. number) (λ _. m) f

  one_filled : (xs : List ℕ) (l : ℕ) (n : Option ℤ) (u rest : Forest) → (Among xs l → ⊥) → edit_at (w ++ l ∷ []) (λ _. n) (λ _. u) (with_children (onto xs (child l None none rest))) ≡ with_children (onto xs (child l n u rest))
  one_filled xs l n u rest apart =
      edit_below w l (λ _. n) (λ _. u) (with_children (onto xs (child l None none rest)))
      ∙ edit_twice w (λ _. number) (λ x. x) (λ _. onto xs (child l None none rest)) (edit_at (l ∷ []) (λ _. n) (λ _. u)) f
      ∙ ap with_children (edit_onto xs l n u rest apart)

  pub children_wait : (cs : List Part) (xs : List ℕ) (c : Forest) → Covers base cs c none → IsSoundBelow c → IsAscending c → AllNumbers (λ v. is_value v ≡ true) c → ((l : ℕ) → Among (labels c) l → Among xs l → ⊥)
      → ((l : ℕ) → Among (labels c) l → IsAt T (w ++ l ∷ []) (bit_xor base l) × (T.stored (bit_xor base l) ≡ AtBase 0) × (bit_xor base l ≡ 0 → ⊥))
      → Pending T cs (with_children (onto xs (leaves (labels c)))) (with_children (onto xs c)) (length (prefixes_forest c))
  children_wait [] xs c covers sound ascending values apart there = by_none covers
    where
      by_none : c ≡ none → Pending T [] (with_children (onto xs (leaves (labels c)))) (with_children (onto xs c)) (length (prefixes_forest c))
      by_none e = subst (λ g. Pending T [] (with_children (onto xs (leaves (labels g)))) (with_children (onto xs g)) (length (prefixes_forest g))) (sym e) (refl, refl)
  children_wait (s ∷ cs) xs none covers sound ascending values apart there = absurd covers
  children_wait (s ∷ cs) xs (child l n u rest) covers sound ascending values apart there =
      let here = there l (inl refl) in
      let later = children_wait cs (xs ++ l ∷ []) rest covers.2 sound.5 ascending.2 values.2 (λ m among end. by_end m among (among_push xs l m end)) (λ m among. there m (inr among)) in (
        w ++ l ∷ [],
        record { number = n; children = u },
        with_children (onto xs (child l None none rest)),
        length (prefixes_forest rest),
        record {
          at = subst (IsAt T (w ++ l ∷ [])) (sym covers.0) here.0;
          leaf = subst (λ x. T.stored x ≡ AtBase 0) (sym covers.0) here.1;
          not_root = λ z. here.2 (sym covers.0 ∙ z);
          tree = record { walks = covers.1; some = sound.3; sound = sound.4; ascending = ascending.1; values = (values.0, values.1) };
        },
        one_filled xs l n u rest (apart l (inl refl)),
        count_child l n u rest,
        subst (λ g. Pending T cs (with_children g) (with_children (onto xs (child l None none rest))) (length (prefixes_forest rest))) (onto_last xs l (leaves (labels rest)))
            (subst (λ g. Pending T cs (with_children (onto (xs ++ l ∷ []) (leaves (labels rest)))) (with_children g) (length (prefixes_forest rest))) (onto_last xs l rest) later),
      )
    where
      by_end : (m : ℕ) → Among (labels rest) m → Among xs m ⊎ (l ≡ m) → ⊥
      by_end m among (inl h) = apart m (inr among) h
      by_end m among (inr e) = true≢false (sym (has_among rest l (subst (Among (labels rest)) (sym e) among)) ∙ sound.2)

-- ---- their slots are different

covers_node : (base : ℕ) (cs : List Part) (c : Forest) → Covers base cs c none → (x : ℕ) → Among (nodes_of cs) x → (l : ℕ) × Among (labels c) l × (x ≡ bit_xor base l)
covers_node base [] c covers x among = absurd among
covers_node base (s ∷ cs) none covers x among = absurd covers
covers_node base (s ∷ cs) (child l n u rest) covers x (inl e) = (l, inl refl, sym e ∙ covers.0)
covers_node base (s ∷ cs) (child l n u rest) covers x (inr h) = let k = covers_node base cs rest covers.2 x h in (k.0, inr k.1, k.2)

pub covers_distinct : (base : ℕ) (cs : List Part) (c : Forest) → Covers base cs c none → IsSoundBelow c → Distinct (nodes_of cs)
covers_distinct base [] c covers sound = tt
covers_distinct base (s ∷ cs) none covers sound = absurd covers
covers_distinct base (s ∷ cs) (child l n u rest) covers sound = (
  λ among.
      let k = covers_node base cs rest covers.2 s.node among in
      let same : l ≡ k.0 = xor_injective base l k.0 (sym covers.0 ∙ k.2) in
      true≢false (sym (has_among rest l (subst (Among (labels rest)) (sym same) k.1)) ∙ sound.2),
  covers_distinct base cs rest covers.2 sound.5,
)

distinct_join : (xs ys : List ℕ) → Distinct xs → Distinct ys → ((x : ℕ) → Among xs x → Among ys x → ⊥) → Distinct (xs ++ ys)
distinct_join [] ys dx dy apart = dy
distinct_join (x ∷ xs) ys dx dy apart = (λ h. by_part (among_join xs ys x h), distinct_join xs ys dx.1 dy (λ y h. apart y (inr h)))
  where
    by_part : Among xs x ⊎ Among ys x → ⊥
    by_part (inl h) = dx.0 h
    by_part (inr h) = apart x (inl refl) h

distinct_front : (xs : List ℕ) (y : ℕ) → Distinct (xs ++ y ∷ []) → Distinct xs × (Among xs y → ⊥)
distinct_front [] y d = (tt, λ h. absurd h)
distinct_front (x ∷ xs) y d =
    let k = distinct_front xs y d.1 in
    ((λ h. d.0 (among_front xs (y ∷ []) x h), k.0), λ h. by_first h k.1)
  where
    by_first : Among (x ∷ xs) y → (Among xs y → ⊥) → ⊥
    by_first (inl e) n = d.0 (subst (Among (xs ++ y ∷ [])) (sym e) (among_last xs y))
    by_first (inr h) n = n h

nodes_join : (ps cs : List Part) → nodes_of (ps ++ cs) ≡ nodes_of ps ++ nodes_of cs
nodes_join [] cs = refl
nodes_join (p ∷ ps) cs = ap (λ xs. p.node ∷ xs) (nodes_join ps cs)

-- the last one's slot is none of the others'
pub last_apart : (ps : List Part) (s : Part) → Distinct (nodes_of (ps ++ s ∷ [])) → Among (nodes_of ps) s.node → ⊥
last_apart ps s d = (distinct_front (nodes_of ps) s.node (subst Distinct (nodes_join ps (s ∷ [])) d)).1

-- the slots that were free before are new ones
pub distinct_on : (T : Cells) (ps : List Part) (s : Part) (base : ℕ) (cs : List Part) (c : Forest) → Distinct (nodes_of (ps ++ s ∷ [])) → Covers base cs c none → IsSoundBelow c → ((x : ℕ) → Among (nodes_of ps) x → Held T x) → ((l : ℕ) → Among (labels c) l → Held T (bit_xor base l) → ⊥)
    → Distinct (nodes_of (ps ++ cs))
distinct_on T ps s base cs c d covers sound held fresh =
    subst Distinct (sym (nodes_join ps cs))
    (distinct_join (nodes_of ps) (nodes_of cs) (distinct_front (nodes_of ps) s.node (subst Distinct (nodes_join ps (s ∷ [])) d)).0 (covers_distinct base cs c covers sound)
    (λ x old new. let k = covers_node base cs c covers x new in fresh k.0 k.1 (subst (Held T) k.2 (held x old))))

-- ---- less is left to do

pub bytes_join : (xs ys : List Entry) → entry_bytes (xs ++ ys) ≡ entry_bytes xs + entry_bytes ys
bytes_join [] ys = omega arith
bytes_join (e ∷ xs) ys = omega (arith, bytes_join xs ys)

bytes_under : (l : ℕ) (es : List Entry) → entry_bytes (map (under l) es) ≡ entry_bytes es + length es
bytes_under l [] = omega arith
bytes_under l (e ∷ es) = omega (arith, bytes_under l es)

pub work_join : (ps cs : List Part) → work (ps ++ cs) ≡ work ps + work cs
work_join [] cs = omega arith
work_join (p ∷ ps) cs = omega (arith, work_join ps cs)

covers_work : (base : ℕ) (cs : List Part) (c : Forest) → Covers base cs c none → work cs + length (walk_forest c) ≤ entry_bytes (walk_forest c)
covers_work base [] c covers = let nothing : walk_forest c ≡ [] = ap walk_forest covers in let none_there : length (walk_forest c) ≡ 0 = ap length nothing in omega (arith, none_there)
covers_work base (s ∷ cs) none covers = absurd covers
covers_work base (s ∷ cs) (child l n u rest) covers =
    let es : List Entry = own_entry n ++ walk_forest u in
    let here : entry_bytes es ≡ entry_bytes (entries_behind s.depth s.entries) = ap entry_bytes covers.1 in
    let more = covers_work base cs rest covers.2 in
    let mapped : length (map (under l) es) ≡ length es = length-map es (under l) in
    omega (arith, here, more, mapped, bytes_join (map (under l) es) (walk_forest rest), bytes_under l es, length-append (map (under l) es) (walk_forest rest))

-- a node's children have less to do than the node
pub less_work : (base : ℕ) (ps cs : List Part) (s : Part) (t : Tree) → Covers base cs t.children none → IsTreeOfSpan s.depth s.entries t → work (ps ++ cs) < work (ps ++ s ∷ [])
less_work base ps cs s t covers tree =
    let entries : entry_bytes (walk t) ≡ entry_bytes (entries_behind s.depth s.entries) = ap entry_bytes tree.walks in
    let below = covers_work base cs t.children covers in
    let parts = bytes_join (own_entry t.number) (walk_forest t.children) in
    let more : work cs < entry_bytes (walk t) = by_number t.number t.children (walk_some t.number t.children tree.some tree.sound) below in
    omega (arith, work_join ps cs, work_join ps (s ∷ []), entries, more)
  where
    by_number : (n : Option ℤ) (c : Forest) → (e : Entry) × (es : List Entry) × (own_entry n ++ walk_forest c ≡ e ∷ es) → work cs + length (walk_forest c) ≤ entry_bytes (walk_forest c) → work cs < entry_bytes (own_entry n ++ walk_forest c)
    by_number None c w below = let some : length (walk_forest c) ≡ suc (length w.1) = ap length w.2 in omega (arith, some, below)
    by_number (Some v) c w below = omega (arith, below)
