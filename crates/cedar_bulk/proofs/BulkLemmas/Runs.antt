-- Which of some entries have the label of the first one: those at the front.
use Rattle.std.proofs.Common.{◌≡◌, ℕ, zero, suc, ◌+◌, ◌<◌, ◌≤◌, ◌-◌, ◌∙◌, sym, ap, subst, refl, inl, inr, arith, false, ◌==◌, List, [], ◌∷◌, ◌++◌, map, length, drop, get_or, get_or-drop, length-drop}
use Rattle.std.proofs.lemmas.Bool.{cases_lt, or_parts, true≢false}
use Rattle.std.proofs.lemmas.Bool.Decides.{eqb_tells}
use Rattle.cedar_model.specs.Tree.{Forest, none, child, has_label, IsSoundBelow}
use Rattle.cedar_model.specs.Queries.{Entry, own_entry, under, walk_forest}
use Rattle.cedar_bulk.specs.Sorted.{label_of, run}
use Rattle.cedar_bulk.specs.Spans.{first_label, Lists, entries_behind}
use Rattle.cedar_bulk.proofs.BulkLemmas.Spans.{drop_label, first_of, First, run_other, run_same}

-- no entry begins with this label
abbrev NoneBegins : ℕ → List Entry → Type 0
NoneBegins l [] = Unit {0}
NoneBegins l (([], v) ∷ es) = ⊥
NoneBegins l ((m ∷ q, v) ∷ es) = (m ≡ l → ⊥) × NoneBegins l es

none_under : (l m : ℕ) (es rest : List Entry) → (m ≡ l → ⊥) → NoneBegins l rest → NoneBegins l (map (under m) es ++ rest)
none_under l m [] rest other r = r
none_under l m (e ∷ es) rest other r = (other, none_under l m es rest other r)

none_begins : (l : ℕ) (f : Forest) → has_label f l ≡ false → NoneBegins l (walk_forest f)
none_begins l none h = tt
none_begins l (child m n u rest) h =
    let parts = or_parts (m == l) (has_label rest l) h in
    none_under l m (own_entry n ++ walk_forest u) (walk_forest rest) (other parts.0) (none_begins l rest parts.1)
  where
    other : (m == l) ≡ false → m ≡ l → ⊥
    other e same = elim (eqb_tells m l) [ inl t ↦ true≢false (sym t.0 ∙ e) | inr t ↦ t.1 same ]

none_at : (d l : ℕ) (es : List Entry) (i : ℕ) (e : Entry) → NoneBegins l (entries_behind d es) → i < length es → label_of d (get_or es i e) ≡ l → ⊥
none_at d l [] i e n h same = absurd (omega (arith, h))
none_at d l (x ∷ es) zero e n h same = by_path (drop d x.0) refl n
  where
    by_path : (path : List ℕ) → drop d x.0 ≡ path → NoneBegins l ((path, x.1) ∷ entries_behind d es) → ⊥
    by_path [] is k = k
    by_path (m ∷ q) is k = k.0 (sym (drop_label d x.0 m q is).0 ∙ same)
none_at d l (x ∷ es) (suc i) e n h same = none_at d l es i e (later (drop d x.0) n) (omega (arith, h)) same
  where
    later : (path : List ℕ) → NoneBegins l ((path, x.1) ∷ entries_behind d es) → NoneBegins l (entries_behind d es)
    later [] k = absurd k
    later (m ∷ q) k = k.1

-- an entry of the run has its label
pub run_inside : (d l : ℕ) (es : List Entry) (i : ℕ) (e : Entry) → i < run d l es → label_of d (get_or es i e) ≡ l
run_inside d l [] i e h = absurd (omega (arith, h))
run_inside d l (x ∷ es) zero e h = elim (eqb_tells (label_of d x) l) [
  | inl t ↦ t.1
  | inr t ↦ absurd (omega (arith, h, run_other d l [] tt x es t.1))
]
run_inside d l (x ∷ es) (suc i) e h = elim (eqb_tells (label_of d x) l) [
  | inl t ↦ run_inside d l es i e (omega (arith, h, run_same d l [] tt x es t.1))
  | inr t ↦ absurd (omega (arith, h, run_other d l [] tt x es t.1))
]

-- an entry with the first one's label is in the run
pub run_tells : (d l : ℕ) (es : List Entry) (f : Forest) (i : ℕ) (e : Entry) → Lists d es f → first_label d es ≡ l → i < length es → label_of d (get_or es i e) ≡ l → i < run d l es
run_tells d l [] f i e k first h same = absurd (omega (arith, h))
run_tells d l (p ∷ ps) f i e k first h same =
    let next = first_of d p ps f k in
    let is : next.label ≡ l = sym next.same_label ∙ first in
    elim (cases_lt i (run d l (p ∷ ps))) [
      | inl less ↦ less
      | inr more ↦ absurd (outside next is more)
    ]
  where
    outside : (next : First d p ps f) → next.label ≡ l → run d l (p ∷ ps) ≤ i → ⊥
    outside next is more =
        let n = run d l (p ∷ ps) in
        let rest : Lists d (drop n (p ∷ ps)) next.rest = subst (λ x. Lists d (drop (run d x (p ∷ ps)) (p ∷ ps)) next.rest) is next.others in
        let absent : has_label next.rest l ≡ false = ap (has_label next.rest) (sym is) ∙ (subst IsSoundBelow next.is k.sound).2 in
        let begins : NoneBegins l (entries_behind d (drop n (p ∷ ps))) = subst (NoneBegins l) rest.walks (none_begins l next.rest absent) in
        let index : n + (i - n) ≡ i = omega (arith, more) in
        let at : get_or (drop n (p ∷ ps)) (i - n) e ≡ get_or (p ∷ ps) i e = get_or-drop n (p ∷ ps) (i - n) e ∙ ap (λ j. get_or (p ∷ ps) j e) index in
        none_at d l (drop n (p ∷ ps)) (i - n) e begins (omega (arith, h, more, length-drop n (p ∷ ps))) (ap (label_of d) at ∙ same)

-- the run of some entries begins, and is within them
pub run_bounds : (d l : ℕ) (es : List Entry) (f : Forest) → Lists d es f → first_label d es ≡ l → 0 < length es → (0 < run d l es) × (run d l es ≤ length es)
run_bounds d l [] f k first some = absurd (omega (arith, some))
run_bounds d l (p ∷ ps) f k first some =
    let next = first_of d p ps f k in
    let is : next.label ≡ l = sym next.same_label ∙ first in
    subst (λ x. (0 < run d x (p ∷ ps)) × (run d x (p ∷ ps) ≤ length (p ∷ ps))) is (next.some, next.few)
