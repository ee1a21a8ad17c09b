-- What the calls that look for places and make blocks return, in words of held slots.
use Rattle.std.proofs.Common.{◌≡◌, ℕ, ◌*◌, ◌/◌, ◌<◌, ◌⊎◌, ◌&&◌, ◌||◌, List, get_or, Bool, not, eqb, true, false, int_lt, refl, sym, ap, inl, inr, ◌∙◌, arith, pos, Result, Ok, Err}
use Rattle.std.specs.Prelude.{IfOk, IfErr, OnErr}
use Rattle.std.specs.List.{count_by, range_with_len}
use Rattle.std.proofs.lemmas.Bool.{cases_Bool, cases_eq, eq-eqb, ne_eqb, false≢true}
use Rattle.cedar_slots.specs.declared.shortage.Shortage.{Shortage}
use Rattle.cedar_model.specs.Table.Layouts.{LayoutKind}
use Rattle.cedar_slots.specs.Slots.{blank_info, check_at, info_at, is_free}
use Rattle.cedar_slots.specs.Places.{AddsBlock, IsBase, IsFreePlace, MayRefuse, NoneFree, PlaceFields, SameSlots, Sound}
use Rattle.cedar_model.specs.Table.Cells.{Cells, cells_of, HasPlaces, Held, is_held, IsPlace, NoPlace, SameHeld}
use Rattle.cedar_model.proofs.CellsLemmas.HeldSlots.{active_is, natural_from, natural_not_below, HasPlaces-of, IsPlace-of, NoPlace-of, SameHeld-added, SameHeld-same}
use Rattle.cedar_slots.proofs.ListsLemmas.FreeCounts.{count_by-total, total-same, yes}
use Rattle.cedar_slots.proofs.RingsLemmas.LinkedSlots.{free_member}

-- a free slot has no labels
pub free_blank : (places : PlaceFields) (s : ℕ) → Sound places → s < 256 * places.blocks.active → is_free places.slots.nodes s ≡ true → info_at places.slots.infos s ≡ blank_info
free_blank places s sound inside free =
    let here = sound.free (s / 256) (omega arith) in
    here.1.ring.cleared s (omega (arith, free_member places.slots.nodes places.slots.infos (s / 256) here.0 here.1.ring s free refl))

module _ (k : LayoutKind) (old new : PlaceFields) (some : 0 < old.blocks.active) where
  pub held-added : (r : Result ℕ Shortage) → IfOk r (λ block. AddsBlock old new block) → OnErr r (new ≡ old) → SameHeld (cells_of k old) (cells_of k new)
  held-added (Ok block) added same = SameHeld-added k old new block some added
  held-added (Err error) added same = SameHeld-same k old new some (ap (λ (v : PlaceFields). v.slots) same) (ap (λ (v : PlaceFields). v.blocks.active) same)

  pub held-found : (r : Result ℕ Shortage) → IfOk r (λ slot. (new ≡ old) ⊎ (NoneFree old × AddsBlock old new (slot / 256))) → OnErr r (new ≡ old) → SameHeld (cells_of k old) (cells_of k new)
  held-found (Ok slot) (inl same) unchanged = SameHeld-same k old new some (ap (λ (v : PlaceFields). v.slots) same) (ap (λ (v : PlaceFields). v.blocks.active) same)
  held-found (Ok slot) (inr (none, added)) unchanged = SameHeld-added k old new (slot / 256) some added
  held-found (Err error) made unchanged = SameHeld-same k old new some (ap (λ (v : PlaceFields). v.slots) unchanged) (ap (λ (v : PlaceFields). v.blocks.active) unchanged)

  pub held-searched : (r : Result ℕ Shortage) → IfOk r (λ base. SameSlots old new ⊎ AddsBlock old new (base / 256)) → OnErr r (SameSlots old new) → SameHeld (cells_of k old) (cells_of k new)
  held-searched (Ok base) (inl same) err = SameHeld-same k old new some same.slots same.active
  held-searched (Ok base) (inr added) err = SameHeld-added k old new (base / 256) some added
  held-searched (Err error) made err = SameHeld-same k old new some err.slots err.active

pub place-found : (k : LayoutKind) (new : PlaceFields) (r : Result ℕ Shortage) → IfOk r (λ slot. IsFreePlace new slot) → IfOk r (IsPlace (256 * new.blocks.active) (cells_of k new))
place-found k new (Ok slot) found = IsPlace-of k new slot found
place-found k new (Err error) found = tt

pub none-found : (k : LayoutKind) (old : PlaceFields) (slots : ℕ) (r : Result ℕ Shortage) → IfErr r (λ error. NoneFree old × MayRefuse old slots error) → IfErr r (λ error. NoPlace (256 * old.blocks.active) (cells_of k old) × MayRefuse old slots error)
none-found k old slots (Ok slot) refused = tt
none-found k old slots (Err error) refused = (NoPlace-of k old refused.0, refused.1)

pub places-found : (k : LayoutKind) (new : PlaceFields) (labels : List ℕ) (r : Result ℕ Shortage) → ((i : ℕ) → get_or labels i 0 < 256) → IfOk r (λ base. IsBase new base labels) → IfOk r (λ base. HasPlaces (256 * new.blocks.active) (cells_of k new) base labels)
places-found k new labels (Ok base) bytes found = HasPlaces-of k new base labels bytes found
places-found k new labels (Err error) bytes found = tt

pub made-found : {X : Type 0} (k : LayoutKind) (old new : PlaceFields) (f : PlaceFields → X) (r : Result ℕ Shortage) → IfOk r (λ slot. (new ≡ old) ⊎ (NoneFree old × AddsBlock old new (slot / 256))) → IfOk r (λ slot. (f new ≡ f old) ⊎ (NoPlace (256 * old.blocks.active) (cells_of k old) × AddsBlock old new (slot / 256)))
made-found k old new f (Ok slot) (inl same) = inl (ap f same)
made-found k old new f (Ok slot) (inr (none, added)) = inr (NoPlace-of k old none, added)
made-found k old new f (Err error) made = tt

-- ---- counting the held slots

held-not_free : (k : LayoutKind) (places : PlaceFields) (s : ℕ) → s < 256 * places.blocks.active → is_held (cells_of k places) s ≡ not (is_free places.slots.nodes s)
held-not_free k places s inside = ap (λ z. eqb s 0 || not (int_lt z (pos 0))) (active_is k places s inside) ∙ turned (eqb s 0) (int_lt (check_at places.slots.nodes s) (pos 0))
  where
    turned : (a b : Bool) → (a || not b) ≡ not (not a && b)
    turned true b = refl
    turned false b = refl

pub is_held-true : (T : Cells) (s : ℕ) → is_held T s ≡ true → Held T s
is_held-true T s is = elim (cases_eq s 0) [
  | inl root ↦ inl root
  | inr other ↦ elim (cases_Bool (int_lt (T.check s) (pos 0))) [
    | inl below ↦ absurd (false≢true (sym (ap (λ b. b || not (int_lt (T.check s) (pos 0))) (ne_eqb s 0 other) ∙ ap not below) ∙ is))
    | inr natural ↦ inr (natural_from (T.check s) natural)
  ]
]

pub held-is_held : (T : Cells) (s : ℕ) → Held T s → is_held T s ≡ true
held-is_held T s (inl root) = ap (λ b. b || not (int_lt (T.check s) (pos 0))) (eq-eqb s 0 root)
held-is_held T s (inr (c, is)) = elim (cases_eq s 0) [
  | inl root ↦ ap (λ b. b || not (int_lt (T.check s) (pos 0))) (eq-eqb s 0 root)
  | inr other ↦ ap (λ b. b || not (int_lt (T.check s) (pos 0))) (ne_eqb s 0 other) ∙ ap not (natural_not_below (T.check s) c is)
]

pub held-count : (k : LayoutKind) (places : PlaceFields) → count_by (λ s. not (is_free places.slots.nodes s)) (range_with_len 0 (256 * places.blocks.active)) ≡ count_by (is_held (cells_of k places)) (range_with_len 0 (256 * places.blocks.active))
held-count k places =
    let size = 256 * places.blocks.active in
    count_by-total (λ s. not (is_free places.slots.nodes s)) 0 size
    ∙ sym (total-same (λ s. yes (is_held (cells_of k places) s)) (λ s. yes (not (is_free places.slots.nodes s))) 0 size (λ s low high. ap yes (held-not_free k places s (omega arith))))
    ∙ sym (count_by-total (is_held (cells_of k places)) 0 size)
