-- What is said of an edit of the table, said of the call on a dictionary that made it; and what a pair at fault leaves.
use Rattle.std.proofs.Common.{◌≡◌, ℕ, ℤ, Option, Some, None, IfSome, IfOk, IfErr, IsOk, IsErrAnd, MatchResult, OnOk, OnErr, Result, Ok, Err, refl, ap, sym, subst, arith, ◌∙◌, List, ◌⊎◌, inl, inr}
use Rattle.cedarwood.specs.declared.error.CedarError.{CedarError}
use Rattle.cedarwood.specs.declared.error.CedarError.TheVariants.{Memory, SlotLimit}
use Rattle.cedar_slots.specs.declared.shortage.Shortage.{Shortage}
use Rattle.cedar_slots.specs.declared.shortage.Shortage.TheVariants as shortage
use Rattle.cedar_model.specs.Table.Layouts.{LayoutKind}
use Rattle.cedarwood.specs.Builds.{outcome}
use Rattle.cedarwood.specs.Dictionary.{Dictionary}
use Rattle.cedarwood.specs.Fault.{fault}
use Rattle.cedarwood.specs.Told.{error_of_shortage}
use Rattle.cedarwood.specs.Updates.{IsUpdate}
use Rattle.cedarwood.proofs.GrowthLemmas.{grows_none}
use Rattle.cedarwood.proofs.UpdateLemmas.{fault_no_shortage}

-- whether a call succeeds, without its result, whose edit of the table returned r
abbrev pub told_outcome : {X : Type 0} → Result X Shortage → Result (Unit {0}) CedarError
told_outcome (Ok x) = Ok tt
told_outcome (Err e) = Err (error_of_shortage e)

-- the call hands on what the edit returned, and reports what the table lacked
abbrev pub HandsOn : {X : Type 0} → Result X Shortage → Result X CedarError → Type 0
HandsOn r told_as = MatchResult r (λ x. told_as ≡ Ok x) (λ e. IsErrAnd told_as (λ error. error ≡ error_of_shortage e))

pub outcome_is_told : {X : Type 0} (r : Result X Shortage) (r' : Result X CedarError) → HandsOn r r' → told_outcome r ≡ outcome r'
outcome_is_told (Ok x) r' h = sym (ap outcome h)
outcome_is_told (Err e) (Ok x) h = absurd h
outcome_is_told (Err e) (Err error) h = ap Err (sym h)

-- so it is the call's very result where nothing is returned but success
pub told_alike : (r : Result (Unit {0}) Shortage) (r' : Result (Unit {0}) CedarError) → HandsOn r r' → told_outcome r ≡ r'
told_alike (Ok x) r' h = sym h
told_alike (Err e) (Ok x) h = absurd h
told_alike (Err e) (Err error) h = ap Err (sym h)

-- what holds of an edit's result holds of the call's
pub answer_handed_on : {X : Type 0} (P : X → Type 0) (r : Result X Shortage) (r' : Result X CedarError) → HandsOn r r' → IfOk r P → IfOk r' P
answer_handed_on P (Ok x) r' h p = subst (λ o. IfOk o P) (sym h) p
answer_handed_on P (Err e) (Ok x) h p = absurd h
answer_handed_on P (Err e) (Err error) h p = tt

pub on_ok_out : {X : Type 0} (P : Type 0) (r : Result X Shortage) → OnOk r P → OnOk (told_outcome r) P
on_ok_out P (Ok x) p = p
on_ok_out P (Err e) p = tt

pub on_err_out : {X : Type 0} (P : Type 0) (r : Result X Shortage) → OnErr r P → OnErr (told_outcome r) P
on_err_out P (Ok x) p = tt
on_err_out P (Err e) p = p

pub if_err_out : {X : Type 0} (P : CedarError → Type 0) (r : Result X Shortage) → IfErr r (λ e. P (error_of_shortage e)) → IfErr (told_outcome r) P
if_err_out P (Ok x) p = tt
if_err_out P (Err e) p = p

pub is_ok_out : {X : Type 0} (r : Result X Shortage) → IsOk r → IsOk (told_outcome r)
is_ok_out (Ok x) p = p
is_ok_out (Err e) p = p

pub is_ok_or_out : {X : Type 0} (P Q : Type 0) (r : Result X Shortage) → (IsOk r × P) ⊎ Q → (IsOk (told_outcome r) × P) ⊎ Q
is_ok_or_out P Q r (inl h) = inl (is_ok_out r h.0, h.1)
is_ok_or_out P Q r (inr h) = inr h

-- what was reported as want of memory was one, and so for slots
pub memory_out : {X : Type 0} (r : Result X Shortage) → told_outcome r ≡ Err Memory → r ≡ Err shortage.Memory
memory_out (Ok x) h = absurd (cc)
memory_out (Err shortage.Memory) h = refl
memory_out (Err shortage.SlotLimit) h = absurd (cc)

pub limit_out : {X : Type 0} (r : Result X Shortage) → told_outcome r ≡ Err SlotLimit → r ≡ Err shortage.SlotLimit
limit_out (Ok x) h = absurd (cc)
limit_out (Err shortage.Memory) h = absurd (cc)
limit_out (Err shortage.SlotLimit) h = refl

-- what holds of a number holds of the result that it is
pub answer_has : {E : Type 0} (P : Option ℤ → Type 0) (n : Option ℤ) (r : Result (Option ℤ) E) → IfOk r (λ held. held ≡ n) → P n → IfOk r P
answer_has P n (Ok held) h p = subst P (sym h) p
answer_has P n (Err e) h p = tt

no_and_some : {T : Type 0} (f : Option CedarError) (e : CedarError) → f ≡ Some e → f ≡ None → T
no_and_some {T} f e some none = absurd (apart f e some none) where
  apart : (f : Option CedarError) (e : CedarError) → f ≡ Some e → f ≡ None → ⊥
  apart f e some none = let no : ◌≡◌ {A = Option CedarError} None (Some e) = sym none ∙ some in cc

-- a pair at fault is refused for it, and changes nothing
pub fault_updates : (layout : LayoutKind) (slots : ℕ) (d : Dictionary) (key : List ℕ) (v : ℤ) (e : CedarError) → fault key v ≡ Some e
    → IsUpdate layout slots d d key v (Err e)
fault_updates layout slots d key v e why = record {
  faulty = subst (λ (o : Option CedarError). IfSome o (λ x. ◌≡◌ {A = Result (Unit {0}) CedarError} (Err e) (Err x))) (sym why) refl;
  unchanged = λ _. refl;
  ok = tt;
  err = refl;
  by_default = tt;
  marks = tt;
  marked = tt;
  marks_stay = refl;
  refused = λ fine. no_and_some (fault key v) e why fine;
  memory = λ is. let same : e ≡ Memory = cc in absurd (fault_no_shortage key v Memory (why ∙ ap Some same) tt);
  limit = λ is. let same : e ≡ SlotLimit = cc in absurd (fault_no_shortage key v SlotLimit (why ∙ ap Some same) tt);
  blocks = (0, omega arith, (λ fine. no_and_some (fault key v) e why fine), grows_none d);
  spare = λ room fine. no_and_some (fault key v) e why fine;
  over = λ held. grows_none d;
  one_byte = λ b is absent fine. no_and_some (fault key v) e why fine;
  packs = tt;
  max_trial = refl;
  search_limit = refl;
}
