-- The first fault of a batch.
use Rattle.std.specs.Prelude.{Option, None, Some, IfSome, IsErrAnd, IsOk, Result, Ok, Err}
use Rattle.std.specs.List.{AllByRecursion}
use Rattle.std.proofs.Common.{◌≡◌, inl, ℕ, suc, ◌+◌, ◌≤◌, ◌<◌, List, [], ◌∷◌, length, drop, refl, sym, ◌∙◌, ap, subst, arith}
use Rattle.std.proofs.lemmas.Bool.{false≢true}
use Rattle.std.proofs.lemmas.List.{drop_all, drop_more}
use Rattle.cedarwood.specs.declared.error.CedarError.{CedarError}
use Rattle.cedar_store.specs.declared.error.DurableError.{DurableError}
use Rattle.cedar_store.specs.declared.error.DurableError.TheVariants.{RefusedAt}
use Rattle.cedar_store.specs.Batches.{IsFaultless, change_at, change_fault, first_refused, fault_at}
use Rattle.cedar_store.specs.Causes.{IsRefusedAt, PrepareCause}
use Rattle.cedar_store.specs.Changes.{Change, erase_at}
use Rattle.cedar_store.proofs.Refused.{refused_cause}
use Rattle.cedar_store.proofs.States.{none_is}
use Rattle.std.proofs.lemmas.Option.{same_Some}

-- ---- looked for one change after another

module _ (changes : List Change) (n : ℕ) where
  pub first_later : n < length changes → change_fault (change_at changes n) ≡ None → first_refused (n + 1) (drop (n + 1) changes) ≡ first_refused n (drop n changes)
  first_later low none =
      sym (ap (first_refused n) (drop_more changes n (erase_at []) low) ∙ ap (λ o. fault_at n o (first_refused (n + 1) (drop (n + 1) changes))) none)

  pub first_here : (f : CedarError) → n < length changes → change_fault (change_at changes n) ≡ Some f → first_refused n (drop n changes) ≡ Some (RefusedAt n f)
  first_here f low is =
      ap (first_refused n) (drop_more changes n (erase_at []) low) ∙ ap (λ o. fault_at n o (first_refused (n + 1) (drop (n + 1) changes))) is

  pub none_behind : length changes ≤ n → first_refused n (drop n changes) ≡ None
  none_behind high = ap (first_refused n) (drop_all n changes high)

-- changes without a fault
pub none_refused : (changes : List Change) (n : ℕ) → AllByRecursion IsFaultless changes → first_refused n changes ≡ None
none_refused [] n all = refl
none_refused (c ∷ changes) n all = ap (λ o. fault_at n o (first_refused (n + 1) changes)) all.0 ∙ none_refused changes (n + 1) all.1

-- ---- what is reported is so

record IsFirst (n : ℕ) (changes : List Change) (e : DurableError) : Type 0 where
  place : ℕ
  fault : CedarError
  told : e ≡ RefusedAt (n + place) fault
  low : place < length changes
  has : change_fault (change_at changes place) ≡ Some fault

at_or_behind : (c : Change) (changes : List Change) (n : ℕ) (e : DurableError) (o : Option CedarError) → change_fault c ≡ o
    → (first_refused (n + 1) changes ≡ Some e → IsFirst (n + 1) changes e) → fault_at n o (first_refused (n + 1) changes) ≡ Some e → IsFirst n (c ∷ changes) e
at_or_behind c changes n e (Some f) is later told = record {
  place = 0;
  fault = f;
  told = sym (same_Some (RefusedAt n f) e told) ∙ ap (λ k. RefusedAt k f) (omega arith);
  low = omega arith;
  has = is;
}
at_or_behind c changes n e None is later told =
    let first = later told in
    let place = first.place in record {
      place = suc place;
      fault = first.fault;
      told = first.told ∙ ap (λ k. RefusedAt k first.fault) (omega arith);
      low = omega (arith, first.low);
      has = first.has;
    }

is_first : (changes : List Change) (n : ℕ) (e : DurableError) → first_refused n changes ≡ Some e → IsFirst n changes e
is_first [] n e is = absurd (none_is is)
is_first (c ∷ changes) n e is = at_or_behind c changes n e (change_fault c) refl (is_first changes (n + 1) e) is

pub first_cause : (changes : List Change) (end : ℕ) (e : DurableError) → first_refused 0 changes ≡ Some e → PrepareCause changes end e
first_cause changes end e is =
    let first = is_first changes 0 e is in
    let place = first.place in
    let told : e ≡ RefusedAt place first.fault = first.told ∙ ap (λ k. RefusedAt k first.fault) (omega arith) in
    refused_cause changes end e (subst (IsRefusedAt changes) (sym told) (first.low, inl first.has))

-- ---- as it is handed on

-- a change that was tested has the fault that was reported, or none
pub has_fault : (o : Option CedarError) (r : Result (Unit {0}) CedarError) (f : CedarError) → IfSome o (λ e. r ≡ Err e) → (o ≡ None → IsOk r) → r ≡ Err f → o ≡ Some f
has_fault None r f faulty sound is = absurd (false≢true (subst IsOk is (sound refl)))
has_fault (Some e) r f faulty sound is = let same : ◌≡◌ {A = Result (Unit {0}) CedarError} (Err e) (Err f) = sym faulty ∙ is in cc

pub has_none : {X : Type 0} {E F : Type 0} (o : Option F) (told : F → E) (r : Result X E) (x : X) → IfSome o (λ e. r ≡ Err (told e)) → r ≡ Ok x → o ≡ None
has_none None told r x faulty is = refl
has_none (Some e) told r x faulty is = let apart : Ok x ≡ Err (told e) = sym is ∙ faulty in cc

pub same_told : (o : Option DurableError) (e : DurableError) → o ≡ Some e → IfSome o (λ told. e ≡ told)
same_told o e is = subst (λ (p : Option DurableError). IfSome p (λ told. e ≡ told)) (sym is) refl

pub told_as_error : (X : Type 0) (o : Option DurableError) (e : DurableError) → IfSome o (λ told. e ≡ told) → IfSome o (λ told. ◌≡◌ {A = Result X DurableError} (Err e) (Err told))
told_as_error X None e is = tt
told_as_error X (Some told) e is = ap (λ x. Err x) is

pub nothing_told_of : (o : Option DurableError) (P : DurableError → Type 0) → o ≡ None → IfSome o P
nothing_told_of o P is = subst (λ (p : Option DurableError). IfSome p P) (sym is) tt

pub first_handed : (X : Type 0) {Y : Type 0} (o : Option DurableError) (e : DurableError) (r : Result Y DurableError) → IsErrAnd r (λ x. x ≡ e)
    → IfSome o (λ told. ◌≡◌ {A = Result X DurableError} (Err e) (Err told)) → IfSome o (λ told. r ≡ Err told)
first_handed X None e r handed first = tt
first_handed X (Some told) e (Ok y) handed first = absurd handed
first_handed X (Some told) e (Err x) handed first = let same : e ≡ told = cc in ap (λ y. Err y) (handed ∙ same)
