-- What refused entries say of their lines and of the dictionary.
use Rattle.std.proofs.Common.{◌≡◌, ℤ, List, ℕ, Bool, true, false, cond, is_some, Option, Some, None, IfSome, refl, sym, ap, subst}
use Rattle.std.proofs.lemmas.Bool.{false≢true}
use Rattle.std.specs.Prelude.{IsSome, IsTrue, ◌↔◌, Result, Ok, Err, IfOk, OnOk}
use Rattle.cedarwood.specs.State.{State, after_erase, after_put}
use Rattle.cedarwood.specs.Tree.{number_at}
use Rattle.cedarwood.specs.Fault.{IsShortage}
use Rattle.cedarwood.specs.declared.error.CedarError.{CedarError}
use Rattle.cedarwood.specs.declared.error.CedarError.TheVariants as errors
use Rattle.word_lists.specs.declared.lines.LineFault.{LineFault as Fault}
use Rattle.word_lists.specs.declared.lines.StoreError.{StoreError}
use Rattle.word_lists.specs.declared.lines.StoreError.TheVariants.{SlotLimit}
use Rattle.word_lists.specs.Stored.{absent_of, IsWant, line_absent, line_erased, line_held, line_refusal, stored_by, told_by, want_of, word_of}
use Rattle.device_lines.specs.Lines.{is_filled}
use Rattle.cedarwood.proofs.GeneralLemmas.{on_ok}

-- a want of slots is that of the dictionary
pub slots_wanted : (e : CedarError) → ◌≡◌ {A = StoreError} (want_of e) SlotLimit → e ≡ errors.SlotLimit
slots_wanted errors.SlotLimit h = refl
slots_wanted errors.EmptyKey h = absurd (cc)
slots_wanted (errors.NulByte at) h = absurd (cc)
slots_wanted (errors.InvalidValue v) h = absurd (cc)
slots_wanted (errors.InvalidMaxTrial v) h = absurd (cc)
slots_wanted (errors.DuplicateKey i) h = absurd (cc)
slots_wanted (errors.KeysNotSorted i) h = absurd (cc)
slots_wanted errors.Memory h = absurd (cc)

pub wants : (e : CedarError) → IsWant (want_of e)
wants errors.SlotLimit = tt
wants errors.EmptyKey = tt
wants (errors.NulByte at) = tt
wants (errors.InvalidValue v) = tt
wants (errors.InvalidMaxTrial v) = tt
wants (errors.DuplicateKey i) = tt
wants (errors.KeysNotSorted i) = tt
wants errors.Memory = tt

same_error : {X : Type 0} (e f : CedarError) → ◌≡◌ {A = Result X CedarError} (Err e) (Err f) → e ≡ f
same_error e f h = cc

same_want : (e f : StoreError) → ◌≡◌ {A = Result (Option Fault) StoreError} (Err e) (Err f) → e ≡ f
same_want e f h = cc

no_want : (t : Option Fault) (f : StoreError) → ◌≡◌ {A = Result (Option Fault) StoreError} (Ok t) (Err f) → ⊥
no_want t f h = cc

-- a refused entry that wants slots
pub refused_slots : (e : CedarError) → line_refusal e ≡ Err SlotLimit → e ≡ errors.SlotLimit
refused_slots errors.SlotLimit h = refl
refused_slots errors.EmptyKey h = absurd (no_want _ SlotLimit h)
refused_slots (errors.NulByte at) h = absurd (no_want _ SlotLimit h)
refused_slots (errors.InvalidValue v) h = absurd (no_want _ SlotLimit h)
refused_slots (errors.InvalidMaxTrial v) h = slots_wanted (errors.InvalidMaxTrial v) (same_want _ SlotLimit h)
refused_slots (errors.DuplicateKey i) h = slots_wanted (errors.DuplicateKey i) (same_want _ SlotLimit h)
refused_slots (errors.KeysNotSorted i) h = slots_wanted (errors.KeysNotSorted i) (same_want _ SlotLimit h)
refused_slots errors.Memory h = slots_wanted errors.Memory (same_want _ SlotLimit h)

-- a shortage is no fault of a line
short_refused : (P : Type 0) (e : CedarError) → IsShortage e → OnOk (line_refusal e) P
short_refused P errors.SlotLimit s = tt
short_refused P errors.Memory s = tt
short_refused P errors.EmptyKey s = absurd s
short_refused P (errors.NulByte at) s = absurd s
short_refused P (errors.InvalidValue v) s = absurd s
short_refused P (errors.InvalidMaxTrial v) s = absurd s
short_refused P (errors.DuplicateKey i) s = absurd s
short_refused P (errors.KeysNotSorted i) s = absurd s

short_told : (P : Option Fault → Type 0) (e : CedarError) → IsShortage e → IfOk (line_refusal e) P
short_told P errors.SlotLimit s = tt
short_told P errors.Memory s = tt
short_told P errors.EmptyKey s = absurd s
short_told P (errors.NulByte at) s = absurd s
short_told P (errors.InvalidValue v) s = absurd s
short_told P (errors.InvalidMaxTrial v) s = absurd s
short_told P (errors.DuplicateKey i) s = absurd s
short_told P (errors.KeysNotSorted i) s = absurd s

fault_told : (held : Bool) (f : CedarError) → IfOk (line_refusal f) (λ told. told ≡ told_by (Some f) held)
fault_told held errors.SlotLimit = tt
fault_told held errors.Memory = tt
fault_told held errors.EmptyKey = refl
fault_told held (errors.NulByte at) = refl
fault_told held (errors.InvalidValue v) = refl
fault_told held (errors.InvalidMaxTrial v) = tt
fault_told held (errors.DuplicateKey i) = tt
fault_told held (errors.KeysNotSorted i) = tt

-- what a refused entry leaves, where it is reported
pub refused_state : (X : Type 0) (o : Option CedarError) (word : List ℕ) (v : ℤ) (s t : State) (e : CedarError)
    → IfSome o (λ f. ◌≡◌ {A = Result X CedarError} (Err e) (Err f)) → (o ≡ None → IsShortage e) → t ≡ s → OnOk (line_refusal e) (t ≡ stored_by o s word v)
refused_state X None word v s t e fine short same = short_refused (t ≡ after_put s word v) e (short refl)
refused_state X (Some f) word v s t e fine short same = on_ok (line_refusal e) same

-- and what is reported
pub refused_told : (X : Type 0) (o : Option CedarError) (held : Bool) (e : CedarError)
    → IfSome o (λ f. ◌≡◌ {A = Result X CedarError} (Err e) (Err f)) → (o ≡ None → IsShortage e) → IfOk (line_refusal e) (λ told. told ≡ told_by o held)
refused_told X None held e fine short = short_told (λ told. told ≡ told_by None held) e (short refl)
refused_told X (Some f) held e fine short =
    subst (λ (x : CedarError). IfOk (line_refusal x) (λ told. told ≡ told_by (Some f) held)) (sym (same_error e f fine)) (fault_told held f)

-- what an entry that is stored leaves, and what is reported of it
pub stored_state : (o : Option CedarError) (word : List ℕ) (v : ℤ) (s t : State) → IfSome o (λ f. ◌≡◌ {A = Result (Unit {0}) CedarError} (Ok tt) (Err f)) → t ≡ after_put s word v
    → t ≡ stored_by o s word v
stored_state None word v s t fine h = h
stored_state (Some f) word v s t fine h = absurd (cc)

pub stored_told : (o : Option CedarError) (held : Bool) (told : Option Fault) → IfSome o (λ f. ◌≡◌ {A = Result (Unit {0}) CedarError} (Ok tt) (Err f)) → told ≡ told_by None held
    → told ≡ told_by o held
stored_told None held told fine h = h
stored_told (Some f) held told fine h = absurd (cc)

pub store_same : (e f : StoreError) → ◌≡◌ {A = Result (Unit {0}) StoreError} (Err e) (Err f) → e ≡ f
store_same e f h = cc

pub update_err : {e f : CedarError} → e ≡ f → ◌≡◌ {A = Result (Unit {0}) CedarError} (Err e) (Err f)
update_err h = ap (λ e. Err e) h

-- whether a word was held, as an erasure returns it
pub held_is : (held : Bool) (o : Option ℤ) → (IsTrue held ↔ IsSome o) → held ≡ is_some o
held_is true (Some v) h = refl
held_is false None h = refl
held_is true None h = absurd (false≢true (h.0 refl))
held_is false (Some v) h = absurd (false≢true (h.1 refl))

-- an empty line takes nothing out, and a filled one its word
pub erased_none : (s : State) (line : List ℕ) → is_filled line ≡ false → s ≡ line_erased s line
erased_none s line unfilled = ap (λ f. cond f (after_erase s (word_of line)) s) (sym unfilled)

pub erased_word : (s : State) (line : List ℕ) → is_filled line ≡ true → after_erase s (word_of line) ≡ line_erased s line
erased_word s line filled = ap (λ f. cond f (after_erase s (word_of line)) s) (sym filled)

pub absent_none : (s : State) (line : List ℕ) → is_filled line ≡ false → 0 ≡ line_absent s line
absent_none s line unfilled = ap (λ f. absent_of (cond f (is_some (number_at s.tree (word_of line))) true)) (sym unfilled)

pub word_held : (s : State) (line : List ℕ) → is_filled line ≡ true → is_some (number_at s.tree (word_of line)) ≡ line_held s line
word_held s line filled = ap (λ f. cond f (is_some (number_at s.tree (word_of line))) true) (sym filled)
