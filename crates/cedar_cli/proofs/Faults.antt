-- A call that failed, and why.
use Rattle.std.proofs.Common.{◌≡◌, Ok, Err, Bool, true, false, ◌||◌, ◌∙◌, ap, refl, subst}
use Rattle.std.specs.Prelude.{IfErr, IfOk, OnOk, Result}
use Rattle.cedar_cli.specs.Script.{AnswersOrFails}
use Rattle.cedar_cli.specs.Statuses.{ShowsCause}
use Rattle.device_lines.specs.Written.{WritesOrFails}
use Rattle.cedar_cli.specs.declared.script.ScriptError.{ScriptError}
use Rattle.cedar_cli.specs.declared.script.ScriptError.TheVariants.{Read, Write, Memory, SlotLimit}

-- memory was wanting, so it was none of the other faults
pub memory_no_write : {P : Type 0} → ◌≡◌ {A = Result (Unit {0}) ScriptError} (Err Memory) (Err Write) → P
memory_no_write same = absurd (cc)

pub memory_no_read : ◌≡◌ {A = Result (Unit {0}) ScriptError} (Err Memory) (Err Read) → ⊥
memory_no_read same = cc

pub memory_no_limit : {P : Type 0} → ◌≡◌ {A = Result (Unit {0}) ScriptError} (Err Memory) (Err SlotLimit) → P
memory_no_limit same = absurd (cc)

-- nor was a fault of the writer one of the others, nor one of the reader
pub write_no_read : {P : Type 0} → ◌≡◌ {A = Result (Unit {0}) ScriptError} (Err Write) (Err Read) → P
write_no_read same = absurd (cc)

pub write_no_memory : {P : Type 0} → ◌≡◌ {A = Result (Unit {0}) ScriptError} (Err Write) (Err Memory) → P
write_no_memory same = absurd (cc)

pub write_no_limit : {P : Type 0} → ◌≡◌ {A = Result (Unit {0}) ScriptError} (Err Write) (Err SlotLimit) → P
write_no_limit same = absurd (cc)

pub read_no_write : {P : Type 0} → ◌≡◌ {A = Result (Unit {0}) ScriptError} (Err Read) (Err Write) → P
read_no_write same = absurd (cc)

pub read_no_memory : {P : Type 0} → ◌≡◌ {A = Result (Unit {0}) ScriptError} (Err Read) (Err Memory) → P
read_no_memory same = absurd (cc)

pub read_no_limit : {P : Type 0} → ◌≡◌ {A = Result (Unit {0}) ScriptError} (Err Read) (Err SlotLimit) → P
read_no_limit same = absurd (cc)

-- nor was want of slots
pub limit_no_write : {P : Type 0} → ◌≡◌ {A = Result (Unit {0}) ScriptError} (Err SlotLimit) (Err Write) → P
limit_no_write same = absurd (cc)

pub limit_no_read : ◌≡◌ {A = Result (Unit {0}) ScriptError} (Err SlotLimit) (Err Read) → ⊥
limit_no_read same = cc

pub limit_no_memory : {P : Type 0} → ◌≡◌ {A = Result (Unit {0}) ScriptError} (Err SlotLimit) (Err Memory) → P
limit_no_memory same = absurd (cc)

-- what went well says nothing of any fault
pub ok_no_fault : {T : Type 0} {P : Type 0} (x : T) (e : ScriptError) → ◌≡◌ {A = Result T ScriptError} (Ok x) (Err e) → P
ok_no_fault x e same = absurd (cc)

-- what failed says nothing of success
pub no_success : {T E : Type 0} (P : Type 0) (r : Result T E) (e : E) → r ≡ Err e → OnOk r P
no_success P (Ok x) e is = absurd (cc)
no_success P (Err f) e is = tt

-- nor of a value
pub no_value : {T E : Type 0} (P : T → Type 0) (r : Result T E) (e : E) → r ≡ Err e → IfOk r P
no_value P (Ok x) e is = absurd (cc)
no_value P (Err f) e is = tt

-- what is so of an error is so of a result that is this error
pub that_error : {T E : Type 0} (P : E → Type 0) (r : Result T E) (e : E) → r ≡ Err e → P e → IfErr r P
that_error P r e is p = rw is p

-- a fault of a script shows its cause after a call of the writer too: one that has failed still has
pub shows_cause : (unread read written last call : Bool) (fault : ScriptError) → (◌≡◌ {A = Result (Unit {0}) ScriptError} (Err fault) (Err Read) → read ≡ true)
    → (◌≡◌ {A = Result (Unit {0}) ScriptError} (Err fault) (Err Write) → written ≡ true)
    → (◌≡◌ {A = Result (Unit {0}) ScriptError} (Err fault) (Err Memory) → read ≡ unread)
    → (◌≡◌ {A = Result (Unit {0}) ScriptError} (Err fault) (Err SlotLimit) → read ≡ unread)
    → last ≡ (written || call) → ShowsCause unread read last fault
shows_cause unread read written last call Read by_read by_write by_memory by_limit after = by_read refl
shows_cause unread read written last call Write by_read by_write by_memory by_limit after = after ∙ ap (λ (b : Bool). b || call) (by_write refl)
shows_cause unread read written last call Memory by_read by_write by_memory by_limit after = by_memory refl
shows_cause unread read written last call SlotLimit by_read by_write by_memory by_limit after = by_limit refl

-- what fails by its writer alone is a line's fault
pub writers_fault : (before after : Bool) (r : Result (Unit {0}) ScriptError) → WritesOrFails Write before after r → AnswersOrFails before after r
writers_fault before after (Ok x) h = record {
  unfailed = h.unfailed;
  cause = λ same. ok_no_fault x Write same;
  never_read = λ same. ok_no_fault x Read same;
  starved = λ same. ok_no_fault x Memory same;
  full = λ same. ok_no_fault x SlotLimit same;
}
writers_fault before after (Err fault) h =
    let is = h.cause.0 in record {
      unfailed = tt;
      cause = λ _. h.cause.1;
      never_read = λ same. write_no_read (cc);
      starved = λ same. write_no_memory (cc);
      full = λ same. write_no_limit (cc);
    }

-- where all went well it is as it was
pub writers_unfailed : (before after : Bool) → after ≡ before → AnswersOrFails before after (Ok tt)
writers_unfailed before after same = record {
  unfailed = same;
  cause = λ is. ok_no_fault tt Write is;
  never_read = λ is. ok_no_fault tt Read is;
  starved = λ is. ok_no_fault tt Memory is;
  full = λ is. ok_no_fault tt SlotLimit is;
}

-- where memory or slots are wanting the writer is as it was
pub memory_fault : (b : Bool) → AnswersOrFails b b (Err Memory)
memory_fault b = record {
  unfailed = tt;
  cause = λ same. memory_no_write same;
  never_read = λ same. memory_no_read same;
  starved = λ _. refl;
  full = λ _. refl;
}

pub limit_fault : (b : Bool) → AnswersOrFails b b (Err SlotLimit)
limit_fault b = record {
  unfailed = tt;
  cause = λ same. limit_no_write same;
  never_read = λ same. limit_no_read same;
  starved = λ _. refl;
  full = λ _. refl;
}

-- after what left the writer as it was
pub fault_after : (first before after : Bool) (r : Result (Unit {0}) ScriptError) → before ≡ first → AnswersOrFails before after r → AnswersOrFails first after r
fault_after first before after r same h = subst (λ (b : Bool). AnswersOrFails b after r) same h

-- the same fault, handed on
pub fault_on : (before after : Bool) (r s : Result (Unit {0}) ScriptError) → r ≡ s → AnswersOrFails before after r → AnswersOrFails before after s
fault_on before after r s same h = subst (AnswersOrFails before after) same h

-- a writer that has failed has failed after a line too
pub still_failed : (before after : Bool) (r : Result (Unit {0}) ScriptError) → before ≡ true → AnswersOrFails before after r → after ≡ true
still_failed before after (Ok x) failed h = h.unfailed ∙ failed
still_failed before after (Err Read) failed h = absurd (h.never_read refl)
still_failed before after (Err Write) failed h = h.cause refl
still_failed before after (Err Memory) failed h = h.starved refl ∙ failed
still_failed before after (Err SlotLimit) failed h = h.full refl ∙ failed

-- where no flush has failed yet, a writer has failed if it had before
pub unflushed : (first flush : Bool) → flush ≡ false → first ≡ (flush || first)
unflushed first flush fresh = rw fresh refl

pub fresh_no_fault : {P : Type 0} (flush : Bool) → flush ≡ false → flush ≡ true → P
fresh_no_fault flush fresh failed = absurd (cc (fresh, failed))

-- where one has, it has failed
pub failed_flush : (first flush now : Bool) → now ≡ (flush || first) → flush ≡ true → now ≡ true
failed_flush first true now h failed = h
failed_flush first false now h failed = absurd (cc (failed))
