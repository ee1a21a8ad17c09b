-- What a call returned: the same said in fewer or other words, and a writer's faults as those of lines.
use Rattle.std.proofs.Common.{◌≡◌, ◌∙◌, Bool, true, ap, sym, subst}
use Rattle.std.specs.Prelude.{IsErrAnd, Result, Ok, Err, OnOk, OnErr}
use Rattle.word_lists.specs.Devices.{LinesOrFails}
use Rattle.device_lines.specs.Written.{WritesOrFails}
use Rattle.word_lists.specs.declared.write.ListError.{ListError}
use Rattle.word_lists.specs.declared.write.ListError.TheVariants.{Write, Memory}

pub of_err : {X E P : Type 0} (r : Result X E) (e : E) → r ≡ Err e → OnErr r P → P
of_err (Ok x) e is p = absurd (cc)
of_err (Err f) e is p = p

two_faults : {X : Type 0} (r : Result X ListError) → r ≡ Err Memory → r ≡ Err Write → ⊥
two_faults r a b = cc

not_well : {X : Type 0} (x : X) (e : ListError) → ◌≡◌ {A = Result X ListError} (Ok x) (Err e) → ⊥
not_well x e h = cc

-- want of memory is no fault of a writer
pub no_memory : {X : Type 0} (before after : Bool) (r : Result X ListError) → WritesOrFails Write before after r → r ≡ Err Memory → ⊥
no_memory before after r w is = two_faults r is (of_err r Memory is w.cause).0

pub as_lines : {X : Type 0} (before after : Bool) (r : Result X ListError) → WritesOrFails Write before after r → LinesOrFails before after r
as_lines before after r w = record {
  unfailed = w.unfailed;
  cause = λ is. (of_err r Write is w.cause).1;
  starved = λ is. absurd (no_memory before after r w is);
}

-- what lines say of their faults, by what they return: want of memory, a fault of the writer, or none
pub starved_lines : {X : Type 0} (before after : Bool) (r : Result X ListError) → r ≡ Err Memory → after ≡ before → LinesOrFails before after r
starved_lines before after r is same = record {
  unfailed = subst (λ x. OnOk x (after ≡ before)) (sym is) tt;
  cause = λ write. absurd (two_faults r is write);
  starved = λ _. same;
}

pub broken_lines : {X : Type 0} (before after : Bool) (r : Result X ListError) → r ≡ Err Write → after ≡ true → LinesOrFails before after r
broken_lines before after r is fails = record {
  unfailed = subst (λ x. OnOk x (after ≡ before)) (sym is) tt;
  cause = λ _. fails;
  starved = λ memory. absurd (two_faults r memory is);
}

pub whole_lines : {X : Type 0} (before after : Bool) (x : X) → after ≡ before → LinesOrFails {X = X} before after (Ok x)
whole_lines before after x same = record {
  unfailed = same;
  cause = λ write. absurd (not_well x Write write);
  starved = λ _. same;
}

-- an error that is handed on is want of memory, as it was
pub memory_told : {X : Type 0} (r : Result X ListError) (e : ListError) → IsErrAnd r (λ f. f ≡ e) → e ≡ Memory → r ≡ Err Memory
memory_told (Ok x) e told is = absurd told
memory_told (Err f) e told is = ap (λ g. Err g) (told ∙ is)
