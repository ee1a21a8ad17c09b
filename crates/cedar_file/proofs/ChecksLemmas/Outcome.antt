-- Answers of checks: said of another fact that holds just where the one does, or said in two clauses.
use Rattle.std.specs.Prelude.{Result, OnErr, OnOk, refl}
use Rattle.std.specs.Prelude.Result.{Ok, Err}
use Rattle.std.specs.Result.{OkIff}

pub ok_iff_same : {T E P Q : Type 0} (r : Result T E) (v : T) → (P → Q) → (Q → P) → OkIff r P v → OkIff r Q v
ok_iff_same (Ok x) v to from h = (to h.0, h.1)
ok_iff_same (Err e) v to from h = λ q. h (from q)

pub ok_iff_both : {E : Type 0} (P : Type 0) (r : Result (Unit {0}) E) → OnOk r P → OnErr r (P → ⊥) → OkIff r P tt
ok_iff_both P (Ok x) holds fails = (holds, refl)
ok_iff_both P (Err e) holds fails = fails
