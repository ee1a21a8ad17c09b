-- What the steps of an update return.
use Rattle.std.proofs.Common.{◌≡◌, Result, Ok, Err, sym, subst}
use Rattle.std.specs.Prelude.{IfErr, IsErrAnd, OnErr, OnOk}
use Rattle.cedar_slots.specs.declared.shortage.Shortage.{Shortage}

-- a refusal is handed on as it is
pub refused_as : {X : Type 0} (r : Result X Shortage) (e : Shortage) (P : Shortage → Type 0) → IsErrAnd r (λ x. x ≡ e) → P e → IfErr r P
refused_as (Ok x) e P a p = tt
refused_as (Err x) e P a p = subst P (sym a) p

-- what holds anyway holds after a refusal
pub on_refusal : {X : Type 0} (r : Result X Shortage) (P : Type 0) → P → OnErr r P
on_refusal (Ok x) P p = tt
on_refusal (Err error) P p = p

-- and what follows from what holds after a success
pub on_success : {X : Type 0} (r : Result X Shortage) (P Q : Type 0) → (P → Q) → OnOk r P → OnOk r Q
on_success (Ok x) P Q f p = f p
on_success (Err error) P Q f p = tt
