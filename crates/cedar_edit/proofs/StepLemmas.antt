-- What steps that may make a block return.
use Rattle.std.proofs.Common.{◌≡◌, ℕ, Result, Ok, Err, sym, subst}
use Rattle.std.specs.Prelude.{IsErrAnd, OnOk}
use Rattle.cedar_slots.specs.declared.shortage.Shortage.{Shortage}
use Rattle.cedar_slots.specs.Places.{MayRefuse, SameSlots}
use Rattle.cedar_model.specs.Edit.Steps.{MayAddBlock}
use Rattle.cedar_model.specs.Table.TableFields.{Fields}
use Rattle.cedar_edit.specs.Step.{MayMakeBlock}

-- a refusal
pub refused_step : {X : Type 0} (slots : ℕ) (before after : Fields) (r : Result X Shortage) (e : Shortage) → IsErrAnd r (λ x. x ≡ e) → MayRefuse after.places slots e → SameSlots before.places after.places → MayAddBlock before after → MayMakeBlock slots before after r
refused_step slots before after (Ok x) e is refused same growth = record { refused = tt; unchanged = tt; growth = growth }
refused_step slots before after (Err x) e is refused same growth = record { refused = subst (MayRefuse after.places slots) (sym is) refused; unchanged = same; growth = growth }

-- what holds after a success alone
pub on_no_refusal : {X : Type 0} (r : Result X Shortage) (e : Shortage) (P : Type 0) → IsErrAnd r (λ x. x ≡ e) → OnOk r P
on_no_refusal (Ok x) e P is = absurd is
on_no_refusal (Err x) e P is = tt
