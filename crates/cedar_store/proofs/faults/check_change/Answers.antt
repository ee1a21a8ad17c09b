use Rattle.std.specs.Prelude.{FitsSigned, IfSome, IsOk, None, Err}
use Rattle.std.proofs.Common.{◌≡◌, rules, subst, sym}
use Rattle.std.proofs.lemmas.Int.{to_z-of_z}
use mir.Syntax.{w32}
use Rattle.cedarwood.specs.Fault.{fault}
use Rattle.cedar_store.specs.Batches.{change_fault}
use Rattle.cedar_store.specs.Told.{change_told}
use Rattle.cedar_store.proofs.faults.check_change.Goals as goal

pub returns-in-Update : goal.returns-in-Update
returns-in-Update c =
    let key = c.in-Update.key.now in
    let v = c.in-Update.value in
    let fits : FitsSigned w32 v = search rules in
    let same = to_z-of_z w32 v fits in
    let told = sym c.in-Update.is in
    let r = c.check_pair.result in
    record {
      faulty = subst (λ d. IfSome (change_fault (change_told d)) (λ e. r ≡ Err e)) told (subst (λ x. IfSome (fault key x) (λ e. r ≡ Err e)) same c.check_pair.ensures.faulty);
      sound = subst (λ d. change_fault (change_told d) ≡ None → IsOk r) told (subst (λ x. fault key x ≡ None → IsOk r) same c.check_pair.ensures.sound);
    }
