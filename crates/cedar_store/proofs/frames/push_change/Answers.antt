use Rattle.std.specs.Prelude.{FitsSigned, IfErr, OnOk}
use Rattle.std.proofs.Common.{◌≡◌, ◌∙◌, ap, rules, subst, sym}
use Rattle.std.proofs.lemmas.Int.{to_z-of_z}
use mir.Syntax.{w32}
use Rattle.cedarwood.specs.Fault.{fault}
use Rattle.cedar_store.specs.Batches.{change_length, IsFaultless, IsRecorded}
use Rattle.cedar_store.specs.Causes.{PayloadCause}
use Rattle.cedar_store.specs.Changes.{put_at}
use Rattle.cedar_store.specs.Told.{change_told}
use Rattle.cedar_store.proofs.frames.push_change.Goals as goal

pub push_put-requires : goal.push_put-requires
push_put-requires g c =
    let fits : FitsSigned w32 c.in-Update.value = search rules in
    ap (fault c.in-Update.key.now) (to_z-of_z w32 c.in-Update.value fits) ∙ subst (λ d. IsFaultless (change_told d)) c.in-Update.is c.requires

pub returns-in-Update-clause-pushed : goal.returns-in-Update-clause-pushed
returns-in-Update-clause-pushed g c =
    let fits : FitsSigned w32 c.in-Update.value = search rules in
    let before = c.args.bytes.now.items in
    let after = c.push_put.new.bytes.items in
    subst (λ d. OnOk c.push_put.result (IsRecorded (change_told d) before after)) (sym c.in-Update.is)
    (subst (λ v. OnOk c.push_put.result (IsRecorded (put_at c.in-Update.key.now v) before after)) (to_z-of_z w32 c.in-Update.value fits) c.push_put.ensures.pushed)

pub returns-in-Update-clause-cause : goal.returns-in-Update-clause-cause
returns-in-Update-clause-cause g c =
    subst (λ d. IfErr c.push_put.result (λ e. PayloadCause (change_length (change_told d)) e)) (sym c.in-Update.is) c.push_put.ensures.cause

pub returns-in-Erase-clause-pushed : goal.returns-in-Erase-clause-pushed
returns-in-Erase-clause-pushed g c =
    subst (λ d. OnOk c.push_erase.result (IsRecorded (change_told d) c.args.bytes.now.items c.push_erase.new.bytes.items)) (sym c.in-Erase.is) c.push_erase.ensures.pushed

pub returns-in-Erase-clause-cause : goal.returns-in-Erase-clause-cause
returns-in-Erase-clause-cause g c =
    subst (λ d. IfErr c.push_erase.result (λ e. PayloadCause (change_length (change_told d)) e)) (sym c.in-Erase.is) c.push_erase.ensures.cause
