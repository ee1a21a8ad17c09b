use Rattle.std.proofs.Common.{rules, ℤ, Ok, Err, Result, subst, w32, FitsSigned}
use Rattle.std.proofs.lemmas.Int.{to_z-of_z}
use Rattle.cedarwood.specs.declared.error.CedarError.{CedarError}
use Rattle.cedarwood.specs.Updates.{IsUpdate}
use Rattle.cedarwood.proofs.trie.Trie.update_bytes.Goals as goal

pub returns-in-Ok : goal.returns-in-Ok
returns-in-Ok g c =
    let fits : FitsSigned w32 c.args.value = search rules in
    let r : Result (Unit {0}) CedarError = Ok tt in
    record { updated = subst (λ (v : ℤ). IsUpdate g.L.Layout.kind g.row.SLOTS c.args.self.now c.insert_bytes.new.self c.args.key.now v r) (to_z-of_z w32 c.args.value fits) c.in-Ok.ensures.updated }

pub returns-in-Err : goal.returns-in-Err
returns-in-Err g c =
    let fits : FitsSigned w32 c.args.value = search rules in
    let r : Result (Unit {0}) CedarError = Err c.in-Err.error in
    record { updated = subst (λ (v : ℤ). IsUpdate g.L.Layout.kind g.row.SLOTS c.args.self.now c.insert_bytes.new.self c.args.key.now v r) (to_z-of_z w32 c.args.value fits) c.in-Err.ensures.updated }
