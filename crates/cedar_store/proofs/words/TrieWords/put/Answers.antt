use Rattle.std.specs.Prelude.{FitsSigned}
use Rattle.std.proofs.Common.{subst, rules}
use Rattle.std.proofs.lemmas.Int.{to_z-of_z}
use mir.Syntax.{w32}
use Rattle.cedarwood.specs.Words.{outcome}
use Rattle.cedar_store.specs.Puts.{IsPut}
use Rattle.cedar_store.proofs.words.TrieWords.put.Goals as goal

pub returns-clause-updated : goal.returns-clause-updated
returns-clause-updated g c =
    let u = c.insert_bytes.ensures.updated in
    let fits : FitsSigned w32 c.args.value = search rules in
    subst (λ v. IsPut c.args.self.now.state c.insert_bytes.new.self.state c.args.key.now v (outcome c.insert_bytes.result)) (to_z-of_z w32 c.args.value fits)
    (record { faulty = u.faulty; ok = u.ok; err = u.err; refused = u.refused })
