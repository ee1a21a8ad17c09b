use Rattle.std.specs.Prelude.{FitsSigned}
use Rattle.std.proofs.Common.{subst, rules}
use Rattle.std.proofs.lemmas.Int.{to_z-of_z}
use mir.Syntax.{w32}
use Rattle.cedar_store.specs.Puts.{IsPut}
use Rattle.cedar_store.proofs.words.TrieWords.put_over.Goals as goal

pub returns : goal.returns
returns g c =
    let u = c.update_bytes.ensures.updated in
    let fits : FitsSigned w32 c.args.value = search rules in
    record {
      updated = subst (λ v. IsPut c.args.self.now.state c.update_bytes.new.self.state c.args.key.now v c.update_bytes.result) (to_z-of_z w32 c.args.value fits)
          (record { faulty = u.faulty; ok = u.ok; err = u.err; refused = u.refused });
    }
