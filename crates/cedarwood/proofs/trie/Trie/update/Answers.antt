use Rattle.std.proofs.Common.{rules, subst, w32, to_z, of_z, FitsSigned}
use Rattle.std.proofs.lemmas.Int.{to_z-of_z}
use Rattle.cedarwood.specs.Updates.{IsUpdate}
use Rattle.cedarwood.proofs.trie.Trie.update.Goals as goal

pub returns : goal.returns
returns g c =
    let fits : FitsSigned w32 c.args.value = search rules in
    record {
      updated =
          subst (λ v. IsUpdate g.L.Layout.kind g.row.SLOTS c.args.self.now c.update_bytes.new.self c.args.key.now v c.update_bytes.result) (to_z-of_z w32 c.args.value fits)
          (subst (λ key. IsUpdate g.L.Layout.kind g.row.SLOTS c.args.self.now c.update_bytes.new.self key (to_z w32 (of_z w32 c.args.value)) c.update_bytes.result) c.as_bytes.ensures.value c.update_bytes.ensures.updated);
    }
