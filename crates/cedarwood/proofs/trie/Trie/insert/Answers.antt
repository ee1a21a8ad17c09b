use Rattle.std.proofs.Common.{rules, ◌≡◌, IfOk, subst, w32, to_z, of_z, FitsSigned}
use Rattle.std.proofs.lemmas.Int.{to_z-of_z}
use Rattle.cedar_tree.specs.Tree.{number_at}
use Rattle.cedarwood.specs.Builds.{outcome}
use Rattle.cedarwood.specs.Updates.{IsUpdate}
use Rattle.cedarwood.proofs.trie.Trie.insert.Goals as goal

pub returns-clause-updated : goal.returns-clause-updated
returns-clause-updated g c =
    let fits : FitsSigned w32 c.args.value = search rules in
    let told = outcome c.insert_bytes.result in
    subst (λ v. IsUpdate g.L.Layout.kind g.row.SLOTS c.args.self.now c.insert_bytes.new.self c.args.key.now v told) (to_z-of_z w32 c.args.value fits)
    (subst (λ key. IsUpdate g.L.Layout.kind g.row.SLOTS c.args.self.now c.insert_bytes.new.self key (to_z w32 (of_z w32 c.args.value)) told) c.as_bytes.ensures.value c.insert_bytes.ensures.updated)

pub returns-clause-held : goal.returns-clause-held
returns-clause-held g c =
    subst (λ k. IfOk c.insert_bytes.result (λ held. held ≡ number_at c.args.self.now.state.tree k)) c.as_bytes.ensures.value c.insert_bytes.ensures.held
