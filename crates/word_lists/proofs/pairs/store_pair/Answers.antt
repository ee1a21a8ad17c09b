use Rattle.std.proofs.Common.{rules, ◌≡◌, ◌∙◌, ℤ, subst, sym, FitsSigned, w32}
use Rattle.std.proofs.lemmas.Int.{to_z-of_z}
use Rattle.cedarwood.specs.State.{after_put}
use Rattle.word_lists.specs.Stored.{IsWant}
use Rattle.word_lists.specs.declared.lines.StoreError.TheVariants.{SlotLimit}
use Rattle.word_lists.proofs.Refusals.{slots_wanted, store_same, update_err, wants}
use Rattle.word_lists.proofs.pairs.store_pair.Goals as goal

pub returns-in-Ok-clause-ok : goal.returns-in-Ok-clause-ok
returns-in-Ok-clause-ok g c =
    let fits : FitsSigned w32 c.args.value = search rules in
    subst (λ (v : ℤ). c.update_bytes.new.self.state ≡ after_put c.args.trie.now.state c.args.key.now v) (to_z-of_z w32 c.args.value fits) c.in-Ok.ensures.updated.ok

pub returns-in-Err-clause-want : goal.returns-in-Err-clause-want
returns-in-Err-clause-want g c = subst IsWant (sym c.store_error.ensures) (wants c.in-Err.error)

pub returns-in-Err-clause-limit : goal.returns-in-Err-clause-limit
returns-in-Err-clause-limit g c = λ is.
    c.in-Err.ensures.updated.limit (update_err (slots_wanted c.in-Err.error (sym c.store_error.ensures ∙ store_same c.store_error.result SlotLimit is)))
