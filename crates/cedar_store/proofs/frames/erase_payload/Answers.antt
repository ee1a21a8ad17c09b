use Rattle.std.proofs.Common.{◌≡◌, ◌∷◌, ◌∙◌, ap, refl, arith, rules}
use Rattle.cedar_store.specs.Changes.{change_of, erase_at}
use Rattle.cedar_store.proofs.Payloads.{of_erase, one_change}
use Rattle.cedar_store.proofs.frames.erase_payload.Goals as goal

pub returns-clause-change : goal.returns-clause-change
returns-clause-change g c =
    let is : c.extend_from_slice.new.self.items ≡ 0 ∷ c.args.key.now = search rules in
    ap change_of is ∙ of_erase (0 ∷ c.args.key.now) (omega arith) refl

pub returns-clause-alone : goal.returns-clause-alone
returns-clause-alone g c = one_change c.extend_from_slice.new.self.items (erase_at c.args.key.now) (returns-clause-change g c)
