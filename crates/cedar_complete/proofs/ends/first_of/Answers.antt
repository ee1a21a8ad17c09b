use Rattle.std.proofs.Common.{rules, ◌≡◌, ◌∷◌, ℤ, ap, sym, ◌∙◌, FitsSigned, to_z, of_z, w32}
use Rattle.std.proofs.lemmas.Int.{to_z-of_z}
use Rattle.cedar_complete.proofs.ends.first_of.Goals as goal

pub returns-in-Ok-Some-clause-found : goal.returns-in-Ok-Some-clause-found
returns-in-Ok-Some-clause-found g c =
    let key = c.next_into.new.key.items in
    let later = c.next_into.new.self in
    let value : ℤ = c.in-Ok-Some.value in
    let is = rw c.in-Ok-Some.field-0-is at c.in-Ok-Some.ensures.found in
    let fits : FitsSigned w32 value = search rules in
    let number : to_z w32 (of_z w32 value) ≡ value = to_z-of_z w32 value fits in
    (later, is ∙ ap (λ (n : ℤ). (key, n) ∷ later) (sym number))
