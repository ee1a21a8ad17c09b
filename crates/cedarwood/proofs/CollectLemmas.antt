-- What a walk that shows what it has left gives until it ends.
use Rattle.std.proofs.Common.{◌≡◌, List, [], ◌∷◌, ◌++◌, ap, sym, ◌∙◌}
use Rattle.std.proofs.lemmas.List.{append-nil}
use Rattle.std.specs.Iterator.{DrainsIf, Yields, YieldsFirst}

given : {S A : Type 0} (rest : S → List A) (xs : List A) (s t : S) → Yields (YieldsFirst rest) s xs t → rest s ≡ xs ++ rest t
given rest [] s t y = ap rest y
given rest (x ∷ xs) s t y = y.1 ∙ ap (λ r. x ∷ r) (given rest xs y.0 t y.2)

-- all that it had left
pub all_given : {S A : Type 0} (rest : S → List A) (xs : List A) (s : S) → DrainsIf (YieldsFirst rest) (Unit {0}) s xs → xs ≡ rest s
all_given rest xs s d = sym (given rest xs s d.0 d.1 ∙ ap (λ r. xs ++ r) (d.2 tt).1.0 ∙ append-nil xs)
