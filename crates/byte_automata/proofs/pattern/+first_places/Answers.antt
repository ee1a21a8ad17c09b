use Rattle.std.proofs.Common.{◌^◌, add-one, ap, arith, length, pow_pos, ◌∙◌}
use Rattle.std.proofs.Math.Nat.{pow-suc}
use Rattle.byte_automata.proofs.pattern.+first_places.Goals as goal

pub returns-else-first-eq42-clause-low : goal.returns-else-first-eq42-clause-low
returns-else-first-eq42-clause-low t c =
    let n = length c.args.pattern.now in
    let twice = ap (λ m. 2 ^ m) (add-one n) ∙ pow-suc 2 n in
    omega (arith, twice, pow_pos n)
