use Rattle.std.proofs.Common.{rules, ◌∙◌, ℤ, Option, ap, FitsSigned, w32}
use Rattle.word_lists.specs.Lines.{is_number}
use Rattle.word_lists.proofs.Figures.{same_bits}
use Rattle.word_lists.proofs.pairs.holds.Goals as goal

pub returns-in-Some : goal.returns-in-Some
returns-in-Some g c =
    let fits : FitsSigned w32 c.in-Some.held = search rules in
    same_bits c.in-Some.held c.args.value fits c.ranges.value ∙ ap (λ (o : Option ℤ). is_number o c.args.value) c.in-Some.ensures
