use Rattle.std.proofs.Common.{◌∙◌, Option, subst, sym}
use Rattle.word_lists.specs.Stored.{Adds, told_one}
use Rattle.word_lists.specs.declared.lines.LineFault.{LineFault as Fault}
use Rattle.word_lists.proofs.ListedLines.{Adds-none}
use Rattle.word_lists.proofs.lines.pass_line.Goals as goal

pub returns-in-None-clause-told : goal.returns-in-None-clause-told
returns-in-None-clause-told g c =
    let told = g.F.LineFaults.told c.args.faults.now in
    subst (λ (o : Option Fault). Adds told told (told_one c.args.number c.args.line.now o)) (sym c.in-None.is ∙ c.in_ok-fault.ensures.told) (Adds-none told)
