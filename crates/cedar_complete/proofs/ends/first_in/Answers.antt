use Rattle.std.proofs.Common.{sym, ◌∙◌, subst, IfOk}
use Rattle.std.proofs.lemmas.Bool.{true≢false}
use Rattle.last_entries.specs.Nearness.{entry_told}
use Rattle.cedar_complete.specs.Ends.{IsHeadOf}
use Rattle.cedar_complete.proofs.ends.first_in.Goals as goal

pub returns-in-Some-clause-found : goal.returns-in-Some-clause-found
returns-in-Some-clause-found g c = subst (λ es. IfOk c.first_of.result (λ found. IsHeadOf es (entry_told found))) c.in-Some.ensures.1 c.first_of.ensures.found

pub returns-in-Some-clause-order : goal.returns-in-Some-clause-order
returns-in-Some-clause-order g c = λ h. absurd (true≢false (sym c.in-Some.ensures.0 ∙ h))

pub returns-in-None-clause-refused : goal.returns-in-None-clause-refused
returns-in-None-clause-refused g c = λ h. absurd (true≢false (sym h ∙ c.in-None.ensures))
