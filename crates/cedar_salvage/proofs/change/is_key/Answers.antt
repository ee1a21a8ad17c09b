use Rattle.std.specs.Prelude.{is_some, not}
use Rattle.std.proofs.Common.{length, ◌∙◌, ap, sym}
use Rattle.std.proofs.lemmas.Bool.{eqb-true}
use Rattle.cedar_salvage.proofs.Changes.{empty_key, some_key}
use Rattle.cedar_salvage.proofs.change.is_key.Goals as goal

pub returns-then-is_empty : goal.returns-then-is_empty
returns-then-is_empty c = empty_key c.args.key.now (eqb-true (length c.args.key.now) 0 (sym c.if-is_empty.ensures))

pub returns-in-Some : goal.returns-in-Some
returns-in-Some c =
    sym (ap (λ o. not (is_some o)) c.in-Some.is) ∙ ap (λ o. not (is_some o)) c.nul_position.ensures ∙ some_key c.args.key.now (sym c.if-is_empty.ensures)

pub returns-in-None : goal.returns-in-None
returns-in-None c =
    sym (ap (λ o. not (is_some o)) c.in-None.is) ∙ ap (λ o. not (is_some o)) c.nul_position.ensures ∙ some_key c.args.key.now (sym c.if-is_empty.ensures)
