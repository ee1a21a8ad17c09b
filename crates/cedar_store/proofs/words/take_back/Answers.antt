use Rattle.std.proofs.Common.{◌∙◌, subst, rules}
use Rattle.std.specs.Prelude.{FitsSigned}
use Rattle.std.proofs.lemmas.Int.{to_z-of_z}
use mir.Syntax.{w32}
use Rattle.cedar_store.specs.Undo.{IsPutOf}
use Rattle.cedar_store.proofs.Undone.{by_erasure, put_back}
use Rattle.cedar_store.proofs.words.take_back.Goals as goal

pub returns-in-None : goal.returns-in-None
returns-in-None g c = λ s p. c.remove.ensures ∙ by_erasure s (g.T.Words.state c.args.words.now) c.args.key.now (subst (λ held. IsPutOf s c.args.key.now held (g.T.Words.state c.args.words.now)) c.in-None.is p)

pub returns-in-Some : goal.returns-in-Some
returns-in-Some g c = λ s p. let u = c.put_over.ensures.updated in
    let fits : FitsSigned w32 c.in-Some.value = search rules in
    put_back s (g.T.Words.state c.args.words.now) (g.T.Words.state c.put_over.new.self) c.args.key.now c.in-Some.value _ c.put_over.result (to_z-of_z w32 c.in-Some.value fits)
    (subst (λ held. IsPutOf s c.args.key.now held (g.T.Words.state c.args.words.now)) c.in-Some.is p) u.refused u.ok
