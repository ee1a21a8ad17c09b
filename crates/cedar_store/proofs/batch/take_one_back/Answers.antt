use Rattle.std.proofs.Common.{◌≡◌, ◌∙◌, ap, subst, sym}
use Rattle.cedarwood.specs.State.{after_put}
use Rattle.cedar_store.specs.Batches.{IsHeld, only_updated}
use Rattle.cedar_store.specs.Told.{change_told}
use Rattle.cedar_store.specs.Undo.{IsPutOf}
use Rattle.cedar_store.proofs.batch.take_one_back.Goals as goal

pub returns-in-Update : goal.returns-in-Update
returns-in-Update g c = λ s held is.
    let key = c.in-Update.key.now in
    let same : (g.T.Words.state c.args.words.now) ≡ after_put s key c.in-Update.value = is ∙ ap (λ d. only_updated s (change_told d)) c.in-Update.is in
    c.take_back.ensures s (subst (IsPutOf s key c.args.held) (sym same) (subst (λ d. IsHeld s (change_told d) c.args.held) c.in-Update.is held))

pub returns-in-Erase : goal.returns-in-Erase
returns-in-Erase g c = λ s held is. is ∙ ap (λ d. only_updated s (change_told d)) c.in-Erase.is
