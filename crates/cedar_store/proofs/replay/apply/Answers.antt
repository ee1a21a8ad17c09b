use Rattle.std.specs.Prelude.{option_map, Some, IfErr, OnOk}
use Rattle.std.proofs.Common.{◌≡◌, length, ◌∙◌, ap, sym, subst, arith}
use Rattle.std.proofs.lemmas.Bool.{eqb-true}
use Rattle.cedar_store.specs.Causes.{ReplayCause}
use Rattle.cedar_store.specs.Changes.{all_changed, batch_of}
use Rattle.cedar_store.proofs.Payloads.{no_changes, of_batch, rest_is, single_after}
use Rattle.cedar_store.proofs.replay.apply.Goals as goal

pub returns-then-is_empty-clause-cause : goal.returns-then-is_empty-clause-cause
returns-then-is_empty-clause-cause g c = ap (option_map (all_changed (g.T.Words.state c.args.words.now))) (no_changes c.args.payload.now (eqb-true (length c.args.payload.now) 0 (sym c.if-is_empty.ensures)))

pub returns-then-payload-eq-BATCH-clause-state : goal.returns-then-payload-eq-BATCH-clause-state
returns-then-payload-eq-BATCH-clause-state g c =
    let s = (g.T.Words.state c.args.words.now) in
    let same = ap batch_of (rest_is 1 c.args.payload.now) ∙ sym (of_batch c.args.payload.now (omega arith)) in
    subst (λ o. OnOk c.apply_batch.result (option_map (all_changed s) o ≡ Some (g.T.Words.state c.apply_batch.new.words))) same c.apply_batch.ensures.state

pub returns-then-payload-eq-BATCH-clause-cause : goal.returns-then-payload-eq-BATCH-clause-cause
returns-then-payload-eq-BATCH-clause-cause g c =
    let s = (g.T.Words.state c.args.words.now) in
    let same = ap batch_of (rest_is 1 c.args.payload.now) ∙ sym (of_batch c.args.payload.now (omega arith)) in
    subst (λ o. IfErr c.apply_batch.result (λ error. ReplayCause (option_map (all_changed s) o) error)) same c.apply_batch.ensures.cause

pub returns-clause-state : goal.returns-clause-state
returns-clause-state g c =
    let same = single_after (g.T.Words.state c.args.words.now) c.args.payload.now c.if-payload-eq-BATCH.false in
    subst (λ o. OnOk c.apply_one.result (o ≡ Some (g.T.Words.state c.apply_one.new.words))) same c.apply_one.ensures.state

pub returns-clause-cause : goal.returns-clause-cause
returns-clause-cause g c =
    let same = single_after (g.T.Words.state c.args.words.now) c.args.payload.now c.if-payload-eq-BATCH.false in
    subst (λ o. IfErr c.apply_one.result (λ error. ReplayCause o error)) same c.apply_one.ensures.cause
