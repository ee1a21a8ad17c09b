use Rattle.std.specs.Prelude.{option_map, Some, IfErr, OnOk}
use Rattle.std.proofs.Common.{◌≡◌, length, ◌∙◌, ap, sym, subst, arith}
use Rattle.std.proofs.lemmas.Bool.{eqb-true}
use Rattle.cedar_store.specs.Causes.{ReplayCause}
use Rattle.cedar_store.specs.Changes.{after_change, put_of}
use Rattle.cedar_store.proofs.Payloads.{of_nothing, of_erase, of_put, of_other, some_byte, rest_is}
use Rattle.cedarwood.specs.State.{after_erase}
use Rattle.cedar_store.proofs.replay.apply_one.Goals as goal

pub returns-then-is_empty-clause-cause : goal.returns-then-is_empty-clause-cause
returns-then-is_empty-clause-cause g c = ap (option_map (after_change (g.T.Words.state c.args.words.now))) (of_nothing c.args.payload.now (eqb-true (length c.args.payload.now) 0 (sym c.if-is_empty.ensures)))

pub returns-then-payload-eq-ERASE-clause-state : goal.returns-then-payload-eq-ERASE-clause-state
returns-then-payload-eq-ERASE-clause-state g c =
    let s = (g.T.Words.state c.args.words.now) in
    let rest = rest_is 1 c.args.payload.now in
    ap (option_map (after_change s)) (of_erase c.args.payload.now (some_byte c.args.payload.now (sym c.if-is_empty.ensures)) (omega arith))
    ∙ ap Some (ap (after_erase s) (sym rest) ∙ sym c.remove.ensures)

pub returns-then-payload-eq-PUT-clause-state : goal.returns-then-payload-eq-PUT-clause-state
returns-then-payload-eq-PUT-clause-state g c =
    let s = (g.T.Words.state c.args.words.now) in
    let same = ap put_of (rest_is 1 c.args.payload.now) ∙ sym (of_put c.args.payload.now (some_byte c.args.payload.now (sym c.if-is_empty.ensures)) (omega arith)) in
    subst (λ o. OnOk c.put_again.result (option_map (after_change s) o ≡ Some (g.T.Words.state c.put_again.new.words))) same c.put_again.ensures.state

pub returns-then-payload-eq-PUT-clause-cause : goal.returns-then-payload-eq-PUT-clause-cause
returns-then-payload-eq-PUT-clause-cause g c =
    let s = (g.T.Words.state c.args.words.now) in
    let same = ap put_of (rest_is 1 c.args.payload.now) ∙ sym (of_put c.args.payload.now (some_byte c.args.payload.now (sym c.if-is_empty.ensures)) (omega arith)) in
    subst (λ o. IfErr c.put_again.result (λ error. ReplayCause (option_map (after_change s) o) error)) same c.put_again.ensures.cause

pub returns-clause-cause : goal.returns-clause-cause
returns-clause-cause g c = ap (option_map (after_change (g.T.Words.state c.args.words.now))) (of_other c.args.payload.now (some_byte c.args.payload.now (sym c.if-is_empty.ensures)) c.if-payload-eq-ERASE.false c.if-payload-eq-PUT.false)
