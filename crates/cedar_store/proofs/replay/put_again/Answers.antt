use Rattle.std.specs.Prelude.{option_map, Some}
use Rattle.std.proofs.Common.{◌-◌, pos, length, drop, take, refl, ◌∙◌, ap, sym, subst, arith}
use Rattle.std.proofs.lemmas.Int.{to_z_pos}
use mir.Val.{to_z}
use mir.Syntax.{w32}
use Rattle.cedarwood.specs.Fault.{fault}
use Rattle.cedar_store.specs.Causes.{ReplayCause}
use Rattle.cedar_store.specs.Changes.{after_change, put_unless}
use Rattle.cedar_store.proofs.Payloads.{short_put, high_put, put_is, rest_is, shortages, sound_pair, refused_pair}
use Rattle.cedar_store.proofs.replay.put_again.Goals as goal

pub returns-then-bytes-lt4-clause-cause : goal.returns-then-bytes-lt4-clause-cause
returns-then-bytes-lt4-clause-cause g c = ap (option_map (after_change (g.T.Words.state c.args.words.now))) (short_put c.args.bytes.now (omega arith))

pub returns-then-value-clause-cause : goal.returns-then-value-clause-cause
returns-then-value-clause-cause g c = ap (option_map (after_change (g.T.Words.state c.args.words.now))) (high_put c.args.bytes.now (omega arith) (omega (arith, c.number-value.ensures)))

pub returns-in-Ok-clause-state : goal.returns-in-Ok-clause-state
returns-in-Ok-clause-state g c =
    let s = (g.T.Words.state c.args.words.now) in
    let n = c.number-value.result in
    let key = take (length c.args.bytes.now - 4) (drop 4 c.args.bytes.now) in
    let value = to_z_pos w32 n (omega arith) ∙ ap pos c.number-value.ensures in
    let u = c.put_over.ensures.updated in
    ap (option_map (after_change s)) (put_is c.args.bytes.now key (to_z w32 n) (omega arith) (rest_is 4 c.args.bytes.now) value)
    ∙ ap (λ f. option_map (after_change s) (put_unless f key (to_z w32 n))) (sound_pair (fault key (to_z w32 n)) c.put_over.result u.faulty c.in-Ok.is)
    ∙ ap Some (sym c.in-Ok.ensures.updated.ok)

pub returns-in-Err-clause-cause : goal.returns-in-Err-clause-cause
returns-in-Err-clause-cause g c =
    let s = (g.T.Words.state c.args.words.now) in
    let n = c.number-value.result in
    let key = take (length c.args.bytes.now - 4) (drop 4 c.args.bytes.now) in
    let value = to_z_pos w32 n (omega arith) ∙ ap pos c.number-value.ensures in
    let u = c.put_over.ensures.updated in
    subst (λ o. ReplayCause (option_map (after_change s) o) c.refusal.result) (sym (put_is c.args.bytes.now key (to_z w32 n) (omega arith) (rest_is 4 c.args.bytes.now) value))
    (refused_pair s key (to_z w32 n) c.in-Err.error c.refusal.result c.put_over.result (fault key (to_z w32 n)) refl u.faulty (λ sound. shortages _ c.put_over.result (u.refused sound)) c.in-Err.is c.refusal.ensures.shortage c.refusal.ensures.fault)
