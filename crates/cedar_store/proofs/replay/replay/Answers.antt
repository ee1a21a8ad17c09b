use Rattle.std.proofs.Common.{◌≡◌, ◌+◌, ◌-◌, length, take, drop, refl, ◌∙◌, ap, sym, subst, arith, length-drop}
use Rattle.cedar_journal.specs.Formats.{AreUndamaged, payloads_read, overhead, records_read}
use Rattle.cedar_store.specs.Changes.{after_payloads}
use Rattle.cedar_store.proofs.Payloads.{handed_on, rest_is}
use Rattle.cedar_store.proofs.Reading.{ended, next_sound, one_turn, stopped}
use Rattle.cedar_store.proofs.replay.replay.Goals as goal

pub loop-payload-init : goal.loop-payload-init
loop-payload-init g c = record { within = omega arith; sound = c.requires.sound; same = refl }

pub loop-payload-preserved : goal.loop-payload-preserved
loop-payload-preserved g c =
    let before = c.loop-payload.invariant in
    let f = c.args.format in
    let bytes = c.args.bytes.now in
    let at = c.loop-payload.at in
    let b = take (length bytes - at) (drop at bytes) in
    let p = c.in-Some.payload.now in
    let n = overhead f + length p in
    let size : c.overhead.result + length p ≡ n = ap (λ k. k + length p) c.overhead.ensures in
    let fits = c.in-Some.ensures.some in
    let read = c.in-Some.ensures.read (subst (AreUndamaged f) (sym (rest_is at bytes)) before.sound) in
    let sound = next_sound bytes b p f at n (rest_is at bytes) before.sound read in
    let turn = one_turn bytes b p f at n (rest_is at bytes) before.sound read (g.T.Words.state c.loop-payload.words) (g.T.Words.state c.apply.new.words) c.in_ok-apply.ensures.state ∙ before.same in
    record {
      within = omega (arith, before.within, size, fits, ap length (rest_is at bytes), length-drop at bytes);
      sound = subst (λ k. AreUndamaged f (drop (at + k) bytes)) (sym size) sound;
      same = ap (λ k. after_payloads (g.T.Words.state c.apply.new.words) (payloads_read (records_read f (drop (at + k) bytes)))) size ∙ turn;
    }

pub returns-in_err-apply-clause-cause : goal.returns-in_err-apply-clause-cause
returns-in_err-apply-clause-cause g c =
    let before = c.loop-payload.invariant in
    let f = c.args.format in
    let bytes = c.args.bytes.now in
    let at = c.loop-payload.at in
    let b = take (length bytes - at) (drop at bytes) in
    let p = c.in-Some.payload.now in
    handed_on c.from_residual.result c.in_err-apply.field-0.0 _ c.from_residual.ensures.1
    (stopped bytes b p f at (overhead f + length p) (rest_is at bytes) before.sound (c.in-Some.ensures.read (subst (AreUndamaged f) (sym (rest_is at bytes)) before.sound)) (g.T.Words.state c.loop-payload.words) (after_payloads (g.T.Words.state c.args.words.now) (payloads_read (records_read f bytes))) c.in_err-apply.field-0.0 before.same c.in_err-apply.ensures.cause)

pub returns-clause-state : goal.returns-clause-state
returns-clause-state g c =
    let before = c.loop-payload.invariant in
    let f = c.args.format in
    let bytes = c.args.bytes.now in
    let at = c.loop-payload.at in
    let b = take (length bytes - at) (drop at bytes) in
    sym before.same ∙ ended bytes b f at (g.T.Words.state c.loop-payload.words) (rest_is at bytes) (c.in_default.ensures.none (subst (AreUndamaged f) (sym (rest_is at bytes)) before.sound))
