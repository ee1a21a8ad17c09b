use Rattle.std.specs.Prelude.{option_map}
use Rattle.std.proofs.Common.{◌-◌, length, take, drop, refl, ◌∙◌, ap, sym, arith, length-drop}
use Rattle.cedar_store.specs.Changes.{all_changed, records_length}
use Rattle.cedar_store.proofs.Batched.{cut_batch, each_after, ended, one_longer, one_turn, stopped, whole_batch}
use Rattle.cedar_store.proofs.Payloads.{handed_on, rest_is}
use Rattle.cedar_store.proofs.replay.apply_batch.Goals as goal

pub loop-part-init : goal.loop-part-init
loop-part-init g c = record { within = omega arith; same = refl; long = omega arith }

pub loop-part-preserved : goal.loop-part-preserved
loop-part-preserved g c =
    let before = c.loop-part.invariant in
    let bytes = c.args.bytes.now in
    let at = c.loop-part.done in
    let b = take (length bytes - at) (drop at bytes) in
    let some = c.in-Some.ensures.some in
    let behind = c.in-Some.ensures.behind in
    record {
      within = omega (arith, before.within, behind.0, ap length (rest_is at bytes), length-drop at bytes);
      same = one_turn bytes b c.in-Some.part.now at (rest_is at bytes) some.0 some.1 behind.1 (g.T.Words.state c.loop-part.words) (g.T.Words.state c.apply_one.new.words) c.in_ok-apply_one.ensures.state ∙ before.same;
      long = omega (arith, before.long, one_longer bytes b c.in-Some.part.now at (rest_is at bytes) some.0 some.1 behind.1);
    }

pub returns-in_err-apply_one-clause-cause : goal.returns-in_err-apply_one-clause-cause
returns-in_err-apply_one-clause-cause g c =
    let before = c.loop-part.invariant in
    let bytes = c.args.bytes.now in
    let at = c.loop-part.done in
    let b = take (length bytes - at) (drop at bytes) in
    let some = c.in-Some.ensures.some in
    handed_on c.from_residual.result c.in_err-apply_one.field-0.0 _ c.from_residual.ensures.1
    (stopped bytes b c.in-Some.part.now at (rest_is at bytes) some.0 some.1 c.in-Some.ensures.behind.1 (g.T.Words.state c.args.words.now) (g.T.Words.state c.loop-part.words) c.in_err-apply_one.field-0.0 before.same c.in_err-apply_one.ensures.cause)

pub returns-then-done-bytes-clause-cause : goal.returns-then-done-bytes-clause-cause
returns-then-done-bytes-clause-cause g c =
    let before = c.loop-part.invariant in
    let bytes = c.args.bytes.now in
    let at = c.loop-part.done in
    let b = take (length bytes - at) (drop at bytes) in
    let none_left = ended bytes b at (rest_is at bytes) c.in_default.ensures.none in
    ap (option_map (all_changed (g.T.Words.state c.args.words.now))) (cut_batch bytes (λ whole. absurd (omega (arith, before.long, ap records_length none_left, whole))))

pub returns-clause-state : goal.returns-clause-state
returns-clause-state g c =
    let before = c.loop-part.invariant in
    let bytes = c.args.bytes.now in
    let at = c.loop-part.done in
    let b = take (length bytes - at) (drop at bytes) in
    let none_left = ended bytes b at (rest_is at bytes) c.in_default.ensures.none in
    ap (option_map (all_changed (g.T.Words.state c.args.words.now))) (whole_batch bytes (omega (arith, before.long, before.within, ap records_length none_left)))
    ∙ sym before.same ∙ ap (each_after (g.T.Words.state c.loop-part.words)) none_left
