use Rattle.std.proofs.Common.{◌-◌, length, take, drop, refl, ◌∙◌, ap, sym, arith, length-drop}
use Rattle.cedar_store.proofs.Payloads.{rest_is}
use Rattle.cedar_salvage.proofs.Changes.{batch_at, goes_on, longer, no_batch, stops}
use Rattle.cedar_store.proofs.Batched.{ended}
use Rattle.cedar_salvage.proofs.change.is_batch.Goals as goal

pub loop-part-init : goal.loop-part-init
loop-part-init c = record { within = omega arith; same = refl; long = omega arith }

pub loop-part-preserved : goal.loop-part-preserved
loop-part-preserved c =
    let before = c.loop-part.invariant in
    let bytes = c.args.bytes.now in
    let at = c.loop-part.done in
    let b = take (length bytes - at) (drop at bytes) in
    let some = c.in-Some.ensures.some in
    let behind = c.in-Some.ensures.behind in
    record {
      within = omega (arith, before.within, behind.0, ap length (rest_is at bytes), length-drop at bytes);
      same = goes_on bytes b c.in-Some.part.now at (rest_is at bytes) some.0 some.1 behind.1 (sym c.is_single.ensures ∙ c.if-not-is_single.false) ∙ before.same;
      long = omega (arith, before.long, longer bytes b c.in-Some.part.now at (rest_is at bytes) some.0 some.1 behind.1);
    }

pub returns-then-not-is_single : goal.returns-then-not-is_single
returns-then-not-is_single c =
    let before = c.loop-part.invariant in
    let bytes = c.args.bytes.now in
    let at = c.loop-part.done in
    let b = take (length bytes - at) (drop at bytes) in
    let some = c.in-Some.ensures.some in
    no_batch bytes (sym before.same ∙ stops bytes b c.in-Some.part.now at (rest_is at bytes) some.0 some.1 c.in-Some.ensures.behind.1 (sym c.is_single.ensures ∙ c.if-not-is_single.true))

pub returns : goal.returns
returns c =
    let before = c.loop-part.invariant in
    let bytes = c.args.bytes.now in
    let at = c.loop-part.done in
    batch_at bytes at (ended bytes (take (length bytes - at) (drop at bytes)) at (rest_is at bytes) c.in_default.ensures.none) before.same before.long
