use Rattle.std.proofs.Common.{◌-◌, length, take, drop, refl, ◌∙◌, ap, arith, length-drop}
use Rattle.cedar_journal.specs.Image.{payloads_of}
use Rattle.cedar_store.proofs.Payloads.{rest_is}
use Rattle.cedar_salvage.proofs.Finding.{ends_plain, pushed_plain}
use Rattle.cedar_salvage.proofs.whole.push_changes.Goals as goal

pub loop-payload-init : goal.loop-payload-init
loop-payload-init g c = record { within = omega arith; same = refl }

pub loop-payload-preserved : goal.loop-payload-preserved
loop-payload-preserved g c =
    let before = c.loop-payload.invariant in
    let bytes = c.args.bytes.now in
    let at = c.loop-payload.at in
    record {
      within = omega (arith, before.within, c.in-Some.ensures.some, ap length (rest_is at bytes), length-drop at bytes);
      same =
          pushed_plain bytes (take (length bytes - at) (drop at bytes)) c.in-Some.payload.now at (payloads_of c.loop-payload.image) (payloads_of c.push_payload.new.image) (rest_is at bytes)
          c.in-Some.ensures.read c.in_ok-push_payload.ensures
          ∙ before.same;
    }

pub returns : goal.returns
returns g c =
    let before = c.loop-payload.invariant in
    let bytes = c.args.bytes.now in
    let at = c.loop-payload.at in
    ends_plain bytes (take (length bytes - at) (drop at bytes)) at (payloads_of c.loop-payload.image) (rest_is at bytes) c.in_default.ensures.none ∙ before.same
