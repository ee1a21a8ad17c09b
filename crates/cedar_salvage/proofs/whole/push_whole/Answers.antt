use Rattle.std.proofs.Common.{refl, ◌∙◌}
use Rattle.cedar_journal.specs.Image.{payloads_of}
use Rattle.cedar_salvage.proofs.Finding.{all_found, pushed}
use Rattle.cedar_salvage.proofs.whole.push_whole.Goals as goal

pub loop-payload-init : goal.loop-payload-init
loop-payload-init g c = record { same = refl }

pub loop-payload-preserved : goal.loop-payload-preserved
loop-payload-preserved g c =
    let before = c.loop-payload.invariant in
    record {
      same =
          pushed c.loop-payload.rest.now c.in-Some.behind.now c.in-Some.payload.now (payloads_of c.loop-payload.image) (payloads_of c.push_payload.new.image) c.in-Some.ensures.some
          c.in_ok-push_payload.ensures
          ∙ before.same;
    }

pub returns : goal.returns
returns g c =
    let before = c.loop-payload.invariant in
    all_found c.loop-payload.rest.now (payloads_of c.loop-payload.image) c.in_default.ensures.none ∙ before.same
