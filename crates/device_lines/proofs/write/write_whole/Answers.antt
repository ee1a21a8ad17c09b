use Rattle.std.proofs.Common.{rules, ◌≡◌, ◌∙◌}
use Rattle.device_lines.specs.WatchedDevice.{has_failed}
use Rattle.device_lines.proofs.Bytes.{Appends-more, unfailed_by}
use Rattle.device_lines.proofs.write.write_whole.Goals as goal

pub loop-rest-preserved : goal.loop-rest-preserved
loop-rest-preserved g c =
    let taken = c.in-Ok.ensures.bytes in
    let more = Appends-more (g.W.Write.contents c.args.writer.now.device) (g.W.Write.contents c.loop-rest.writer.device) (g.W.Write.contents c.write.new.self.device) c.args.bytes.now c.loop-rest.invariant.0 c.loop-rest.rest.now c.in-Ok.count c.loop-rest.invariant.1 c.loop-rest.invariant.2 taken in
    let some : c.in-Ok.count ≡ 0 → ⊥ = search rules in (
      more.0,
      more.1,
      more.2,
      unfailed_by (has_failed c.loop-rest.writer) (has_failed c.write.new.self) c.in-Ok.count _ c.in-Ok.ensures.failed some ∙ c.loop-rest.invariant.3,
    )
