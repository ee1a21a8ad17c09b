use Rattle.std.proofs.Common.{rules, ◌≡◌, [], get_or, ◌∙◌}
use Rattle.cedarwood.specs.WatchedDevice.{device_of}
use Rattle.word_lists.proofs.WordLines.{bytes_more, bytes_stopped, first_byte}
use Rattle.device_lines.proofs.Writing.{breaks_off}
use Rattle.word_lists.proofs.word.write_bytes.Goals as goal

pub returns-in_err-write_byte : goal.returns-in_err-write_byte
returns-in_err-write_byte g c =
    let i = c.loop-rest.invariant in
    let rest = c.loop-rest.rest.now in
    let some : rest ≡ [] → ⊥ = search rules in
    breaks_off c.from_residual.ensures.1 c.in_err-write_byte.ensures
    (bytes_stopped (g.W.Write.contents (device_of c.args.writer.now)) (g.W.Write.contents (device_of c.loop-rest.writer)) (g.W.Write.contents (device_of c.write_byte.new.writer))
    c.args.text c.args.bytes.now i.0 rest (get_or rest 0 0) i.1 (first_byte rest some) i.2 c.in_err-write_byte.ensures.err)

pub loop-rest-preserved : goal.loop-rest-preserved
loop-rest-preserved g c =
    let i = c.loop-rest.invariant in
    let rest = c.loop-rest.rest.now in
    let some : rest ≡ [] → ⊥ = search rules in
    let more = bytes_more (g.W.Write.contents (device_of c.args.writer.now)) (g.W.Write.contents (device_of c.loop-rest.writer)) (g.W.Write.contents (device_of c.write_byte.new.writer))
    c.args.text c.args.bytes.now i.0 rest (get_or rest 0 0) i.1 (first_byte rest some) i.2 c.in_ok-write_byte.ensures.ok in
    (more.0, more.1, more.2, c.in_ok-write_byte.ensures.faults.unfailed ∙ i.3)
