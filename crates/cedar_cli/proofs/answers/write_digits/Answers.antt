use Rattle.std.proofs.Common.{[], refl, ◌∙◌}
use Rattle.cedarwood.specs.WatchedDevice.{device_of}
use Rattle.device_lines.proofs.Writing.{breaks_off}
use Rattle.cedar_cli.proofs.EntryLines.{digits_none, digits_stopped, digits_more}
use Rattle.cedar_cli.proofs.answers.write_digits.Goals as goal

pub loop-rest-init : goal.loop-rest-init
loop-rest-init g c = ([], refl, digits_none (g.W.Write.contents (device_of c.args.writer.now)), refl)

pub returns-in_err-write_piece : goal.returns-in_err-write_piece
returns-in_err-write_piece g c =
    let i = c.loop-rest.invariant in
    breaks_off c.from_residual.ensures.1 c.in_err-write_piece.ensures
    (digits_stopped (g.W.Write.contents (device_of c.args.writer.now)) (g.W.Write.contents (device_of c.loop-rest.writer)) (g.W.Write.contents (device_of c.write_piece.new.writer))
    c.args.bytes.now i.0 c.loop-rest.rest.now c.min-count.result i.1 i.2 c.in_err-write_piece.ensures.err)

pub loop-rest-preserved : goal.loop-rest-preserved
loop-rest-preserved g c =
    let i = c.loop-rest.invariant in
    let more = digits_more (g.W.Write.contents (device_of c.args.writer.now)) (g.W.Write.contents (device_of c.loop-rest.writer)) (g.W.Write.contents (device_of c.write_piece.new.writer))
    c.args.bytes.now i.0 c.loop-rest.rest.now c.min-count.result i.1 i.2 c.in_ok-write_piece.ensures.ok in
    (more.0, more.1, more.2, c.in_ok-write_piece.ensures.faults.unfailed ∙ i.3)
