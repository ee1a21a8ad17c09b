use Rattle.std.proofs.Common.{◌++◌, ◌∷◌, ◌∙◌, [], ap, append_assoc, refl, subst, sym}
use Rattle.std.specs.Io.KnownBytes.{Appends}
use Rattle.cedarwood.specs.WatchedDevice.{device_of}
use Rattle.cedar_words.specs.Words.{Spot}
use Rattle.word_lists.specs.Texts.{spot_line, spot_lines}
use Rattle.device_lines.proofs.Bytes.{Appends-append, Appends-none}
use Rattle.word_lists.proofs.Texts.{some_more, spots_push, spots_stopped}
use Rattle.device_lines.proofs.Writing.{breaks_off}
use Rattle.word_lists.proofs.scan.write_spots.Goals as goal

pub loop-spot-init : goal.loop-spot-init
loop-spot-init g c = ([], refl, Appends-none (g.W.Write.contents (device_of c.args.writer.now)), refl, refl, refl)

pub loop-spot-preserved : goal.loop-spot-preserved
loop-spot-preserved g c =
    let i = c.loop-spot.invariant in
    let came = i.0 in
    let s : Spot = c.in-Some.spot in
    let held = g.W.Write.contents (device_of c.args.writer.now) in
    let begun = g.W.Write.contents (device_of c.loop-spot.writer) in
    let holds = g.W.Write.contents (device_of c.write_spot.new.writer) in (
      came ++ s ∷ [],
      i.1 ∙ ap (λ l. came ++ l) c.in-Some.ensures ∙ sym (append_assoc came (s ∷ []) (g.S.Spots.left c.next_spot.new.self)),
      subst (Appends held holds) (sym (spots_push c.args.line c.args.text.now came s))
          (Appends-append held begun holds (spot_lines c.args.line c.args.text.now came) (spot_line c.args.line c.args.text.now s) i.2 c.in_ok-write_spot.ensures.ok),
      c.in_ok-write_spot.ensures.faults.unfailed ∙ i.3,
      some_more came s,
      c.characters_before-before.ensures.all,
    )

pub returns-in_err-write_spot-clause-writes : goal.returns-in_err-write_spot-clause-writes
returns-in_err-write_spot-clause-writes g c =
    let i = c.loop-spot.invariant in
    breaks_off c.from_residual.ensures.1 c.in_err-write_spot.ensures
    (spots_stopped c.args.line c.args.text.now (g.W.Write.contents (device_of c.args.writer.now)) (g.W.Write.contents (device_of c.loop-spot.writer)) (g.W.Write.contents (device_of c.write_spot.new.writer))
    (g.S.Spots.left c.args.spots.now) i.0 (g.S.Spots.left c.next_spot.new.self) c.in-Some.spot (i.1 ∙ ap (λ l. i.0 ++ l) c.in-Some.ensures) i.2 c.in_err-write_spot.ensures.err)
