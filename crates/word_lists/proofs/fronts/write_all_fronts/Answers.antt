use Rattle.std.proofs.Common.{◌≡◌, ◌++◌, ◌∷◌, ◌∙◌, ℕ, ℤ, List, [], ap, append_assoc, length, map, refl, subst, sym}
use Rattle.std.proofs.lemmas.List.{map-append}
use Rattle.std.specs.Prelude.{ltb}
use Rattle.std.specs.Io.KnownBytes.{Appends}
use Rattle.cedarwood.specs.Queries.{Entry}
use Rattle.cedarwood.specs.WatchedDevice.{device_of}
use Rattle.word_lists.specs.Lines.{entry_line, entry_lines}
use Rattle.word_lists.specs.Texts.{front_entry}
use Rattle.device_lines.proofs.Bytes.{Appends-append, Appends-none}
use Rattle.word_lists.proofs.Texts.{some_more}
use Rattle.word_lists.proofs.WordLines.{lines_push, lines_stopped}
use Rattle.device_lines.proofs.Writing.{breaks_off}
use Rattle.word_lists.proofs.fronts.write_all_fronts.Goals as goal

pub loop-front-init : goal.loop-front-init
loop-front-init g c = ([], refl, Appends-none (g.W.Write.contents (device_of c.args.writer.now)), refl, refl)

pub loop-front-preserved : goal.loop-front-preserved
loop-front-preserved g c =
    let i = c.loop-front.invariant in
    let came = i.0 in
    let found : ℤ × ℕ = c.in-Some.front in
    let told = map (front_entry c.args.text.now) came in
    let e = front_entry c.args.text.now found in
    let push : map (front_entry c.args.text.now) (came ++ found ∷ []) ≡ told ++ e ∷ [] = map-append (front_entry c.args.text.now) came (found ∷ []) in
    let held = g.W.Write.contents (device_of c.args.writer.now) in
    let begun = g.W.Write.contents (device_of c.loop-front.writer) in
    let holds = g.W.Write.contents (device_of c.write_front.new.writer) in (
      came ++ found ∷ [],
      i.1 ∙ ap (λ l. came ++ l) c.in-Some.ensures ∙ sym (append_assoc came (found ∷ []) (g.F.NextFront.left c.next_front.new.self)),
      subst (Appends held holds) (sym (ap entry_lines push ∙ lines_push told e))
          (Appends-append held begun holds (entry_lines told) (entry_line e) i.2 c.in_ok-write_front.ensures.ok),
      c.in_ok-write_front.ensures.faults.unfailed ∙ i.3,
      some_more told e ∙ ap (λ (l : List Entry). ltb 0 (length l)) (sym push),
    )

pub returns-in_err-write_front-clause-writes : goal.returns-in_err-write_front-clause-writes
returns-in_err-write_front-clause-writes g c =
    let i = c.loop-front.invariant in
    let told = map (front_entry c.args.text.now) in
    let later = g.F.NextFront.left c.next_front.new.self in
    breaks_off c.from_residual.ensures.1 c.in_err-write_front.ensures
    (lines_stopped (g.W.Write.contents (device_of c.args.writer.now)) (g.W.Write.contents (device_of c.loop-front.writer)) (g.W.Write.contents (device_of c.write_front.new.writer))
    (told (g.F.NextFront.left c.args.fronts.now)) (told i.0) (told later) (front_entry c.args.text.now c.in-Some.front)
    (ap told (i.1 ∙ ap (λ l. i.0 ++ l) c.in-Some.ensures) ∙ map-append (front_entry c.args.text.now) i.0 (c.in-Some.front ∷ later))
    i.2 c.in_err-write_front.ensures.err)
