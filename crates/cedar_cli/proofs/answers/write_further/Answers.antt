use Rattle.std.proofs.Common.{◌++◌, ◌∷◌, ◌∙◌, [], ℕ, ℤ, ap, append_assoc, refl, subst, sym}
use Rattle.std.specs.Prelude.{codes}
use Rattle.std.specs.Io.KnownBytes.{Appends}
use Rattle.cedarwood.specs.WatchedDevice.{device_of}
use Rattle.cedar_cli.specs.Script.{pair_text, spaced_texts}
use Rattle.device_lines.proofs.Bytes.{Appends-append, Appends-none}
use Rattle.cedar_cli.proofs.JoinedLines.{spaced_push, spaced_stopped}
use Rattle.device_lines.proofs.Writing.{breaks_off}
use Rattle.cedar_cli.proofs.answers.write_further.Goals as goal

pub loop-pair-init : goal.loop-pair-init
loop-pair-init g c = ([], refl, Appends-none (g.W.Write.contents (device_of c.args.writer.now)), refl)

pub loop-pair-preserved : goal.loop-pair-preserved
loop-pair-preserved g c =
    let i = c.loop-pair.invariant in
    let came = i.0 in
    let pair : ℤ × ℕ = c.in-Some.pair in
    let held = g.W.Write.contents (device_of c.args.writer.now) in
    let begun = g.W.Write.contents (device_of c.loop-pair.writer) in
    let holds = g.W.Write.contents (device_of c.write_after_space.new.writer) in (
      came ++ pair ∷ [],
      i.1 ∙ ap (λ l. came ++ l) c.in-Some.ensures ∙ sym (append_assoc came (pair ∷ []) (g.P.Pairs.left c.next_pair.new.self)),
      subst (Appends held holds) (sym (spaced_push pair_text came pair)) (Appends-append held begun holds (spaced_texts pair_text came) (codes " " ++ pair_text pair) i.2 c.in_ok-write_after_space.ensures.ok),
      c.in_ok-write_after_space.ensures.faults.unfailed ∙ i.3,
    )

pub returns-in_err-write_after_space : goal.returns-in_err-write_after_space
returns-in_err-write_after_space g c =
    let i = c.loop-pair.invariant in
    breaks_off c.from_residual.ensures.1 c.in_err-write_after_space.ensures
    (spaced_stopped pair_text (g.W.Write.contents (device_of c.args.writer.now)) (g.W.Write.contents (device_of c.loop-pair.writer)) (g.W.Write.contents (device_of c.write_after_space.new.writer))
    (g.P.Pairs.left c.args.pairs.now) i.0 (g.P.Pairs.left c.next_pair.new.self) c.in-Some.pair (i.1 ∙ ap (λ l. i.0 ++ l) c.in-Some.ensures) i.2 c.in_err-write_after_space.ensures.err)
