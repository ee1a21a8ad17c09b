use Rattle.std.proofs.Common.{◌++◌, ◌∷◌, ◌∙◌, [], ap, append_assoc, subst, sym}
use Rattle.std.specs.Prelude.{codes}
use Rattle.std.specs.Io.KnownBytes.{Appends}
use Rattle.cedarwood.specs.WatchedDevice.{device_of}
use Rattle.cedar_words.specs.Words.{Token}
use Rattle.cedar_cli.specs.Script.{spaced_texts, token_text}
use Rattle.device_lines.proofs.Bytes.{Appends-append}
use Rattle.cedar_cli.proofs.JoinedLines.{spaced_push, spaced_stopped}
use Rattle.device_lines.proofs.Writing.{breaks_off}
use Rattle.cedar_cli.proofs.answers.write_spaced.Goals as goal

pub loop-token-preserved : goal.loop-token-preserved
loop-token-preserved g c =
    let i = c.loop-token.invariant in
    let came = c.loop-token.yielded in
    let t : Token = c.in-Some.token in
    let held = g.W.Write.contents (device_of c.args.writer.now) in
    let begun = g.W.Write.contents (device_of c.loop-token.writer) in
    let holds = g.W.Write.contents (device_of c.write_next.new.writer) in
    record {
      came = i.came ∙ ap (λ l. came ++ l) c.in-Some.ensures.steps ∙ sym (append_assoc came (t ∷ []) c.next.new.self);
      written = subst (Appends held holds) (sym (spaced_push token_text came t)) (Appends-append held begun holds (spaced_texts token_text came) (codes " " ++ token_text t) i.written c.in_ok-write_next.ensures.ok);
      unfailed = c.in_ok-write_next.ensures.faults.unfailed ∙ i.unfailed;
    }

pub returns-in_err-write_next : goal.returns-in_err-write_next
returns-in_err-write_next g c =
    let i = c.loop-token.invariant in
    let came = c.loop-token.yielded in
    breaks_off c.from_residual.ensures.1 c.in_err-write_next.ensures
    (spaced_stopped token_text (g.W.Write.contents (device_of c.args.writer.now)) (g.W.Write.contents (device_of c.loop-token.writer)) (g.W.Write.contents (device_of c.write_next.new.writer))
    c.args.tokens came c.next.new.self c.in-Some.token (i.came ∙ ap (λ l. came ++ l) c.in-Some.ensures.steps) i.written c.in_err-write_next.ensures.err)
