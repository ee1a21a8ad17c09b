use Rattle.std.proofs.Common.{◌++◌, ◌∷◌, ◌∙◌, [], ap, append_assoc, refl, subst, sym}
use Rattle.std.specs.Io.KnownBytes.{Appends}
use Rattle.cedarwood.specs.WatchedDevice.{device_of}
use Rattle.cedar_words.specs.Words.{Token}
use Rattle.word_lists.specs.Texts.{style_text, styled_text}
use Rattle.device_lines.proofs.Bytes.{Appends-append, Appends-none}
use Rattle.word_lists.proofs.Texts.{texts_push, texts_stopped}
use Rattle.device_lines.proofs.Writing.{breaks_off}
use Rattle.word_lists.proofs.cut.write_tokens.Goals as goal

pub loop-token-init : goal.loop-token-init
loop-token-init g c = ([], refl, Appends-none (g.W.Write.contents (device_of c.args.writer.now)), refl)

pub loop-token-preserved : goal.loop-token-preserved
loop-token-preserved g c =
    let i = c.loop-token.invariant in
    let came = i.0 in
    let t : Token = c.in-Some.token in
    let held = g.W.Write.contents (device_of c.args.writer.now) in
    let begun = g.W.Write.contents (device_of c.loop-token.writer) in
    let holds = g.W.Write.contents (device_of c.write_token.new.writer) in (
      came ++ t ∷ [],
      i.1 ∙ ap (λ l. came ++ l) c.in-Some.ensures ∙ sym (append_assoc came (t ∷ []) (g.T.Tokens.left c.next_token.new.self)),
      subst (Appends held holds) (sym (texts_push (style_text c.args.style c.args.text.now) came t))
          (Appends-append held begun holds (styled_text c.args.style c.args.text.now came) (style_text c.args.style c.args.text.now t) i.2 c.in_ok-write_token.ensures.ok),
      c.in_ok-write_token.ensures.faults.unfailed ∙ i.3,
    )

pub returns-in_err-write_token : goal.returns-in_err-write_token
returns-in_err-write_token g c =
    let i = c.loop-token.invariant in
    breaks_off c.from_residual.ensures.1 c.in_err-write_token.ensures
    (texts_stopped (style_text c.args.style c.args.text.now) (g.W.Write.contents (device_of c.args.writer.now)) (g.W.Write.contents (device_of c.loop-token.writer)) (g.W.Write.contents (device_of c.write_token.new.writer))
    (g.T.Tokens.left c.args.tokens.now) i.0 (g.T.Tokens.left c.next_token.new.self) c.in-Some.token (i.1 ∙ ap (λ l. i.0 ++ l) c.in-Some.ensures) i.2 c.in_err-write_token.ensures.err)
