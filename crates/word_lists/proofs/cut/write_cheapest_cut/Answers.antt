use Rattle.std.proofs.Common.{List, subst}
use Rattle.std.specs.Prelude.{OnOk}
use Rattle.std.specs.Io.KnownBytes.{Appends}
use Rattle.cedarwood.specs.WatchedDevice.{device_of, has_failed}
use Rattle.cedar_words.specs.Words.{Token}
use Rattle.device_lines.specs.Written.{WritesFront}
use Rattle.word_lists.specs.Texts.{body_of, line_cut}
use Rattle.word_lists.specs.declared.write.ListError.TheVariants.{Write}
use Rattle.word_lists.proofs.Answered.{as_lines, of_err}
use Rattle.word_lists.proofs.Texts.{is_cheapest}
use Rattle.std.proofs.lemmas.Result.{on_ok_weaker}
use Rattle.word_lists.proofs.cut.write_cheapest_cut.Goals as goal

pub returns-clause-ok : goal.returns-clause-ok
returns-clause-ok g c =
    let held = g.W.Write.contents (device_of c.args.writer.now) in
    let holds = g.W.Write.contents (device_of c.write_line_tokens.new.writer) in
    let line = c.args.line.now in
    let sign = c.args.sign.now in
    let tokens = c.in-Ok.tokens.items in
    let found = is_cheapest c.args.trie.now.state.tree c.args.unknown (body_of line) c.body.result.now tokens c.body.ensures.body c.in-Ok.ensures.cut c.in-Ok.ensures.least c.in-Ok.ensures.capped c.in-Ok.ensures.ahead in
    on_ok_weaker c.write_line_tokens.result (λ (written : Appends held holds (line_cut sign line tokens)). (tokens, found, written))
    (subst (λ (t : List Token). OnOk c.write_line_tokens.result (Appends held holds (line_cut sign line t))) c.deref.ensures.value c.write_line_tokens.ensures.ok)

pub returns-clause-err : goal.returns-clause-err
returns-clause-err g c = λ is.
    let held = g.W.Write.contents (device_of c.args.writer.now) in
    let holds = g.W.Write.contents (device_of c.write_line_tokens.new.writer) in
    let line = c.args.line.now in
    let sign = c.args.sign.now in
    let tokens = c.in-Ok.tokens.items in
    let found = is_cheapest c.args.trie.now.state.tree c.args.unknown (body_of line) c.body.result.now tokens c.body.ensures.body c.in-Ok.ensures.cut c.in-Ok.ensures.least c.in-Ok.ensures.capped c.in-Ok.ensures.ahead in
    (tokens, found, subst (λ (t : List Token). WritesFront held holds (line_cut sign line t)) c.deref.ensures.value (of_err c.write_line_tokens.result Write is c.write_line_tokens.ensures.err))

pub returns-clause-faults : goal.returns-clause-faults
returns-clause-faults g c =
    as_lines (has_failed c.args.writer.now) (has_failed c.write_line_tokens.new.writer) c.write_line_tokens.result c.write_line_tokens.ensures.faults
