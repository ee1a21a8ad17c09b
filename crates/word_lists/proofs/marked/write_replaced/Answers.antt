use Rattle.std.proofs.Common.{◌≡◌, ◌++◌, ◌∙◌, List, ap}
use Rattle.cedar_words.specs.Words.{Token, segments}
use Rattle.device_lines.proofs.Writing.{writes_same}
use Rattle.word_lists.specs.Texts.{body_of, ending_of, replaced_text}
use Rattle.word_lists.proofs.marked.write_replaced.Goals as goal

pub returns : goal.returns
returns g c =
    let tree = c.args.trie.now.state.tree in
    let tokens : c.segment.result ≡ segments tree (body_of c.args.line.now) = c.segment.ensures ∙ ap (segments tree) c.body.ensures.body in
    writes_same (ap (λ (t : List Token). replaced_text c.args.lines.now (body_of c.args.line.now) t ++ ending_of c.args.line.now) tokens) c.write_line_tokens.ensures
