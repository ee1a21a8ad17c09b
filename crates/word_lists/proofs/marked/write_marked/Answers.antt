use Rattle.std.proofs.Common.{◌≡◌, ◌++◌, ◌∙◌, List, ℕ, ap, false, length, sym, true}
use Rattle.std.specs.Prelude.{ltb}
use Rattle.cedar_words.specs.Words.{Token, keywords_in, segments}
use Rattle.device_lines.proofs.Writing.{breaks_all, writes_all, writes_nothing, writes_same}
use Rattle.word_lists.specs.Texts.{body_of, ending_of, marked_token, texts_of}
use Rattle.word_lists.proofs.Texts.{marked_none, marked_some}
use Rattle.word_lists.proofs.marked.write_marked.Goals as goal

pub returns-then-not-has_keyword-clause-writes : goal.returns-then-not-has_keyword-clause-writes
returns-then-not-has_keyword-clause-writes g c =
    let tree = c.args.trie.now.state.tree in
    let line = c.args.line.now in
    let count = λ (text : List ℕ). ltb 0 (length (keywords_in tree text)) in
    let none : count (body_of line) ≡ false = ap count (sym c.body.ensures.body) ∙ sym c.has_keyword.ensures ∙ c.if-not-has_keyword.true in
    writes_same (marked_none tree line none) writes_nothing

pub returns-in_err-write_line_tokens-clause-writes : goal.returns-in_err-write_line_tokens-clause-writes
returns-in_err-write_line_tokens-clause-writes g c =
    let tree = c.args.trie.now.state.tree in
    let line = c.args.line.now in
    let count = λ (text : List ℕ). ltb 0 (length (keywords_in tree text)) in
    let tokens : c.segment.result ≡ segments tree (body_of line) = c.segment.ensures ∙ ap (segments tree) c.body-2.ensures.body in
    let some : count (body_of line) ≡ true = ap count (sym c.body.ensures.body) ∙ sym c.has_keyword.ensures ∙ c.if-not-has_keyword.false in
    writes_same (ap (λ (t : List Token). texts_of (marked_token (body_of line)) t ++ ending_of line) tokens ∙ marked_some tree line some)
    (breaks_all c.from_residual.ensures.1 c.in_err-write_line_tokens.ensures)

pub returns-clause-writes : goal.returns-clause-writes
returns-clause-writes g c =
    let tree = c.args.trie.now.state.tree in
    let line = c.args.line.now in
    let count = λ (text : List ℕ). ltb 0 (length (keywords_in tree text)) in
    let tokens : c.segment.result ≡ segments tree (body_of line) = c.segment.ensures ∙ ap (segments tree) c.body-2.ensures.body in
    let some : count (body_of line) ≡ true = ap count (sym c.body.ensures.body) ∙ sym c.has_keyword.ensures ∙ c.if-not-has_keyword.false in
    writes_same (ap (λ (t : List Token). texts_of (marked_token (body_of line)) t ++ ending_of line) tokens ∙ marked_some tree line some)
    (writes_all c.in_ok-write_line_tokens.ensures)
