use Rattle.std.proofs.Common.{◌++◌, List, ℕ, ap, ap₂}
use Rattle.device_lines.proofs.Writing.{breaks_first, then_writes, writes_same}
use Rattle.word_lists.specs.Texts.{ending_of, styled_text}
use Rattle.word_lists.proofs.cut.write_line_tokens.Goals as goal

pub returns-in_err-write_tokens : goal.returns-in_err-write_tokens
returns-in_err-write_tokens g c =
    let left = g.T.Tokens.left c.args.tokens.now in
    writes_same (ap (λ (text : List ℕ). styled_text c.args.style text left ++ ending_of c.args.line.now) c.body.ensures.body)
    (breaks_first (ending_of c.args.line.now) c.from_residual.ensures.1 c.in_err-write_tokens.ensures)

pub returns : goal.returns
returns g c =
    let left = g.T.Tokens.left c.args.tokens.now in
    writes_same (ap₂ (λ (text ending : List ℕ). styled_text c.args.style text left ++ ending) c.body.ensures.body c.ending.ensures)
    (then_writes c.in_ok-write_tokens.ensures c.write_whole.ensures)
