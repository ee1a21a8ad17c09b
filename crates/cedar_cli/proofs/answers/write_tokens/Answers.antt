use Rattle.std.proofs.Common.{◌++◌, ◌∷◌, []}
use Rattle.cedar_cli.specs.Script.{spaced_texts, token_text}
use Rattle.device_lines.proofs.Writing.{breaks_first, then_writes, writes_same}
use Rattle.cedar_cli.proofs.JoinedLines.{joined_line}
use Rattle.cedar_cli.proofs.answers.write_tokens.Goals as goal

pub returns-in_err-write_token : goal.returns-in_err-write_token
returns-in_err-write_token g c =
    writes_same (joined_line token_text c.args.tokens c.next.new.self c.in-Some.first c.in-Some.ensures.steps)
    (breaks_first (spaced_texts token_text c.next.new.self ++ 10 ∷ []) c.from_residual.ensures.1 c.in_err-write_token.ensures)

pub returns : goal.returns
returns g c =
    writes_same (joined_line token_text c.args.tokens c.next.new.self c.in-Some.first c.in-Some.ensures.steps)
    (then_writes c.in_ok-write_token.ensures c.write_spaced.ensures)
