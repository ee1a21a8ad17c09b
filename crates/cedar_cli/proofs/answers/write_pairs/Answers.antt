use Rattle.std.proofs.Common.{◌++◌, ◌∷◌, []}
use Rattle.cedar_cli.specs.Script.{pair_text, spaced_texts}
use Rattle.device_lines.proofs.Writing.{breaks_first, then_writes, writes_same}
use Rattle.cedar_cli.proofs.JoinedLines.{joined_line}
use Rattle.cedar_cli.proofs.answers.write_pairs.Goals as goal

pub returns-in_err-write_pair : goal.returns-in_err-write_pair
returns-in_err-write_pair g c =
    writes_same (joined_line pair_text (g.P.Pairs.left c.args.pairs.now) (g.P.Pairs.left c.next_pair.new.self) c.in-Some.first c.in-Some.ensures)
    (breaks_first (spaced_texts pair_text (g.P.Pairs.left c.next_pair.new.self) ++ 10 ∷ []) c.from_residual.ensures.1 c.in_err-write_pair.ensures)

pub returns : goal.returns
returns g c =
    writes_same (joined_line pair_text (g.P.Pairs.left c.args.pairs.now) (g.P.Pairs.left c.next_pair.new.self) c.in-Some.first c.in-Some.ensures)
    (then_writes c.in_ok-write_pair.ensures c.write_further.ensures)
