use Rattle.std.proofs.Common.{arith}
use Rattle.device_lines.proofs.Figures.{not_true}
use Rattle.word_lists.proofs.PlainLines.{read_plain}
use Rattle.word_lists.proofs.sorted.is_literal.Goals as goal

pub returns-in-None : goal.returns-in-None
returns-in-None c = λ _. read_plain c.args.text.now (λ k low. not_true (c.in-None.ensures k (omega arith) low))
