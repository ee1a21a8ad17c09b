use Rattle.std.proofs.Common.{rules, ap, ◌∙◌}
use Rattle.cedar_format.specs.Numbers.{u16_bytes}
use Rattle.cedar_format.proofs.NumberLemmas.{u16_bytes-read}
use Rattle.cedar_format.proofs.buffer.u16_of.Goals as goal

pub returns : goal.returns
returns c = ap u16_bytes c.from_le_bytes.ensures ∙ u16_bytes-read c.args.bytes (search rules) (λ i. search rules)
