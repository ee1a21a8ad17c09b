use Rattle.std.proofs.Common.{rules, ap, ◌∙◌}
use Rattle.cedar_format.specs.Numbers.{u64_bytes}
use Rattle.cedar_format.proofs.NumberLemmas.{u64_bytes-read}
use Rattle.cedar_format.proofs.buffer.u64_of.Goals as goal

pub returns : goal.returns
returns c = ap u64_bytes c.from_le_bytes.ensures ∙ u64_bytes-read c.args.bytes (search rules) (λ i. search rules)
