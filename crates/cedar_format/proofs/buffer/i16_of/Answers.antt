use Rattle.std.proofs.Common.{rules}
use Rattle.cedar_format.proofs.NumberLemmas.{i16_bytes-read}
use Rattle.cedar_format.proofs.buffer.i16_of.Goals as goal

pub returns : goal.returns
returns c = i16_bytes-read c.args.bytes c.from_le_bytes.result (search rules) (λ i. search rules) c.from_le_bytes.ensures
