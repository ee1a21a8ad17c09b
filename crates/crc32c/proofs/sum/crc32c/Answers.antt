use Rattle.std.proofs.Common.{arith}
use Rattle.crc32c.proofs.Last.{last_is_sum}
use Rattle.crc32c.proofs.sum.crc32c.Goals as goal

pub returns : goal.returns
returns c = last_is_sum c.register_after.result c.args.bytes.now (omega arith) c.register_after.ensures
