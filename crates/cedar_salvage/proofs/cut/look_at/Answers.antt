use Rattle.std.proofs.Common.{arith}
use Rattle.cedar_salvage.proofs.Looking.{few_look, other_look, short_look, shut_look, whole_look}
use Rattle.cedar_salvage.proofs.cut.look_at.Goals as goal

pub returns-then-bytes-lt10 : goal.returns-then-bytes-lt10
returns-then-bytes-lt10 c = few_look c.args.bytes.now (omega arith)

pub returns-then-bytes-eq0 : goal.returns-then-bytes-eq0
returns-then-bytes-eq0 c = shut_look c.args.bytes.now (omega arith) (omega arith)

pub returns-then-bytes-gt-BATCH : goal.returns-then-bytes-gt-BATCH
returns-then-bytes-gt-BATCH c = other_look c.args.bytes.now (omega arith) (omega arith) (omega arith)

pub returns-then-len-bytes : goal.returns-then-len-bytes
returns-then-len-bytes c =
    short_look c.args.bytes.now (omega arith) c.number-len.result (omega arith) (omega arith) (omega (arith, c.number-len.ensures)) (omega arith)

pub returns : goal.returns
returns c = whole_look c.args.bytes.now (omega arith) c.number-len.result (omega arith) (omega arith) (omega (arith, c.number-len.ensures)) (omega arith)
