use Rattle.std.proofs.Common.{◌++◌, List, ap, drop, ℕ}
use Rattle.cedar_file.proofs.save.put_table.Goals as goal

pub returns-clause-bytes : goal.returns-clause-bytes
returns-clause-bytes g c = ap (λ (front : List ℕ). front ++ drop c.table_len-len.result c.args.bytes.now) c.put_whole.ensures

pub returns-clause-len : goal.returns-clause-len
returns-clause-len g c = c.table_len-len.ensures
