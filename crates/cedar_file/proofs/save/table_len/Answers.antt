use Rattle.std.proofs.Common.{◌≡◌, arith, length}
use Rattle.cedar_table.specs.Table.Views.{fields}
use Rattle.cedar_format.proofs.Passing.{length-table_bytes}
use Rattle.cedar_file.proofs.save.table_len.Goals as goal

pub returns : goal.returns
returns g c =
    let T = fields c.args.table.now in
    let rejects : length T.places.reject ≡ 257 = c.args.table.now.rejects in
    omega (arith, rejects, length-table_bytes c.args.minor T c.args.table.now.shaped, c.slots_listed-slots.ensures.count)
