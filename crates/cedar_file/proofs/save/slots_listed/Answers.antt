use Rattle.std.proofs.Common.{◌∙◌, arith}
use Rattle.cedar_table.specs.Table.Views.{fields}
use Rattle.cedar_format.proofs.OneTable.{listed_fits}
use Rattle.cedar_file.proofs.save.slots_listed.Goals as goal

pub returns-clause-count : goal.returns-clause-count
returns-clause-count g c = rw (c.capacity.ensures, c.size.ensures) at c.listed_slots.ensures

pub returns-clause-most : goal.returns-clause-most
returns-clause-most g c =
    let T = fields c.args.table.now in
    let shaped = c.args.table.now.shaped in
    let count = rw (c.capacity.ensures, c.size.ensures) at c.listed_slots.ensures in
    omega (arith, count, listed_fits c.args.minor T shaped, shaped.blocks.fits)
