use Rattle.std.proofs.Common.{rules}
use Rattle.cedar_table.specs.Table.Views.{fields}
use Rattle.cedarwood.proofs.ErasureLemmas.{erased_found, found_is_held}
use Rattle.cedarwood.proofs.erasing.erase_in.Goals as goal

pub erase_at-requires : goal.erase_at-requires
erase_at-requires g c =
    let T = fields c.args.table.now in
    let key = c.args.key.now in
    let is = c.requires.found in
    (search rules, (c.requires.well_formed, (is.inside, (key, is.at, found_is_held 0 T key _ is))))

pub returns-clause-erased : goal.returns-clause-erased
returns-clause-erased g c = λ n.
    let key = c.args.key.now in
    let is = c.requires.found in
    let e = c.erase_at.ensures in
    erased_found g.row.SLOTS n (fields c.args.table.now) (fields c.erase_at.new.table) key _ is e.well_formed (e.tree key is.at) (e.marks_cut key is.at) e.size e.capacity e.modes
