use Rattle.std.proofs.Common.{◌-◌, arith, rules}
use Rattle.cedar_table.specs.Table.Views.{fields}
use Rattle.cedar_walk.proofs.WalkLemmas.NextNode.{node_inside}
use Rattle.cedarwood.proofs.ErasureLemmas.{erased_count, erases_all, erases_none, erases_on, fewer, found_first, found_held, found_none, key_of, later}
use Rattle.cedarwood.proofs.erasing.erase_under.Goals as goal

pub loop-found-init : goal.loop-found-init
loop-found-init g c = erases_none g.row.SLOTS (fields c.args.table.now) c.args.prefix.now c.requires

pub erase_at-requires : goal.erase_at-requires
erase_at-requires g c =
    let U = fields c.loop-found.table in
    let q = c.args.prefix.now in
    let found = c.in-Some.found in
    let comes = c.in-Some.ensures in
    let well = c.loop-found.invariant.formed in
    (search rules, (well, (node_inside g.row.SLOTS U well (key_of U q found) found.slot comes.below, (key_of U q found, comes.below, found_held U q _ found comes))))

pub loop-found-smaller : goal.loop-found-smaller
loop-found-smaller g c =
    let U = fields c.loop-found.table in
    let q = c.args.prefix.now in
    let found = c.in-Some.found in
    let comes = c.in-Some.ensures in
    let i = c.loop-found.invariant in
    let k = key_of U q found in
    fewer g.row.SLOTS (fields c.args.table.now) U (fields c.erase_at.new.table) q k found.number (later U q found) i (found_first g.row.SLOTS U q found i.formed comes) (c.erase_at.ensures.tree k comes.below)

pub loop-found-preserved : goal.loop-found-preserved
loop-found-preserved g c =
    let U = fields c.loop-found.table in
    let q = c.args.prefix.now in
    let found = c.in-Some.found in
    let comes = c.in-Some.ensures in
    let i = c.loop-found.invariant in
    let k = key_of U q found in
    let e = c.erase_at.ensures in
    erases_on g.row.SLOTS (fields c.args.table.now) U (fields c.erase_at.new.table) q k found.number (later U q found) i (found_first g.row.SLOTS U q found i.formed comes) (e.tree k comes.below)
    e.well_formed (e.marks_cut k comes.below) e.size e.capacity e.modes

pub overflow_sub-result : goal.overflow_sub-result
overflow_sub-result g c =
    let U = fields c.loop-found.table in
    let q = c.args.prefix.now in
    let i = c.loop-found.invariant in
    let count = erased_count g.row.SLOTS (fields c.args.table.now) U q c.requires i (found_none g.row.SLOTS U q i.formed c.in_default.ensures) in
    omega (arith, count, c.entries-before.ensures, c.entries.ensures)

pub returns-clause-well_formed : goal.returns-clause-well_formed
returns-clause-well_formed g c = c.loop-found.invariant.formed

pub returns-clause-erased : goal.returns-clause-erased
returns-clause-erased g c = λ n.
    let U = fields c.loop-found.table in
    let q = c.args.prefix.now in
    let i = c.loop-found.invariant in
    erases_all g.row.SLOTS (fields c.args.table.now) U q c.requires i (found_none g.row.SLOTS U q i.formed c.in_default.ensures) n (c.entries-before.result - c.entries.result)
    (omega (arith, c.entries-before.ensures, c.entries.ensures))
