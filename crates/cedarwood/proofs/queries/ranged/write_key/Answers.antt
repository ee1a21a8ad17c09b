use Rattle.std.proofs.Common.{◌≤◌, arith}
use Rattle.cedar_model.specs.Table.TableFields.{size_of}
use Rattle.cedar_walk.proofs.WalkLemmas.NextNode.{short_way}
use Rattle.cedarwood.proofs.queries.ranged.write_key.Goals as goal

pub overflow_add-start : goal.overflow_add-start
overflow_add-start g c =
    let T = g.T.Walked.shown c.args.trie.now in
    let k = c.requires.well_formed in
    let short : c.args.depth ≤ size_of T = short_way g.T.Walked.slots T k c.args.start.now c.args.depth c.args.slot c.requires.below.0 in
    let blocks = k.table.sound.shaped.blocks in
    omega (arith, short, blocks.active_in, blocks.fits)
