use Rattle.std.proofs.Common.{◌≡◌, ◌+◌, ◌<◌, ◌∙◌, ap, arith, FitsSigned, refl, rules, sym, w16}
use Rattle.std.proofs.lemmas.Int.{to_z-of_z}
use Rattle.cedar_slots.specs.Blocks.{counts_at}
use Rattle.cedar_slots.proofs.ListsLemmas.FreeCounts.{block_total, block_total-le, num_total, sum_below, sum_below-le, sum_below-more, sum_below-none, used-sum}
use Rattle.cedar_model.proofs.CellsLemmas.PlacesFound.{held-count}
use Rattle.cedar_table.specs.Table.Views.{fields}
use Rattle.cedar_file.proofs.check.tree.count_held.Goals as goal

pub loop-block-init : goal.loop-block-init
loop-block-init g c = (sym (sum_below-none (fields c.args.table.now).places.slots.nodes), omega arith)

pub overflow_cast-free : goal.overflow_cast-free
overflow_cast-free g c =
    let P = (fields c.args.table.now).places in
    let active : c.loop-block.block < P.blocks.active = omega (arith, c.loop-block-test.true, c.size-block-end.ensures) in
    let is = ap (λ r. r.num) c.read_block.ensures.value ∙ num_total P c.loop-block.block c.requires.sound active (counts_at P.blocks.records c.loop-block.block) refl in
    let le = block_total-le P.slots.nodes c.loop-block.block in
    let fits : FitsSigned w16 c.read_block.result.num = search rules in
    let same = to_z-of_z w16 c.read_block.result.num fits in
    rw (same ∙ is) (tt, omega (arith, le))

pub overflow_add-free : goal.overflow_add-free
overflow_add-free g c =
    let P = (fields c.args.table.now).places in
    let active : c.loop-block.block < P.blocks.active = omega (arith, c.loop-block-test.true, c.size-block-end.ensures) in
    let is = ap (λ r. r.num) c.read_block.ensures.value ∙ num_total P c.loop-block.block c.requires.sound active (counts_at P.blocks.records c.loop-block.block) refl in
    let le = block_total-le P.slots.nodes c.loop-block.block in
    let below = sum_below-le P.slots.nodes c.loop-block.block in
    let fits : FitsSigned w16 c.read_block.result.num = search rules in
    let same = to_z-of_z w16 c.read_block.result.num fits in
    rw (same ∙ is) (omega (arith, le, below, c.loop-block.invariant.0, active, c.requires.sound.shaped.blocks.active_in, c.requires.sound.shaped.blocks.fits))

pub loop-block-preserved : goal.loop-block-preserved
loop-block-preserved g c =
    let P = (fields c.args.table.now).places in
    let active : c.loop-block.block < P.blocks.active = omega (arith, c.loop-block-test.true, c.size-block-end.ensures) in
    let is = ap (λ r. r.num) c.read_block.ensures.value ∙ num_total P c.loop-block.block c.requires.sound active (counts_at P.blocks.records c.loop-block.block) refl in
    let fits : FitsSigned w16 c.read_block.result.num = search rules in
    let same = to_z-of_z w16 c.read_block.result.num fits in
    (rw (same ∙ is) (ap (λ n. n + block_total P.slots.nodes c.loop-block.block) c.loop-block.invariant.0 ∙ sym (sum_below-more P.slots.nodes c.loop-block.block)), omega (arith, c.loop-block.invariant.1, c.read_block.ensures.counted))

pub overflow_sub-result : goal.overflow_sub-result
overflow_sub-result g c =
    let P = (fields c.args.table.now).places in
    omega (arith, c.loop-block.invariant.0, sum_below-le P.slots.nodes c.loop-block.block, c.size.ensures, c.loop-block.auto.block-end, c.size-block-end.ensures)

pub returns-clause-count : goal.returns-clause-count
returns-clause-count g c =
    let P = (fields c.args.table.now).places in
    let sum = used-sum P.slots.nodes P.blocks.active c.requires.sound.shaped.blocks.some in
    let end : c.loop-block.block ≡ P.blocks.active = omega (arith, c.loop-block-test.false, c.loop-block.auto.block-end, c.size-block-end.ensures) in
    let is : c.loop-block.free ≡ sum_below P.slots.nodes P.blocks.active = c.loop-block.invariant.0 ∙ ap (sum_below P.slots.nodes) end in
    omega (arith, sum, is, c.size.ensures, held-count g.L.Layout.kind P)
