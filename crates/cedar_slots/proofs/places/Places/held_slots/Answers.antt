use Rattle.std.proofs.Common.{◌≡◌, ◌+◌, ◌∙◌, ap, arith, of_z, sym, to_z, w16}
use Rattle.std.proofs.lemmas.Int.{ints}
use Rattle.cedar_slots.specs.Views.{places_of}
use Rattle.cedar_slots.proofs.ListsLemmas.FreeCounts.{block_total, block_total-le, num_total, sum_below, sum_below-le, sum_below-more, sum_below-none, used-sum}
use Rattle.cedar_slots.proofs.places.Places.held_slots.Goals as goal

pub loop-block-init : goal.loop-block-init
loop-block-init g c = sym (sum_below-none c.args.self.now.slots.nodes.items)

pub overflow_cast-free : goal.overflow_cast-free
overflow_cast-free g c =
    let is = num_total (places_of c.args.self.now) c.loop-block.block c.requires c.loop-block-test.true c.counts.result c.counts.ensures in
    let le = block_total-le c.args.self.now.slots.nodes.items c.loop-block.block in
    let same : to_z w16 (of_z w16 c.counts.result.num) ≡ c.counts.result.num = omega (arith, ints) in
    rw (same ∙ is) (tt, omega (arith, le))

pub overflow_add-free : goal.overflow_add-free
overflow_add-free g c =
    let is = num_total (places_of c.args.self.now) c.loop-block.block c.requires c.loop-block-test.true c.counts.result c.counts.ensures in
    let le = block_total-le c.args.self.now.slots.nodes.items c.loop-block.block in
    let below = sum_below-le c.args.self.now.slots.nodes.items c.loop-block.block in
    let same : to_z w16 (of_z w16 c.counts.result.num) ≡ c.counts.result.num = omega (arith, ints) in
    rw (same ∙ is) (omega (arith, le, below, c.loop-block.invariant, c.requires.shaped.blocks.active_in, c.requires.shaped.blocks.fits))

pub loop-block-preserved : goal.loop-block-preserved
loop-block-preserved g c =
    let is = num_total (places_of c.args.self.now) c.loop-block.block c.requires c.loop-block-test.true c.counts.result c.counts.ensures in
    let same : to_z w16 (of_z w16 c.counts.result.num) ≡ c.counts.result.num = omega (arith, ints) in
    rw (same ∙ is) (ap (λ n. n + block_total c.args.self.now.slots.nodes.items c.loop-block.block) c.loop-block.invariant ∙ sym (sum_below-more c.args.self.now.slots.nodes.items c.loop-block.block))

pub overflow_sub-result : goal.overflow_sub-result
overflow_sub-result g c = omega (arith, c.loop-block.invariant, sum_below-le c.args.self.now.slots.nodes.items c.loop-block.block)

pub returns : goal.returns
returns g c =
    let sum = used-sum c.args.self.now.slots.nodes.items c.args.self.now.blocks.active c.requires.shaped.blocks.some in
    let is : c.loop-block.free ≡ sum_below c.args.self.now.slots.nodes.items c.args.self.now.blocks.active = c.loop-block.invariant ∙ ap (sum_below c.args.self.now.slots.nodes.items) (omega arith) in
    omega (arith, sum, is)

pub counts-requires : goal.counts-requires
counts-requires g c = omega (arith, c.loop-block-test.true, c.args.self.now.blocks.ready)
