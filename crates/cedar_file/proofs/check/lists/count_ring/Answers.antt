use Rattle.std.proofs.Common.{arith, sym, ◌∙◌}
use Rattle.cedar_file.specs.PlaceChecks.{in_ring}
use Rattle.cedar_slots.specs.Views.{blocks_of}
use Rattle.cedar_file.proofs.ChecksLemmas.Cycle.{passing-le, passing_hit, passing_miss, passing_none}
use Rattle.cedar_file.proofs.check.lists.count_ring.Goals as goal
use Rattle.cedar_file.proofs.check.lists.count_ring.Goals.{then-belongs_in, else-belongs_in}

pub loop-block-init : goal.loop-block-init
loop-block-init g c = record { count = sym (passing_none (in_ring (blocks_of c.args.blocks.now) c.args.list) 0); cost = omega arith }

pub overflow_add-count : goal.overflow_add-count
overflow_add-count g c = omega (arith, passing-le (in_ring (blocks_of c.args.blocks.now) c.args.list) 0 c.loop-block.block, c.loop-block.invariant.count)

pub loop-block-preserved : goal.loop-block-preserved
loop-block-preserved g c =
    let test = in_ring (blocks_of c.args.blocks.now) c.args.list in
    let i = c.loop-block.invariant in
    record {
      count = elim c.if-belongs_in.branch [
        | then-belongs_in w ↦ passing_hit test 0 c.loop-block.block c.loop-block.block c.loop-block.count c.if-belongs_in.count (omega arith) i.count (sym c.belongs_in.ensures.value ∙ w.if-belongs_in.true) w.count-is
        | else-belongs_in w ↦ passing_miss test 0 c.loop-block.block c.loop-block.block c.loop-block.count c.if-belongs_in.count (omega arith) i.count (sym c.belongs_in.ensures.value ∙ w.if-belongs_in.false) w.count-is
      ];
      cost = omega arith;
    }
