use Rattle.std.proofs.Common.{◌≡◌, FitsSigned, ap, arith, rules, sym, w32, ◌∙◌}
use Rattle.cedar_slots.proofs.Casts.{same_bits}
use Rattle.cedar_slots.specs.declared.blocks.BlockType.TheVariants.{Full}
use Rattle.cedar_slots.specs.declared.records.BlockRecord.{BlockRecord}
use Rattle.cedar_file.specs.PlaceChecks.{in_ring}
use Rattle.cedar_slots.specs.Views.{blocks_of}
use Rattle.cedar_file.proofs.ChecksLemmas.Outcome.{ok_iff_same}
use Rattle.cedar_file.proofs.ChecksLemmas.Cycle.{passing-le}
use Rattle.cedar_file.proofs.ChecksLemmas.ListsRead.{cycle_from_full, full_from_cycle}
use Rattle.cedar_file.proofs.check.lists.check_full_list.Goals as goal

pub returns-clause-answer : goal.returns-clause-answer
returns-clause-answer g c =
    let blocks = blocks_of c.args.blocks.now in
    let same : c.read_block.result.next ≡ c.args.blocks.now.full_head = same_bits w32 _ _ (search rules) (search rules) c.if-read_block-blocks.false in
    ok_iff_same c.check_cycle.result tt
    (full_from_cycle blocks c.requires.some (sym (ap (λ (n : BlockRecord). n.next) c.read_block.ensures.value) ∙ same))
    (λ has. (cycle_from_full blocks c.requires.some has.0 has.1).0)
    c.check_cycle.ensures.answer

pub returns-clause-cost : goal.returns-clause-cost
returns-clause-cost g c =
    let few = passing-le (in_ring (blocks_of c.args.blocks.now) Full) 0 c.args.blocks.now.active in
    omega (arith, few, c.count_ring-count.ensures.value)
