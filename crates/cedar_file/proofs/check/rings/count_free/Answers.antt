use Rattle.std.proofs.Common.{◌*◌, arith, sym, ◌∙◌}
use Rattle.std.proofs.lemmas.Bool.{false≢true}
use Rattle.cedar_file.specs.PlaceChecks.{free_here}
use Rattle.cedar_slots.specs.Views.{slots_of}
use Rattle.cedar_file.proofs.ChecksLemmas.Cycle.{passing-le, passing_none}
use Rattle.cedar_file.proofs.ChecksLemmas.RingRead.{cleared_more, count_free, count_used, no_labels}
use Rattle.cedar_file.proofs.check.rings.count_free.Goals as goal
use Rattle.cedar_file.proofs.check.rings.count_free.Goals.{then-read_free+else-info-ne0+else-info-ne0-2, else-read_free}

pub loop-place-init : goal.loop-place-init
loop-place-init g c = record {
  count = sym (passing_none (free_here c.args.slots.now.nodes.items c.args.block) (256 * c.args.block));
  cleared = λ s free low high. absurd (omega arith);
  cost = omega arith;
}

pub overflow_add-count : goal.overflow_add-count
overflow_add-count g c =
    let few = passing-le (free_here c.args.slots.now.nodes.items c.args.block) (256 * c.args.block) c.loop-place.place in
    omega (arith, few)

pub loop-place-preserved : goal.loop-place-preserved
loop-place-preserved g c =
    let nodes = c.args.slots.now.nodes.items in
    let slots = slots_of c.args.slots.now in
    let i = c.loop-place.invariant in
    elim c.if-read_free.branch [
      | then-read_free+else-info-ne0+else-info-ne0-2 w ↦ record {
        count = count_free nodes c.args.block c.loop-place.place c.loop-place.count c.if-read_free.count (omega arith) i.count (sym c.read_free.ensures.value ∙ w.if-read_free.true) w.count-is;
        cleared = cleared_more slots c.args.block c.loop-place.place i.cleared (λ _. sym w.read_info-info.ensures.value ∙ no_labels _ w.if-info-ne0.false w.if-info-ne0-2.false);
        cost = omega arith;
      }
      | else-read_free w ↦ record {
        count = count_used nodes c.args.block c.loop-place.place c.loop-place.count c.if-read_free.count i.count (sym c.read_free.ensures.value ∙ w.if-read_free.false) w.count-is;
        cleared = cleared_more slots c.args.block c.loop-place.place i.cleared (λ free. absurd (false≢true (sym (sym c.read_free.ensures.value ∙ w.if-read_free.false) ∙ free)));
        cost = omega arith;
      }
    ]
