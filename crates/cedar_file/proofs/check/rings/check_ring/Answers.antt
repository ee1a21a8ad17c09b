use Rattle.std.proofs.Common.{◌≡◌, arith, ◌∙◌, refl}
use Rattle.std.proofs.lemmas.Result.{err_from_is_err_and}
use Rattle.cedar_file.proofs.ChecksLemmas.Cycle.{walk_begins, walk_ends, walk_goes_on, walk_here, walk_not_early, walk_not_stuck}
use Rattle.cedar_file.proofs.ChecksLemmas.RingRead.{slot_circuit}
use Rattle.cedar_file.proofs.check.rings.check_ring.Goals as goal
use Rattle.cedar_file.proofs.check.rings.check_ring.Goals.{else-turn-ne0-via-then-turn-ne0+else-slot-head, else-turn-ne0-via-else-turn-ne0}

pub loop-turn-init : goal.loop-turn-init
loop-turn-init g c = record { walk = walk_begins (slot_circuit c.args.slots.now.nodes.items c.args.block) c.args.head c.requires.head_here; cost = omega arith }

pub returns-then-slot-head-clause-answer : goal.returns-then-slot-head-clause-answer
returns-then-slot-head-clause-answer g c = λ has. walk_not_early (slot_circuit c.args.slots.now.nodes.items c.args.block) c.args.head c.requires.head_here c.args.count c.requires.all has c.loop-turn.turn c.loop-turn.slot c.loop-turn.invariant.walk (omega arith) (omega arith) (omega arith)

pub follow_ring-requires-clause-here : goal.follow_ring-requires-clause-here
follow_ring-requires-clause-here g c = walk_here (slot_circuit c.args.slots.now.nodes.items c.args.block) c.args.head c.loop-turn.turn c.loop-turn.slot c.loop-turn.invariant.walk

pub returns-in_err-slot-clause-answer : goal.returns-in_err-slot-clause-answer
returns-in_err-slot-clause-answer g c =
    let p = err_from_is_err_and c.from_residual.result c.from_residual.ensures.1 in
    rw p.1 (λ has. walk_not_stuck (slot_circuit c.args.slots.now.nodes.items c.args.block) c.args.head c.requires.head_here c.args.count c.requires.all has c.loop-turn.turn c.loop-turn.slot c.loop-turn.invariant.walk (omega arith) c.in_err-slot.ensures.answer)

pub loop-turn-preserved : goal.loop-turn-preserved
loop-turn-preserved g c = record {
  walk = walk_goes_on (slot_circuit c.args.slots.now.nodes.items c.args.block) c.args.head c.loop-turn.turn c.loop-turn.slot c.in_ok-slot.slot c.loop-turn.invariant.walk c.in_ok-slot.ensures.answer (λ some back. elim c.else-turn-ne0.branch [
    | else-turn-ne0-via-then-turn-ne0+else-slot-head w ↦ w.if-slot-head.false back
    | else-turn-ne0-via-else-turn-ne0 w ↦ omega arith
  ]);
  cost = omega arith;
}

pub returns-clause-answer : goal.returns-clause-answer
returns-clause-answer g c =
    let end : c.loop-turn.turn ≡ c.args.count = omega arith in
    (walk_ends (slot_circuit c.args.slots.now.nodes.items c.args.block) c.args.head c.requires.head_here c.loop-turn.turn (end ∙ c.requires.all) c.loop-turn.slot c.loop-turn.invariant.walk, refl)
