use Rattle.std.proofs.Common.{◌≡◌, arith, ◌∙◌, refl}
use Rattle.std.proofs.lemmas.Result.{err_from_is_err_and}
use Rattle.cedar_slots.specs.Views.{blocks_of}
use Rattle.cedar_file.proofs.ChecksLemmas.Cycle.{walk_begins, walk_ends, walk_goes_on, walk_here, walk_not_early, walk_not_stuck}
use Rattle.cedar_file.proofs.ChecksLemmas.ListsRead.{block_circuit}
use Rattle.cedar_file.proofs.check.lists.check_cycle.Goals as goal
use Rattle.cedar_file.proofs.check.lists.check_cycle.Goals.{else-turn-ne0-via-then-turn-ne0+else-block-first, else-turn-ne0-via-else-turn-ne0}

pub loop-turn-init : goal.loop-turn-init
loop-turn-init g c = record { walk = walk_begins (block_circuit (blocks_of c.args.blocks.now) c.args.list) c.args.first c.requires.first_here; cost = omega arith }

pub returns-then-block-first-clause-answer : goal.returns-then-block-first-clause-answer
returns-then-block-first-clause-answer g c = λ has. walk_not_early (block_circuit (blocks_of c.args.blocks.now) c.args.list) c.args.first c.requires.first_here c.args.count c.requires.all has c.loop-turn.turn c.loop-turn.block c.loop-turn.invariant.walk (omega arith) (omega arith) (omega arith)

pub follow_list-requires-clause-here : goal.follow_list-requires-clause-here
follow_list-requires-clause-here g c = walk_here (block_circuit (blocks_of c.args.blocks.now) c.args.list) c.args.first c.loop-turn.turn c.loop-turn.block c.loop-turn.invariant.walk

pub returns-in_err-block-clause-answer : goal.returns-in_err-block-clause-answer
returns-in_err-block-clause-answer g c =
    let p = err_from_is_err_and c.from_residual.result c.from_residual.ensures.1 in
    rw p.1 (λ has. walk_not_stuck (block_circuit (blocks_of c.args.blocks.now) c.args.list) c.args.first c.requires.first_here c.args.count c.requires.all has c.loop-turn.turn c.loop-turn.block c.loop-turn.invariant.walk (omega arith) c.in_err-block.ensures.answer)

pub loop-turn-preserved : goal.loop-turn-preserved
loop-turn-preserved g c = record {
  walk = walk_goes_on (block_circuit (blocks_of c.args.blocks.now) c.args.list) c.args.first c.loop-turn.turn c.loop-turn.block c.in_ok-block.block c.loop-turn.invariant.walk c.in_ok-block.ensures.answer (λ some back. elim c.else-turn-ne0.branch [
    | else-turn-ne0-via-then-turn-ne0+else-block-first w ↦ w.if-block-first.false back
    | else-turn-ne0-via-else-turn-ne0 w ↦ omega arith
  ]);
  cost = omega arith;
}

pub returns-clause-answer : goal.returns-clause-answer
returns-clause-answer g c =
    let end : c.loop-turn.turn ≡ c.args.count = omega arith in
    (walk_ends (block_circuit (blocks_of c.args.blocks.now) c.args.list) c.args.first c.requires.first_here c.loop-turn.turn (end ∙ c.requires.all) c.loop-turn.block c.loop-turn.invariant.walk, refl)
