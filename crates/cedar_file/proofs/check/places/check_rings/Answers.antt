use Rattle.std.proofs.Common.{List, arith, below_more, ℕ}
use Rattle.std.proofs.lemmas.Result.{err_from_is_err_and}
use Rattle.cedar_slots.specs.Places.{FreeBlock}
use Rattle.cedar_slots.specs.Views.{places_of}
use Rattle.cedar_file.proofs.check.places.check_rings.Goals as goal

pub returns-in_err-check_block-clause-answer : goal.returns-in_err-check_block-clause-answer
returns-in_err-check_block-clause-answer g c =
    let p = err_from_is_err_and c.from_residual.result c.from_residual.ensures.1 in
    rw p.1 (λ has. c.in_err-check_block.ensures.answer (has c.loop-block.block c.loop-block-test.true))

pub loop-block-preserved : goal.loop-block-preserved
loop-block-preserved g c = record {
  free = below_more (λ b. (xs : List ℕ) × FreeBlock (places_of c.args.places.now) b xs) _ c.loop-block.invariant.free c.in_ok-check_block.ensures.answer.0;
  cost = omega arith;
}
