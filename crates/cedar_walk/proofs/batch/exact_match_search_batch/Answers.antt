use Rattle.std.proofs.Common.{ℕ, ◌+◌, ◌-◌, arith}
use Rattle.cedar_table.specs.Table.Views.{fields}
use Rattle.cedar_model.specs.Meaning.WellFormed.{tree_of}
use Rattle.cedar_walk.proofs.WalkLemmas.Batch.{batch_ends, batch_goes_on}
use Rattle.cedar_walk.proofs.batch.exact_match_search_batch.Goals as goal

pub loop-start-preserved : goal.loop-start-preserved
loop-start-preserved g c =
    let i = c.loop-start.invariant in
    let s : ℕ = c.loop-start.start in
    let m : ℕ = c.min.result in (
      omega arith,
      batch_goes_on (tree_of (fields c.args.table.now)) c.args.keys.now c.args.answers.now c.loop-start.answers c.search_in_step.new.answers s (s + m - s) m
          (omega arith) (omega arith) (omega arith) c.loop-start.auto.answers i.1 c.search_in_step.ensures,
    )

pub returns : goal.returns
returns g c =
    batch_ends (tree_of (fields c.args.table.now)) c.args.keys.now c.args.answers.now c.loop-start.answers c.loop-start.start
    (λ h. omega (arith, h, c.loop-start.invariant.0)) (λ h. omega (arith, h, c.loop-start.invariant.0)) c.loop-start.invariant.1
