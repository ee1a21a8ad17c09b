use Rattle.std.proofs.Common.{◌-◌, ◌++◌, rules, subst}
use Rattle.cedar_model.specs.Meaning.Family.{below}
use Rattle.cedar_table.specs.Table.Views.{cells, fields}
use Rattle.cedar_walk.specs.Visits.{owner_of, path_to}
use Rattle.cedar_walk.proofs.WalkLemmas.Ranges.{one_more, one_up, one_up_at, one_up_below, Written, written_all, written_on}
use Rattle.cedar_walk.proofs.ranges.write_path.Goals as goal

pub parent-above-requires : goal.parent-above-requires
parent-above-requires g c =
    let T = fields c.args.table.now in
    let n = c.loop-steps.steps in
    let s = c.loop-steps.slot in
    let start = c.requires.below.0 in
    let at = c.loop-steps.invariant.below start c.requires.below.1 in (search rules, record { well_formed = c.requires.well_formed; at = (start ++ path_to T (n - 1) (owner_of (cells c.args.table.now) s), below (cells c.args.table.now) (owner_of (cells c.args.table.now) s) s, one_up _ T c.requires.well_formed start n s at c.loop-steps-test.true) })

pub label_below-requires : goal.label_below-requires
label_below-requires g c =
    let T = fields c.args.table.now in
    let n = c.loop-steps.steps in
    let s = c.loop-steps.slot in
    let start = c.requires.below.0 in
    let at = c.loop-steps.invariant.below start c.requires.below.1 in (
      search rules,
      (
        c.requires.well_formed,
        (
          start ++ path_to T (n - 1) (owner_of (cells c.args.table.now) s),
          below (cells c.args.table.now) (owner_of (cells c.args.table.now) s) s,
          one_up_at _ T c.requires.well_formed start n s c.parent-above.result at c.loop-steps-test.true c.parent-above.ensures.check,
          one_up _ T c.requires.well_formed start n s at c.loop-steps-test.true,
        ),
      ),
    )

pub loop-steps-preserved : goal.loop-steps-preserved
loop-steps-preserved g c =
    let T = fields c.args.table.now in
    let n = c.loop-steps.steps in
    let s = c.loop-steps.slot in
    let i = c.loop-steps.invariant in record {
      below = λ start at. one_up_below _ T c.requires.well_formed start n s c.parent-above.result (i.below start at) c.loop-steps-test.true c.parent-above.ensures.check;
      written =
          written_on T c.args.depth c.args.node c.args.key.now (n - 1) s c.parent-above.result c.label_below.result c.loop-steps.key c.requires.room
          (subst (λ m. Written T c.args.depth c.args.node c.args.key.now m s c.loop-steps.key) (one_more n c.loop-steps-test.true) i.written) c.parent-above.ensures.check c.label_below.ensures;
    }

pub returns : goal.returns
returns g c =
    let T = fields c.args.table.now in
    let s = c.loop-steps.slot in
    written_all T c.args.depth c.args.node c.args.key.now s c.loop-steps.key
    (subst (λ m. Written T c.args.depth c.args.node c.args.key.now m s c.loop-steps.key) c.loop-steps-test.false c.loop-steps.invariant.written)
