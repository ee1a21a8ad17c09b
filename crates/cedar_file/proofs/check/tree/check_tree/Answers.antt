use Rattle.std.proofs.Common.{arith, sym, ◌∙◌}
use Rattle.cedar_table.specs.Table.Views.{fields}
use Rattle.cedar_file.proofs.TreeLemmas.WalkEnds.{root_looks, well_formed_met, well_formed_walked}
use Rattle.cedar_file.proofs.TreeLemmas.Complete.{walked_well_formed}
use Rattle.cedar_model.proofs.GeneralLemmas.{on_err}
use Rattle.cedar_file.proofs.check.tree.check_tree.Goals as goal

pub returns-in_err-start-clause-faulty : goal.returns-in_err-start-clause-faulty
returns-in_err-start-clause-faulty g c =
    on_err c.from_residual.result (λ w. c.in_err-start.ensures.faulty (root_looks g.row.SLOTS (fields c.args.table.now) w))

pub returns-in_err-walk-clause-faulty : goal.returns-in_err-walk-clause-faulty
returns-in_err-walk-clause-faulty g c =
    on_err c.from_residual-in_err-walk.result (λ w. c.in_err-walk.ensures.faulty _ _ (well_formed_walked g.row.SLOTS (fields c.args.table.now) c.in_ok-start.start c.in_ok-start.ensures.root.1 w))

pub returns-then-walk-count_held-clause-faulty : goal.returns-then-walk-count_held-clause-faulty
returns-then-walk-count_held-clause-faulty g c = λ w.
    let all = well_formed_met g.row.SLOTS (fields c.args.table.now) c.in_ok-start.start _ _ c.in_ok-start.ensures.root.1 c.in_ok-walk.ensures.ended w in
    c.if-walk-count_held.true (all.0 ∙ sym c.count_held.ensures.count)

pub returns-then-walk-entries-clause-faulty : goal.returns-then-walk-entries-clause-faulty
returns-then-walk-entries-clause-faulty g c = λ w.
    let all = well_formed_met g.row.SLOTS (fields c.args.table.now) c.in_ok-start.start _ _ c.in_ok-start.ensures.root.1 c.in_ok-walk.ensures.ended w in
    c.if-walk-entries.true (all.1 ∙ sym c.entries.ensures)

pub returns-clause-well_formed : goal.returns-clause-well_formed
returns-clause-well_formed g c =
    walked_well_formed g.row.SLOTS (fields c.args.table.now) c.in_ok-start.start _ _ _ c.in_ok-start.ensures.root.1 c.requires c.in_ok-start.ensures.root.0 c.in_ok-walk.ensures.ended (c.if-walk-count_held.false ∙ c.count_held.ensures.count) (c.if-walk-entries.false ∙ c.entries.ensures)

pub returns-in_err-start-clause-cost : goal.returns-in_err-start-clause-cost
returns-in_err-start-clause-cost g c = omega (arith, c.in_err-start.ensures.cost)

pub returns-in_err-walk-clause-cost : goal.returns-in_err-walk-clause-cost
returns-in_err-walk-clause-cost g c = omega (arith, c.in_ok-start.ensures.cost, c.in_err-walk.ensures.cost)

pub returns-then-walk-count_held-clause-cost : goal.returns-then-walk-count_held-clause-cost
returns-then-walk-count_held-clause-cost g c = omega (arith, c.in_ok-start.ensures.cost, c.in_ok-walk.ensures.cost, c.count_held.ensures.cost)

pub returns-then-walk-entries-clause-cost : goal.returns-then-walk-entries-clause-cost
returns-then-walk-entries-clause-cost g c = omega (arith, c.in_ok-start.ensures.cost, c.in_ok-walk.ensures.cost, c.count_held.ensures.cost)

pub returns-clause-cost : goal.returns-clause-cost
returns-clause-cost g c = omega (arith, c.in_ok-start.ensures.cost, c.in_ok-walk.ensures.cost, c.count_held.ensures.cost)
