use Rattle.std.proofs.Common.{◌≡◌, ◌≢◌, ◌+◌, ◌-◌, ◌*◌, ◌<◌, ◌≤◌, ◌^◌, suc, sym, refl, subst, arith, rules}
use Rattle.cedar_file.specs.TreeWalk.{ComesBack}
use Rattle.cedar_table.specs.Table.Views.{cells, fields}
use Rattle.cedar_model.specs.Table.TableFields.{size_of}
use Rattle.cedar_file.proofs.TreeLemmas.Turns.{ends_back, ends_further, ends_on, IsOnWay, none_left, still_on_way, stuck}
use Rattle.cedar_model.proofs.MeaningLemmas.TreeOf.{in_use}
use Rattle.cedar_model.proofs.GeneralLemmas.{on_err}
use Rattle.cedar_file.proofs.check.tree.walk_tree.Goals.{else-walk-eq0-via-then-walk-eq0+else-walk-eq0-2, else-walk-eq0-via-else-walk-eq0}
use Rattle.cedar_file.proofs.check.tree.walk_tree.Goals as goal

pub loop-step-init : goal.loop-step-init
loop-step-init g c =
    let T = fields c.args.table.now in
    let size = size_of T in
    let some : 0 < size = omega arith in
    let whole : 2 * size - 0 ≡ 2 * size = omega arith in
    record {
      on_way = subst (λ w. IsOnWay size (cells c.args.table.now) w 0) (sym c.requires.start) (record { inside = some; base = refl; met = omega arith; numbers = omega arith });
      cost = omega arith;
      to_start = λ m e h. subst (λ n. ComesBack n size T.ordered (cells c.args.table.now) c.args.start m e) whole h;
      from_start = λ m e h. subst (λ n. ComesBack n size T.ordered (cells c.args.table.now) c.args.start m e) (sym whole) h;
    }

pub returns-then-walk-eq0-2-clause-ended : goal.returns-then-walk-eq0-2-clause-ended
returns-then-walk-eq0-2-clause-ended g c =
    let T = fields c.args.table.now in
    let left : 0 < 2 * size_of T - c.loop-step._step = omega (arith, c.loop-step-test.true, c.size-step-end.ensures) in
    c.loop-step.invariant.to_start _ _ (ends_back (size_of T) T.ordered (cells c.args.table.now) _ c.loop-step.walk left c.if-walk-eq0.true c.if-walk-eq0-2.true)

pub returns-in_err-walk-clause-faulty : goal.returns-in_err-walk-clause-faulty
returns-in_err-walk-clause-faulty g c =
    let T = fields c.args.table.now in
    let away : c.loop-step.walk.label ≡ 0 → c.loop-step.walk.node ≢ 0 = elim c.else-walk-eq0.branch [
      | else-walk-eq0-via-then-walk-eq0+else-walk-eq0-2 w ↦ (λ z. w.if-walk-eq0-2.false)
      | else-walk-eq0-via-else-walk-eq0 w ↦ (λ z. absurd (w.if-walk-eq0.false z))
    ] in
    on_err c.from_residual.result (λ m e h. stuck (size_of T) T.ordered (cells c.args.table.now) _ c.loop-step.walk m e away c.in_err-walk.ensures.faulty (c.loop-step.invariant.from_start m e h))

pub loop-step-preserved : goal.loop-step-preserved
loop-step-preserved g c =
    let T = fields c.args.table.now in
    let size = size_of T in
    let inv = c.loop-step.invariant in
    let away : c.loop-step.walk.label ≡ 0 → c.loop-step.walk.node ≢ 0 = elim c.else-walk-eq0.branch [
      | else-walk-eq0-via-then-walk-eq0+else-walk-eq0-2 w ↦ (λ z. w.if-walk-eq0-2.false)
      | else-walk-eq0-via-else-walk-eq0 w ↦ (λ z. absurd (w.if-walk-eq0.false z))
    ] in
    let steps : 2 * size - c.loop-step._step ≡ suc (2 * size - (c.loop-step._step + 1)) = omega (arith, c.loop-step-test.true, c.size-step-end.ensures) in
    record {
      on_way = still_on_way size T.ordered (cells c.args.table.now) c.loop-step.walk c.in_ok-walk.walk c.loop-step._step (in_use T) inv.on_way c.in_ok-walk.ensures.on;
      cost = omega (arith, inv.cost, c.in_ok-walk.ensures.cost);
      to_start = λ m e h. inv.to_start m e (ends_on size T.ordered (cells c.args.table.now) _ _ c.loop-step.walk c.in_ok-walk.walk m e steps c.in_ok-walk.ensures.on h);
      from_start = λ m e h. ends_further size T.ordered (cells c.args.table.now) _ _ c.loop-step.walk c.in_ok-walk.walk m e steps away c.in_ok-walk.ensures.on (inv.from_start m e h);
    }

pub returns-clause-faulty : goal.returns-clause-faulty
returns-clause-faulty g c = λ m e h.
    let T = fields c.args.table.now in
    let left : 2 * size_of T - c.loop-step._step ≡ 0 = omega (arith, c.loop-step-test.false, c.size-step-end.ensures) in
    none_left (size_of T) T.ordered (cells c.args.table.now) c.loop-step.walk m e (subst (λ n. ComesBack n (size_of T) T.ordered (cells c.args.table.now) c.loop-step.walk m e) left (c.loop-step.invariant.from_start m e h))

pub returns-then-walk-eq0-2-clause-cost : goal.returns-then-walk-eq0-2-clause-cost
returns-then-walk-eq0-2-clause-cost g c = omega (arith, c.loop-step.invariant.cost, c.loop-step-test.true, c.size-step-end.ensures)

pub returns-in_err-walk-clause-cost : goal.returns-in_err-walk-clause-cost
returns-in_err-walk-clause-cost g c = omega (arith, c.loop-step.invariant.cost, c.in_err-walk.ensures.cost, c.loop-step-test.true, c.size-step-end.ensures)

pub returns-clause-cost : goal.returns-clause-cost
returns-clause-cost g c = omega (arith, c.loop-step.invariant.cost, c.loop-step.auto._step-end, c.size-step-end.ensures)

pub go_on-requires : goal.go_on-requires
go_on-requires g c =
    let on = c.loop-step.invariant.on_way in
    let away : c.loop-step.walk.label ≡ 0 → c.loop-step.walk.node ≢ 0 = elim c.else-walk-eq0.branch [
      | else-walk-eq0-via-then-walk-eq0+else-walk-eq0-2 w ↦ (λ z. w.if-walk-eq0-2.false)
      | else-walk-eq0-via-else-walk-eq0 w ↦ (λ z. absurd (w.if-walk-eq0.false z))
    ] in
    let few : c.loop-step._step < 2 * size_of (fields c.args.table.now) = omega (arith, c.loop-step-test.true, c.size-step-end.ensures) in
    let most : size_of (fields c.args.table.now) ≤ 2 ^ 30 = omega (arith, c.args.table.now.shaped.blocks.active_in, c.args.table.now.shaped.blocks.fits) in
    (search rules, (record { inside = on.inside; base = on.base; room = (omega (arith, on.met, few, most), omega (arith, on.numbers, few, most)); root = c.requires.root }, away))
