use Rattle.std.proofs.Common.{◌+◌, ◌-◌, ◌∙◌, ap, arith, rules, sym, take, ℤ, w32, FitsSigned, ◌∷◌}
use Rattle.std.proofs.lemmas.Int.{to_z-of_z}
use Rattle.cedar_model.specs.Queries.{node_at}
use Rattle.cedar_model.specs.Walks.{front_from}
use Rattle.cedar_table.specs.Table.Views.{fields}
use Rattle.cedar_model.specs.Meaning.WellFormed.{tree_of}
use Rattle.cedar_walk.proofs.WalkLemmas.NextFront.{front_gone, front_held, front_passed, on_child}
use Rattle.cedar_walk.proofs.fronts.next_held_front.Goals as goal

pub returns-in_err-slot-clause-answer : goal.returns-in_err-slot-clause-answer
returns-in_err-slot-clause-answer g c =
    let T = fields c.args.table.now in
    let i = c.loop-len.invariant in
    rw c.from_residual.ensures (i.front ∙ front_gone T c.args.query.now c.loop-len.len c.loop-len.slot i.on c.loop-len-test.true c.in_err-slot.ensures.answer)

pub number-requires : goal.number-requires
number-requires g c =
    let T = fields c.args.table.now in
    let i = c.loop-len.invariant in
    let next = on_child T c.args.query.now c.loop-len.len c.loop-len.slot i.on c.loop-len-test.true c.in_ok-slot.slot (c.in_ok-slot.ensures.answer (node_at (tree_of T) (take c.loop-len.len c.args.query.now)) i.on.stands) in
    (search rules, (next.inside, (node_at (tree_of T) (take (c.loop-len.len + 1) c.args.query.now), next.stands)))

pub returns-in-Some-clause-answer : goal.returns-in-Some-clause-answer
returns-in-Some-clause-answer g c =
    let T = fields c.args.table.now in
    let i = c.loop-len.invariant in
    let next = on_child T c.args.query.now c.loop-len.len c.loop-len.slot i.on c.loop-len-test.true c.in_ok-slot.slot (c.in_ok-slot.ensures.answer (node_at (tree_of T) (take c.loop-len.len c.args.query.now)) i.on.stands) in
    let fits : FitsSigned w32 c.in-Some.number = search rules in
    let held = front_held T c.args.query.now c.loop-len.len c.loop-len.slot i.on c.loop-len-test.true c.in_ok-slot.slot c.in-Some.number (c.loop-len.len + 1 - 1) (omega arith) next c.in-Some.ensures.answer in
    (omega arith, i.front ∙ held ∙ ap (λ (v : ℤ). (v, c.loop-len.len + 1 - 1) ∷ front_from (tree_of T) c.args.query.now (c.loop-len.len + 1)) (sym (to_z-of_z w32 c.in-Some.number fits)))

pub returns-in-Some-clause-on : goal.returns-in-Some-clause-on
returns-in-Some-clause-on g c =
    let T = fields c.args.table.now in
    let i = c.loop-len.invariant in
    (omega (arith, i.far), on_child T c.args.query.now c.loop-len.len c.loop-len.slot i.on c.loop-len-test.true c.in_ok-slot.slot (c.in_ok-slot.ensures.answer (node_at (tree_of T) (take c.loop-len.len c.args.query.now)) i.on.stands))

pub loop-len-preserved : goal.loop-len-preserved
loop-len-preserved g c =
    let T = fields c.args.table.now in
    let i = c.loop-len.invariant in
    let next = on_child T c.args.query.now c.loop-len.len c.loop-len.slot i.on c.loop-len-test.true c.in_ok-slot.slot (c.in_ok-slot.ensures.answer (node_at (tree_of T) (take c.loop-len.len c.args.query.now)) i.on.stands) in
    record {
      on = next;
      far = omega (arith, i.far);
      front = i.front ∙ front_passed T c.args.query.now c.loop-len.len c.loop-len.slot i.on c.loop-len-test.true c.in_ok-slot.slot next c.in_default.ensures.answer;
      cost = omega (arith, i.cost, i.far, c.follow.ensures.cost, c.number.ensures.cost);
    }
