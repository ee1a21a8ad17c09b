use Rattle.std.proofs.Common.{rules, ◌+◌, ◌<◌, ℕ, sym, subst, arith, get_or, List, [], None, Some}
use Rattle.cedar_walk.specs.Batch.{IsLane, keys_of}
use Rattle.cedar_table.specs.Table.Views.{fields}
use Rattle.cedar_walk.proofs.WalkLemmas.Lanes.{key_at, key_count, Round, round_begins, round_ends, round_goes_on, round_misses}
use Rattle.cedar_walk.proofs.batch.pass_each.Goals as goal
use Rattle.cedar_walk.proofs.batch.pass_each.Goals.{in-Some, in_default}

pub loop-lane-init : goal.loop-lane-init
loop-lane-init g c = round_begins (fields c.args.table.now) (keys_of c.args.keys.now) c.args.passed c.args.lanes.now c.told-lanes c.requires.lanes

pub pass-requires : goal.pass-requires
pass-requires g c =
    let T = fields c.args.table.now in
    let n : ℕ = c.loop-lane.lane in
    let here : IsLane T (get_or (keys_of c.args.keys.now) n []) c.args.passed (get_or c.loop-lane.lanes n None) = c.loop-lane.invariant.rest n (omega arith) (rw (key_count c.args.keys.now) (omega arith)) in
    let at : IsLane T (get_or (keys_of c.args.keys.now) n []) c.args.passed (Some c.in-Some.node) = subst (IsLane T (get_or (keys_of c.args.keys.now) n []) c.args.passed) c.in-Some.is here in
    (search rules, subst (λ (key : List ℕ). IsLane T key c.args.passed (Some c.in-Some.node)) (key_at c.args.keys.now n) at)

pub loop-lane-preserved : goal.loop-lane-preserved
loop-lane-preserved g c =
    let T = fields c.args.table.now in
    let i = c.loop-lane.invariant in
    let ks = keys_of c.args.keys.now in
    let p = c.args.passed in
    let n : ℕ = c.loop-lane.lane in
    let within : n < 16 = omega (arith, c.requires.few, c.loop-lane-test.true) in
    elim c.match-lanes-lane.branch [
      | in-Some w ↦ subst (Round T ks p (n + 1)) (sym w.lanes-is) (round_goes_on T ks p n c.loop-lane.lanes w.pass.result within i (subst (λ (key : List ℕ). IsLane T key (p + 1) w.pass.result) (sym (key_at c.args.keys.now n)) w.pass.ensures))
      | in_default w ↦ subst (Round T ks p (n + 1)) (sym w.lanes-is) (round_misses T ks p n c.loop-lane.lanes (rw (key_count c.args.keys.now) (omega arith)) w.in_default.is i)
    ]

pub returns : goal.returns
returns g c =
    round_ends (fields c.args.table.now) (keys_of c.args.keys.now) c.args.passed c.loop-lane.lane c.loop-lane.lanes (rw (key_count c.args.keys.now) (omega arith)) c.loop-lane.invariant
