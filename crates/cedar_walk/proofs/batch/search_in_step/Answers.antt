use Rattle.std.proofs.Common.{rules, ◌≡◌, ℕ, sym, subst, ◌∙◌, refl, arith, get_or, List, [], None}
use Rattle.cedar_model.specs.Queries.{exact}
use Rattle.cedar_walk.specs.Batch.{IsLane, keys_of}
use Rattle.cedar_table.specs.Table.Views.{fields}
use Rattle.cedar_model.specs.Meaning.WellFormed.{tree_of}
use Rattle.cedar_walk.proofs.WalkLemmas.Lanes.{answered_at, answers_are, key_at, key_count, lanes_begin}
use Rattle.cedar_walk.proofs.batch.search_in_step.Goals as goal

pub loop-passed-init : goal.loop-passed-init
loop-passed-init g c =
    lanes_begin g.row.SLOTS (fields c.args.table.now) (keys_of c.args.keys.now) (rw (key_count c.args.keys.now) c.requires.few) (omega arith) c.requires.well_formed

pub end_lane-requires : goal.end_lane-requires
end_lane-requires g c =
    let T = fields c.args.table.now in
    let n : ℕ = c.loop-lane.lane in
    let ks = keys_of c.args.keys.now in
    let all : c.loop-passed.passed ≡ 9 = omega arith in
    let here : IsLane T (get_or ks n []) c.loop-passed.passed (get_or c.loop-passed.lanes n None) = c.loop-passed.invariant n (rw (key_count c.args.keys.now) (omega arith)) in
    let at : IsLane T (get_or ks n []) 9 (get_or c.loop-passed.lanes n None) = subst (λ (p : ℕ). IsLane T (get_or ks n []) p (get_or c.loop-passed.lanes n None)) all here in
    (search rules, subst (λ (key : List ℕ). IsLane T key 9 (get_or c.loop-passed.lanes n None)) (key_at c.args.keys.now n) at)

pub loop-lane-preserved : goal.loop-lane-preserved
loop-lane-preserved g c =
    let t = tree_of (fields c.args.table.now) in
    let n : ℕ = c.loop-lane.lane in
    answered_at t (keys_of c.args.keys.now) c.loop-lane.answers n c.end_lane.result
    (omega (arith, c.loop-lane.auto.answers, c.requires.same)) c.loop-lane.invariant (c.end_lane.ensures ∙ subst (λ (key : List ℕ). exact t key ≡ exact t (get_or (keys_of c.args.keys.now) n [])) (key_at c.args.keys.now n) refl)

pub returns : goal.returns
returns g c =
    answers_are (tree_of (fields c.args.table.now)) (keys_of c.args.keys.now) c.loop-lane.answers
    (c.loop-lane.auto.answers ∙ c.requires.same ∙ sym (key_count c.args.keys.now))
    (λ i h. c.loop-lane.invariant i (omega (arith, key_count c.args.keys.now)))
