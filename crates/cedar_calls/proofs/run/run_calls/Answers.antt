use Rattle.std.proofs.Common.{◌≡◌, ◌≤◌, ◌+◌, ◌-◌, [], ◌∷◌, ◌++◌, append-nil, arith, take, length, refl, subst, sym, ◌∙◌, ap, vec_len}
use Rattle.std.proofs.lemmas.List.{take_all, take_more}
use Rattle.std.specs.Vec.{vec_capacity}
use Rattle.cedar_calls.specs.declared.call.Call.{Call}
use Rattle.cedar_calls.specs.Runs.{AddsRun}
use Rattle.cedar_calls.proofs.RunLemmas.{adds_more}
use Rattle.cedar_calls.proofs.run.run_calls.Goals as goal

pub loop-call-init : goal.loop-call-init
loop-call-init g c = (omega arith, c.requires.results, omega (arith, c.requires.dictionaries), ([], sym (append-nil c.args.answers.now.items), refl))

pub loop-call-preserved : goal.loop-call-preserved
loop-call-preserved g c =
    let h = c.loop-call.invariant in
    let p = c.push_reserved.ensures in
    let m = c.make_call.ensures in
    let i = c.loop-call.call-index in
    let had = c.args.answers.now in
    let count : vec_len c.push_reserved.new.self ≡ vec_len had + (i + 1) = omega (arith, p.len, h.0) in
    let room : vec_len had + length c.args.calls.now ≤ vec_capacity c.push_reserved.new.self = omega (arith, p.capacity, h.1) in
    let places : vec_len c.make_call.new.tries + (length c.args.calls.now - (i + 1)) ≤ vec_capacity c.make_call.new.tries =
    omega (arith, m.len, m.capacity, h.2, c.loop-call-test.true) in
    let next : take (i + 1) c.args.calls.now ≡ take i c.args.calls.now ++ c.call-item.result ∷ [] =
    take_more c.args.calls.now i c.call-item.result c.loop-call-test.true
    ∙ ap (λ (x : Call). take i c.args.calls.now ++ x ∷ []) (sym c.call-item.is) in (
      count,
      room,
      places,
      rw (next, p.items) (
          adds_more g.L.Layout.kind g.row.SLOTS c.args.tries.now.items (take i c.args.calls.now) had.items c.loop-call.answers.items c.loop-call.tries.items c.call-item.result c.make_call.result
          c.make_call.new.tries.items h.3 m.step
          ),
    )

pub returns-clause-run : goal.returns-clause-run
returns-clause-run g c =
    let all : take c.loop-call.call-index c.args.calls.now ≡ c.args.calls.now = take_all c.loop-call.call-index c.args.calls.now (omega (arith, c.loop-call-test.false)) in
    subst (λ calls. AddsRun g.L.Layout.kind g.row.SLOTS c.args.tries.now.items calls c.args.answers.now.items c.loop-call.answers.items c.loop-call.tries.items) all c.loop-call.invariant.3
