use Rattle.std.proofs.Common.{◌≡◌, ◌+◌, [], ◌∷◌, ◌++◌, append-nil, arith, take, get_or, refl, subst, sym}
use Rattle.std.proofs.lemmas.List.{take_all, take_more}
use Rattle.cedar_runs.specs.declared.call.StoreCall.{StoreCall}
use Rattle.cedar_runs.specs.Runs.{AddsStoreRun}
use Rattle.cedar_runs.specs.Steps.{point_of}
use Rattle.cedar_runs.proofs.RunLemmas.{adds_more, blank_call}
use Rattle.cedar_runs.proofs.run.run_store_calls.Goals as goal

pub loop-index-init : goal.loop-index-init
loop-index-init g c = record { count = omega arith; room = c.requires.room; ready = c.requires.ready; run = ([], sym (append-nil c.args.outcomes.now.items), refl) }

pub loop-index-preserved : goal.loop-index-preserved
loop-index-preserved g c =
    let h = c.loop-index.invariant in
    let p = c.push_reserved.ensures in
    let i = c.loop-index.index in
    let had = c.args.outcomes.now in
    let call : StoreCall = get_or c.args.calls.now i blank_call in
    let next : take (i + 1) c.args.calls.now ≡ take i c.args.calls.now ++ call ∷ [] = take_more c.args.calls.now i blank_call c.loop-index-test.true in
    record {
      count = omega (arith, p.len, h.count);
      room = omega (arith, p.capacity, h.room);
      ready = c.make_store_call.ensures.ready;
      run = rw (next, p.items) (
          adds_more g.D.Device.moment g.D.Device.left_since g.D.Device.may_leave (point_of g.T.Words.state c.args.store.now) (take i c.args.calls.now) had.items c.loop-index.outcomes.items
          (point_of g.T.Words.state c.loop-index.store) call c.make_store_call.result (point_of g.T.Words.state c.make_store_call.new.store) h.run c.make_store_call.ensures.step
          );
    }

pub returns-clause-run : goal.returns-clause-run
returns-clause-run g c =
    let all : take c.loop-index.index c.args.calls.now ≡ c.args.calls.now = take_all c.loop-index.index c.args.calls.now (omega (arith, c.loop-index-test.false)) in
    subst (λ calls. AddsStoreRun g.D.Device.moment g.D.Device.left_since g.D.Device.may_leave (point_of g.T.Words.state c.args.store.now) calls c.args.outcomes.now.items c.loop-index.outcomes.items (point_of g.T.Words.state c.loop-index.store)) all c.loop-index.invariant.run
