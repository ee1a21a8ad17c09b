use Rattle.std.proofs.Common.{◌≡◌, ◌≤◌, ◌+◌, length, take, vec_len}
use Rattle.std.specs.Vec.{vec_capacity}
use Rattle.cedar_store.specs.Promises.{IsReadyStore}
use Rattle.cedar_runs.specs.Runs.{AddsStoreRun}
use Rattle.cedar_runs.specs.Steps.{point_of}
use Rattle.cedar_runs.proofs.run.run_store_calls.Given as goal

-- there is room for all outcomes, and those that were added so far are the run's
abbrev pub invariant-loop-index : goal.invariant-loop-index
invariant-loop-index g l = record {
  count : vec_len l.outcomes ≡ vec_len l.fn.outcomes + l.index;
  room : vec_len l.fn.outcomes + length l.calls ≤ vec_capacity l.outcomes;
  ready : IsReadyStore g.D.Device.seen g.D.Device.may_leave g.T.Words.state l.store;
  run : AddsStoreRun g.D.Device.moment g.D.Device.left_since g.D.Device.may_leave (point_of g.T.Words.state l.fn.store) (take l.index l.calls) l.fn.outcomes.items l.outcomes.items (point_of g.T.Words.state l.store);
}
