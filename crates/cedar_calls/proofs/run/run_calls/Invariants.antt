use Rattle.std.proofs.Common.{◌≡◌, ◌≤◌, ◌+◌, ◌-◌, length, take, vec_len}
use Rattle.std.specs.Vec.{vec_capacity}
use Rattle.cedar_calls.specs.Runs.{AddsRun}
use Rattle.cedar_calls.proofs.run.run_calls.Given as goal

-- there is room for all answers and for as many dictionaries as calls are left, and the answers that were added so far are the run's
abbrev pub invariant-loop-call : goal.invariant-loop-call
invariant-loop-call g l =
    (vec_len l.answers ≡ vec_len l.initial.answers + l.call-index) × (vec_len l.initial.answers + length l.calls ≤ vec_capacity l.answers)
    × (vec_len l.tries + (length l.calls - l.call-index) ≤ vec_capacity l.tries)
    × AddsRun g.L.Layout.kind g.row.SLOTS l.initial.tries.items (take l.call-index l.calls) l.initial.answers.items l.answers.items l.tries.items
