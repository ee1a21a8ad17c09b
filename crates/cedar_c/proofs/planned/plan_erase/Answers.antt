use Rattle.std.proofs.Common.{◌+◌, arith, length}
use Rattle.cedar_store.specs.Changes.{erase_at}
use Rattle.cedar_c.specs.Layouts.{inner_dictionary}
use Rattle.cedar_c.proofs.GroupLemmas.{adds_change}
use Rattle.cedar_c.proofs.PlanLemmas.{append_steps, appends_just, planned_by}
use Rattle.cedar_c.proofs.planned.plan_erase.Goals as goal

pub returns-in-Ok-clause-planned : goal.returns-in-Ok-clause-planned
returns-in-Ok-clause-planned c = λ ok held.
    planned_by (erase_at c.args.key.now) c.args.format c.args.end.now (length c.args.key.now + 1) c.in-Ok.size c.go_on.new.end c.write_erasure.new.buffer c.go_on.new.plan
    (inner_dictionary c.args.cedar.now).state c.in-Ok.ensures.written c.go_on.ensures.planned c.go_on.ensures.end

pub returns-in-Ok-clause-steps : goal.returns-in-Ok-clause-steps
returns-in-Ok-clause-steps c = λ ok held.
    append_steps (erase_at c.args.key.now) c.args.format c.args.end.now (length c.args.key.now + 1) c.in-Ok.size c.write_erasure.new.buffer c.go_on.new.plan
    c.in-Ok.ensures.written c.go_on.ensures.planned

pub returns-in-Ok-clause-works : goal.returns-in-Ok-clause-works
returns-in-Ok-clause-works c = λ ok held.
    appends_just (erase_at c.args.key.now) c.args.format c.args.end.now (length c.args.key.now + 1) c.in-Ok.size c.go_on.new.end c.write_erasure.new.buffer c.go_on.new.plan
    c.in-Ok.ensures.written c.go_on.ensures.planned c.go_on.ensures.end

pub returns-in-Ok-clause-recorded : goal.returns-in-Ok-clause-recorded
returns-in-Ok-clause-recorded c = λ ok held plain.
    adds_change (erase_at c.args.key.now) c.args.format c.args.end.now (length c.args.key.now + 1) c.in-Ok.size (length c.args.key.now + 6) c.write_erasure.new.buffer (omega arith)
    c.in-Ok.ensures.written plain
