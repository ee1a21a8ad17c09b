use Rattle.std.specs.Prelude.{FitsSigned}
use Rattle.std.proofs.Common.{◌+◌, arith, length, rules}
use Rattle.std.proofs.lemmas.Int.{to_z-of_z}
use mir.Syntax.{w32}
use Rattle.cedar_c.specs.Layouts.{inner_dictionary}
use Rattle.cedar_c.proofs.GroupLemmas.{put_adds}
use Rattle.cedar_store.specs.Changes.{put_at}
use Rattle.cedar_c.proofs.PlanLemmas.{append_steps, put_appends, put_planned}
use Rattle.cedar_c.proofs.planned.plan_put.Goals as goal

pub returns-after-number-clause-planned : goal.returns-after-number-clause-planned
returns-after-number-clause-planned c = λ ok.
    let fits : FitsSigned w32 c.args.value = search rules in
    put_planned c.args.key.now _ c.args.value c.args.format c.args.end.now (length c.args.key.now + 5) c.in-Ok.size c.go_on.new.end c.write_put.new.buffer c.go_on.new.plan
    (inner_dictionary c.args.cedar.now).state c.in-Ok.ensures.written (to_z-of_z w32 c.args.value fits) c.go_on.ensures.planned c.go_on.ensures.end

pub returns-after-number-clause-steps : goal.returns-after-number-clause-steps
returns-after-number-clause-steps c = λ ok.
    append_steps (put_at c.args.key.now _) c.args.format c.args.end.now (length c.args.key.now + 5) c.in-Ok.size c.write_put.new.buffer c.go_on.new.plan
    c.in-Ok.ensures.written c.go_on.ensures.planned

pub returns-after-number-clause-works : goal.returns-after-number-clause-works
returns-after-number-clause-works c = λ ok.
    let fits : FitsSigned w32 c.args.value = search rules in
    put_appends c.args.key.now _ c.args.value c.args.format c.args.end.now (length c.args.key.now + 5) c.in-Ok.size c.go_on.new.end c.write_put.new.buffer c.go_on.new.plan
    c.in-Ok.ensures.written (to_z-of_z w32 c.args.value fits) c.go_on.ensures.planned c.go_on.ensures.end

pub returns-after-number-clause-recorded : goal.returns-after-number-clause-recorded
returns-after-number-clause-recorded c = λ ok plain.
    let fits : FitsSigned w32 c.args.value = search rules in
    put_adds c.args.key.now _ c.args.value c.args.format c.args.end.now (length c.args.key.now + 5) c.in-Ok.size (length c.args.key.now + 10) c.write_put.new.buffer (omega arith)
    c.in-Ok.ensures.written plain (to_z-of_z w32 c.args.value fits)
