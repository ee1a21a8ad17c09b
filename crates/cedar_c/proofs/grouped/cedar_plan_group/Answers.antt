use Rattle.std.proofs.Common.{◌≡◌, ◌+◌, ◌∷◌, length, take, drop, refl, subst, arith, length-drop}
use Rattle.std.proofs.lemmas.List.{length-take-le}
use Rattle.cedar_plan.specs.Plans.{PlansAppend, works_of}
use Rattle.cedar_plan.specs.Works.{append_works}
use Rattle.cedar_c.specs.Groups.{IsGroup, group_head}
use Rattle.cedar_c.proofs.GroupLemmas.{group_works, is_group}
use Rattle.cedar_c.proofs.PlanLemmas.{two_steps}
use Rattle.cedar_c.proofs.grouped.cedar_plan_group.Goals as goal

pub returns-clause-planned : goal.returns-clause-planned
returns-clause-planned c ok =
    let f = c.format_if-format.result in
    let b = c.args.buffer.now in
    let n = c.args.size in
    let head = c.head_len.ensures in
    let long = length-take-le n (drop (group_head f) b) (omega (arith, length-drop (group_head f) b, c.in_default.ensures.places)) in
    subst (λ g. IsGroup (works_of c.frame_group.new.buffer c.go_on.new.plan) g c.args.end.now c.go_on.new.end (take n (drop (group_head g) b))) c.format_if-format.ensures
    (is_group f c.args.end.now c.go_on.new.end n (take n (drop (group_head f) b)) c.frame_group.new.buffer c.go_on.new.plan c.in_default.ensures.room long
    c.in_default.ensures.short c.frame_group.ensures (subst (λ k. PlansAppend c.go_on.new.plan (n + k + 1) c.args.end.now) head c.go_on.ensures.planned)
    (subst (λ k. c.go_on.new.end + 1 ≡ c.args.end.now + (n + k + 1)) head c.go_on.ensures.end))

pub returns-clause-works : goal.returns-clause-works
returns-clause-works c ok =
    let f = c.format_if-format.result in
    let b = c.args.buffer.now in
    let n = c.args.size in
    let head = c.head_len.ensures in
    let long = length-take-le n (drop (group_head f) b) (omega (arith, length-drop (group_head f) b, c.in_default.ensures.places)) in
    subst (λ g. works_of c.frame_group.new.buffer c.go_on.new.plan ≡ append_works g c.args.end.now (2 ∷ take n (drop (group_head g) b))) c.format_if-format.ensures
    (group_works f c.args.end.now n (take n (drop (group_head f) b)) c.frame_group.new.buffer c.go_on.new.plan long c.frame_group.ensures
    (subst (λ k. PlansAppend c.go_on.new.plan (n + k + 1) c.args.end.now) head c.go_on.ensures.planned))

pub returns-clause-steps : goal.returns-clause-steps
returns-clause-steps c ok = two_steps c.frame_group.new.buffer c.go_on.new.plan _ (returns-clause-works c ok) refl

pub returns-clause-end : goal.returns-clause-end
returns-clause-end c ok =
    subst (λ f. c.go_on.new.end ≡ c.args.end.now + group_head f + c.args.size) c.format_if-format.ensures (omega (arith, c.head_len.ensures, c.go_on.ensures.end))
