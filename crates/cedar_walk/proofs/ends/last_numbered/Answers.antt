use Rattle.std.proofs.Common.{[], rules}
use Rattle.cedar_table.specs.Table.Views.{fields}
use Rattle.cedar_walk.proofs.WalkLemmas.Last.{at_top, begins_down, empty_walk, last_is, passes_on}
use Rattle.cedar_walk.proofs.WalkLemmas.NextNode.{first_there}
use Rattle.cedar_walk.proofs.WalkLemmas.NextNumber.{deep_not_root}
use Rattle.cedar_walk.proofs.ends.last_numbered.Goals as goal

pub first_child-label-requires : goal.first_child-label-requires
first_child-label-requires g c = (search rules, (c.requires, ([], at_top (fields c.args.table.now))))

pub returns-then-label-eq0 : goal.returns-then-label-eq0
returns-then-label-eq0 g c =
    let T = fields c.args.table.now in
    empty_walk _ T c.requires c.first_child-label.result (c.first_child-label.ensures [] (at_top T)) c.if-label-eq0.true

pub child_under-place-requires : goal.child_under-place-requires
child_under-place-requires g c =
    let at = at_top (fields c.args.table.now) in
    (search rules, record { well_formed = c.requires; at = ([], at, first_there _ (c.first_child-label.ensures [] at) c.if-label-eq0.false) })

pub loop-next-init : goal.loop-next-init
loop-next-init g c =
    let T = fields c.args.table.now in
    let made = c.child_under-place in
    begins_down _ T c.requires c.first_child-label.result (c.first_child-label.ensures [] (at_top T)) made.result c.if-label-eq0.false made.ensures.slot made.ensures.depth made.ensures.label

pub loop-next-smaller : goal.loop-next-smaller
loop-next-smaller g c = c.in-Some.ensures.less

pub loop-next-preserved : goal.loop-next-preserved
loop-next-preserved g c = passes_on (fields c.args.table.now) c.loop-next.place c.in-Some.next c.loop-next.invariant c.in-Some.ensures

pub numbered_from-requires : goal.numbered_from-requires
numbered_from-requires g c =
    let on = c.loop-next.invariant.on in
    let place = c.loop-next.place in
    (search rules, record { well_formed = c.requires; below = ([], on.below); not_root = deep_not_root _ (fields c.args.table.now) c.requires [] place.depth place.slot on.below on.deep })

pub returns : goal.returns
returns g c = last_is (fields c.args.table.now) c.loop-next.place c.numbered_from.result c.loop-next.invariant c.in_default.ensures (c.numbered_from.ensures [] c.loop-next.invariant.on.below)
