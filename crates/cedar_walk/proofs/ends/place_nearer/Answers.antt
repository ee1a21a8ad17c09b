use Rattle.std.proofs.Common.{◌≤◌, ◌-◌, ◌++◌, [], arith, rules}
use Rattle.cedar_model.specs.Meaning.Family.{below}
use Rattle.cedar_model.specs.Table.TableFields.{size_of}
use Rattle.cedar_table.specs.Table.Views.{cells, fields}
use Rattle.cedar_walk.specs.Visits.{owner_of, path_to}
use Rattle.cedar_walk.proofs.WalkLemmas.Last.{above_here, alone_here, ends_here, goes_down_on, goes_right_on, hangs, sibling_here}
use Rattle.cedar_walk.proofs.WalkLemmas.NextNode.{first_there, short_way}
use Rattle.cedar_walk.proofs.ends.place_nearer.Goals as goal

pub next_sibling-beside-requires : goal.next_sibling-beside-requires
next_sibling-beside-requires g c =
    let T = fields c.args.table.now in
    let k = c.requires.well_formed in
    let place = c.args.place in
    let owner = owner_of (cells c.args.table.now) place.slot in
    (search rules, record { well_formed = k; at = ([] ++ path_to T (place.depth - 1) owner, below (cells c.args.table.now) owner place.slot, hangs _ T k place c.requires.on) })

pub parent-above-requires : goal.parent-above-requires
parent-above-requires g c =
    let T = fields c.args.table.now in
    let k = c.requires.well_formed in
    let place = c.args.place in
    let owner = owner_of (cells c.args.table.now) place.slot in
    (search rules, record { well_formed = k; at = ([] ++ path_to T (place.depth - 1) owner, below (cells c.args.table.now) owner place.slot, hangs _ T k place c.requires.on) })

pub child_under-requires : goal.child_under-requires
child_under-requires g c =
    let T = fields c.args.table.now in
    let k = c.requires.well_formed in
    let place = c.args.place in
    let p = c.parent-above.result in
    let l = c.next_sibling-beside.result in
    let o = c.parent-above.ensures.check in
    let read = c.next_sibling-beside.ensures in
    (search rules, record { well_formed = k; at = ([] ++ path_to T (place.depth - 1) p, above_here _ T k place c.requires.on p l o read, sibling_here _ T k place c.requires.on p l o read c.if-beside-ne0.true) })

pub returns-then-beside-ne0 : goal.returns-then-beside-ne0
returns-then-beside-ne0 g c =
    let made = c.child_under in
    goes_right_on _ (fields c.args.table.now) c.requires.well_formed c.args.place c.requires.on c.parent-above.result c.next_sibling-beside.result c.parent-above.ensures.check c.next_sibling-beside.ensures
    made.result c.if-beside-ne0.true made.ensures.slot made.ensures.depth made.ensures.label

pub first_child-first-requires : goal.first_child-first-requires
first_child-first-requires g c =
    let place = c.args.place in
    (search rules, (c.requires.well_formed, ([] ++ path_to (fields c.args.table.now) place.depth place.slot, c.requires.on.below)))

pub overflow_add-place : goal.overflow_add-place
overflow_add-place g c =
    let T = c.args.table.now in
    let place = c.args.place in
    let short : place.depth ≤ size_of (fields T) = short_way _ (fields T) c.requires.well_formed [] place.depth place.slot c.requires.on.below in
    omega (arith, short, T.shaped.blocks.active_in, T.shaped.blocks.fits)

pub child_under-requires-then-first-ne0 : goal.child_under-requires-then-first-ne0
child_under-requires-then-first-ne0 g c =
    let T = fields c.args.table.now in
    let place = c.args.place in
    let path = [] ++ path_to T place.depth place.slot in
    (search rules, record { well_formed = c.requires.well_formed; at = (path, c.requires.on.below, first_there _ (c.first_child-first.ensures path c.requires.on.below) c.if-first-ne0.true) })

pub returns-then-first-ne0 : goal.returns-then-first-ne0
returns-then-first-ne0 g c =
    let T = fields c.args.table.now in
    let k = c.requires.well_formed in
    let place = c.args.place in
    let on = c.requires.on in
    let made = c.child_under-then-first-ne0 in
    let alone = alone_here _ T k place on c.parent-above.result c.next_sibling-beside.result c.parent-above.ensures.check c.next_sibling-beside.ensures (search rules) in
    goes_down_on _ T k place on c.first_child-first.result made.result alone (c.first_child-first.ensures ([] ++ path_to T place.depth place.slot) on.below) c.if-first-ne0.true made.ensures.slot made.ensures.depth made.ensures.label

pub returns : goal.returns
returns g c =
    let T = fields c.args.table.now in
    let k = c.requires.well_formed in
    let place = c.args.place in
    let on = c.requires.on in
    let alone = alone_here _ T k place on c.parent-above.result c.next_sibling-beside.result c.parent-above.ensures.check c.next_sibling-beside.ensures (search rules) in
    ends_here _ T k place on c.first_child-first.result alone (c.first_child-first.ensures ([] ++ path_to T place.depth place.slot) on.below) (search rules)
