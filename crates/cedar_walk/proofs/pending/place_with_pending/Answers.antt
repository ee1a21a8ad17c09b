use Rattle.std.proofs.Common.{◌≡◌, ◌≤◌, ℕ, List, ◌++◌, arith, refl, rules}
use Rattle.cedar_table.specs.Table.Views.{cells, fields}
use Rattle.cedar_model.specs.Table.TableFields.{size_of}
use Rattle.cedar_walk.specs.Visits.{IsBelow, left_after, left_at, path_to}
use Rattle.cedar_walk.proofs.WalkLemmas.NextNode.{first_there, none_below, short_way}
use Rattle.cedar_walk.proofs.WalkLemmas.Waiting.{climbed_to, leads_down, popped}
use Rattle.cedar_walk.proofs.pending.place_with_pending.Goals as goal

pub overflow_add-depth : goal.overflow_add-depth
overflow_add-depth g c =
    let T = c.args.table.now in
    let short : c.args.depth ≤ size_of (fields T) = short_way _ (fields T) c.requires.well_formed c.requires.below.0 c.args.depth c.args.node c.requires.below.1 in
    omega (arith, short, T.shaped.blocks.active_in, T.shaped.blocks.fits)

pub child_under-requires : goal.child_under-requires
child_under-requires g c =
    let T = fields c.args.table.now in
    let start = c.requires.below.0 in
    let path = start ++ path_to T c.args.depth c.args.node in
    (search rules, record { well_formed = c.requires.well_formed; at = (path, c.requires.below.1, first_there _ (c.requires.first path c.requires.below.1) c.if-label-ne0.true) })

pub returns-then-label-ne0 : goal.returns-then-label-ne0
returns-then-label-ne0 g c =
    leads_down _ (fields c.args.table.now) c.requires.well_formed c.args.depth c.args.node c.args.label c.child_under.result c.args.siblings.now c.requires.below c.requires.first c.if-label-ne0.true c.child_under.ensures.slot c.child_under.ensures.depth c.child_under.ensures.label c.requires.kept

pub returns-in-Some : goal.returns-in-Some
returns-in-Some g c =
    let T = fields c.args.table.now in
    let past : (start : List ℕ) → IsBelow (cells c.args.table.now) start c.args.depth c.args.node → left_at T start c.args.depth c.args.node ≡ left_after T start c.args.depth c.args.node = λ start at.
    none_below _ T c.requires.well_formed start c.args.depth c.args.node c.args.label (c.requires.first (start ++ path_to T c.args.depth c.args.node) at) (search rules) in
    popped T c.args.depth c.args.node c.args.siblings.now c.pop.new.self c.in-Some.sibling (record { slot = c.in-Some.sibling.slot; depth = c.in-Some.sibling.depth; label = c.in-Some.sibling.label }) c.in-Some.ensures c.requires.kept past refl refl refl

pub returns : goal.returns
returns g c =
    let T = fields c.args.table.now in
    let past : (start : List ℕ) → IsBelow (cells c.args.table.now) start c.args.depth c.args.node → left_at T start c.args.depth c.args.node ≡ left_after T start c.args.depth c.args.node = λ start at.
    none_below _ T c.requires.well_formed start c.args.depth c.args.node c.args.label (c.requires.first (start ++ path_to T c.args.depth c.args.node) at) (search rules) in
    climbed_to T c.args.depth c.args.node c.pop.new.self c.next_after.result c.in_default.ensures.1 c.requires.below past c.next_after.ensures
