use Rattle.std.proofs.Common.{◌+◌, ◌-◌, ◌<◌, ◌≤◌, ◌++◌, FitsSigned, length, Some, arith, rules, ap, subst, sym, vec_capacity, w32, ◌∙◌}
use Rattle.std.proofs.lemmas.Int.{to_z-of_z}
use Rattle.cedar_table.specs.Table.Views.{cells, fields}
use Rattle.cedar_model.specs.Table.TableFields.{size_of}
use Rattle.cedar_model.specs.Meaning.Family.{below}
use Rattle.cedar_model.proofs.MeaningLemmas.SearchStep.{never_nothing}
use Rattle.cedar_walk.specs.Keys.{FirstKeyOutgrows}
use Rattle.cedar_walk.specs.Visits.{path_to}
use Rattle.cedar_walk.proofs.WalkLemmas.Keys.{down_outgrows, key_goes_down}
use Rattle.cedar_walk.proofs.WalkLemmas.NextNode.{node_inside, node_stands, short_way}
use Rattle.cedar_walk.proofs.WalkLemmas.NextNumber.{Descended, descended_on, descended_to, leaf_number}
use Rattle.cedar_model.proofs.GeneralLemmas.{on_err}
use Rattle.cedar_walk.proofs.keys.numbered_from_with_key.Goals as goal

pub child-label-requires : goal.child-label-requires
child-label-requires g c =
    let T = c.args.table.now in
    let start = c.requires.below.0 in
    let inside : c.args.node < size_of (fields T) = node_inside _ (fields T) c.requires.well_formed (start ++ path_to (fields T) c.args.depth c.args.node) c.args.node c.requires.below.1 in
    (search rules, omega (arith, inside, T.shaped.blocks.active_in))

pub slot_below-slot-requires : goal.slot_below-slot-requires
slot_below-slot-requires g c =
    let T = c.args.table.now in
    let k = c.requires.well_formed in
    let start = c.requires.below.0 in
    let w = start ++ path_to (fields T) c.loop-label.steps c.loop-label.slot in
    let here = c.loop-label.invariant.down start c.requires.below.1 in
    (search rules, (node_inside _ (fields T) k w c.loop-label.slot here.below, never_nothing (size_of (fields T)) (cells T) c.loop-label.slot _ (node_stands _ (fields T) k w c.loop-label.slot here.below)))

pub overflow_add-steps : goal.overflow_add-steps
overflow_add-steps g c =
    let T = c.args.table.now in
    let here = c.loop-label.invariant.down c.requires.below.0 c.requires.below.1 in
    let short : c.loop-label.steps ≤ size_of (fields T) = short_way _ (fields T) c.requires.well_formed c.requires.below.0 c.loop-label.steps c.loop-label.slot here.below in
    omega (arith, short, T.shaped.blocks.active_in, T.shaped.blocks.fits)

pub child-label-requires-in-loop-label : goal.child-label-requires-in-loop-label
child-label-requires-in-loop-label g c =
    let T = c.args.table.now in
    let k = c.requires.well_formed in
    let start = c.requires.below.0 in
    let on = descended_on _ (fields T) k start c.args.depth c.args.node c.loop-label.steps c.loop-label.slot c.loop-label.label (c.loop-label.invariant.down start c.requires.below.1) c.loop-label.invariant.first c.loop-label-test.true in
    let inside : below (cells T) c.loop-label.slot c.loop-label.label < size_of (fields T) = node_inside _ (fields T) k (start ++ path_to (fields T) (c.loop-label.steps + 1) (below (cells T) c.loop-label.slot c.loop-label.label)) _ on.below in
    (search rules, omega (arith, inside, c.slot_below-slot.ensures, T.shaped.blocks.active_in))

pub loop-label-smaller : goal.loop-label-smaller
loop-label-smaller g c =
    let T = c.args.table.now in
    let k = c.requires.well_formed in
    let start = c.requires.below.0 in
    let on = descended_on _ (fields T) k start c.args.depth c.args.node c.loop-label.steps c.loop-label.slot c.loop-label.label (c.loop-label.invariant.down start c.requires.below.1) c.loop-label.invariant.first c.loop-label-test.true in
    let short : c.loop-label.steps + 1 ≤ size_of (fields T) = short_way _ (fields T) k start (c.loop-label.steps + 1) _ on.below in
    omega (arith, short)

pub loop-label-preserved : goal.loop-label-preserved
loop-label-preserved g c =
    let T = c.args.table.now in
    record {
      first = c.child-label-in-loop-label.ensures;
      down = λ start at. subst (Descended (fields T) start c.args.depth c.args.node (c.loop-label.steps + 1)) (sym c.slot_below-slot.ensures)
          (descended_on _ (fields T) c.requires.well_formed start c.args.depth c.args.node c.loop-label.steps c.loop-label.slot c.loop-label.label (c.loop-label.invariant.down start at) c.loop-label.invariant.first c.loop-label-test.true);
      key = λ front so_far. key_goes_down _ (fields T) c.requires.well_formed c.requires.below.0 c.loop-label.steps c.loop-label.slot c.loop-label.label c.slot_below-slot.result front
          c.loop-label.key.items c.push.new.self.items (c.loop-label.invariant.down c.requires.below.0 c.requires.below.1).below c.loop-label.invariant.first c.loop-label-test.true
          c.slot_below-slot.ensures (c.loop-label.invariant.key front so_far) c.in_ok-push.ensures.items;
      long = omega (arith, c.loop-label.invariant.long, c.in_ok-push.ensures.len, c.loop-label.key.ok, c.push.new.self.ok);
      room = omega (arith, c.loop-label.invariant.room, c.in_ok-push.ensures.capacity);
    }

-- the node has a child, and the key of an entry there or below has a label more than the key that filled the buffer
pub returns-in_err-push-clause-full : goal.returns-in_err-push-clause-full
returns-in_err-push-clause-full g c =
    let T = fields c.args.table.now in
    let key = c.args.key.now in
    let room = vec_capacity key - (length key.items - c.args.depth) in
    let small : FirstKeyOutgrows T c.args.depth c.args.node (length key.items) (vec_capacity key) = λ start at.
    down_outgrows _ T c.requires.well_formed start room c.args.depth c.args.node c.loop-label.steps c.loop-label.slot c.loop-label.label (c.loop-label.invariant.down start at) c.loop-label.invariant.first c.loop-label-test.true
    (omega (arith, c.in_err-push.ensures.full, c.loop-label.key.ok, c.loop-label.invariant.long, c.loop-label.invariant.room)) in
    on_err c.from_residual.result small

pub number_held-requires : goal.number_held-requires
number_held-requires g c =
    let T = c.args.table.now in
    let k = c.requires.well_formed in
    let start = c.requires.below.0 in
    let w = start ++ path_to (fields T) c.loop-label.steps c.loop-label.slot in
    let here = c.loop-label.invariant.down start c.requires.below.1 in
    let held = leaf_number _ (fields T) k w c.loop-label.slot here.below here.not_root (sym c.loop-label.invariant.first ∙ c.loop-label-test.false) in
    (search rules, record { node_in = node_inside _ (fields T) k w c.loop-label.slot here.below; held = (_, held.0, node_stands _ (fields T) k w c.loop-label.slot here.below, held.1) })

pub returns-clause-found : goal.returns-clause-found
returns-clause-found g c = λ start at.
    let T = c.args.table.now in
    let here = c.loop-label.invariant.down start at in
    let fits : FitsSigned w32 c.number_held.result = search rules in
    descended_to (fields T) start c.args.depth c.args.node _ here
    (c.number_held.ensures _ (node_stands _ (fields T) c.requires.well_formed (start ++ path_to (fields T) c.loop-label.steps c.loop-label.slot) c.loop-label.slot here.below) ∙ ap Some (sym (to_z-of_z w32 c.number_held.result fits)))
