use Rattle.std.proofs.Common.{arith, w32}
use Rattle.std.proofs.lemmas.Int.{to_z_pos}
use Rattle.cedar_slots.specs.Views.{places_of}
use Rattle.cedar_model.proofs.CellsLemmas.PlacesFound.{free_blank}
use Rattle.cedar_model.proofs.CellsLemmas.HeldSlots.{natural_not_below, Takes-of, unheld_free}
use Rattle.cedar_table.proofs.table.Table.pop_e_node.Goals as goal

pub pop_e_node-requires-clause-slot_free : goal.pop_e_node-requires-clause-slot_free
pop_e_node-requires-clause-slot_free g c = unheld_free g.L.Layout.kind (places_of c.args.self.now.places) c.args.slot c.requires.slot_in c.requires.slot_free

pub pop_e_node-requires-clause-node_used : goal.pop_e_node-requires-clause-node_used
pop_e_node-requires-clause-node_used g c = natural_not_below _ c.args.owner (to_z_pos w32 c.args.owner (omega (arith, c.requires.owner_in)))

pub returns-clause-takes : goal.returns-clause-takes
returns-clause-takes g c =
    let old = places_of c.args.self.now.places in
    let new = places_of c.pop_e_node.new.self in
    let sound = c.requires.sound.sound in
    let free = unheld_free g.L.Layout.kind old c.args.slot c.requires.slot_in c.requires.slot_free in
    Takes-of g.L.Layout.kind old new sound.shaped.blocks.some c.pop_e_node.ensures.active c.args.slot _ c.args.owner c.requires.slot_in (to_z_pos w32 c.args.owner (omega (arith, c.requires.owner_in))) (free_blank old c.args.slot sound c.requires.slot_in free) c.pop_e_node.ensures.takes_slot
