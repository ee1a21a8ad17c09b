use Rattle.cedar_slots.specs.Views.{places_of}
use Rattle.cedar_model.proofs.CellsLemmas.HeldSlots.{Gives-of, held_used}
use Rattle.cedar_table.proofs.table.Table.push_e_node.Goals as goal

pub push_e_node-requires-clause-slot_used : goal.push_e_node-requires-clause-slot_used
push_e_node-requires-clause-slot_used g c = (held_used g.L.Layout.kind (places_of c.args.self.now.places) c.args.slot c.requires.sound.sound.shaped.blocks.some c.requires.slot_held).1

pub returns-clause-gives : goal.returns-clause-gives
returns-clause-gives g c = Gives-of g.L.Layout.kind (places_of c.args.self.now.places) (places_of c.push_e_node.new.self) c.requires.sound.sound.shaped.blocks.some c.push_e_node.ensures.active c.args.slot c.push_e_node.ensures.frees_slot
