use Rattle.std.proofs.Common.{ap, arith}
use Rattle.cedar_slots.specs.Blocks.{BlockFields}
use Rattle.cedar_slots.specs.Views.{places_of}
use Rattle.cedar_model.proofs.CellsLemmas.HeldSlots.{held_used, natural_unless}
use Rattle.cedar_model.proofs.CellsLemmas.RecordWritten.{NodeWritten-set}
use Rattle.cedar_table.proofs.table.Table.write_node.Goals as goal

pub write_node-requires-clause-slot_used : goal.write_node-requires-clause-slot_used
write_node-requires-clause-slot_used g c = (held_used g.L.Layout.kind (places_of c.args.self.now.places) c.args.slot c.requires.sound.sound.shaped.blocks.some c.requires.slot_held).1

pub write_node-requires-clause-node_used : goal.write_node-requires-clause-node_used
write_node-requires-clause-node_used g c = natural_unless c.args.slot _ c.requires.owner

pub returns-clause-written : goal.returns-clause-written
returns-clause-written g c =
    let shaped = c.requires.sound.sound.shaped in
    NodeWritten-set g.L.Layout.kind (places_of c.args.self.now.places) (places_of c.write_node.new.self) c.args.slot c.requires.slot_in (omega (arith, c.requires.slot_in, shaped.nodes, shaped.blocks.active_in)) (omega (arith, c.requires.slot_in, shaped.nodes, shaped.infos, shaped.blocks.active_in)) (ap (λ (b : BlockFields). b.active) c.write_node.ensures.blocks) c.args.node c.write_node.ensures.nodes c.write_node.ensures.infos
