use Rattle.std.proofs.Common.{ap, arith}
use Rattle.cedar_slots.specs.Blocks.{BlockFields}
use Rattle.cedar_slots.specs.Views.{places_of}
use Rattle.cedar_model.proofs.CellsLemmas.HeldSlots.{held_used}
use Rattle.cedar_model.proofs.CellsLemmas.RecordWritten.{InfoWritten-set}
use Rattle.cedar_table.proofs.table.Table.write_info.Goals as goal

pub write_info-requires-clause-slot_used : goal.write_info-requires-clause-slot_used
write_info-requires-clause-slot_used g c = (held_used g.L.Layout.kind (places_of c.args.self.now.places) c.args.slot c.requires.sound.sound.shaped.blocks.some c.requires.slot_held).1

pub returns-clause-written : goal.returns-clause-written
returns-clause-written g c =
    let shaped = c.requires.sound.sound.shaped in
    InfoWritten-set g.L.Layout.kind (places_of c.args.self.now.places) (places_of c.write_info.new.self) c.args.slot c.requires.slot_in (omega (arith, c.requires.slot_in, shaped.nodes, shaped.blocks.active_in)) (omega (arith, c.requires.slot_in, shaped.nodes, shaped.infos, shaped.blocks.active_in)) (ap (λ (b : BlockFields). b.active) c.write_info.ensures.blocks) c.args.info c.write_info.ensures.nodes c.write_info.ensures.infos
