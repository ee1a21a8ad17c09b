use Rattle.std.proofs.Common.{arith, subst, sym}
use Rattle.cedar_slots.specs.Places.{Sound}
use Rattle.cedar_slots.specs.Views.{places_of}
use Rattle.cedar_slots.proofs.RingsLemmas.SlotWritten.{Sound-info}
use Rattle.cedar_slots.proofs.places.Places.write_info.Goals as goal

pub returns-clause-sound : goal.returns-clause-sound
returns-clause-sound g c =
    let old = places_of c.args.self.now in
    let written = Sound-info old c.requires.sound c.args.slot c.requires.slot_in c.requires.slot_used c.args.info in
    subst (λ infos. Sound (record old { slots = record old.slots { infos = infos } })) (sym c.set.ensures.items) written

pub set-requires : goal.set-requires
set-requires g c = omega (arith, c.requires.slot_in, c.args.self.now.blocks.ready, c.args.self.now.infos_ready)
