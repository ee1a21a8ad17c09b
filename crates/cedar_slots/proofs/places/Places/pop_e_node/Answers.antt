use Rattle.std.proofs.Common.{◌/◌, ◌∙◌, ap, arith, pos}
use Rattle.cedar_slots.specs.Places.{PlaceFields}
use Rattle.cedar_slots.proofs.RingsLemmas.SlotTaken.{Bounded-same, num_positive, recounted, Sound-taken, taking, TakesSlot-taken}
use Rattle.cedar_slots.proofs.places.Places.pop_e_node.Goals as goal
use Rattle.cedar_slots.specs.Views.{blocks_of, places_of, slots_of}

pub take-requires-clause-previous_in : goal.take-requires-clause-previous_in
take-requires-clause-previous_in g c =
    let t = taking (places_of c.args.self.now) c.args.slot c.args.node c.requires.sound c.requires.slot_in c.requires.slot_free c.requires.node_used in
    omega (arith, t.last_here, c.args.self.now.blocks.ready, c.args.self.now.nodes_ready)

pub take-requires-clause-next_in : goal.take-requires-clause-next_in
take-requires-clause-next_in g c =
    let t = taking (places_of c.args.self.now) c.args.slot c.args.node c.requires.sound c.requires.slot_in c.requires.slot_free c.requires.node_used in
    omega (arith, t.next_here, c.args.self.now.blocks.ready, c.args.self.now.nodes_ready)

pub less-requires-clause-some : goal.less-requires-clause-some
less-requires-clause-some g c = num_positive (places_of c.args.self.now) c.args.slot c.requires.sound c.requires.slot_in c.requires.slot_free c.counts-counts.result c.counts-counts.ensures

pub less-requires-clause-next_fits : goal.less-requires-clause-next_fits
less-requires-clause-next_fits g c =
    let t = taking (places_of c.args.self.now) c.args.slot c.args.node c.requires.sound c.requires.slot_in c.requires.slot_free c.requires.node_used in
    omega (arith, t.next_here, c.requires.sound.shaped.blocks.active_in, c.requires.sound.shaped.blocks.fits)

pub returns-clause-sound : goal.returns-clause-sound
returns-clause-sound g c =
    let old = (places_of c.args.self.now) in
    let new : PlaceFields = record old { slots = (slots_of c.take.new.self); blocks = (blocks_of c.change_counts.new.self) } in
    let e = c.change_counts.ensures in
    Sound-taken old new c.args.slot c.args.node c.requires.sound c.requires.slot_in c.requires.slot_free c.requires.node_used c.take.ensures.nodes c.take.ensures.infos c.take.ensures.len c.counts-counts.result c.less.result
    (recounted old new (c.args.slot / 256) c.requires.sound c.requires.slot_in c.counts-counts.result c.less.result c.counts-counts.ensures e.made
    (Bounded-same old.blocks.max_trial new.blocks.max_trial c.counts-counts.result c.less.result e.max_trial c.less.ensures.reject c.less.ensures.trial)
    (λ _ zero. c.less.ensures.trial ∙ zero)
    e.lists e.active e.len e.max_trial e.others e.idle c.requires.sound.rejects)
    c.less.ensures.num (λ h. c.less.ensures.head_taken h ∙ ap pos c.next_free-next.ensures) c.less.ensures.head_kept

pub returns-clause-takes_slot : goal.returns-clause-takes_slot
returns-clause-takes_slot g c =
    let new : PlaceFields = record (places_of c.args.self.now) { slots = (slots_of c.take.new.self); blocks = (blocks_of c.change_counts.new.self) } in
    TakesSlot-taken (places_of c.args.self.now) new c.args.slot c.args.node c.requires.sound c.requires.slot_in c.requires.slot_free c.requires.node_used c.take.ensures.nodes c.take.ensures.infos

pub take-requires-clause-fits : goal.take-requires-clause-fits
take-requires-clause-fits g c = omega (arith, c.args.self.now.nodes_ready, c.args.self.now.blocks.within, c.requires.sound.shaped.blocks.fits)

pub take-requires-clause-slot_in : goal.take-requires-clause-slot_in
take-requires-clause-slot_in g c = omega (arith, c.args.self.now.blocks.ready, c.args.self.now.nodes_ready)

pub counts-counts-requires : goal.counts-counts-requires
counts-counts-requires g c = omega (arith, c.requires.slot_in, c.args.self.now.blocks.ready)

pub take-requires-clause-to_previous : goal.take-requires-clause-to_previous
take-requires-clause-to_previous g c = (taking (places_of c.args.self.now) c.args.slot c.args.node c.requires.sound c.requires.slot_in c.requires.slot_free c.requires.node_used).to_last

pub take-requires-clause-to_next : goal.take-requires-clause-to_next
take-requires-clause-to_next g c = (taking (places_of c.args.self.now) c.args.slot c.args.node c.requires.sound c.requires.slot_in c.requires.slot_free c.requires.node_used).to_next

pub next_free-next-requires-clause-is_link : goal.next_free-next-requires-clause-is_link
next_free-next-requires-clause-is_link g c = (taking (places_of c.args.self.now) c.args.slot c.args.node c.requires.sound c.requires.slot_in c.requires.slot_free c.requires.node_used).to_next
