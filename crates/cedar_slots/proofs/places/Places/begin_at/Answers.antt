use Rattle.std.proofs.Common.{◌/◌, ◌∙◌, arith, refl}
use Rattle.cedar_slots.specs.Places.{PlaceFields}
use Rattle.cedar_slots.proofs.RingsLemmas.SlotTaken.{Bounded-same, recounted}
use Rattle.cedar_slots.proofs.PlacementLemmas.PlaceSearch.{Sound-recounted, Turned-at}
use Rattle.cedar_slots.proofs.places.Places.begin_at.Goals as goal
use Rattle.cedar_slots.specs.Views.{blocks_of, places_of}

pub returns-clause-sound : goal.returns-clause-sound
returns-clause-sound g c =
    let old = (places_of c.args.self.now) in
    let new : PlaceFields = record old { blocks = (blocks_of c.change_counts.new.self) } in
    let e = c.change_counts.ensures in
    let was = c.counts-counts.result in
    let now = c.beginning_at.result in
    let turned = Turned-at old c.args.slot c.requires.sound c.requires.place was now c.counts-counts.ensures c.beginning_at.ensures.num c.beginning_at.ensures.e_head in
    Sound-recounted old new (c.args.slot / 256) c.requires.sound c.requires.place.is_active was now
    (recounted old new (c.args.slot / 256) c.requires.sound c.requires.place.is_active was now c.counts-counts.ensures e.made
    (Bounded-same old.blocks.max_trial new.blocks.max_trial was now e.max_trial c.beginning_at.ensures.reject c.beginning_at.ensures.trial)
    (λ _ zero. c.beginning_at.ensures.trial ∙ zero)
    e.lists e.active e.len e.max_trial e.others e.idle c.requires.sound.rejects)
    refl turned.members turned.ring turned.counted

pub counts-counts-requires : goal.counts-counts-requires
counts-counts-requires g c = omega (arith, c.requires.place.is_active, c.args.self.now.blocks.ready)

pub returns-clause-others : goal.returns-clause-others
returns-clause-others g c b other = c.change_counts.ensures.others b other
