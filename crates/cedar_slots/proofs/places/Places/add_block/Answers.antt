use Rattle.std.proofs.Common.{◌≡◌, ◌<◌, ◌≤ℤ◌, ◌∙◌, ap, arith, length, pos, refl, subst, sym}
use Rattle.cedar_slots.specs.Blocks.{counts_at, counts_of}
use Rattle.cedar_slots.specs.Places.{Grown, PlaceFields, room_for_one, Shaped, Sound}
use Rattle.cedar_slots.proofs.PlacementLemmas.Growth.{Activated, AddsBlock-added, Sound-added, Sound-grown}
use Rattle.cedar_slots.proofs.places.Places.add_block.Goals as goal
use Rattle.cedar_slots.specs.Views.{blocks_of, places_of, slots_of}

pub returns-in_err-make_room-clause-sound : goal.returns-in_err-make_room-clause-sound
returns-in_err-make_room-clause-sound g c = Sound-grown (places_of c.args.self.now) (places_of c.make_room.new.self) c.requires.sound c.make_room.ensures.grown c.make_room.ensures.shaped c.make_room.ensures.doubled

pub free_block-requires-clause-block_in : goal.free_block-requires-clause-block_in
free_block-requires-clause-block_in g c = omega (arith, c.bring_in.new.self.nodes_ready, c.bring_in.ensures.used)

pub free_block-requires-clause-fits : goal.free_block-requires-clause-fits
free_block-requires-clause-fits g c =
    let shaped = subst Shaped (sym c.bring_in.ensures.places) c.make_room.ensures.shaped in
    omega (arith, c.bring_in.new.self.nodes_ready, c.bring_in.new.self.blocks.within, shaped.blocks.fits)

pub activate-requires-clause-lists : goal.activate-requires-clause-lists
activate-requires-clause-lists g c =
    let room = c.make_room.ensures in
    let sound : Sound (places_of c.make_room.new.self) = Sound-grown (places_of c.args.self.now) (places_of c.make_room.new.self) c.requires.sound room.grown room.shaped room.doubled in
    (subst Sound (sym c.bring_in.ensures.places) sound).lists

pub activate-requires-clause-sized : goal.activate-requires-clause-sized
activate-requires-clause-sized g c = (subst Shaped (sym c.bring_in.ensures.places) c.make_room.ensures.shaped).blocks

pub activate-requires-clause-room : goal.activate-requires-clause-room
activate-requires-clause-room g c = c.bring_in.ensures.used

pub activate-requires-clause-tried : goal.activate-requires-clause-tried
activate-requires-clause-tried g c =
    let max_trial = ap (λ (p : PlaceFields). p.blocks.max_trial) c.bring_in.ensures.places ∙ c.make_room.ensures.grown.max_trial in
    subst (λ z. pos 1 ≤ℤ z) (sym max_trial) c.requires.sound.pruned.max_trial

pub returns-clause-within : goal.returns-clause-within
returns-clause-within g c = omega (arith, c.activate.ensures.len, ap (λ (p : PlaceFields). length p.blocks.records) c.bring_in.ensures.places, c.make_room.ensures.within)

pub returns-clause-max_trial : goal.returns-clause-max_trial
returns-clause-max_trial g c = c.activate.ensures.max_trial ∙ ap (λ (p : PlaceFields). p.blocks.max_trial) c.bring_in.ensures.places ∙ c.make_room.ensures.grown.max_trial

pub returns-clause-sound : goal.returns-clause-sound
returns-clause-sound g c =
    let old = (places_of c.args.self.now) in
    let room = c.make_room.ensures in
    let mid = (places_of c.bring_in.new.self) in
    let same : places_of c.make_room.new.self ≡ mid = sym c.bring_in.ensures.places in
    let new : PlaceFields = record mid { slots = (slots_of c.free_block.new.self); blocks = (blocks_of c.activate.new.self) } in
    let slots = c.free_block.ensures in
    let blocks = c.activate.ensures in
    let sound : Sound mid = subst Sound same (Sound-grown old (places_of c.make_room.new.self) c.requires.sound room.grown room.shaped room.doubled) in
    let spare = subst (λ (p : PlaceFields). p.blocks.active < length p.blocks.records) same c.in_ok-make_room.ensures.room in
    let made : Activated mid new = record {
      steps = slots.steps;
      last = slots.last;
      outside = slots.outside;
      infos = slots.infos;
      nodes_len = slots.len;
      lists = blocks.lists;
      active = blocks.active;
      made = blocks.made;
      others = blocks.others;
      idle = blocks.idle;
      len = blocks.len;
      max_trial = blocks.max_trial;
      reject = refl;
    } in
    Sound-added mid new sound spare made

pub returns-clause-added : goal.returns-clause-added
returns-clause-added g c =
    let old = (places_of c.args.self.now) in
    let room = c.make_room.ensures in
    let mid = (places_of c.bring_in.new.self) in
    let same : places_of c.make_room.new.self ≡ mid = sym c.bring_in.ensures.places in
    let new : PlaceFields = record mid { slots = (slots_of c.free_block.new.self); blocks = (blocks_of c.activate.new.self) } in
    let slots = c.free_block.ensures in
    let blocks = c.activate.ensures in
    let sound : Sound mid = subst Sound same (Sound-grown old (places_of c.make_room.new.self) c.requires.sound room.grown room.shaped room.doubled) in
    let spare = subst (λ (p : PlaceFields). p.blocks.active < length p.blocks.records) same c.in_ok-make_room.ensures.room in
    let grown = subst (Grown old) same room.grown in
    let capacity = subst (λ (p : PlaceFields). length p.blocks.records ≡ room_for_one old) same c.in_ok-make_room.ensures.capacity in
    let made : Activated mid new = record {
      steps = slots.steps;
      last = slots.last;
      outside = slots.outside;
      infos = slots.infos;
      nodes_len = slots.len;
      lists = blocks.lists;
      active = blocks.active;
      made = blocks.made;
      others = blocks.others;
      idle = blocks.idle;
      len = blocks.len;
      max_trial = blocks.max_trial;
      reject = refl;
    } in
    AddsBlock-added mid new sound spare made old grown capacity mid.blocks.active grown.active

pub returns-clause-others : goal.returns-clause-others
returns-clause-others g c b other =
    c.activate.ensures.others b other ∙ ap (λ (p : PlaceFields). counts_at p.blocks.records b) c.bring_in.ensures.places ∙ ap counts_of (c.make_room.ensures.grown.records b)
