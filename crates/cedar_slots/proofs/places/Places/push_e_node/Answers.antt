use Rattle.std.proofs.Common.{ap, unsigned_abs, ℕ, ℤ, ◌+◌, ◌+ℤ◌, refl, ◌≡◌, ◌/◌, ◌≤ℤ◌, ◌<ℤ◌, ◌∙◌, arith, FitsSigned, of_z, pos, sym, to_z, w16}
use Rattle.std.proofs.lemmas.Int.{ints}
use Rattle.cedar_slots.specs.declared.blocks.Counts.{Counts}
use Rattle.cedar_slots.specs.Places.{PlaceFields, Within}
use Rattle.cedar_slots.proofs.RingsLemmas.SlotTaken.{Bounded-more, Bounded-one, num_natural, num_room, recounted, Sound-given_alone, FreesSlot-given_alone, headed, head_here, head_link, head_natural, Sound-given_after, FreesSlot-given_after}
use Rattle.cedar_slots.proofs.places.Places.push_e_node.Goals as goal
use Rattle.cedar_slots.specs.Views.{blocks_of, places_of, slots_of}

-- a number of free slots is that of the root alone if both have the same bits
same_count : (a b : ℤ) → pos 0 ≤ℤ a → a <ℤ pos 256 → FitsSigned w16 b → of_z w16 a ≡ of_z w16 b → a ≡ b
same_count a b low room fits bits = omega (arith, ints)

-- one more free slot is again a number of slots of a block
more_fits : (a : ℤ) → pos 0 ≤ℤ a → a <ℤ pos 256 → FitsSigned w16 (to_z w16 (of_z w16 a) +ℤ pos 1)
more_fits a low room = omega (arith, ints)

more_natural : (a : ℤ) → pos 0 ≤ℤ a → a <ℤ pos 256 → pos 0 ≤ℤ to_z w16 (of_z w16 (to_z w16 (of_z w16 a) +ℤ pos 1))
more_natural a low room = omega (arith, ints)

more_at_most : (a : ℤ) → pos 0 ≤ℤ a → a <ℤ pos 256 → to_z w16 (of_z w16 (to_z w16 (of_z w16 a) +ℤ pos 1)) ≤ℤ pos 256
more_at_most a low room = omega (arith, ints)

-- a reject value is passed on as it is
floor_passed : (z : ℤ) → Within (pos 1) z (pos 257) → to_z w16 (of_z w16 z) ≡ z
floor_passed z bounds = omega (arith, ints)

one_more : (a b : ℤ) (n : ℕ) → a ≡ pos n → b ≡ pos (n + 1) → b ≡ a +ℤ pos 1
one_more a b n p q = rw (p, q) refl

pub give_after-requires-clause-head_in : goal.give_after-requires-clause-head_in
give_after-requires-clause-head_in g c =
    let some = λ (none : c.counts-counts.result.num ≡ _). c.if-counts-root_count.false (ap (of_z w16) (none ∙ sym c.root_count.ensures)) in
    let at_head = headed (places_of c.args.self.now) c.args.slot c.requires.sound c.requires.slot_in c.requires.not_root c.requires.slot_used c.counts-counts.result c.counts-counts.ensures some c.head-head.result c.head-head.ensures in
    omega (arith, (head_here (places_of c.args.self.now) c.args.slot c.requires.sound c.requires.slot_in c.requires.not_root c.requires.slot_used c.counts-counts.result c.counts-counts.ensures some c.head-head.result at_head).0, c.args.self.now.blocks.ready, c.args.self.now.nodes_ready)

pub give_after-requires-clause-next_in : goal.give_after-requires-clause-next_in
give_after-requires-clause-next_in g c =
    let some = λ (none : c.counts-counts.result.num ≡ _). c.if-counts-root_count.false (ap (of_z w16) (none ∙ sym c.root_count.ensures)) in
    let at_head = headed (places_of c.args.self.now) c.args.slot c.requires.sound c.requires.slot_in c.requires.not_root c.requires.slot_used c.counts-counts.result c.counts-counts.ensures some c.head-head.result c.head-head.ensures in
    omega (arith, (head_here (places_of c.args.self.now) c.args.slot c.requires.sound c.requires.slot_in c.requires.not_root c.requires.slot_used c.counts-counts.result c.counts-counts.ensures some c.head-head.result at_head).1, c.args.self.now.blocks.ready, c.args.self.now.nodes_ready)

pub give_after-requires-clause-to_next : goal.give_after-requires-clause-to_next
give_after-requires-clause-to_next g c =
    let some = λ (none : c.counts-counts.result.num ≡ _). c.if-counts-root_count.false (ap (of_z w16) (none ∙ sym c.root_count.ensures)) in
    let at_head = headed (places_of c.args.self.now) c.args.slot c.requires.sound c.requires.slot_in c.requires.not_root c.requires.slot_used c.counts-counts.result c.counts-counts.ensures some c.head-head.result c.head-head.ensures in
    head_link (places_of c.args.self.now) c.args.slot c.requires.sound c.requires.slot_in c.requires.not_root c.requires.slot_used c.counts-counts.result c.counts-counts.ensures some c.head-head.result at_head

pub head-head-requires : goal.head-head-requires
head-head-requires g c =
    let some = λ (none : c.counts-counts.result.num ≡ _). c.if-counts-root_count.false (ap (of_z w16) (none ∙ sym c.root_count.ensures)) in
    head_natural (places_of c.args.self.now) c.requires.sound (c.args.slot / 256) c.requires.slot_in c.counts-counts.result c.counts-counts.ensures some

pub more-requires : goal.more-requires
more-requires g c = num_room (places_of c.args.self.now) c.args.slot c.requires.sound c.requires.slot_in c.requires.not_root c.requires.slot_used c.counts-counts-else-counts-root_count.result c.counts-counts-else-counts-root_count.ensures

pub returns-then-counts-root_count-clause-sound : goal.returns-then-counts-root_count-clause-sound
returns-then-counts-root_count-clause-sound g c =
    let new : PlaceFields = record (places_of c.args.self.now) { slots = (slots_of c.give_alone.new.self); blocks = (blocks_of c.change_counts.new.self) } in
    let e = c.change_counts.ensures in
    let low = num_natural (places_of c.args.self.now) c.args.slot c.requires.sound c.requires.slot_in c.requires.not_root c.requires.slot_used c.counts-counts.result c.counts-counts.ensures in
    let room = num_room (places_of c.args.self.now) c.args.slot c.requires.sound c.requires.slot_in c.requires.not_root c.requires.slot_used c.counts-counts.result c.counts-counts.ensures in
    let same = same_count c.counts-counts.result.num c.root_count.result low room (record { sfits = c.root_count.type_inv }) c.if-counts-root_count.true in
    Sound-given_alone (places_of c.args.self.now) c.args.slot c.requires.sound c.requires.slot_in c.requires.not_root c.requires.slot_used c.counts-counts.result c.counts-counts.ensures new c.one.result (same ∙ c.root_count.ensures)
    (recounted (places_of c.args.self.now) new (c.args.slot / 256) c.requires.sound c.requires.slot_in c.counts-counts.result c.one.result c.counts-counts.ensures e.made
    (Bounded-one c.args.self.now.blocks.max_trial new.blocks.max_trial c.counts-counts.result c.one.result c.reject_for-floor.result _ e.max_trial c.one.ensures.reject (floor_passed c.reject_for-floor.result c.reject_for-floor.ensures.bounds) c.reject_for-floor.ensures.bounds c.one.ensures.trial)
    (λ _ zero. c.one.ensures.trial ∙ zero)
    e.lists e.active e.len e.max_trial e.others e.idle c.requires.sound.rejects)
    c.give_alone.ensures.nodes c.give_alone.ensures.infos c.give_alone.ensures.len c.give_alone.ensures.infos_len c.one.ensures.num c.one.ensures.e_head

pub returns-then-counts-root_count-clause-frees_slot : goal.returns-then-counts-root_count-clause-frees_slot
returns-then-counts-root_count-clause-frees_slot g c =
    FreesSlot-given_alone (places_of c.args.self.now) c.args.slot c.requires.sound c.requires.slot_in c.requires.not_root c.requires.slot_used c.counts-counts.result c.counts-counts.ensures (slots_of c.give_alone.new.self) c.give_alone.ensures.nodes c.give_alone.ensures.infos

pub returns-else-counts-root_count-clause-sound : goal.returns-else-counts-root_count-clause-sound
returns-else-counts-root_count-clause-sound g c =
    let new : PlaceFields = record (places_of c.args.self.now) { slots = (slots_of c.give_after.new.self); blocks = (blocks_of c.add_counts.new.self) } in
    let e = c.add_counts.ensures in
    let was = c.counts-counts-else-counts-root_count.result in
    let was_is = c.counts-counts-else-counts-root_count.ensures in
    let again : was ≡ c.counts-counts.result = was_is ∙ sym c.counts-counts.ensures in
    let some = λ (none : was.num ≡ _). c.if-counts-root_count.false (ap (of_z w16) (ap (λ (k : Counts). k.num) (sym again) ∙ none ∙ sym c.root_count.ensures)) in
    let at_head = headed (places_of c.args.self.now) c.args.slot c.requires.sound c.requires.slot_in c.requires.not_root c.requires.slot_used was was_is some c.head-head.result (c.head-head.ensures ∙ ap (λ (k : Counts). unsigned_abs k.e_head) (sym again)) in
    Sound-given_after (places_of c.args.self.now) c.args.slot c.requires.sound c.requires.slot_in c.requires.not_root c.requires.slot_used was was_is some c.head-head.result at_head new c.more.result
    (recounted (places_of c.args.self.now) new (c.args.slot / 256) c.requires.sound c.requires.slot_in was c.more.result was_is e.made
    (Bounded-more c.args.self.now.blocks.max_trial new.blocks.max_trial was c.more.result c.reject_for-floor-else-counts-root_count.result _ e.max_trial c.requires.sound.pruned.max_trial c.more.ensures.reject (floor_passed c.reject_for-floor-else-counts-root_count.result c.reject_for-floor-else-counts-root_count.ensures.bounds) c.reject_for-floor-else-counts-root_count.ensures.bounds c.more.ensures.trial)
    (λ _ _. c.more.ensures.trial)
    e.lists e.active e.len e.max_trial e.others e.idle c.requires.sound.rejects)
    c.give_after.ensures.nodes c.give_after.ensures.infos c.give_after.ensures.len c.give_after.ensures.infos_len c.more.ensures.num c.more.ensures.e_head

pub returns-else-counts-root_count-clause-frees_slot : goal.returns-else-counts-root_count-clause-frees_slot
returns-else-counts-root_count-clause-frees_slot g c =
    let some = λ (none : c.counts-counts.result.num ≡ _). c.if-counts-root_count.false (ap (of_z w16) (none ∙ sym c.root_count.ensures)) in
    let at_head = headed (places_of c.args.self.now) c.args.slot c.requires.sound c.requires.slot_in c.requires.not_root c.requires.slot_used c.counts-counts.result c.counts-counts.ensures some c.head-head.result c.head-head.ensures in
    FreesSlot-given_after (places_of c.args.self.now) c.args.slot c.requires.sound c.requires.slot_in c.requires.not_root c.requires.slot_used c.counts-counts.result c.counts-counts.ensures some c.head-head.result at_head (slots_of c.give_after.new.self) c.give_after.ensures.nodes c.give_after.ensures.infos

pub reject_for-floor-requires-clause-natural : goal.reject_for-floor-requires-clause-natural
reject_for-floor-requires-clause-natural g c =
    let low : pos 0 ≤ℤ c.counts-counts.result.num = num_natural (places_of c.args.self.now) c.args.slot c.requires.sound c.requires.slot_in c.requires.not_root c.requires.slot_used c.counts-counts.result c.counts-counts.ensures in
    let room : c.counts-counts.result.num <ℤ pos 256 = num_room (places_of c.args.self.now) c.args.slot c.requires.sound c.requires.slot_in c.requires.not_root c.requires.slot_used c.counts-counts.result c.counts-counts.ensures in
    more_natural c.counts-counts.result.num low room

pub reject_for-floor-requires-clause-at_most : goal.reject_for-floor-requires-clause-at_most
reject_for-floor-requires-clause-at_most g c =
    let low : pos 0 ≤ℤ c.counts-counts.result.num = num_natural (places_of c.args.self.now) c.args.slot c.requires.sound c.requires.slot_in c.requires.not_root c.requires.slot_used c.counts-counts.result c.counts-counts.ensures in
    let room : c.counts-counts.result.num <ℤ pos 256 = num_room (places_of c.args.self.now) c.args.slot c.requires.sound c.requires.slot_in c.requires.not_root c.requires.slot_used c.counts-counts.result c.counts-counts.ensures in
    more_at_most c.counts-counts.result.num low room

pub overflow_add-counts : goal.overflow_add-counts
overflow_add-counts g c =
    let low : pos 0 ≤ℤ c.counts-counts.result.num = num_natural (places_of c.args.self.now) c.args.slot c.requires.sound c.requires.slot_in c.requires.not_root c.requires.slot_used c.counts-counts.result c.counts-counts.ensures in
    let room : c.counts-counts.result.num <ℤ pos 256 = num_room (places_of c.args.self.now) c.args.slot c.requires.sound c.requires.slot_in c.requires.not_root c.requires.slot_used c.counts-counts.result c.counts-counts.ensures in
    more_fits c.counts-counts.result.num low room

pub give_alone-requires-clause-fits : goal.give_alone-requires-clause-fits
give_alone-requires-clause-fits g c = omega (arith, c.args.self.now.nodes_ready, c.args.self.now.blocks.within, c.requires.sound.shaped.blocks.fits)

pub give_alone-requires-clause-slot_in : goal.give_alone-requires-clause-slot_in
give_alone-requires-clause-slot_in g c = omega (arith, c.args.self.now.blocks.ready, c.args.self.now.nodes_ready)

pub give_alone-requires-clause-slot_in_infos : goal.give_alone-requires-clause-slot_in_infos
give_alone-requires-clause-slot_in_infos g c = omega (arith, c.args.self.now.blocks.ready, c.args.self.now.infos_ready)

pub give_after-requires-clause-fits : goal.give_after-requires-clause-fits
give_after-requires-clause-fits g c = omega (arith, c.args.self.now.nodes_ready, c.args.self.now.blocks.within, c.requires.sound.shaped.blocks.fits)

pub give_after-requires-clause-slot_in : goal.give_after-requires-clause-slot_in
give_after-requires-clause-slot_in g c = omega (arith, c.args.self.now.blocks.ready, c.args.self.now.nodes_ready)

pub give_after-requires-clause-slot_in_infos : goal.give_after-requires-clause-slot_in_infos
give_after-requires-clause-slot_in_infos g c = omega (arith, c.args.self.now.blocks.ready, c.args.self.now.infos_ready)

pub counts-counts-requires : goal.counts-counts-requires
counts-counts-requires g c = omega (arith, c.requires.slot_in, c.args.self.now.blocks.ready)

pub reject_for-floor-requires-else-counts-root_count-clause-natural : goal.reject_for-floor-requires-else-counts-root_count-clause-natural
reject_for-floor-requires-else-counts-root_count-clause-natural g c =
    let low : pos 0 ≤ℤ c.counts-counts-else-counts-root_count.result.num = num_natural (places_of c.args.self.now) c.args.slot c.requires.sound c.requires.slot_in c.requires.not_root c.requires.slot_used c.counts-counts-else-counts-root_count.result c.counts-counts-else-counts-root_count.ensures in
    let room : c.counts-counts-else-counts-root_count.result.num <ℤ pos 256 = num_room (places_of c.args.self.now) c.args.slot c.requires.sound c.requires.slot_in c.requires.not_root c.requires.slot_used c.counts-counts-else-counts-root_count.result c.counts-counts-else-counts-root_count.ensures in
    more_natural c.counts-counts-else-counts-root_count.result.num low room

pub reject_for-floor-requires-else-counts-root_count-clause-at_most : goal.reject_for-floor-requires-else-counts-root_count-clause-at_most
reject_for-floor-requires-else-counts-root_count-clause-at_most g c =
    let low : pos 0 ≤ℤ c.counts-counts-else-counts-root_count.result.num = num_natural (places_of c.args.self.now) c.args.slot c.requires.sound c.requires.slot_in c.requires.not_root c.requires.slot_used c.counts-counts-else-counts-root_count.result c.counts-counts-else-counts-root_count.ensures in
    let room : c.counts-counts-else-counts-root_count.result.num <ℤ pos 256 = num_room (places_of c.args.self.now) c.args.slot c.requires.sound c.requires.slot_in c.requires.not_root c.requires.slot_used c.counts-counts-else-counts-root_count.result c.counts-counts-else-counts-root_count.ensures in
    more_at_most c.counts-counts-else-counts-root_count.result.num low room

pub overflow_add-counts-else-counts-root_count : goal.overflow_add-counts-else-counts-root_count
overflow_add-counts-else-counts-root_count g c =
    let low : pos 0 ≤ℤ c.counts-counts-else-counts-root_count.result.num = num_natural (places_of c.args.self.now) c.args.slot c.requires.sound c.requires.slot_in c.requires.not_root c.requires.slot_used c.counts-counts-else-counts-root_count.result c.counts-counts-else-counts-root_count.ensures in
    let room : c.counts-counts-else-counts-root_count.result.num <ℤ pos 256 = num_room (places_of c.args.self.now) c.args.slot c.requires.sound c.requires.slot_in c.requires.not_root c.requires.slot_used c.counts-counts-else-counts-root_count.result c.counts-counts-else-counts-root_count.ensures in
    more_fits c.counts-counts-else-counts-root_count.result.num low room

pub add_counts-requires-clause-more : goal.add_counts-requires-clause-more
add_counts-requires-clause-more g c =
    let was = c.counts-counts-else-counts-root_count.result in
    let was_is = c.counts-counts-else-counts-root_count.ensures in
    let again : was ≡ c.counts-counts.result = was_is ∙ sym c.counts-counts.ensures in
    let some = λ (none : was.num ≡ _). c.if-counts-root_count.false (ap (of_z w16) (ap (λ (k : Counts). k.num) (sym again) ∙ none ∙ sym c.root_count.ensures)) in
    let at_head = headed (places_of c.args.self.now) c.args.slot c.requires.sound c.requires.slot_in c.requires.not_root c.requires.slot_used was was_is some c.head-head.result (c.head-head.ensures ∙ ap (λ (k : Counts). unsigned_abs k.e_head) (sym again)) in
    one_more was.num c.more.result.num _ at_head.num (c.more.ensures.num _ at_head.num)
