use Rattle.std.proofs.Common.{◌≡◌, ◌≤ℤ◌, ◌<ℤ◌, ◌∙◌, ap, arith, pos, refl}
use Rattle.std.proofs.lemmas.Int.{ints}
use Rattle.cedar_slots.specs.Places.{PlaceFields}
use Rattle.cedar_slots.specs.Blocks.{counts_at}
use Rattle.cedar_slots.proofs.PlacementLemmas.PlaceSearch.{Bounded-failed, num_bounds, open_trial, Sound-failed}
use Rattle.cedar_slots.proofs.places.Places.count_failure.Goals as goal
use Rattle.cedar_slots.specs.Views.{blocks_of, places_of}

pub lower_reject-requires-clause-natural : goal.lower_reject-requires-clause-natural
lower_reject-requires-clause-natural g c =
    let bounds = num_bounds (places_of c.args.self.now) c.requires.sound c.args.block c.requires.«open».not_root c.requires.«open».is_active c.counts-counts.result c.counts-counts.ensures in
    let low : pos 0 ≤ℤ c.counts-counts.result.num = bounds.0 in
    let high : c.counts-counts.result.num ≤ℤ pos 256 = bounds.1 in
    omega (arith, ints)

pub lower_reject-requires-clause-at_most : goal.lower_reject-requires-clause-at_most
lower_reject-requires-clause-at_most g c =
    let bounds = num_bounds (places_of c.args.self.now) c.requires.sound c.args.block c.requires.«open».not_root c.requires.«open».is_active c.counts-counts.result c.counts-counts.ensures in
    let low : pos 0 ≤ℤ c.counts-counts.result.num = bounds.0 in
    let high : c.counts-counts.result.num ≤ℤ pos 256 = bounds.1 in
    omega (arith, ints)

pub after_failure-requires : goal.after_failure-requires
after_failure-requires g c =
    let bounds = open_trial (blocks_of c.args.self.now.blocks) c.args.block c.requires.sound.pruned c.requires.«open» c.counts-counts.result c.counts-counts.ensures in
    let below : c.counts-counts.result.trial <ℤ c.args.self.now.blocks.max_trial = bounds.1 in
    let same : c.lower_reject.new.self.blocks.max_trial ≡ c.args.self.now.blocks.max_trial = ap (λ b. b.max_trial) c.lower_reject.ensures.blocks in
    omega (arith, ints)

pub returns-clause-others : goal.returns-clause-others
returns-clause-others g c b other = c.set_counts.ensures.others b other ∙ ap (λ blocks. counts_at blocks.records b) c.lower_reject.ensures.blocks

pub returns-clause-sound : goal.returns-clause-sound
returns-clause-sound g c =
    let old = (places_of c.args.self.now) in
    let mid = (places_of c.lower_reject.new.self) in
    let new : PlaceFields = record mid { blocks = (blocks_of c.set_counts.new.self) } in
    let e = c.set_counts.ensures in
    let bounds = open_trial old.blocks c.args.block c.requires.sound.pruned c.requires.«open» c.counts-counts.result c.counts-counts.ensures in
    Sound-failed old mid new c.args.block c.requires.sound c.requires.«open» c.counts-counts.result c.after_failure.result c.counts-counts.ensures
    c.lower_reject.ensures.slots c.lower_reject.ensures.blocks c.lower_reject.ensures.rejects
    e.made e.lists e.active e.len e.max_trial e.others e.idle
    (Bounded-failed old.blocks.max_trial old.blocks.max_trial c.counts-counts.result c.after_failure.result c.args.wanted _ refl bounds.0 bounds.1 c.after_failure.ensures.reject (omega (arith, ints)) c.requires.some c.requires.few c.after_failure.ensures.trial)
    c.after_failure.ensures.num c.after_failure.ensures.e_head refl refl

pub counts-counts-requires : goal.counts-counts-requires
counts-counts-requires g c = omega (arith, c.requires.«open».is_active, c.args.self.now.blocks.ready)
