use Rattle.std.proofs.Common.{◌*◌, ◌≡◌, ◌≤◌, ℕ, ap, arith, Err, length, Ok, OnErr, OnOk, Result}
use Rattle.std.proofs.lemmas.Result.{on_err_weaker}
use Rattle.cedar_slots.specs.Places.{PlaceFields}
use Rattle.cedar_slots.specs.Views.{places_of}
use Rattle.cedar_slots.proofs.PlacementLemmas.Growth.{doubled_within, power-doubled}
use Rattle.cedar_slots.proofs.places.Places.make_room.Goals as goal

pub grow-requires-clause-doubled : goal.grow-requires-clause-doubled
grow-requires-clause-doubled g c = power-doubled _ _ c.requires.sound.doubled (omega arith)

pub grow-requires-clause-most : goal.grow-requires-clause-most
grow-requires-clause-most g c =
    let all = doubled_within (places_of c.args.self.now) c.args.slots c.requires.sound.shaped c.requires.sound.doubled c.requires.limit c.requires.below (λ below. absurd (omega arith)) in
    omega (arith, all, c.requires.limit.most)

within_both : {X E : Type 0} (r : Result X E) (n m slots : ℕ) → OnOk r (n ≡ 2 * m) → OnErr r (n ≡ m) → 256 * (2 * m) ≤ slots → 256 * n ≤ slots
within_both (Ok x) n m slots doubled same all = omega (arith, doubled)
within_both (Err e) n m slots doubled same all = omega (arith, same)

pub returns-clause-within : goal.returns-clause-within
returns-clause-within g c =
    let old = places_of c.args.self.now in
    let all = doubled_within old c.args.slots c.requires.sound.shaped c.requires.sound.doubled c.requires.limit c.requires.below (λ below. absurd (omega arith)) in
    let blocks = c.len-blocks.result in
    let fits : 256 * (2 * blocks) ≤ c.args.slots = omega (arith, all) in
    let same = on_err_weaker c.grow.result (λ (kept : places_of c.grow.new.self ≡ old). omega (arith, ap (λ (p : PlaceFields). length p.blocks.records) kept)) c.grow.ensures.err in
    within_both c.grow.result (length c.grow.new.self.blocks.records.items) blocks c.args.slots c.grow.ensures.len same fits
