use Rattle.std.proofs.Common.{ap, arith, length, subst}
use Rattle.std.specs.Result.{OkIff}
use Rattle.cedar_slots.specs.Places.{PlaceFields, Sound}
use Rattle.cedar_file.proofs.ChecksLemmas.Outcome.{ok_iff_same}
use Rattle.cedar_file.proofs.check.whole.check_places.Goals as goal

pub returns-clause-answer : goal.returns-clause-answer
returns-clause-answer g c =
    ok_iff_same c.check_sound.result tt (λ sound. record { sound = sound; limit = c.requires.limit; within = c.requires.within }) (λ table. table.sound)
    (subst (λ places. OkIff c.check_sound.result (Sound places) tt) c.places.ensures.places c.check_sound.ensures.answer)

pub returns-clause-cost : goal.returns-clause-cost
returns-clause-cost g c = omega (arith, c.check_sound.ensures.cost, ap (λ (p : PlaceFields). length p.blocks.records) c.places.ensures.places)
