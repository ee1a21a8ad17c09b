use Rattle.std.proofs.Common.{arith, of_z, pos, to_z, w16}
use Rattle.std.proofs.lemmas.Int.{ints}
use Rattle.std.proofs.lemmas.List.{get_or_read}
use Rattle.cedar_slots.proofs.PlacementLemmas.PlaceSearch.{Rejects-lowered}
use Rattle.cedar_slots.proofs.places.Places.lower_reject.Goals as goal

pub returns-clause-rejects : goal.returns-clause-rejects
returns-clause-rejects g c =
    let rejects = c.requires.rejects in
    Rejects-lowered c.args.self.now.reject.items rejects _ (omega (arith, ints)) c.index.result.now c.args.wanted _ (get_or_read c.args.self.now.reject.items _ c.index.result.now (omega (arith, ints, rejects.len)) c.index.ensures (pos 1)) c.requires.some c.min.result (to_z w16 (of_z w16 c.index.result.now)) (to_z w16 (of_z w16 c.args.wanted)) (omega (arith, ints)) c.min.ensures.value (omega (arith, ints)) (omega (arith, ints)) (omega (arith, ints))
