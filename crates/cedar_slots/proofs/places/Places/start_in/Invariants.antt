use Rattle.cedar_slots.proofs.PlacementLemmas.PlaceSearch.{IsFreeIn}
use Rattle.cedar_slots.proofs.places.Places.start_in.Given as goal
use Rattle.cedar_slots.specs.Views.{places_of}

abbrev pub invariant-loop : goal.invariant-loop
invariant-loop g l = IsFreeIn (places_of l.self) l.block l.slot
