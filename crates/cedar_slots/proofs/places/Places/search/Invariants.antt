use Rattle.cedar_slots.specs.Places.{IsOpenBlock, SameSlots, Sound}
use Rattle.cedar_slots.specs.Tried.{TriesAtMost}
use Rattle.cedar_slots.proofs.places.Places.search.Given as goal
use Rattle.cedar_slots.specs.Views.{blocks_of, places_of}

abbrev pub invariant-loop-turn : goal.invariant-loop-turn
invariant-loop-turn g l = record {
  sound : Sound (places_of l.self);
  same : SameSlots (places_of l.initial.self) (places_of l.self);
  block_open : IsOpenBlock (blocks_of l.self.blocks) l.block;
  last_open : IsOpenBlock (blocks_of l.self.blocks) l.last;
  tried : TriesAtMost l.turn (blocks_of l.initial.self.blocks) (blocks_of l.self.blocks);
}
