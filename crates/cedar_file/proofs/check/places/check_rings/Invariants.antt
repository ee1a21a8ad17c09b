use Rattle.std.proofs.Common.{ℕ, List, ◌<◌, ◌≤◌, ◌+◌, ◌*◌}
use Rattle.cedar_slots.specs.Places.{FreeBlock}
use Rattle.cedar_slots.specs.Views.{places_of}
use Rattle.cedar_file.proofs.check.places.check_rings.Given as goal

abbrev pub invariant-loop-block : goal.invariant-loop-block
invariant-loop-block g l = record {
  free : (b : ℕ) → b < l.block → (xs : List ℕ) × FreeBlock (places_of l.places) b xs;
  cost : l.reads ≤ l.initial.reads + 1026 * l.block;
}
