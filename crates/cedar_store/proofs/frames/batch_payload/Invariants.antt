use Rattle.std.proofs.Common.{◌≡◌, ◌∷◌, drop, take}
use Rattle.cedar_store.specs.Told.{changes_told}
use Rattle.cedar_store.proofs.Recorded.{AreRecorded}
use Rattle.cedar_store.proofs.frames.batch_payload.Given as goal

abbrev pub invariant-loop-index : goal.invariant-loop-index
invariant-loop-index g l = record {
  front : l.payload.items ≡ 2 ∷ drop 1 l.payload.items;
  recorded : AreRecorded (take l.index (changes_told l.changes)) (drop 1 l.payload.items);
}
