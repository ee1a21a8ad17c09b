use Rattle.std.specs.List.{AllByRecursion}
use Rattle.std.proofs.Common.{◌≡◌, length, take}
use Rattle.cedar_store.specs.Batches.{HasKey, IsFaultless, all_updated}
use Rattle.cedar_store.specs.Told.{changes_told}
use Rattle.cedar_store.proofs.Withdrawn.{AreNoted}
use Rattle.cedar_store.proofs.batch.update_all.Given as goal

abbrev pub invariant-loop-index : goal.invariant-loop-index
invariant-loop-index g l = record {
  updated : (g.T.Words.state l.words) ≡ all_updated (g.T.Words.state l.fn.words) (take l.index (changes_told l.changes));
  noted : AreNoted (g.T.Words.state l.fn.words) (changes_told l.changes) l.index l.held;
  keys : AllByRecursion HasKey (take l.index (changes_told l.changes));
  faultless : AllByRecursion IsFaultless (take l.index (changes_told l.changes));
  long : length l.held ≡ length l.changes;
}
