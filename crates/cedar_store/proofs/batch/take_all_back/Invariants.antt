use Rattle.std.proofs.Common.{◌≡◌, ◌≤◌, length, take}
use Rattle.cedarwood.specs.State.{State}
use Rattle.cedar_store.specs.Batches.{AreHeld, all_updated}
use Rattle.cedar_store.specs.Told.{changes_told}
use Rattle.cedar_store.proofs.batch.take_all_back.Given as goal

abbrev pub invariant-loop-left : goal.invariant-loop-left
invariant-loop-left g l = record {
  within : l.left ≤ length l.changes;
  back : (s : State) → AreHeld s (changes_told l.changes) l.held → (g.T.Words.state l.fn.words) ≡ all_updated s (changes_told l.changes)
      → (g.T.Words.state l.words) ≡ all_updated s (take l.left (changes_told l.changes));
}

abbrev pub decreases-loop-left : goal.decreases-loop-left
decreases-loop-left g l = l.left
