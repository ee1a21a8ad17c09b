use Rattle.std.proofs.Common.{◌≡◌, drop}
use Rattle.cedar_store.specs.Batches.{all_erased_late}
use Rattle.cedar_store.specs.Told.{changes_told}
use Rattle.cedar_store.proofs.batch.erase_rest.Given as goal

abbrev pub invariant-loop-index : goal.invariant-loop-index
invariant-loop-index g l =
    all_erased_late (g.T.Words.state l.words) (drop l.index (changes_told l.changes)) ≡ all_erased_late (g.T.Words.state l.fn.words) (changes_told l.changes)
