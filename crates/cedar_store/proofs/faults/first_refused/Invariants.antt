use Rattle.std.proofs.Common.{◌≡◌, drop}
use Rattle.cedar_store.specs.Batches.{first_refused}
use Rattle.cedar_store.specs.Told.{changes_told}
use Rattle.cedar_store.proofs.faults.first_refused.Given as goal

abbrev pub invariant-loop-index : goal.invariant-loop-index
invariant-loop-index l = first_refused l.index (drop l.index (changes_told l.changes)) ≡ first_refused 0 (changes_told l.changes)
