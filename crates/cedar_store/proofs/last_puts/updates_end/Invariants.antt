use Rattle.std.proofs.Common.{◌≡◌, ◌≤◌, ℕ, List, false, length, drop}
use Rattle.cedar_store.specs.Batches.{is_put_by}
use Rattle.cedar_store.specs.Told.{changes_told}
use Rattle.cedar_store.proofs.last_puts.updates_end.Given as goal

abbrev pub invariant-loop-end : goal.invariant-loop-end
invariant-loop-end l = record {
  within : l.end ≤ length l.changes;
  no_more : (path : List ℕ) → is_put_by path (drop l.end (changes_told l.changes)) ≡ false;
}

abbrev pub decreases-loop-end : goal.decreases-loop-end
decreases-loop-end l = l.end
