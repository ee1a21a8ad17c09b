use Rattle.std.proofs.Common.{◌≤◌, length}
use Rattle.cedar_store.specs.Told.{changes_told}
use Rattle.cedar_store.proofs.Linked.{HasCome}
use Rattle.cedar_store.proofs.last_puts.is_linked.Given as goal

abbrev pub invariant-loop-at : goal.invariant-loop-at
invariant-loop-at l = record {
  within : l.at ≤ length l.changes;
  come : HasCome (length l.heads) l.key (changes_told l.changes) l.at;
}

abbrev pub decreases-loop-at : goal.decreases-loop-at
decreases-loop-at l = l.at
