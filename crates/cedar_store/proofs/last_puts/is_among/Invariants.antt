use Rattle.std.proofs.Common.{◌≡◌, drop}
use Rattle.cedar_store.specs.Batches.{is_put_by}
use Rattle.cedar_store.specs.Told.{changes_told}
use Rattle.cedar_store.proofs.last_puts.is_among.Given as goal

abbrev pub invariant-loop-index : goal.invariant-loop-index
invariant-loop-index l = is_put_by l.key (drop l.index (changes_told l.changes)) ≡ is_put_by l.key (drop l.next (changes_told l.changes))
