use Rattle.std.proofs.Common.{◌≡◌, length}
use Rattle.cedar_store.specs.Links.{AreLinkedPuts}
use Rattle.cedar_store.specs.Told.{changes_told}
use Rattle.cedar_store.proofs.last_puts.link_all.Given as goal

abbrev pub invariant-loop-index : goal.invariant-loop-index
invariant-loop-index l = record {
  places : length l.heads ≡ length l.changes;
  linked : AreLinkedPuts l.heads l.links (changes_told l.changes) l.index;
}
