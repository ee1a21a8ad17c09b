use Rattle.std.proofs.Common.{◌≡◌, ◌+◌, ◌-◌, ◌≤◌, length, drop}
use Rattle.cedar_journal.specs.Records.{payloads_in}
use Rattle.cedar_store.specs.Changes.{records_length}
use Rattle.cedar_salvage.proofs.Changes.{are_changes}
use Rattle.cedar_salvage.proofs.change.is_batch.Given as goal

abbrev pub invariant-loop-part : goal.invariant-loop-part
invariant-loop-part l = record {
  within : l.done ≤ length l.bytes;
  same : are_changes (drop l.done l.bytes) ≡ are_changes l.bytes;
  long : l.done + records_length (payloads_in (drop l.done l.bytes)) ≡ records_length (payloads_in l.bytes);
}

abbrev pub decreases-loop-part : goal.decreases-loop-part
decreases-loop-part l = length l.bytes - l.done
