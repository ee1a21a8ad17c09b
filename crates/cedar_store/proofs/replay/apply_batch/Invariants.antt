use Rattle.std.proofs.Common.{◌≡◌, ◌+◌, ◌-◌, ◌≤◌, length, drop}
use Rattle.cedar_journal.specs.Records.{payloads_in}
use Rattle.cedar_store.specs.Changes.{records_length}
use Rattle.cedar_store.proofs.Batched.{each_after}
use Rattle.cedar_store.proofs.replay.apply_batch.Given as goal

abbrev pub invariant-loop-part : goal.invariant-loop-part
invariant-loop-part g l = record {
  within : l.done ≤ length l.bytes;
  same : each_after (g.T.Words.state l.words) (payloads_in (drop l.done l.bytes)) ≡ each_after (g.T.Words.state l.fn.words) (payloads_in l.bytes);
  long : l.done + records_length (payloads_in (drop l.done l.bytes)) ≡ records_length (payloads_in l.bytes);
}

abbrev pub decreases-loop-part : goal.decreases-loop-part
decreases-loop-part g l = length l.bytes - l.done
