use Rattle.std.proofs.Common.{◌≡◌, ◌+◌, ◌-◌, ◌≤◌, length, drop}
use Rattle.cedar_journal.specs.Formats.{AreUndamaged, payloads_read, records_read}
use Rattle.cedar_store.proofs.counts.count_in.Given as goal

abbrev pub invariant-loop-payload : goal.invariant-loop-payload
invariant-loop-payload l = record {
  within : l.at ≤ length l.bytes;
  sound : AreUndamaged l.format (drop l.at l.bytes);
  few : l.records ≤ l.at;
  same : l.records + length (payloads_read (records_read l.format (drop l.at l.bytes))) ≡ length (payloads_read (records_read l.format l.bytes));
}

abbrev pub decreases-loop-payload : goal.decreases-loop-payload
decreases-loop-payload l = length l.bytes - l.at
