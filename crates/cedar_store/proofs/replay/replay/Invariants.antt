use Rattle.std.proofs.Common.{◌≡◌, ◌-◌, ◌≤◌, length, drop}
use Rattle.cedar_journal.specs.Formats.{AreUndamaged, payloads_read, records_read}
use Rattle.cedar_store.specs.Changes.{after_payloads}
use Rattle.cedar_store.proofs.replay.replay.Given as goal

abbrev pub invariant-loop-payload : goal.invariant-loop-payload
invariant-loop-payload g l = record {
  within : l.at ≤ length l.bytes;
  sound : AreUndamaged l.format (drop l.at l.bytes);
  same : after_payloads (g.T.Words.state l.words) (payloads_read (records_read l.format (drop l.at l.bytes))) ≡ after_payloads (g.T.Words.state l.fn.words) (payloads_read (records_read l.format l.bytes));
}

abbrev pub decreases-loop-payload : goal.decreases-loop-payload
decreases-loop-payload g l = length l.bytes - l.at
