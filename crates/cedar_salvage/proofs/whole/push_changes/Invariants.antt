use Rattle.std.proofs.Common.{◌≡◌, ◌-◌, ◌≤◌, ◌++◌, length, drop}
use Rattle.cedar_journal.specs.Image.{payloads_of}
use Rattle.cedar_salvage.proofs.Finding.{plain_in}
use Rattle.cedar_salvage.proofs.whole.push_changes.Given as goal

abbrev pub invariant-loop-payload : goal.invariant-loop-payload
invariant-loop-payload g l = record {
  within : l.at ≤ length l.bytes;
  same : payloads_of l.image ++ plain_in (drop l.at l.bytes) ≡ payloads_of l.fn.image ++ plain_in l.bytes;
}

abbrev pub decreases-loop-payload : goal.decreases-loop-payload
decreases-loop-payload g l = length l.bytes - l.at
