use Rattle.std.proofs.Common.{◌≡◌, true, length, ◌+◌, ◌-◌, ◌≤◌, take}
use Rattle.std.specs.Io.KnownBytes.{Consumes}
use Rattle.device_lines.proofs.retries.WatchedRead.read_exact.Given as goal

abbrev pub invariant-loop-filled : goal.invariant-loop-filled
invariant-loop-filled g l = record {
  len : length l.buf ≡ length l.initial.buf;
  within : l.filled ≤ length l.buf;
  consumed : Consumes (g.R.Read.remaining l.initial.self.device) (g.R.Read.remaining l.self.device) (take l.filled l.buf);
  failed : l.initial.self.failed ≡ true → l.self.failed ≡ true;
  broken : l.self.broken ≡ l.initial.self.broken;
  cut : l.self.cut ≡ l.initial.self.cut;
}

abbrev pub decreases-loop-filled : goal.decreases-loop-filled
decreases-loop-filled g l = (length l.buf - l.filled) + l.tries
