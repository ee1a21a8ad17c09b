use Rattle.std.proofs.Common.{◌≡◌, true, length, ◌+◌, ◌++◌, List, ℕ}
use Rattle.std.specs.Io.KnownBytes.{Appends}
use Rattle.device_lines.proofs.retries.WatchedWrite.write_all.Given as goal

abbrev pub invariant-loop-rest : goal.invariant-loop-rest
invariant-loop-rest g l = record {
  written : (front : List ℕ) × (l.buf ≡ front ++ l.rest) × Appends (g.W.Write.contents l.initial.self.device) (g.W.Write.contents l.self.device) front;
  failed : l.initial.self.failed ≡ true → l.self.failed ≡ true;
}

abbrev pub decreases-loop-rest : goal.decreases-loop-rest
decreases-loop-rest g l = length l.rest + l.tries
