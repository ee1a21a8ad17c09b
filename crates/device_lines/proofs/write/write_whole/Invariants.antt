use Rattle.std.proofs.Common.{◌≡◌, ℕ, List, ◌++◌, length}
use Rattle.std.specs.Io.KnownBytes.{Appends}
use Rattle.device_lines.specs.WatchedDevice.{has_failed}
use Rattle.device_lines.proofs.write.write_whole.Given as goal

-- what was written so far is the front of all before the rest
abbrev pub invariant-loop-rest : goal.invariant-loop-rest
invariant-loop-rest g l =
    (done : List ℕ) × (l.fn.bytes ≡ done ++ l.rest)
    × Appends (g.W.Write.contents l.fn.writer.device) (g.W.Write.contents l.writer.device) done
    × (has_failed l.writer ≡ has_failed l.fn.writer)

abbrev pub decreases-loop-rest : goal.decreases-loop-rest
decreases-loop-rest g l = length l.rest
