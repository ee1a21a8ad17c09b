use Rattle.std.proofs.Common.{◌≡◌, ◌+◌, ◌-◌, ◌≤◌, length, take}
use Rattle.cedar_disk.specs.NotedFiles.{is_beside, noted_calls}
use Rattle.cedar_disk.specs.Runs.{AreWritten}
use Rattle.cedar_disk.proofs.writes.write_all.Given as goal

-- the first bytes were written
abbrev pub invariant-loop-done : goal.invariant-loop-done
invariant-loop-done g l = record {
  within : l.done ≤ length l.bytes;
  written : AreWritten l.at (length l.bytes) (take l.done l.bytes) (noted_calls l.fn.file) (noted_calls l.file);
  name : is_beside l.file ≡ is_beside l.fn.file;
}

abbrev pub decreases-loop-done : goal.decreases-loop-done
decreases-loop-done g l = (length l.bytes - l.done) + l.tries
