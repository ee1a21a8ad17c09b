use Rattle.std.proofs.Common.{◌≡◌, ◌≤◌, ◌-◌, true, length, take}
use Rattle.std.specs.Prelude.{All}
use Rattle.std.specs.List.{flat_map}
use Rattle.std.specs.Io.KnownBytes.{Appends}
use Rattle.cedar_format.proofs.listing.write_records.Given as goal

abbrev pub invariant-loop-done : goal.invariant-loop-done
invariant-loop-done g l = record {
  within : l.done ≤ length l.records;
  bytes : Appends (g.W.Write.contents l.initial.writer.device) (g.W.Write.contents l.writer.device) (flat_map g.T.Record.bytes_of (take l.done l.records));
  fits : All g.T.Record.Fits (take l.done l.records);
  failed : l.initial.writer.failed ≡ true → l.writer.failed ≡ true;
}

abbrev pub decreases-loop-done : goal.decreases-loop-done
decreases-loop-done g l = length l.records - l.done
