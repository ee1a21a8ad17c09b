use Rattle.std.proofs.Common.{◌≡◌, ◌≤◌, ◌-◌, true, replicate}
use Rattle.std.specs.Prelude.{All}
use Rattle.std.specs.List.{flat_map}
use Rattle.std.specs.Io.KnownBytes.{Appends}
use Rattle.cedar_format.proofs.listing.write_blanks.Given as goal

abbrev pub invariant-loop-done : goal.invariant-loop-done
invariant-loop-done g l = record {
  within : l.done ≤ l.count;
  bytes : Appends (g.W.Write.contents l.initial.writer.device) (g.W.Write.contents l.writer.device) (flat_map g.T.Record.bytes_of (replicate l.done l.blank));
  fits : All g.T.Record.Fits (replicate l.done l.blank);
  failed : l.initial.writer.failed ≡ true → l.writer.failed ≡ true;
}

abbrev pub decreases-loop-done : goal.decreases-loop-done
decreases-loop-done g l = l.count - l.done
