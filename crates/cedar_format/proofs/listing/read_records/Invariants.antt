use Rattle.std.proofs.Common.{◌≡◌, true, ◌≤◌, ◌-◌, vec_len, vec_capacity}
use Rattle.std.specs.Prelude.{All}
use Rattle.std.specs.List.{flat_map}
use Rattle.std.specs.Io.KnownBytes.{Consumes}
use Rattle.cedar_format.proofs.listing.read_records.Given as goal

abbrev pub invariant-loop-buffer : goal.invariant-loop-buffer
invariant-loop-buffer g l = record {
  count : vec_len l.records ≤ l.count;
  room : l.count ≤ vec_capacity l.records;
  capacity : vec_capacity l.records ≡ vec_capacity l.initial.records;
  bytes : Consumes (g.S.Source.remaining l.initial.reader) (g.S.Source.remaining l.reader) (flat_map g.T.Record.bytes_of l.records.items);
  fits : All g.T.Record.Fits l.records.items;
  failed : g.S.Source.failed l.initial.reader ≡ true → g.S.Source.failed l.reader ≡ true;
  broken : g.S.Source.broken l.reader ≡ g.S.Source.broken l.initial.reader;
}

abbrev pub decreases-loop-buffer : goal.decreases-loop-buffer
decreases-loop-buffer g l = l.count - vec_len l.records
