use Rattle.std.proofs.Common.{◌≡◌, ◌*◌, length, take}
use Rattle.std.specs.Prelude.{All}
use Rattle.std.specs.List.{flat_map}
use Rattle.cedar_format.proofs.listing.put_records.Given as goal

abbrev pub invariant-loop-record : goal.invariant-loop-record
invariant-loop-record g l = record {
  place : l.at ≡ l.record-index * g.T.Record.LEN;
  len : length l.bytes ≡ length l.initial.bytes;
  bytes : take l.at l.bytes ≡ flat_map g.T.Record.bytes_of (take l.record-index l.records);
  fits : All g.T.Record.Fits (take l.record-index l.records);
}
