use Rattle.std.proofs.Common.{◌≡◌, ◌+◌, ◌*◌, ◌++◌, length, vec_len, vec_capacity}
use Rattle.std.specs.Prelude.{All}
use Rattle.std.specs.List.{flat_map}
use Rattle.cedar_format.proofs.listing.take_records.Given as goal

abbrev pub invariant-loop : goal.invariant-loop
invariant-loop g l = record {
  count : vec_len l.records ≡ vec_len l.initial.records + l.counter;
  room : vec_capacity l.records ≡ vec_capacity l.initial.records;
  bytes : flat_map g.T.Record.bytes_of l.records.items ++ l.rest ≡ flat_map g.T.Record.bytes_of l.initial.records.items ++ l.bytes;
  left : l.counter * g.T.Record.LEN + length l.rest ≡ l.count * g.T.Record.LEN;
  fits : All g.T.Record.Fits l.records.items;
}
