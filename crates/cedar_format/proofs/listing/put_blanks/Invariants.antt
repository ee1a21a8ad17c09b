use Rattle.std.proofs.Common.{◌≡◌, ◌*◌, length, replicate, take}
use Rattle.std.specs.Prelude.{All}
use Rattle.std.specs.List.{flat_map}
use Rattle.cedar_format.proofs.listing.put_blanks.Given as goal

abbrev pub invariant-loop : goal.invariant-loop
invariant-loop g l = record {
  place : l.at ≡ l.counter * g.T.Record.LEN;
  len : length l.bytes ≡ length l.initial.bytes;
  bytes : take l.at l.bytes ≡ flat_map g.T.Record.bytes_of (replicate l.counter l.blank);
  fits : All g.T.Record.Fits (replicate l.counter l.blank);
}
