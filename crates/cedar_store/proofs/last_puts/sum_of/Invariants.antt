use Rattle.std.proofs.Common.{◌≡◌, ◌<◌, take}
use Rattle.std.specs.Prelude.{fold}
use Rattle.cedar_store.specs.Links.{sum_with}
use Rattle.cedar_store.proofs.last_puts.sum_of.Given as goal

abbrev pub invariant-loop-byte : goal.invariant-loop-byte
invariant-loop-byte l = record {
  low : l.sum < 4294967296;
  is : l.sum ≡ fold sum_with 0 (take l.byte-index l.key);
}
