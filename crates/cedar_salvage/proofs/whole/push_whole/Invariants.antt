use Rattle.std.proofs.Common.{◌≡◌, ◌++◌, length}
use Rattle.cedar_journal.specs.Image.{payloads_of}
use Rattle.cedar_salvage.specs.Whole.{found_in}
use Rattle.cedar_salvage.proofs.whole.push_whole.Given as goal

abbrev pub invariant-loop-payload : goal.invariant-loop-payload
invariant-loop-payload g l = record {
  same : payloads_of l.image ++ found_in l.rest ≡ payloads_of l.fn.image ++ found_in l.bytes;
}

abbrev pub decreases-loop-payload : goal.decreases-loop-payload
decreases-loop-payload g l = length l.rest
