use Rattle.std.proofs.Common.{◌≡◌, ◌++◌, ℕ, ℤ, List, length}
use Rattle.std.specs.Io.KnownBytes.{Appends}
use Rattle.cedarwood.specs.WatchedDevice.{device_of, has_failed}
use Rattle.cedar_cli.specs.Script.{pair_text, spaced_texts}
use Rattle.cedar_cli.proofs.answers.write_further.Given as goal

-- the pairs that came were written
abbrev pub invariant-loop-pair : goal.invariant-loop-pair
invariant-loop-pair g l =
    (came : List (ℤ × ℕ)) × (g.P.Pairs.left l.fn.pairs ≡ came ++ g.P.Pairs.left l.pairs)
    × Appends (g.W.Write.contents (device_of l.fn.writer)) (g.W.Write.contents (device_of l.writer)) (spaced_texts pair_text came)
    × (has_failed l.writer ≡ has_failed l.fn.writer)

abbrev pub decreases-loop-pair : goal.decreases-loop-pair
decreases-loop-pair g l = length (g.P.Pairs.left l.pairs)
