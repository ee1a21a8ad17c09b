use Rattle.std.proofs.Common.{◌≡◌, ◌++◌, ℕ, List, length}
use Rattle.std.specs.Io.KnownBytes.{Appends}
use Rattle.cedarwood.specs.WatchedDevice.{device_of, has_failed}
use Rattle.word_lists.specs.Lines.{escape}
use Rattle.word_lists.proofs.word.write_bytes.Given as goal

-- the bytes before the rest were written
abbrev pub invariant-loop-rest : goal.invariant-loop-rest
invariant-loop-rest g l =
    (done : List ℕ) × (l.fn.bytes ≡ done ++ l.rest)
    × Appends (g.W.Write.contents (device_of l.fn.writer)) (g.W.Write.contents (device_of l.writer)) (escape l.fn.text done)
    × (has_failed l.writer ≡ has_failed l.fn.writer)

abbrev pub decreases-loop-rest : goal.decreases-loop-rest
decreases-loop-rest g l = length l.rest
