use Rattle.std.proofs.Common.{◌≡◌, ◌++◌, ℕ, ℤ, List, length, map}
use Rattle.std.specs.Prelude.{ltb}
use Rattle.std.specs.Io.KnownBytes.{Appends}
use Rattle.cedarwood.specs.WatchedDevice.{device_of, has_failed}
use Rattle.word_lists.specs.Lines.{entry_lines}
use Rattle.word_lists.specs.Texts.{front_entry}
use Rattle.word_lists.proofs.fronts.write_all_fronts.Given as goal

-- the lines of the words that came were written
abbrev pub invariant-loop-front : goal.invariant-loop-front
invariant-loop-front g l =
    (came : List (ℤ × ℕ)) × (g.F.NextFront.left l.fn.fronts ≡ came ++ g.F.NextFront.left l.fronts)
    × Appends (g.W.Write.contents (device_of l.fn.writer)) (g.W.Write.contents (device_of l.writer)) (entry_lines (map (front_entry l.fn.text) came))
    × (has_failed l.writer ≡ has_failed l.fn.writer)
    × (l.any ≡ ltb 0 (length (map (front_entry l.fn.text) came)))

abbrev pub decreases-loop-front : goal.decreases-loop-front
decreases-loop-front g l = length (g.F.NextFront.left l.fronts)
