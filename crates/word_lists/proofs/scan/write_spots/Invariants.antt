use Rattle.std.proofs.Common.{◌≡◌, ◌++◌, List, length, take}
use Rattle.std.specs.Prelude.{ltb}
use Rattle.std.specs.Io.KnownBytes.{Appends}
use Rattle.cedarwood.specs.WatchedDevice.{device_of, has_failed}
use Rattle.cedar_words.specs.Words.{Spot}
use Rattle.word_lists.specs.Texts.{characters, spot_lines}
use Rattle.word_lists.proofs.scan.write_spots.Given as goal

-- the lines of the words that came were written, and it is known how many characters begin before the last of them
abbrev pub invariant-loop-spot : goal.invariant-loop-spot
invariant-loop-spot g l =
    (came : List Spot) × (g.S.Spots.left l.fn.spots ≡ came ++ g.S.Spots.left l.spots)
    × Appends (g.W.Write.contents (device_of l.fn.writer)) (g.W.Write.contents (device_of l.writer)) (spot_lines l.fn.line l.fn.text came)
    × (has_failed l.writer ≡ has_failed l.fn.writer)
    × (l.any ≡ ltb 0 (length came))
    × (l.known.1 ≡ characters (take l.known.0 l.fn.text))

abbrev pub decreases-loop-spot : goal.decreases-loop-spot
decreases-loop-spot g l = length (g.S.Spots.left l.spots)
