use Rattle.std.proofs.Common.{◌≡◌, ◌++◌, List, length}
use Rattle.std.specs.Prelude.{ltb}
use Rattle.std.specs.Io.KnownBytes.{Appends}
use Rattle.cedarwood.specs.Queries.{Entry}
use Rattle.cedarwood.specs.WatchedDevice.{device_of, has_failed}
use Rattle.word_lists.specs.Lines.{entries_missing, signed_lines}
use Rattle.word_lists.proofs.pairs.write_lacking.Given as goal

-- the lines of those that are lacking of the entries that came were written
abbrev pub invariant-loop-value : goal.invariant-loop-value
invariant-loop-value g l =
    (came : List Entry) × (l.fn.entries ≡ came ++ l.entries)
    × Appends (g.W.Write.contents (device_of l.fn.writer)) (g.W.Write.contents (device_of l.writer)) (signed_lines l.fn.sign (entries_missing l.fn.other.state.tree came))
    × (has_failed l.writer ≡ has_failed l.fn.writer)
    × (l.any ≡ ltb 0 (length (entries_missing l.fn.other.state.tree came)))

abbrev pub decreases-loop-value : goal.decreases-loop-value
decreases-loop-value g l = length l.entries
