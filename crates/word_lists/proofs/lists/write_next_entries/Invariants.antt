use Rattle.std.proofs.Common.{◌≡◌, ◌+◌, ◌++◌, List, length}
use Rattle.std.specs.Io.KnownBytes.{Appends}
use Rattle.cedarwood.specs.Queries.{Entry}
use Rattle.cedarwood.specs.WatchedDevice.{device_of, has_failed}
use Rattle.word_lists.specs.Lines.{entry_lines}
use Rattle.word_lists.proofs.lists.write_next_entries.Given as goal

-- the lines of the entries that came were written, and so many more may come
abbrev pub invariant-loop-left : goal.invariant-loop-left
invariant-loop-left g l =
    (came : List Entry) × (l.fn.entries ≡ came ++ l.entries)
    × Appends (g.W.Write.contents (device_of l.fn.writer)) (g.W.Write.contents (device_of l.writer)) (entry_lines came)
    × (has_failed l.writer ≡ has_failed l.fn.writer)
    × (length came + l.left ≡ l.fn.most)

abbrev pub decreases-loop-left : goal.decreases-loop-left
decreases-loop-left g l = l.left
