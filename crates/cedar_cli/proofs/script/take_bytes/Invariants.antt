use Rattle.std.proofs.Common.{◌≡◌, ℕ, List, ◌++◌, length, ◌+◌}
use Rattle.std.specs.Prelude.{vec_capacity}
use Rattle.cedarwood.specs.WatchedDevice.{device_of, has_failed}
use Rattle.cedar_cli.specs.Blocks.{GrowsBefore}
use Rattle.cedar_cli.specs.Lines.{HasNoNewline, HasLineRoom}
use Rattle.cedar_cli.specs.Reports.{TellsText}
use Rattle.cedar_cli.specs.Script.{Advances}
use Rattle.cedar_cli.specs.View.{view_of}
use Rattle.cedar_cli.proofs.script.take_bytes.Given as goal

-- the bytes before the rest were taken
abbrev pub invariant-loop-at : goal.invariant-loop-at
invariant-loop-at g l =
    (gone : List ℕ) × (l.bytes ≡ gone ++ l.rest) × HasNoNewline l.line.items
    × Advances (view_of g.L.Layout.kind l.fn.trie) (view_of g.L.Layout.kind l.trie)
    (g.W.Write.contents (device_of l.fn.writer)) (g.W.Write.contents (device_of l.writer)) (l.fn.line.items ++ gone) l.line.items
    × (has_failed l.writer ≡ has_failed l.fn.writer)
    × (l.trie.max_trial ≡ l.fn.trie.max_trial)
    × GrowsBefore (length l.line.items) (length l.fn.line.items + length gone) l.fn.trie l.trie
    × HasLineRoom (vec_capacity l.line) (length l.key.items)
    × TellsText (g.B.LineReports.told l.fn.reports) (g.B.LineReports.told l.reports) (l.fn.line.items ++ gone) l.line.items

abbrev pub decreases-loop-at : goal.decreases-loop-at
decreases-loop-at g l = length l.rest
