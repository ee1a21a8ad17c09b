use Rattle.std.proofs.Common.{◌≡◌, ◌≤◌, ◌||◌, ℕ, List, length}
use Rattle.std.specs.Io.KnownBytes.{Consumes}
use Rattle.std.specs.Prelude.{vec_capacity}
use Rattle.cedarwood.specs.WatchedDevice.{has_failed}
use Rattle.cedar_cli.specs.Blocks.{GrowsBefore}
use Rattle.cedar_cli.specs.Lines.{HasNoNewline, HasLineRoom}
use Rattle.cedar_cli.specs.Reports.{TellsText}
use Rattle.cedar_cli.specs.Script.{Advances}
use Rattle.cedar_cli.specs.View.{view_of}
use Rattle.cedar_cli.proofs.script.answer_input.Given as goal

-- what came so far was taken, a byte or more with each read
abbrev pub invariant-loop-turn : goal.invariant-loop-turn
invariant-loop-turn g l =
    (came : List ℕ) × Consumes (g.R.Read.remaining l.fn.reader.device) (g.R.Read.remaining l.reader.device) came
    × (l.turn ≤ length came) × HasNoNewline l.line.items
    × Advances (view_of g.L.Layout.kind l.fn.trie) (view_of g.L.Layout.kind l.trie)
    (g.W.Write.contents l.fn.writer.device) (g.W.Write.contents l.writer.device) came l.line.items
    × (has_failed l.reader ≡ has_failed l.fn.reader) × (has_failed l.writer ≡ (l.flushes.failed || has_failed l.fn.writer))
    × (l.trie.max_trial ≡ l.fn.trie.max_trial)
    × GrowsBefore (length l.line.items) (length came) l.fn.trie l.trie
    × HasLineRoom (vec_capacity l.line) (length l.key.items)
    × TellsText (g.B.LineReports.told l.fn.reports) (g.B.LineReports.told l.reports) came l.line.items
