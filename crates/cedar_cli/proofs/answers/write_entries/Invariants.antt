use Rattle.std.proofs.Common.{◌≡◌, ◌++◌, List}
use Rattle.std.specs.Io.KnownBytes.{Appends}
use Rattle.cedarwood.specs.Queries.{Entry}
use Rattle.cedarwood.specs.WatchedDevice.{device_of, has_failed}
use Rattle.cedar_cli.specs.Script.{hex_entry_lines}
use Rattle.cedar_cli.proofs.answers.write_entries.Given as goal

-- the lines of the entries that came were written
abbrev pub invariant-loop-entry : goal.invariant-loop-entry
invariant-loop-entry g l =
    (came : List Entry) × (l.fn.entries ≡ came ++ l.entries)
    × Appends (g.W.Write.contents (device_of l.fn.writer)) (g.W.Write.contents (device_of l.writer)) (hex_entry_lines came)
    × (has_failed l.writer ≡ has_failed l.fn.writer)
