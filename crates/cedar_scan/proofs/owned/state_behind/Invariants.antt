use Rattle.std.proofs.Common.{◌≡◌, ◌+◌, ◌*◌, ◌≤◌, length, take}
use Rattle.cedar_scan.specs.Automata.{slot_of_path}
use Rattle.cedar_scan.specs.Suffixes.{held_suffix}
use Rattle.cedar_scan.proofs.owned.state_behind.Given as goal

-- it stands for the bytes that were read
abbrev pub invariant-loop-byte : goal.invariant-loop-byte
invariant-loop-byte g l = record {
  stands : l.state ≡ slot_of_path l.states (held_suffix (g.T.Placed.tree l.trie) (take l.byte-index l.last));
  cost : l.ticks + length (held_suffix (g.T.Placed.tree l.trie) (take l.byte-index l.last)) ≤ l.initial.ticks + 2 * l.byte-index;
}
