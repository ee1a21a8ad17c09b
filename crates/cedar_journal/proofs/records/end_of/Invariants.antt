use Rattle.std.proofs.Common.{◌-◌, ◌≤◌, length, take, drop}
use Rattle.cedar_journal.specs.Files.{IsFoundThere, IsWholeFront}
use Rattle.cedar_journal.proofs.records.end_of.Given as goal

abbrev pub invariant-loop-next : goal.invariant-loop-next
invariant-loop-next l = record {
  some : 13 ≤ l.end;
  within : l.end ≤ length l.bytes;
  front : IsWholeFront l.format (take l.end l.bytes);
  next : IsFoundThere l.format (drop l.end l.bytes) l.next;
}

abbrev pub decreases-loop-next : goal.decreases-loop-next
decreases-loop-next l = length l.bytes - l.end
