use Rattle.std.proofs.Common.{◌-◌, length}
use Rattle.cedar_scan.specs.Automata.{slot_of_path}
use Rattle.cedar_scan.proofs.EarliestLemmas.{NoneYet}
use Rattle.cedar_scan.proofs.earliest.first_end.Given as goal

abbrev pub invariant-loop-cursor : goal.invariant-loop-cursor
invariant-loop-cursor g l = NoneYet (g.T.Placed.tree l.trie) (slot_of_path l.states) l.states l.keys l.text l.initial.ticks l.cursor l.ticks

abbrev pub decreases-loop-cursor : goal.decreases-loop-cursor
decreases-loop-cursor g l = length l.text - l.cursor.place
