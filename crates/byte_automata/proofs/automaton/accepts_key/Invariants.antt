use Rattle.std.proofs.Common.{◌≡◌, take}
use Rattle.std.specs.Prelude.{fold}
use Rattle.byte_automata.proofs.automaton.accepts_key.Given as goal

-- the state is that after the bytes so far
abbrev pub invariant-loop-byte : goal.invariant-loop-byte
invariant-loop-byte g l = l.state ≡ fold (g.M.Automaton.after l.automaton) (g.M.Automaton.initial l.automaton) (take l.byte-index l.key)
