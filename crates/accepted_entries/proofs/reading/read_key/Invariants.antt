use Rattle.std.proofs.Common.{◌≡◌, ◌≤◌, ◌-◌, length, take, true}
use Rattle.std.specs.Prelude.{fold}
use Rattle.accepted_entries.specs.Bounds.{leads_to}
use Rattle.accepted_entries.proofs.reading.read_key.Given as goal

-- the state is that after the bytes so far, to which the automaton leads
abbrev pub invariant-loop-state : goal.invariant-loop-state
invariant-loop-state g l = record {
  within : l.len ≤ length l.key;
  read : l.state ≡ fold (g.M.Automaton.after l.automaton) (g.M.Automaton.initial l.automaton) (take l.len l.key);
  led : leads_to (g.M.Automaton.after l.automaton) (g.M.Automaton.may_match l.automaton) (g.M.Automaton.initial l.automaton) (take l.len l.key) ≡ true;
}

abbrev pub decreases-loop-state : goal.decreases-loop-state
decreases-loop-state g l = length l.key - l.len
