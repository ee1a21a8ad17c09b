use Rattle.std.proofs.Common.{◌≡◌, ◌⊎◌, ◌+◌, ◌≤◌, ℕ, List, length}
use Rattle.accepted_entries.specs.Accepted.{accepted_in, entries_in_span, HoldsEnd}
use Rattle.accepted_entries.specs.Bounds.{ahead_count, HaveFronts, IsSteady, leads_to, may_after}
use Rattle.accepted_entries.proofs.next.next_accepted_counted.Given as goal

-- what is accepted is still in the range, which holds the last part of what it held; and the look-ups are few
abbrev pub invariant-loop-key : goal.invariant-loop-key
invariant-loop-key g l =
    let es = g.S.Ascending.entries l.source in
    let leads = leads_to (g.M.Automaton.after l.automaton) (g.M.Automaton.may_match l.automaton) (g.M.Automaton.initial l.automaton) in
    let may = may_after (g.M.Automaton.after l.automaton) (g.M.Automaton.may_match l.automaton) (g.M.Automaton.initial l.automaton) in record {
      accepted : accepted_in (g.M.Automaton.accepts l.automaton) l.range es ≡ accepted_in (g.M.Automaton.accepts l.automaton) l.initial.range es;
      end : HoldsEnd l.initial.range l.range;
      cost : (fronts : List (List ℕ)) → HaveFronts es fronts → l.look_ups + ahead_count leads l.range fronts ≤ l.initial.look_ups + ahead_count leads l.initial.range fronts + 1;
      slack :
          IsSteady leads may l.range
          ⊎ ((fronts : List (List ℕ)) → HaveFronts es fronts → l.look_ups + ahead_count leads l.range fronts ≤ l.initial.look_ups + ahead_count leads l.initial.range fronts);
    }

abbrev pub decreases-loop-key : goal.decreases-loop-key
decreases-loop-key g l = length (entries_in_span l.range (g.S.Ascending.entries l.source))
