use Rattle.std.proofs.Common.{◌-◌, refl}
use Rattle.cedar_match.proofs.MatchLemmas.{states_enter}
use Rattle.cedar_match.proofs.cursor.enter.Goals as goal

pub returns-clause-states : goal.returns-clause-states
returns-clause-states g c =
    let m = c.args.automaton.now in
    let next = c.args.next in
    let along = states_enter (g.M.Automaton.after m) (g.M.Automaton.may_match m) (g.M.Automaton.initial m) c.args.key.now.items next c.args.states.now.items (next.depth - 1) c.requires.states refl in
    let states = rw c.unwrap-2.ensures at c.push-2.ensures.items in
    let key = rw c.unwrap.ensures at c.push.ensures.items in
    cc (along, states, key, c.truncate-2.ensures.items, c.truncate.ensures.items, c.step-state.ensures, c.state_at-before.ensures, c.deref.ensures.value)
