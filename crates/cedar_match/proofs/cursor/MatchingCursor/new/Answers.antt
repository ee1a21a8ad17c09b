use Rattle.std.proofs.lemmas.Grind.{common_steps}
use Rattle.std.proofs.Common.{◌∙◌, ap, subst, sym, arith}
use Rattle.cedar_match.specs.Matching.{leads_on, states_along}
use Rattle.cedar_match.proofs.cursor.MatchingCursor.new.Goals as goal

pub invariant_of-result : goal.invariant_of-result
unfolding leads_on states_along
invariant_of-result g c = record {
  there = subst (λ w. g.T.Nodes.stands c.args.trie.now w 0) (sym c.new.ensures.items) c.requires;
  led = ap (leads_on (g.M.Automaton.after c.args.automaton) (g.M.Automaton.may_match c.args.automaton) (g.M.Automaton.initial c.args.automaton)) c.new.ensures.items;
  along = c.new-2.ensures.items ∙ sym (ap (states_along (g.M.Automaton.after c.args.automaton) (g.M.Automaton.initial c.args.automaton)) c.new.ensures.items);
}

pub returns-clause-key : goal.returns-clause-key
returns-clause-key g c = grind (arith, common_steps)

pub returns-clause-left : goal.returns-clause-left
returns-clause-left g c = grind (arith, common_steps)
