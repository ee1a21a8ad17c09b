use Rattle.std.proofs.Common.{rules, ◌≡◌, ◌<◌, ◌≤◌, ◌&&◌, ◌∷◌, [], ℕ, List, true, false, length, get_or, take, ap, sym, subst, ◌∙◌, arith}
use Rattle.std.specs.Prelude.{fold}
use Rattle.std.proofs.lemmas.List.{take_all, take_more}
use Rattle.std.proofs.lemmas.List.Sums.{fold-append}
use Rattle.accepted_entries.specs.Accepted.{SaysOf}
use Rattle.accepted_entries.specs.Bounds.{leads_to, may_after, ReadsAlong}
use Rattle.accepted_entries.proofs.AcceptLemmas.{says_at_end}
use Rattle.accepted_entries.proofs.BoundLemmas.{leads_end, leads_none, reads_at_end}
use Rattle.accepted_entries.proofs.reading.read_key.Goals as goal

pub loop-state-init : goal.loop-state-init
loop-state-init g c =
    let m = c.args.automaton.now in
    record { within = omega arith; read = c.start-state.ensures; led = leads_none (g.M.Automaton.after m) (g.M.Automaton.may_match m) (g.M.Automaton.initial m) }

pub returns-then-len-key-clause-says : goal.returns-then-len-key-clause-says
returns-then-len-key-clause-says g c =
    let m = c.args.automaton.now in
    let after = g.M.Automaton.after m in
    let first = g.M.Automaton.initial m in
    let key = c.args.key.now in
    let all : length key ≤ c.loop-state.len = search rules in
    let end = c.loop-state.invariant.read ∙ ap (λ (l : List ℕ). fold after first l) (take_all c.loop-state.len key all) in
    let says : c.is_match.result ≡ g.M.Automaton.accepts m key = c.is_match.ensures ∙ ap (g.M.Automaton.matches m) end ∙ g.met.M.Automaton.tells m key in
    subst (SaysOf (g.M.Automaton.accepts m) key) (sym c.verdict_of.ensures) (says_at_end (g.M.Automaton.accepts m) key c.is_match.result says)

pub returns-then-len-key-clause-way : goal.returns-then-len-key-clause-way
returns-then-len-key-clause-way g c =
    let m = c.args.automaton.now in
    let after = g.M.Automaton.after m in
    let may = g.M.Automaton.may_match m in
    let first = g.M.Automaton.initial m in
    let key = c.args.key.now in
    let all : length key ≤ c.loop-state.len = search rules in
    let whole = take_all c.loop-state.len key all in
    let can : c.can_match.result ≡ true = search rules in
    let end = c.loop-state.invariant.read ∙ ap (λ (l : List ℕ). fold after first l) whole in
    let led : leads_to after may first key ≡ true = ap (leads_to after may first) (sym whole) ∙ c.loop-state.invariant.led in
    let alive : may_after after may first key ≡ true = ap may (sym end) ∙ sym c.can_match.ensures ∙ can in
    subst (ReadsAlong (leads_to after may first) (may_after after may first) key) (sym c.verdict_of.ensures) (reads_at_end (leads_to after may first) (may_after after may first) key c.is_match.result led alive)

pub loop-state-preserved : goal.loop-state-preserved
loop-state-preserved g c =
    let m = c.args.automaton.now in
    let after = g.M.Automaton.after m in
    let may = g.M.Automaton.may_match m in
    let first = g.M.Automaton.initial m in
    let key = c.args.key.now in
    let at = c.loop-state.len in
    let within : at ≤ length key = c.loop-state.invariant.within in
    let more : at < length key = search rules in
    let can : c.can_match.result ≡ true = search rules in
    let alive : may (fold after first (take at key)) ≡ true = ap may (sym c.loop-state.invariant.read) ∙ sym c.can_match.ensures ∙ can in
    let led = c.loop-state.invariant.led in
    record {
      within = omega (arith, more);
      read =
          c.step-state.ensures
          ∙ ap (λ s. after s (get_or key at 0)) c.loop-state.invariant.read
          ∙ sym (fold-append after first (take at key) (get_or key at 0 ∷ []))
          ∙ ap (λ (l : List ℕ). fold after first l) (sym (take_more key at 0 more));
      led =
          ap (leads_to after may first) (take_more key at 0 more)
          ∙ leads_end after may first (take at key) (get_or key at 0)
          ∙ (λ i. led i && alive i);
    }

pub returns-clause-says : goal.returns-clause-says
returns-clause-says g c =
    let m = c.args.automaton.now in
    let key = c.args.key.now in
    let ends : c.can_match.result ≡ false = search rules in
    (c.loop-state.invariant.within, λ rest. g.met.M.Automaton.prunes m (take c.loop-state.len key) rest (ap (g.M.Automaton.may_match m) (sym c.loop-state.invariant.read) ∙ sym c.can_match.ensures ∙ ends))

pub returns-clause-way : goal.returns-clause-way
returns-clause-way g c =
    let m = c.args.automaton.now in
    let ends : c.can_match.result ≡ false = search rules in
    (c.loop-state.invariant.led, ap (g.M.Automaton.may_match m) (sym c.loop-state.invariant.read) ∙ sym c.can_match.ensures ∙ ends)
