use Rattle.std.proofs.Common.{rules, ◌≡◌, ◌∷◌, [], ℤ, true, false, Option, Some, inl, inr, arith, refl, ap, sym, subst, ◌∙◌, FitsSigned, to_z, of_z, w32}
use Rattle.std.specs.Prelude.{filter}
use Rattle.std.proofs.lemmas.Int.{to_z-of_z}
use Rattle.cedar_tree.specs.Queries.{Entry}
use Rattle.key_ranges.specs.Spans.{KeySpan}
use Rattle.last_entries.specs.Nearness.{IsFirstOf}
use Rattle.accepted_entries.specs.Accepted.{accepted_in, entries_in_span, LeavesKey}
use Rattle.accepted_entries.specs.Bounds.{ahead_count, leads_to, may_after, WayOn}
use Rattle.accepted_entries.proofs.BoundLemmas.{goes_ahead, goes_steady, leaves_one}
use Rattle.accepted_entries.proofs.AcceptLemmas.{behind_first, end_of_itself, end_over, first_left, passed_over}
use Rattle.accepted_entries.proofs.next.next_accepted_counted.Goals as goal

pub returns-then-branch-clause-found : goal.returns-then-branch-clause-found
returns-then-branch-clause-found g c =
    let es = g.S.Ascending.entries c.args.source.now in
    let accepts = g.M.Automaton.accepts c.args.automaton.now in
    let old = c.loop-key.range in
    let new = c.leave_first.new.range in
    let key = c.first_in_range.new.key.items in
    let value : ℤ = c.in-Some.value in
    let first : IsFirstOf (entries_in_span old es) key (Some value) = subst (λ (o : Option ℤ). IsFirstOf (entries_in_span old es) key o) c.in-Some.is c.in_ok-value.ensures.found in
    let ends : c.in_ok-leave_first.field-0 ≡ true = search rules in
    let leaves : LeavesKey accepts key old new true =
    subst (λ k. LeavesKey accepts k old new true) c.deref.ensures.value (subst (λ b. LeavesKey accepts c.deref.result.now old new b) ends c.in_ok-leave_first.ensures.left) in
    let fits : FitsSigned w32 value = search rules in
    let number : to_z w32 (of_z w32 value) ≡ value = to_z-of_z w32 value fits in
    sym c.loop-key.invariant.accepted
    ∙ first_left accepts old new es key value first.0 c.requires first.1 leaves.0 leaves.1
    ∙ ap (λ (n : ℤ). (key, n) ∷ accepted_in accepts new es) (sym number)

pub returns-then-branch-clause-behind : goal.returns-then-branch-clause-behind
returns-then-branch-clause-behind g c =
    let es = g.S.Ascending.entries c.args.source.now in
    let accepts = g.M.Automaton.accepts c.args.automaton.now in
    let old = c.loop-key.range in
    let new = c.leave_first.new.range in
    let key = c.first_in_range.new.key.items in
    let value : ℤ = c.in-Some.value in
    let first : IsFirstOf (entries_in_span old es) key (Some value) = subst (λ (o : Option ℤ). IsFirstOf (entries_in_span old es) key o) c.in-Some.is c.in_ok-value.ensures.found in
    let ends : c.in_ok-leave_first.field-0 ≡ true = search rules in
    let leaves : LeavesKey accepts key old new true =
    subst (λ k. LeavesKey accepts k old new true) c.deref.ensures.value (subst (λ b. LeavesKey accepts c.deref.result.now old new b) ends c.in_ok-leave_first.ensures.left) in
    behind_first c.args.range.now old new es key value first.0 c.loop-key.invariant.end first.1 leaves.1

pub loop-key-init : goal.loop-key-init
loop-key-init g c = record {
  accepted = refl;
  end = end_of_itself c.args.range.now;
  cost = λ fronts have. omega arith;
  slack = inr (λ fronts have. omega arith);
}

pub loop-key-preserved : goal.loop-key-preserved
loop-key-preserved g c =
    let es = g.S.Ascending.entries c.args.source.now in
    let accepts = g.M.Automaton.accepts c.args.automaton.now in
    let old = c.loop-key.range in
    let new = c.leave_first.new.range in
    let key = c.first_in_range.new.key.items in
    let value : ℤ = c.in-Some.value in
    let first : IsFirstOf (entries_in_span old es) key (Some value) = subst (λ (o : Option ℤ). IsFirstOf (entries_in_span old es) key o) c.in-Some.is c.in_ok-value.ensures.found in
    let goes_on : c.in_ok-leave_first.field-0 ≡ false = search rules in
    let leaves : LeavesKey accepts key old new false =
    subst (λ k. LeavesKey accepts k old new false) c.deref.ensures.value (subst (λ b. LeavesKey accepts c.deref.result.now old new b) goes_on c.in_ok-leave_first.ensures.left) in
    let m = c.args.automaton.now in
    let after = g.M.Automaton.after m in
    let may = g.M.Automaton.may_match m in
    let first_state = g.M.Automaton.initial m in
    let way = subst (λ k. WayOn (leads_to after may first_state) (may_after after may first_state) k old new) c.deref.ensures.value c.in_ok-leave_first.ensures.way in
    record {
      accepted = sym (passed_over accepts old new es key value first.0 c.requires first.1 leaves).0 ∙ c.loop-key.invariant.accepted;
      end = end_over accepts c.args.range.now old new key c.loop-key.invariant.end leaves;
      cost = λ fronts have.
          let counted = c.first_in_range.ensures.cost in
          let ahead = goes_ahead after may first_state old new es key value first.0 fronts way in
          let before = c.loop-key.invariant.cost fronts have in
          elim c.loop-key.invariant.slack [
            | inl steady ↦ (let less = leaves_one after may first_state old new es key value first.0 fronts c.requires have first.1 steady way in omega (arith, counted, less, before))
            | inr fewer ↦ (let few = fewer fronts have in omega (arith, counted, ahead, few))
          ];
      slack = inl (goes_steady after may first_state old new es key value first.0 c.requires first.1 way);
    }

pub returns-then-branch-clause-cost : goal.returns-then-branch-clause-cost
returns-then-branch-clause-cost g c = λ fronts have.
    let es = g.S.Ascending.entries c.args.source.now in
    let old = c.loop-key.range in
    let new = c.leave_first.new.range in
    let key = c.first_in_range.new.key.items in
    let value : ℤ = c.in-Some.value in
    let first : IsFirstOf (entries_in_span old es) key (Some value) = subst (λ (o : Option ℤ). IsFirstOf (entries_in_span old es) key o) c.in-Some.is c.in_ok-value.ensures.found in
    let m = c.args.automaton.now in
    let counted = c.first_in_range.ensures.cost in
    let ahead = goes_ahead (g.M.Automaton.after m) (g.M.Automaton.may_match m) (g.M.Automaton.initial m) old new es c.deref.result.now value first.0 fronts c.in_ok-leave_first.ensures.way in
    let before = c.loop-key.invariant.cost fronts have in
    omega (arith, counted, ahead, before)

pub returns-clause-cost : goal.returns-clause-cost
returns-clause-cost g c = λ fronts have.
    let counted = c.first_in_range.ensures.cost in
    let before = c.loop-key.invariant.cost fronts have in
    omega (arith, counted, before)

pub returns-in_err-value-clause-cost : goal.returns-in_err-value-clause-cost
returns-in_err-value-clause-cost g c = λ fronts have.
    let counted = c.first_in_range.ensures.cost in
    let before = c.loop-key.invariant.cost fronts have in
    omega (arith, counted, before)

pub returns-in_err-leave_first-clause-cost : goal.returns-in_err-leave_first-clause-cost
returns-in_err-leave_first-clause-cost g c = λ fronts have.
    let m = c.args.automaton.now in
    let leads = leads_to (g.M.Automaton.after m) (g.M.Automaton.may_match m) (g.M.Automaton.initial m) in
    let counted = c.first_in_range.ensures.cost in
    let before = c.loop-key.invariant.cost fronts have in
    let same = ap (λ (range : KeySpan). ahead_count leads range fronts) c.in_err-leave_first.ensures.refused in
    omega (arith, counted, before, same)

pub loop-key-smaller : goal.loop-key-smaller
loop-key-smaller g c =
    let es = g.S.Ascending.entries c.args.source.now in
    let accepts = g.M.Automaton.accepts c.args.automaton.now in
    let old = c.loop-key.range in
    let new = c.leave_first.new.range in
    let key = c.first_in_range.new.key.items in
    let value : ℤ = c.in-Some.value in
    let first : IsFirstOf (entries_in_span old es) key (Some value) = subst (λ (o : Option ℤ). IsFirstOf (entries_in_span old es) key o) c.in-Some.is c.in_ok-value.ensures.found in
    let goes_on : c.in_ok-leave_first.field-0 ≡ false = search rules in
    let leaves : LeavesKey accepts key old new false =
    subst (λ k. LeavesKey accepts k old new false) c.deref.ensures.value (subst (λ b. LeavesKey accepts c.deref.result.now old new b) goes_on c.in_ok-leave_first.ensures.left) in
    (passed_over accepts old new es key value first.0 c.requires first.1 leaves).1

pub returns-clause-found : goal.returns-clause-found
returns-clause-found g c =
    let es = g.S.Ascending.entries c.args.source.now in
    let accepts = g.M.Automaton.accepts c.args.automaton.now in
    let range = c.loop-key.range in
    let none : entries_in_span range es ≡ [] = search rules in
    let gone : accepted_in accepts range es ≡ [] = ap (filter (λ (e : Entry). accepts e.0)) none in
    (sym c.loop-key.invariant.accepted ∙ gone, gone)

pub returns-in_err-leave_first-clause-refused : goal.returns-in_err-leave_first-clause-refused
returns-in_err-leave_first-clause-refused g c =
    let es = g.S.Ascending.entries c.args.source.now in
    let accepts = g.M.Automaton.accepts c.args.automaton.now in
    let same : accepted_in accepts c.leave_first.new.range es ≡ accepted_in accepts c.args.range.now es =
    ap (λ (range : KeySpan). accepted_in accepts range es) c.in_err-leave_first.ensures.refused ∙ c.loop-key.invariant.accepted in
    search (rules, same)
