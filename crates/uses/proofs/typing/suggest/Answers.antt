use Rattle.std.proofs.Common.{rules, ◌≡◌, ◌∙◌, Bool, List, ℕ, ap, filter, IfOk, length, map, subst, sym, vec_len}
use Rattle.std.proofs.lemmas.Bool.{eqb-false, eqb-true}
use Rattle.best_few.specs.Orders.{best, found_entry}
use Rattle.best_few.specs.declared.order.ByValue.TheVariants.{HighestFirst}
use Rattle.best_few.proofs.HeapLemmas.{length_found}
use Rattle.byte_automata.specs.Distances.{is_near}
use Rattle.byte_automata.specs.Fronts.{has_front}
use Rattle.cedarwood.specs.Queries.{walk}
use Rattle.cedarwood.specs.Ranges.{entries_with}
use Rattle.uses.proofs.SuggestionLemmas.{found_first, others_told}
use Rattle.uses.proofs.typing.suggest.Goals as goal

pub returns-then-not-is_empty : goal.returns-then-not-is_empty
returns-then-not-is_empty g c =
    let t = c.args.words.now.state.tree in
    let typed = c.args.typed.now in
    let items = c.in_ok-found.found.items in
    let first = best HighestFirst c.args.most (entries_with t typed) in
    let others = best HighestFirst c.args.most (filter (λ e. has_front (is_near typed 1) e.0) (walk t)) in
    let found : map found_entry items ≡ first = search rules in
    let many : vec_len c.in_ok-found.found ≡ length items = search rules in
    let some = eqb-false (vec_len c.in_ok-found.found) 0 (sym c.is_empty.ensures ∙ c.if-not-is_empty.true) in
    found_first (map found_entry items) first others found (λ z. some (many ∙ sym (length_found items) ∙ z))

pub returns : goal.returns
returns g c =
    let t = c.args.words.now.state.tree in
    let typed = c.args.typed.now in
    let items = c.in_ok-found.found.items in
    let first = best HighestFirst c.args.most (entries_with t typed) in
    let others = best HighestFirst c.args.most (filter (λ e. has_front (is_near typed 1) e.0) (walk t)) in
    let found : map found_entry items ≡ first = search rules in
    let many : vec_len c.in_ok-found.found ≡ length items = search rules in
    let none = length_found items ∙ sym many ∙ eqb-true (vec_len c.in_ok-found.found) 0 (sym c.is_empty.ensures ∙ c.if-not-is_empty.false) in
    let wanted = c.new-typo.ensures ∙ ap has_front (c.one.ensures ∙ ap (λ (text : List ℕ). is_near text 1) c.as_bytes-typed.ensures.value) in
    let near = subst (λ (accepts : List ℕ → Bool). IfOk c.best_matching.result (λ told. map found_entry told.items ≡ best HighestFirst c.args.most (filter (λ e. accepts e.0) (walk t)))) wanted c.best_matching.ensures in
    others_told _ _ (λ told. map found_entry told.items) c.best_matching.result (map found_entry items) first others found none near
