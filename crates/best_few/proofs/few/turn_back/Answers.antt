use Rattle.std.proofs.Common.{rules, ◌≡◌, ◌+◌, ◌<◌, ◌≤◌, ℕ, ℤ, suc, length, map, slice_set, slice_index_or, ap, sym, subst, ◌∙◌, arith, FitsSigned, to_z, of_z, w32, Vec}
use Rattle.std.proofs.lemmas.Int.{to_z-of_z}
use Rattle.std.proofs.lemmas.List.{get_or_default, length-set}
use Rattle.best_few.specs.Orders.{found_entry, turn_of, turned_entry}
use Rattle.best_few.proofs.HeapLemmas.{length_found}
use Rattle.best_few.proofs.TurnLemmas.{all_turned, one_turned, turned_front}
use Rattle.best_few.proofs.few.turn_back.Goals as goal

pub loop-index-preserved : goal.loop-index-preserved
loop-index-preserved g c =
    let order = c.args.order in
    let i = c.loop-index.index in
    let items = c.loop-index.found.items in
    let first = map found_entry c.args.found.now.items in
    let was : ℤ × Vec ℕ g.row.A.Denot = c.index.result.now in
    let now : ℤ × Vec ℕ g.row.A.Denot = c.index_mut.result.now in
    let item : ℤ × Vec ℕ g.row.A.Denot = (to_z w32 (of_z w32 c.turn.result), now.1) in
    let low : i < length items = search rules in
    let fits : FitsSigned w32 c.turn.result = search rules in
    let given : FitsSigned w32 was.0 = search rules in
    let number : to_z w32 (of_z w32 c.turn.result) ≡ turn_of order was.0 = to_z-of_z w32 c.turn.result fits ∙ c.turn.ensures ∙ ap (turn_of order) (to_z-of_z w32 was.0 given) in
    let read : was ≡ slice_index_or items i now = c.index.ensures ∙ get_or_default items i was now low in
    let at : found_entry item ≡ turned_entry order (found_entry (slice_index_or items i now)) =
    (let value = number ∙ ap (λ (z : ℤ × Vec ℕ g.row.A.Denot). turn_of order z.0) read in let key = c.index_mut.ensures.value in λ k. ((key k).1.items, value k)) in
    let next : i + 1 ≡ suc i = omega arith in (
      length-set items i item ∙ c.loop-index.invariant.0,
      subst (λ n. map found_entry (slice_set items i item) ≡ turned_front order n first) (sym next) (one_turned order i items first item now low c.loop-index.invariant.1 at),
    )

pub returns : goal.returns
returns g c =
    let first = map found_entry c.args.found.now.items in
    let same = length_found c.args.found.now.items in
    let all : length c.args.found.now.items ≤ c.loop-index.index = search rules in
    c.loop-index.invariant.1 ∙ all_turned c.args.order c.loop-index.index first (omega (arith, same, all))
