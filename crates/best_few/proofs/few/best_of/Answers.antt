use Rattle.std.proofs.Common.{rules, ◌≡◌, ◌∷◌, ◌++◌, ◌≤◌, [], ℕ, ℤ, List, length, map, ap, sym, subst, ◌∙◌, arith, FitsSigned, to_z, of_z, w32}
use Rattle.std.proofs.lemmas.Int.{to_z-of_z}
use Rattle.std.proofs.lemmas.List.{take_all}
use Rattle.cedar_tree.specs.Queries.{Entry}
use Rattle.best_few.specs.Orders.{best, found_entry, sort_by_value, KeepsBest, turn_of, turned_entry}
use Rattle.best_few.specs.Words.{heap_items, heap_len, LowestFirst}
use Rattle.best_few.proofs.HeapLemmas.{comes_out, length_found, length_in_order}
use Rattle.best_few.proofs.OrderLemmas.{goes_on}
use Rattle.best_few.proofs.TurnLemmas.{best_turned}
use Rattle.best_few.proofs.few.best_of.Goals as goal

pub loop-kept-preserved : goal.loop-kept-preserved
loop-kept-preserved g c =
    let most = c.args.most in
    let turn = turned_entry c.args.order in
    let now = g.W.EntryWalk.left c.loop-kept.walk in
    let later = g.W.EntryWalk.left c.next_value.new.self in
    let old = heap_items c.loop-kept.kept in
    let new = heap_items c.offer.new.kept in
    let first : Entry = (g.W.EntryWalk.held c.next_value.new.self, c.in-Some.value) in
    let next : now ≡ first ∷ later = search rules in
    let key : c.held_key.result.now ≡ first.0 = c.held_key.ensures in
    let fits : FitsSigned w32 c.turn.result = search rules in
    let given : FitsSigned w32 c.in-Some.value = search rules in
    let number : to_z w32 (of_z w32 c.turn.result) ≡ turn_of c.args.order first.1 = to_z-of_z w32 c.turn.result fits ∙ c.turn.ensures ∙ ap (turn_of c.args.order) (to_z-of_z w32 c.in-Some.value given) in
    let best_is : KeepsBest most old (turn first) new = subst (λ (k : List ℕ). KeepsBest most old (k, turn_of c.args.order first.1) new) key (subst (λ (n : ℤ). KeepsBest most old (c.held_key.result.now, n) new) number c.in_ok-offer.ensures.best) in (
      c.in_ok-offer.ensures.heap,
      c.in_ok-offer.ensures.few,
      goes_on LowestFirst most (map turn later) (turn first) (map found_entry old) (map found_entry new) best_is
          ∙ ap (λ (es : List Entry). best LowestFirst most (map turn es ++ map found_entry old)) (sym next)
          ∙ c.loop-kept.invariant.2,
    )

pub returns : goal.returns
returns g c =
    let most = c.args.most in
    let turn = turned_entry c.args.order in
    let kept = heap_items c.loop-kept.kept in
    let all = g.W.EntryWalk.left c.args.walk.now in
    let none : g.W.EntryWalk.left c.loop-kept.walk ≡ [] = search rules in
    let few : heap_len c.loop-kept.kept ≤ most = c.loop-kept.invariant.1 in
    let long : length kept ≡ heap_len c.loop-kept.kept = search rules in
    let sorted = sort_by_value LowestFirst (map found_entry kept) in
    let out = comes_out kept c.into_sorted_vec-found.result.items c.into_sorted_vec-found.ensures.permutation (c.into_sorted_vec-found.ensures.sorted c.loop-kept.invariant.0) in
    let one = length_in_order LowestFirst (map found_entry kept) in
    let two = length_found kept in
    let ends : sorted ≡ best LowestFirst most (map turn all) =
    sym (take_all most sorted (omega (arith, one, two, long, few)))
    ∙ ap (λ (es : List Entry). best LowestFirst most (map turn es ++ map found_entry kept)) (sym none)
    ∙ c.loop-kept.invariant.2 in
    c.turn_back.ensures ∙ ap (map turn) (out ∙ ends) ∙ best_turned c.args.order most all
