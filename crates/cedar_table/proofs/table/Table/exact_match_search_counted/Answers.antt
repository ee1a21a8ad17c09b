use Rattle.std.proofs.Common.{◌≡◌, ◌≤◌, ◌+◌, ◌-◌, ap, sym, ◌∙◌, arith, rules, refl, Some, None, ℤ, w32, FitsSigned, length, get_or, take, drop}
use Rattle.std.proofs.lemmas.Int.{to_z-of_z}
use Rattle.cedar_model.specs.Tree.{number_at}
use Rattle.cedar_table.specs.Table.Views.{fields}
use Rattle.cedar_model.specs.Meaning.WellFormed.{tree_of}
use Rattle.cedar_model.proofs.MeaningLemmas.TreeOf.{root_place}
use Rattle.cedar_model.proofs.MeaningLemmas.SearchStep.{step_down, step_off, at_end, exact_is}
use Rattle.cedar_table.proofs.SearchLemmas.{under_1, under_2, under_3, under_4, down_1, down_2, down_3, down_4, left_4}
use Rattle.cedar_table.proofs.table.Table.exact_match_search_counted.Goals as goal

pub loop-rest-init : goal.loop-rest-init
loop-rest-init g c =
    let T = fields c.args.self.now in
    (omega arith, omega (arith, c.args.self.now.shaped.blocks.some), (tree_of T, root_place g.row.SLOTS T c.requires, refl))

pub returns-in_err-node-clause-answer : goal.returns-in_err-node-clause-answer
returns-in_err-node-clause-answer g c =
    let i = c.loop-rest.invariant in let q = c.loop-rest.rest.now in
    let off : number_at i.2.0 q ≡ None = step_off i.2.0 q 0 (get_or q 0 0) (omega (arith, c.in-len4-up.len_at_least)) refl (c.in_err-node.ensures.answer i.2.0 i.2.1) in
    c.from_residual.ensures ∙ sym (exact_is (tree_of (fields c.args.self.now)) c.args.key.now None (i.2.2 ∙ off))

pub follow-requires-in-len4-up : goal.follow-requires-in-len4-up
follow-requires-in-len4-up g c =
    let i = c.loop-rest.invariant in
    let w = c.in_ok-node.ensures.answer i.2.0 i.2.1 in
    (search rules, (w.0, (_, w.1)))

pub returns-in_err-node-2-clause-answer : goal.returns-in_err-node-2-clause-answer
returns-in_err-node-2-clause-answer g c =
    let i = c.loop-rest.invariant in let q = c.loop-rest.rest.now in
    let long : 4 ≤ length q = omega (arith, c.in-len4-up.len_at_least) in
    let w = c.in_ok-node.ensures.answer i.2.0 i.2.1 in
    let off : number_at (under_1 i.2.0 q) (drop 1 q) ≡ None = step_off (under_1 i.2.0 q) q 1 (get_or q 1 0) (omega arith) refl (c.in_err-node-2.ensures.answer (under_1 i.2.0 q) w.1) in
    c.from_residual-in_err-node-2.ensures ∙ sym (exact_is (tree_of (fields c.args.self.now)) c.args.key.now None (i.2.2 ∙ (down_1 i.2.0 q long ∙ off)))

pub follow-requires-in-len4-up-2 : goal.follow-requires-in-len4-up-2
follow-requires-in-len4-up-2 g c =
    let i = c.loop-rest.invariant in let q = c.loop-rest.rest.now in
    let w = c.in_ok-node.ensures.answer i.2.0 i.2.1 in
    let x = c.in_ok-node-2.ensures.answer (under_1 i.2.0 q) w.1 in
    (search rules, (x.0, (_, x.1)))

pub returns-in_err-node-3-clause-answer : goal.returns-in_err-node-3-clause-answer
returns-in_err-node-3-clause-answer g c =
    let i = c.loop-rest.invariant in let q = c.loop-rest.rest.now in
    let long : 4 ≤ length q = omega (arith, c.in-len4-up.len_at_least) in
    let w = c.in_ok-node.ensures.answer i.2.0 i.2.1 in
    let x = c.in_ok-node-2.ensures.answer (under_1 i.2.0 q) w.1 in
    let off : number_at (under_2 i.2.0 q) (drop 2 q) ≡ None = step_off (under_2 i.2.0 q) q 2 (get_or q 2 0) (omega arith) refl (c.in_err-node-3.ensures.answer (under_2 i.2.0 q) x.1) in
    c.from_residual-in_err-node-3.ensures ∙ sym (exact_is (tree_of (fields c.args.self.now)) c.args.key.now None (i.2.2 ∙ (down_2 i.2.0 q long ∙ off)))

pub follow-requires-in-len4-up-3 : goal.follow-requires-in-len4-up-3
follow-requires-in-len4-up-3 g c =
    let i = c.loop-rest.invariant in let q = c.loop-rest.rest.now in
    let w = c.in_ok-node.ensures.answer i.2.0 i.2.1 in
    let x = c.in_ok-node-2.ensures.answer (under_1 i.2.0 q) w.1 in
    let y = c.in_ok-node-3.ensures.answer (under_2 i.2.0 q) x.1 in
    (search (rules, c.requires-raw), (y.0, (_, y.1)))

pub returns-in_err-node-4-clause-answer : goal.returns-in_err-node-4-clause-answer
returns-in_err-node-4-clause-answer g c =
    let i = c.loop-rest.invariant in let q = c.loop-rest.rest.now in
    let long : 4 ≤ length q = omega (arith, c.in-len4-up.len_at_least) in
    let w = c.in_ok-node.ensures.answer i.2.0 i.2.1 in
    let x = c.in_ok-node-2.ensures.answer (under_1 i.2.0 q) w.1 in
    let y = c.in_ok-node-3.ensures.answer (under_2 i.2.0 q) x.1 in
    let off : number_at (under_3 i.2.0 q) (drop 3 q) ≡ None = step_off (under_3 i.2.0 q) q 3 (get_or q 3 0) (omega arith) refl (c.in_err-node-4.ensures.answer (under_3 i.2.0 q) y.1) in
    c.from_residual-in_err-node-4.ensures ∙ sym (exact_is (tree_of (fields c.args.self.now)) c.args.key.now None (i.2.2 ∙ (down_3 i.2.0 q long ∙ off)))

pub loop-rest-smaller : goal.loop-rest-smaller
loop-rest-smaller g c =
    let i = c.loop-rest.invariant in let q = c.loop-rest.rest.now in
    let long : 4 ≤ length q = omega (arith, c.in-len4-up.len_at_least) in
    omega (arith, left_4 i.2.0 q long)

pub loop-rest-preserved : goal.loop-rest-preserved
loop-rest-preserved g c =
    let i = c.loop-rest.invariant in let q = c.loop-rest.rest.now in
    let long : 4 ≤ length q = omega (arith, c.in-len4-up.len_at_least) in
    let w = c.in_ok-node.ensures.answer i.2.0 i.2.1 in
    let x = c.in_ok-node-2.ensures.answer (under_1 i.2.0 q) w.1 in
    let y = c.in_ok-node-3.ensures.answer (under_2 i.2.0 q) x.1 in
    let z = c.in_ok-node-4.ensures.answer (under_3 i.2.0 q) y.1 in
    let counted : c.follow-in-len4-up-3.new.ticks ≡ c.loop-rest.ticks + 4 = omega (arith, c.in_ok-node.ensures.found, c.in_ok-node-2.ensures.found, c.in_ok-node-3.ensures.found, c.in_ok-node-4.ensures.found) in
    let sum : c.follow-in-len4-up-3.new.ticks + length (take (length q - 4) (drop 4 q)) ≡ c.loop-rest.ticks + length q = omega (arith, counted, left_4 i.2.0 q long, long) in
    (sum ∙ i.0, z.0, (under_4 i.2.0 q, z.1, i.2.2 ∙ down_4 i.2.0 q long))

pub loop-label-init : goal.loop-label-init
loop-label-init g c = let i = c.loop-rest.invariant in (omega arith, i.1, i.2)

pub returns-in_err-node-5-clause-answer : goal.returns-in_err-node-5-clause-answer
returns-in_err-node-5-clause-answer g c =
    let i = c.loop-label.invariant in let q = c.loop-rest.rest.now in let n = c.loop-label.label-index in
    let off : number_at i.2.0 (drop n q) ≡ None = step_off i.2.0 q n (get_or q n 0) c.loop-label-test.true refl (c.in_err-node-5.ensures.answer i.2.0 i.2.1) in
    c.from_residual-in_err-node-5.ensures ∙ sym (exact_is (tree_of (fields c.args.self.now)) c.args.key.now None (i.2.2 ∙ off))

pub loop-label-preserved : goal.loop-label-preserved
loop-label-preserved g c =
    let i = c.loop-label.invariant in let q = c.loop-rest.rest.now in let n = c.loop-label.label-index in
    let w = c.in_ok-node-5.ensures.answer i.2.0 i.2.1 in
    (omega (arith, i.0, c.in_ok-node-5.ensures.found), w.0, (_, w.1, i.2.2 ∙ step_down i.2.0 q n (get_or q n 0) c.loop-label-test.true refl))

pub returns-in_err-value-clause-answer : goal.returns-in_err-value-clause-answer
returns-in_err-value-clause-answer g c =
    let i = c.loop-label.invariant in let q = c.loop-rest.rest.now in
    let end : number_at i.2.0 (drop c.loop-label.label-index q) ≡ None = at_end i.2.0 q c.loop-label.label-index c.loop-label-test.false ∙ sym (c.in_err-value.ensures.answer i.2.0 i.2.1) in
    c.from_residual-in_err-value.ensures ∙ sym (exact_is (tree_of (fields c.args.self.now)) c.args.key.now None (i.2.2 ∙ end))

pub returns-clause-answer : goal.returns-clause-answer
returns-clause-answer g c =
    let i = c.loop-label.invariant in let q = c.loop-rest.rest.now in let k = c.args.key.now in
    let fits : FitsSigned w32 c.in_ok-value.value = search rules in
    let end : number_at i.2.0 (drop c.loop-label.label-index q) ≡ Some c.in_ok-value.value = at_end i.2.0 q c.loop-label.label-index c.loop-label-test.false ∙ sym (c.in_ok-value.ensures.answer i.2.0 i.2.1) in
    ap (λ (v : ℤ). Some (v, length k)) (to_z-of_z w32 c.in_ok-value.value fits)
    ∙ sym (exact_is (tree_of (fields c.args.self.now)) k (Some c.in_ok-value.value) (i.2.2 ∙ end))

pub returns-in_err-node-clause-cost : goal.returns-in_err-node-clause-cost
returns-in_err-node-clause-cost g c = omega (arith, c.loop-rest.invariant.0, c.in-len4-up.len_at_least, c.in_err-node.ensures.cost)

pub returns-in_err-node-2-clause-cost : goal.returns-in_err-node-2-clause-cost
returns-in_err-node-2-clause-cost g c = omega (arith, c.loop-rest.invariant.0, c.in-len4-up.len_at_least, c.in_ok-node.ensures.found, c.in_err-node-2.ensures.cost)

pub returns-in_err-node-3-clause-cost : goal.returns-in_err-node-3-clause-cost
returns-in_err-node-3-clause-cost g c = omega (arith, c.loop-rest.invariant.0, c.in-len4-up.len_at_least, c.in_ok-node.ensures.found, c.in_ok-node-2.ensures.found, c.in_err-node-3.ensures.cost)

pub returns-in_err-node-4-clause-cost : goal.returns-in_err-node-4-clause-cost
returns-in_err-node-4-clause-cost g c = omega (arith, c.loop-rest.invariant.0, c.in-len4-up.len_at_least, c.in_ok-node.ensures.found, c.in_ok-node-2.ensures.found, c.in_ok-node-3.ensures.found, c.in_err-node-4.ensures.cost)

pub returns-in_err-node-5-clause-cost : goal.returns-in_err-node-5-clause-cost
returns-in_err-node-5-clause-cost g c = omega (arith, c.loop-rest.invariant.0, c.loop-label.invariant.0, c.loop-label-test.true, c.in_err-node-5.ensures.cost)

pub returns-in_err-value-clause-cost : goal.returns-in_err-value-clause-cost
returns-in_err-value-clause-cost g c = omega (arith, c.loop-rest.invariant.0, c.loop-label.invariant.0, c.loop-label-test.false, c.loop-label.auto.label-index-end, c.in_err-value.ensures.cost)

pub returns-clause-cost : goal.returns-clause-cost
returns-clause-cost g c = omega (arith, c.loop-rest.invariant.0, c.loop-label.invariant.0, c.loop-label-test.false, c.loop-label.auto.label-index-end, c.in_ok-value.ensures.cost)

pub returns-clause-least : goal.returns-clause-least
returns-clause-least g c = omega (arith, c.loop-rest.invariant.0, c.loop-label.invariant.0, c.loop-label-test.false, c.in_ok-value.ensures.grows)

pub returns-in_err-node-clause-least : goal.returns-in_err-node-clause-least
returns-in_err-node-clause-least g c = rw c.from_residual.ensures tt

pub returns-in_err-node-2-clause-least : goal.returns-in_err-node-2-clause-least
returns-in_err-node-2-clause-least g c = rw c.from_residual-in_err-node-2.ensures tt

pub returns-in_err-node-3-clause-least : goal.returns-in_err-node-3-clause-least
returns-in_err-node-3-clause-least g c = rw c.from_residual-in_err-node-3.ensures tt

pub returns-in_err-node-4-clause-least : goal.returns-in_err-node-4-clause-least
returns-in_err-node-4-clause-least g c = rw c.from_residual-in_err-node-4.ensures tt

pub returns-in_err-node-5-clause-least : goal.returns-in_err-node-5-clause-least
returns-in_err-node-5-clause-least g c = rw c.from_residual-in_err-node-5.ensures tt

pub returns-in_err-value-clause-least : goal.returns-in_err-value-clause-least
returns-in_err-value-clause-least g c = rw c.from_residual-in_err-value.ensures tt
