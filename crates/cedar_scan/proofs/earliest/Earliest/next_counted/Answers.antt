use Rattle.std.proofs.Common.{◌≡◌, ◌∙◌, ◌+◌, ◌-◌, [], ◌∷◌, List, ℕ, ℤ, FitsSigned, ap, arith, drop, length, refl, rules, sym, take, w32}
use Rattle.std.proofs.lemmas.Int.{to_z-of_z}
use Rattle.std.proofs.lemmas.List.{length-drop, take_all}
use Rattle.cedar_scan.specs.Earliest.{earliest_from}
use Rattle.cedar_scan.specs.Walks.{ScanLeft}
use Rattle.cedar_scan.proofs.earliest.Earliest.next_counted.Goals as goal

-- what is left of a text behind a place
rest_of : (text : List ℕ) (end : ℕ) → take (length text - end) (drop end text) ≡ drop end text
rest_of text end = let left = length-drop end text in take_all (length text - end) (drop end text) (omega (arith, left))

pub invariant_of-self : goal.invariant_of-self
invariant_of-self g c = let fits = c.self.invariant.1 in (c.self.invariant.0, omega (arith, fits))

pub returns-in_default-clause-gives : goal.returns-in_default-clause-gives
returns-in_default-clause-gives g c = (sym (ap (λ (w : ScanLeft). w.rest) c.self.view_is) ∙ c.in_default.ensures.gives c.self.inside.offset, refl)

pub returns-in_default-clause-cost : goal.returns-in_default-clause-cost
returns-in_default-clause-cost g c =
    let steps = ap (λ (w : ScanLeft). w.steps) c.self.view_is in
    let cost = c.in_default.ensures.cost in
    omega (arith, steps, cost)

pub overflow_add-place : goal.overflow_add-place
overflow_add-place g c =
    let within = (c.in-Some.ensures.gives 0).within in
    let fits = c.self.invariant.1 in
    omega (arith, within, fits)

pub slice_bounds-self-start : goal.slice_bounds-self-start
slice_bounds-self-start g c = (c.in-Some.ensures.gives 0).within

pub overflow_sub-result : goal.overflow_sub-result
overflow_sub-result g c = let short = (c.in-Some.ensures.gives 0).short in omega (arith, short)

pub invariant_of-self-2 : goal.invariant_of-self-2
invariant_of-self-2 g c =
    let within = (c.in-Some.ensures.gives 0).within in
    let fits = c.self.invariant.1 in
    let long = ap length (rest_of c.self.inside.text.now c.in-Some.end) ∙ length-drop c.in-Some.end c.self.inside.text.now in
    (c.self.invariant.0, omega (arith, within, fits, long))

pub returns-clause-gives : goal.returns-clause-gives
returns-clause-gives g c =
    let t = g.T.Placed.tree c.self.inside.trie.now in
    let text = c.self.inside.text.now in
    let found = c.in-Some.found in
    let end = c.in-Some.end in
    let place = c.self.inside.offset + end in
    let fits : FitsSigned w32 found.value = search rules in
    sym (ap (λ (w : ScanLeft). w.rest) c.self.view_is) ∙ (c.in-Some.ensures.gives c.self.inside.offset).spots
    ∙ ap (λ (w : List ℕ). (place - found.len, found.len, found.value) ∷ earliest_from t [] place w) (sym (rest_of text end))
    ∙ ap (λ (v : ℤ). (place - found.len, found.len, v) ∷ earliest_from t [] place (take (length text - end) (drop end text))) (sym (to_z-of_z w32 found.value fits))

pub returns-clause-cost : goal.returns-clause-cost
returns-clause-cost g c =
    let steps = ap (λ (w : ScanLeft). w.steps) c.self.view_is in
    let cost = c.in-Some.ensures.cost in
    let within = (c.in-Some.ensures.gives 0).within in
    let long = ap length (rest_of c.self.inside.text.now c.in-Some.end) ∙ length-drop c.in-Some.end c.self.inside.text.now in
    omega (arith, steps, cost, within, long)
