use Rattle.std.proofs.Common.{◌≡◌, ◌∙◌, ◌+◌, ◌-◌, ◌∷◌, [], ℕ, ℤ, FitsSigned, ap, arith, rules, sym, w32}
use Rattle.std.proofs.lemmas.Int.{to_z-of_z}
use Rattle.cedar_scan.specs.Scans.{all_left}
use Rattle.cedar_scan.specs.Walks.{ScanLeft}
use Rattle.cedar_scan.proofs.overlapping.Overlapping.next_counted.Goals as goal

pub invariant_of-self : goal.invariant_of-self
invariant_of-self g c = (c.self.invariant.0, (c.in_default.ensures.gives [] 0 c.self.invariant.1).cursor)

pub returns-in_default-clause-gives : goal.returns-in_default-clause-gives
returns-in_default-clause-gives g c =
    let end = c.in_default.ensures.gives [] 0 c.self.invariant.1 in
    (sym (ap (λ (w : ScanLeft). w.rest) c.self.view_is) ∙ end.spots, end.later)

pub overflow_sub-result : goal.overflow_sub-result
overflow_sub-result g c = let within = (c.in-Some.ensures.gives [] 0 c.self.invariant.1).within in omega (arith, within)

pub invariant_of-self-2 : goal.invariant_of-self-2
invariant_of-self-2 g c = (c.self.invariant.0, (c.in-Some.ensures.gives [] 0 c.self.invariant.1).cursor)

pub returns-clause-gives : goal.returns-clause-gives
returns-clause-gives g c =
    let gives = c.in-Some.ensures.gives [] 0 c.self.invariant.1 in
    let left = all_left (g.T.Placed.tree c.self.inside.trie.now) c.self.inside.keys.now [] 0 c.self.inside.text.now c.next_found.new.cursor in
    let found = c.in-Some.found in
    let fits : FitsSigned w32 found.value = search rules in
    let place : 0 + c.next_found.new.cursor.place - found.len ≡ c.next_found.new.cursor.place - found.len = omega arith in
    sym (ap (λ (w : ScanLeft). w.rest) c.self.view_is) ∙ gives.spots
    ∙ ap (λ (n : ℕ). (n, found.len, found.value) ∷ left) place
    ∙ ap (λ (v : ℤ). (c.next_found.new.cursor.place - found.len, found.len, v) ∷ left) (sym (to_z-of_z w32 found.value fits))
