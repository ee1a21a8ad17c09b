use Rattle.std.proofs.Common.{rules, ◌≡◌, ◌∷◌, ◌++◌, [], ℤ, ℕ, Vec, take}
use Rattle.cedarwood.specs.Ranges.{entries_with}
use Rattle.uses.proofs.PageLemmas.{all_found, one_more}
use Rattle.uses.proofs.autocomplete.complete.Goals as goal

pub loop-entry-preserved : goal.loop-entry-preserved
loop-entry-preserved g c =
    let pushed : c.push.new.self.items ≡ c.loop-entry.found.items ++ c.in_ok-entry.field-0 ∷ [] = search rules in
    let next : c.loop-entry.entry-iterator.iter ≡ (c.in_ok-entry.field-0.0.items, c.in_ok-entry.field-0.1) ∷ c.next.new.self.iter = search rules in
    rw (pushed) (one_more (λ (e : Vec ℕ g.row.A.Denot × ℤ). (e.0.items, e.1)) c.loop-entry.found.items c.in_ok-entry.field-0 c.loop-entry.entry-iterator.n c.next.new.self.n
    c.loop-entry.entry-iterator.iter c.next.new.self.iter (take c.args.most (entries_with c.args.words.now.state.tree c.args.typed.now)) c.loop-entry.invariant next c.in-Some.ensures.steps.1)

pub returns : goal.returns
returns g c =
    all_found (λ (e : Vec ℕ g.row.A.Denot × ℤ). (e.0.items, e.1)) c.loop-entry.found.items c.loop-entry.entry-iterator.n c.loop-entry.entry-iterator.iter
    (take c.args.most (entries_with c.args.words.now.state.tree c.args.typed.now)) c.loop-entry.invariant (λ more. (c.in-None.ensures.steps more).0)
