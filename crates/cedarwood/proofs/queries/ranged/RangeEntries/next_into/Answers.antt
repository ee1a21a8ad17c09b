use Rattle.std.proofs.Common.{◌≡◌, ◌<◌, ◌∙◌, [], ◌∷◌, ap, arith, FitsSigned, length, option_map, refl, rules, Some, subst, sym, w32, ℤ, List, ℕ}
use Rattle.std.specs.Prelude.{vec_capacity}
use Rattle.std.specs.List.{filter}
use Rattle.std.specs.Borrow.{Bor}
use Rattle.std.proofs.lemmas.Bool.{true≢false}
use Rattle.std.proofs.lemmas.Int.{to_z-of_z}
use Rattle.cedar_tree.specs.Queries.{Entry}
use Rattle.cedar_tree.specs.Walks.{visited_entries}
use Rattle.cedar_walk.specs.Keys.{KeyOutgrows}
use Rattle.cedar_walk.specs.Visits.{left_at}
use Rattle.cedar_walk.proofs.WalkLemmas.Keys.{long_path}
use Rattle.cedarwood.specs.RangeWalks.{entries_left_before, follows_end, IsEnd, IsRangePlace}
use Rattle.cedarwood.proofs.BoundedLemmas.{ended, goes_on, next_outgrows, some_left, step_of}
use Rattle.cedarwood.proofs.RangeLemmas.{range_place, ranged_is}
use Rattle.cedarwood.proofs.queries.ranged.RangeEntries.next_into.Goals as goal

pub returns-then-ends_at-clause-found : goal.returns-then-ends_at-clause-found
returns-then-ends_at-clause-found g c =
    let T = g.T.Walked.shown c.self.inside.trie.now in
    let start = c.self.inside.start.now in
    let to = option_map (λ (bound : Bor (List ℕ)). bound.now) c.self.inside.to in
    let i = c.self.invariant in
    let next = c.in-Some.next in
    let last = c.ends_at.ensures.0 c.if-ends_at.true in
    let here = subst (IsRangePlace T start) c.in-Some.is i.1 in
    let there = subst (IsRangePlace T start) last.1 i.2 in
    let end = subst (IsEnd T start to (Some next)) last.1 (subst (λ x. IsEnd T start to x c.self.inside.end) c.in-Some.is i.3) in
    let gone = sym c.self.view_is ∙ ap (entries_left_before T start to) c.in-Some.is ∙ ended g.T.Walked.slots T i.0 start next last.0 here there to end (sym last.2) in
    (gone, gone)

pub invariant_of-self : goal.invariant_of-self
invariant_of-self g c =
    let T = g.T.Walked.shown c.self.inside.trie.now in
    let start = c.self.inside.start.now in
    let to = option_map (λ (bound : Bor (List ℕ)). bound.now) c.self.inside.to in
    let i = c.self.invariant in
    let next = c.in-Some.next in
    let here = subst (IsRangePlace T start) c.in-Some.is i.1 in
    let end = subst (λ x. IsEnd T start to x c.self.inside.end) c.in-Some.is i.3 in
    let found = c.next_numbered-self-inside.result in
    let left = visited_entries (left_at T start next.depth next.slot) in
    let comes = c.next_numbered-self-inside.ensures start here.0 in
    let on = goes_on g.T.Walked.slots T i.0 start next here to c.self.inside.end i.2 end (λ e is same. true≢false (sym (c.ends_at.ensures.1 (e, is, sym same)) ∙ c.if-ends_at.false)) in
    (i.0, range_place T start left found comes, i.2, ap (filter (λ (e : Entry). follows_end to e.0)) (ranged_is T start left found comes) ∙ on.1)

pub returns-in-Ok-clause-found : goal.returns-in-Ok-clause-found
returns-in-Ok-clause-found g c =
    let T = g.T.Walked.shown c.self.inside.trie.now in
    let start = c.self.inside.start.now in
    let to = option_map (λ (bound : Bor (List ℕ)). bound.now) c.self.inside.to in
    let i = c.self.invariant in
    let next = c.in-Some.next in
    let here = subst (IsRangePlace T start) c.in-Some.is i.1 in
    let end = subst (λ x. IsEnd T start to x c.self.inside.end) c.in-Some.is i.3 in
    let found = c.next_numbered-self-inside.result in
    let comes = c.next_numbered-self-inside.ensures start here.0 in
    let on = goes_on g.T.Walked.slots T i.0 start next here to c.self.inside.end i.2 end (λ e is same. true≢false (sym (c.ends_at.ensures.1 (e, is, sym same)) ∙ c.if-ends_at.false)) in
    let fits : FitsSigned w32 c.in-Some.next.number = search rules in
    sym c.self.view_is
    ∙ ap (entries_left_before T start to) c.in-Some.is
    ∙ step_of T start to next found on.0 comes
    ∙ ap (λ (w : List ℕ). (w, next.number) ∷ entries_left_before T start to found) (sym c.in-Ok.ensures.written)
    ∙ ap (λ (v : ℤ). (c.write_key.new.key.items, v) ∷ entries_left_before T start to found) (sym (to_z-of_z w32 next.number fits))

pub returns-in-Err-clause-full : goal.returns-in-Err-clause-full
returns-in-Err-clause-full g c =
    let T = g.T.Walked.shown c.self.inside.trie.now in
    let start = c.self.inside.start.now in
    let to = option_map (λ (bound : Bor (List ℕ)). bound.now) c.self.inside.to in
    let i = c.self.invariant in
    let next = c.in-Some.next in
    let room = vec_capacity c.args.key.now in
    let here = subst (IsRangePlace T start) c.in-Some.is i.1 in
    let end = subst (λ x. IsEnd T start to x c.self.inside.end) c.in-Some.is i.3 in
    let on = goes_on g.T.Walked.slots T i.0 start next here to c.self.inside.end i.2 end (λ e is same. true≢false (sym (c.ends_at.ensures.1 (e, is, sym same)) ∙ c.if-ends_at.false)) in
    subst (KeyOutgrows room) (sym (ap (entries_left_before T start to) c.in-Some.is) ∙ c.self.view_is)
    (next_outgrows T start to next room on.0 (long_path T start next.depth next.slot room c.in-Err.ensures.full))
