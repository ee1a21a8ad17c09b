use Rattle.std.proofs.Common.{◌≡◌, ◌∙◌, ◌++◌, [], ◌∷◌, ap, arith, FitsSigned, length, refl, rules, w32}
use Rattle.std.proofs.lemmas.Int.{to_z-of_z}
use Rattle.cedar_tree.specs.Walks.{visited_entries}
use Rattle.cedar_walk.specs.Visits.{left_at}
use Rattle.cedarwood.proofs.EntriesLemmas.{all_left, comes_here, comes_to, ends_here, passes, stepped}
use Rattle.cedarwood.proofs.queries.entries.first_entry.Goals as goal

pub loop-next-init : goal.loop-next-init
loop-next-init g c = record { place = record { below = c.requires.place.below; path = c.requires.place.path }; entries = refl }

pub overflow_sub-next : goal.overflow_sub-next
overflow_sub-next g c =
    let T = g.T.Walked.shown c.args.trie.now in
    let len : c.len.result ≡ length c.loop-next.key.items = omega (arith, c.len.ensures, c.loop-next.key.ok) in
    let comes = comes_here T c.loop-next.key.items c.loop-next.at c.len.result c.in-Some.next len c.loop-next.invariant.place c.in-Some.ensures in
    omega (arith, comes.deep.0)

pub returns-in-Some-number : goal.returns-in-Some-number
returns-in-Some-number g c =
    let T = g.T.Walked.shown c.args.trie.now in
    let i = c.loop-next.invariant in
    let start = c.args.key.now.items in
    let key = c.loop-next.key.items in
    let len : c.len.result ≡ length key = omega (arith, c.len.ensures, c.loop-next.key.ok) in
    let comes = comes_here T key c.loop-next.at c.len.result c.in-Some.next len i.place c.in-Some.ensures in
    let longer = c.in_ok-push.ensures.items ∙ ap (λ w. w ++ c.in-Some.next.label ∷ []) c.truncate.ensures.items in
    let fits : FitsSigned w32 c.in-Some-number.number = search rules in
    comes_to g.T.Walked.slots T (visited_entries (left_at T [] (length start) 0)) key c.loop-next.at c.in-Some.next c.push.new.self.items c.in-Some-number.number _ c.requires.well_formed
    (all_left g.T.Walked.slots T start c.requires.well_formed c.requires.place) i.entries (stepped T key c.loop-next.at c.in-Some.next c.push.new.self.items i.place comes longer) c.in-Some-number.is
    (to_z-of_z w32 c.in-Some-number.number fits)

pub loop-next-smaller : goal.loop-next-smaller
loop-next-smaller g c =
    let T = g.T.Walked.shown c.args.trie.now in
    let i = c.loop-next.invariant in
    let key = c.loop-next.key.items in
    let len : c.len.result ≡ length key = omega (arith, c.len.ensures, c.loop-next.key.ok) in
    let comes = comes_here T key c.loop-next.at c.len.result c.in-Some.next len i.place c.in-Some.ensures in
    let longer = c.in_ok-push.ensures.items ∙ ap (λ w. w ++ c.in-Some.next.label ∷ []) c.truncate.ensures.items in
    let step = stepped T key c.loop-next.at c.in-Some.next c.push.new.self.items i.place comes longer in
    omega (arith, ap length step.visits)

pub loop-next-preserved : goal.loop-next-preserved
loop-next-preserved g c =
    let T = g.T.Walked.shown c.args.trie.now in
    let i = c.loop-next.invariant in
    let key = c.loop-next.key.items in
    let len : c.len.result ≡ length key = omega (arith, c.len.ensures, c.loop-next.key.ok) in
    let comes = comes_here T key c.loop-next.at c.len.result c.in-Some.next len i.place c.in-Some.ensures in
    let longer = c.in_ok-push.ensures.items ∙ ap (λ w. w ++ c.in-Some.next.label ∷ []) c.truncate.ensures.items in
    let step = stepped T key c.loop-next.at c.in-Some.next c.push.new.self.items i.place comes longer in
    record { place = step.place; entries = i.entries ∙ passes T key c.loop-next.at c.in-Some.next c.push.new.self.items step c.in_default-number.is }

pub returns : goal.returns
returns g c =
    let T = g.T.Walked.shown c.args.trie.now in
    let i = c.loop-next.invariant in
    let len : c.len.result ≡ length c.loop-next.key.items = omega (arith, c.len.ensures, c.loop-next.key.ok) in
    ends_here T (visited_entries (left_at T [] (length c.args.key.now.items) 0)) c.loop-next.key.items c.loop-next.at c.len.result len i.place i.entries c.in_default.ensures
