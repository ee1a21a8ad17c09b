use Rattle.std.proofs.Common.{◌∙◌, ◌-◌, ◌++◌, [], ◌∷◌, ap, arith, get_or, length}
use Rattle.cedar_scan.proofs.NodesLemmas.{all_listed, depth_small, listed_more, listed_none, next_deep, next_small}
use Rattle.cedar_scan.proofs.nodes.list_nodes.Goals as goal

pub loop-next-init : goal.loop-next-init
loop-next-init g c =
    listed_none g.T.Walked.slots (g.T.Walked.shown c.args.trie.now) c.requires c.new-nodes.result.items c.in_ok-way.way.items c.new-nodes.ensures.items c.in_ok-way.ensures

pub slot_above-parent-requires-clause-below : goal.slot_above-parent-requires-clause-below
slot_above-parent-requires-clause-below g c =
    let i = c.loop-next.invariant in
    (next_deep g.T.Walked.slots (g.T.Walked.shown c.args.trie.now) c.requires c.loop-next.nodes.items c.loop-next.way.items c.loop-next.depth c.loop-next.at i c.in-Some.next (c.in-Some.ensures [] i.place)).0

pub slot_above-parent-requires-clause-within : goal.slot_above-parent-requires-clause-within
slot_above-parent-requires-clause-within g c =
    let i = c.loop-next.invariant in
    let deep = next_deep g.T.Walked.slots (g.T.Walked.shown c.args.trie.now) c.requires c.loop-next.nodes.items c.loop-next.way.items c.loop-next.depth c.loop-next.at i c.in-Some.next (c.in-Some.ensures [] i.place) in
    let most = deep.1 in
    let size = i.size in
    let same = ap length c.deref.ensures.value in
    omega (arith, most, size, same)

pub overflow_cast-slot : goal.overflow_cast-slot
overflow_cast-slot g c =
    let i = c.loop-next.invariant in
    let small = next_small g.T.Walked.slots (g.T.Walked.shown c.args.trie.now) c.requires c.loop-next.nodes.items c.loop-next.way.items c.loop-next.depth c.loop-next.at i c.in-Some.next (c.in-Some.ensures [] i.place) in
    omega (arith, small)

pub overflow_cast-below : goal.overflow_cast-below
overflow_cast-below g c =
    let i = c.loop-next.invariant in
    let small = depth_small g.T.Walked.slots (g.T.Walked.shown c.args.trie.now) c.requires c.loop-next.nodes.items c.loop-next.way.items c.loop-next.depth c.loop-next.at i c.in-Some.next (c.in-Some.ensures [] i.place) in
    omega (arith, small)

pub loop-next-smaller : goal.loop-next-smaller
loop-next-smaller g c =
    let comes = c.in-Some.ensures [] c.loop-next.invariant.place in
    let one = ap length comes.visits in
    omega (arith, one)

pub loop-next-preserved : goal.loop-next-preserved
loop-next-preserved g c =
    let i = c.loop-next.invariant in
    let above = c.slot_above-parent.ensures ∙ ap (λ w. get_or w (c.in-Some.next.depth - 1) 0) c.deref.ensures.value in
    listed_more g.T.Walked.slots (g.T.Walked.shown c.args.trie.now) c.requires c.loop-next.nodes.items c.loop-next.way.items c.loop-next.depth c.loop-next.at i c.in-Some.next (c.in-Some.ensures [] i.place)
    c.push.new.self.items c.push-in-Some.new.self.items c.slot_above-parent.result above c.in_ok-push.ensures.items
    (c.in_ok-push-2.ensures.items ∙ ap (λ w. w ++ c.in-Some.next.slot ∷ []) c.truncate.ensures.items)

pub returns : goal.returns
returns g c =
    let i = c.loop-next.invariant in
    all_listed g.T.Walked.slots (g.T.Walked.shown c.args.trie.now) c.requires c.loop-next.nodes.items c.loop-next.way.items c.loop-next.depth c.loop-next.at i (c.in_default.ensures [] i.place)
