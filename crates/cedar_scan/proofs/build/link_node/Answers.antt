use Rattle.std.proofs.Common.{◌^◌, ◌<◌, arith}
use Rattle.cedar_scan.specs.Places.{placed_by}
use Rattle.cedar_scan.proofs.LinkLemmas.{failure_in, failure_small, links, lists_key}
use Rattle.cedar_scan.proofs.build.link_node.Goals as goal

pub offset_bounds-states-failure : goal.offset_bounds-states-failure
offset_bounds-states-failure g c =
    let small : c.failure_of-failure.result < 2 ^ 30 = failure_small (g.T.Placed.tree c.args.trie.now) (placed_by c.args.places.now (g.T.Placed.slot_of c.args.trie.now)) c.args.states.now c.args.node c.requires.can c.failure_of-failure.result c.failure_of-failure.ensures in
    omega (arith, small)

pub bounds-states-failure : goal.bounds-states-failure
bounds-states-failure g c = failure_in (g.T.Placed.tree c.args.trie.now) (placed_by c.args.places.now (g.T.Placed.slot_of c.args.trie.now)) c.args.states.now c.args.node c.requires.can c.failure_of-failure.result c.failure_of-failure.ensures

pub overflow_cast-state-2 : goal.overflow_cast-state-2
overflow_cast-state-2 g c =
    let small : c.failure_of-failure.result < 2 ^ 30 = failure_small (g.T.Placed.tree c.args.trie.now) (placed_by c.args.places.now (g.T.Placed.slot_of c.args.trie.now)) c.args.states.now c.args.node c.requires.can c.failure_of-failure.result c.failure_of-failure.ensures in
    omega (arith, small)

pub returns : goal.returns
returns g c =
    let t = g.T.Placed.tree c.args.trie.now in
    let slots = placed_by c.args.places.now (g.T.Placed.slot_of c.args.trie.now) in
    let to = c.failure_of-failure.result in
    let keys = c.args.keys.now.items in
    let more = c.list_key.new.keys.items in
    links t slots c.args.states.now c.args.node c.requires.can to c.failure_of-failure.ensures keys c.requires.listed c.in_ok-output.output more
    (lists_key t slots c.args.states.now c.args.node c.requires.can to c.failure_of-failure.ensures keys c.requires.listed c.in_ok-output.output more c.in_ok-output.ensures)
