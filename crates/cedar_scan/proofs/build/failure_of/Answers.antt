use Rattle.cedar_scan.specs.Automata.{slot_of_path, state_at}
use Rattle.cedar_scan.specs.Places.{placed_by}
use Rattle.cedar_scan.proofs.LinkLemmas.{above_inside, fails_on, fails_to_root, step_from_above}
use Rattle.cedar_scan.proofs.PlacingLemmas.{is_reached, same_goes, same_step}
use Rattle.cedar_scan.proofs.build.failure_of.Goals as goal

pub returns-then-node-eq0 : goal.returns-then-node-eq0
returns-then-node-eq0 g c =
    fails_to_root (g.T.Placed.tree c.args.trie.now) (placed_by c.args.places.now (g.T.Placed.slot_of c.args.trie.now)) c.args.states.now c.args.node c.requires c.if-node-eq0.true

pub bounds-states-node : goal.bounds-states-node
bounds-states-node g c = above_inside (g.T.Placed.tree c.args.trie.now) (placed_by c.args.places.now (g.T.Placed.slot_of c.args.trie.now)) c.args.states.now c.args.node c.requires

pub step-requires : goal.step-requires
step-requires g c =
    let t = g.T.Placed.tree c.args.trie.now in
    let slots = placed_by c.args.places.now (g.T.Placed.slot_of c.args.trie.now) in
    let states = c.args.states.now in
    same_step t slots (slot_of_path states) (is_reached t slots states c.requires.placing c.requires.goto) states (state_at states c.args.node.parent).failure (step_from_above t slots states c.args.node c.requires)

pub returns : goal.returns
returns g c =
    let t = g.T.Placed.tree c.args.trie.now in
    let slots = placed_by c.args.places.now (g.T.Placed.slot_of c.args.trie.now) in
    let states = c.args.states.now in
    fails_on t slots states c.args.node c.requires c.if-node-eq0.false c.step.result
    (same_goes t slots (slot_of_path states) (is_reached t slots states c.requires.placing c.requires.goto) (state_at states c.args.node.parent).failure c.args.node.label c.step.result c.step.ensures.goes)
