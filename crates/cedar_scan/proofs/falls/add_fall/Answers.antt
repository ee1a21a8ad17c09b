use Rattle.std.proofs.Common.{◌∙◌, arith, refl}
use Rattle.cedar_scan.specs.Places.{placed_by}
use Rattle.cedar_scan.proofs.FallLemmas.{adds_fall, own_inside, to_small}
use Rattle.cedar_scan.proofs.falls.add_fall.Goals as goal

pub overflow_cast-falls : goal.overflow_cast-falls
overflow_cast-falls g c = let small = to_small (g.T.Placed.tree c.args.trie.now) (placed_by c.args.places.now (g.T.Placed.slot_of c.args.trie.now)) c.args.states.now c.args.falls.now c.args.popped.now.items c.args.node c.requires c.in_ok-to.to c.fall_of.new.popped.items c.in_ok-to.ensures in omega (arith, small)

pub bounds-falls-node : goal.bounds-falls-node
bounds-falls-node g c = own_inside (g.T.Placed.tree c.args.trie.now) (placed_by c.args.places.now (g.T.Placed.slot_of c.args.trie.now)) c.args.states.now c.args.falls.now c.args.popped.now.items c.args.node c.requires

pub returns : goal.returns
returns g c = adds_fall (g.T.Placed.tree c.args.trie.now) (placed_by c.args.places.now (g.T.Placed.slot_of c.args.trie.now)) c.args.states.now c.args.falls.now c.args.popped.now.items c.args.node c.requires c.in_ok-to.to c.fall_of.new.popped.items c.in_ok-to.ensures _ (c.in-Ok.ensures.1 ∙ c.len.ensures ∙ (let same = c.args.popped.now.ok in omega (arith, same)))
    (c.in-Ok-try_from.ensures.1 ∙ c.len-2.ensures ∙ (let same = c.fall_of.new.popped.ok in omega (arith, same))) refl refl
