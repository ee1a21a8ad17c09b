use Rattle.std.proofs.Common.{arith, refl, sym}
use Rattle.cedar_scan.specs.Places.{placed_by}
use Rattle.cedar_scan.proofs.FallLemmas.{ends_at_child, ends_at_root, fall_end, fall_inside, fall_range, falling, falls_down, falls_more, front_above, passes_byte, to_inside}
use Rattle.cedar_scan.proofs.falls.fall_on.Goals as goal

pub returns-then-node-eq0 : goal.returns-then-node-eq0
returns-then-node-eq0 g c = passes_byte (g.T.Placed.tree c.args.trie.now) (placed_by c.args.places.now (g.T.Placed.slot_of c.args.trie.now)) c.args.states.now c.args.falls.now c.args.popped.now.items c.args.node c.requires.can c.requires.none c.if-node-eq0.true

pub overflow_sub-front : goal.overflow_sub-front
overflow_sub-front g c = let deep = c.requires.can.is.depth in omega (arith, deep)

pub loop-slot-init : goal.loop-slot-init
loop-slot-init g c = falling (g.T.Placed.tree c.args.trie.now) (placed_by c.args.places.now (g.T.Placed.slot_of c.args.trie.now)) c.args.states.now c.args.falls.now c.args.popped.now.items c.args.node c.requires.can c.requires.none c.if-node-eq0.false

pub bounds-falls-slot : goal.bounds-falls-slot
bounds-falls-slot g c = fall_inside (g.T.Placed.tree c.args.trie.now) (placed_by c.args.places.now (g.T.Placed.slot_of c.args.trie.now)) c.args.states.now c.args.falls.now c.args.popped.now.items c.args.node c.requires.can c.requires.none c.loop-slot.slot c.loop-slot.popped.items c.loop-slot.invariant

pub overflow_sub-front-in-loop-slot : goal.overflow_sub-front-in-loop-slot
overflow_sub-front-in-loop-slot g c = front_above (g.T.Placed.tree c.args.trie.now) (placed_by c.args.places.now (g.T.Placed.slot_of c.args.trie.now)) c.args.states.now c.args.falls.now c.args.popped.now.items c.args.node c.requires.can c.requires.none c.loop-slot.slot c.loop-slot.popped.items c.loop-slot.invariant

pub copy_popped-requires-clause-range : goal.copy_popped-requires-clause-range
copy_popped-requires-clause-range g c = fall_range (g.T.Placed.tree c.args.trie.now) (placed_by c.args.places.now (g.T.Placed.slot_of c.args.trie.now)) c.args.states.now c.args.falls.now c.args.popped.now.items c.args.node c.requires.can c.requires.none c.loop-slot.slot c.loop-slot.popped.items c.loop-slot.invariant

pub copy_popped-requires-clause-inside : goal.copy_popped-requires-clause-inside
copy_popped-requires-clause-inside g c = fall_end (g.T.Placed.tree c.args.trie.now) (placed_by c.args.places.now (g.T.Placed.slot_of c.args.trie.now)) c.args.states.now c.args.falls.now c.args.popped.now.items c.args.node c.requires.can c.requires.none c.loop-slot.slot c.loop-slot.popped.items c.loop-slot.invariant

pub child_of-requires : goal.child_of-requires
child_of-requires g c = to_inside (g.T.Placed.tree c.args.trie.now) (placed_by c.args.places.now (g.T.Placed.slot_of c.args.trie.now)) c.args.states.now c.args.falls.now c.args.popped.now.items c.args.node c.requires.can c.requires.none c.loop-slot.slot c.loop-slot.popped.items c.loop-slot.invariant

pub returns-in-Some : goal.returns-in-Some
returns-in-Some g c = ends_at_child (g.T.Placed.tree c.args.trie.now) (placed_by c.args.places.now (g.T.Placed.slot_of c.args.trie.now)) c.args.states.now c.args.falls.now c.args.popped.now.items c.args.node c.requires.can c.requires.none c.loop-slot.slot c.loop-slot.popped.items c.loop-slot.invariant _ refl c.copy_popped.new.popped.items c.in_ok-copy_popped.ensures c.in-Some.child (sym c.in-Some.ensures)

pub returns-then-slot-eq0 : goal.returns-then-slot-eq0
returns-then-slot-eq0 g c = ends_at_root (g.T.Placed.tree c.args.trie.now) (placed_by c.args.places.now (g.T.Placed.slot_of c.args.trie.now)) c.args.states.now c.args.falls.now c.args.popped.now.items c.args.node c.requires.can c.requires.none c.loop-slot.slot c.loop-slot.popped.items c.loop-slot.invariant _ refl c.copy_popped.new.popped.items c.in_ok-copy_popped.ensures (sym c.in_default.ensures) c.if-slot-eq0.true

pub loop-slot-smaller : goal.loop-slot-smaller
loop-slot-smaller g c = falls_down (g.T.Placed.tree c.args.trie.now) (placed_by c.args.places.now (g.T.Placed.slot_of c.args.trie.now)) c.args.states.now c.args.falls.now c.args.popped.now.items c.args.node c.requires.can c.requires.none c.loop-slot.slot c.loop-slot.popped.items c.loop-slot.invariant _ refl c.copy_popped.new.popped.items c.in_ok-copy_popped.ensures

pub loop-slot-preserved : goal.loop-slot-preserved
loop-slot-preserved g c = falls_more (g.T.Placed.tree c.args.trie.now) (placed_by c.args.places.now (g.T.Placed.slot_of c.args.trie.now)) c.args.states.now c.args.falls.now c.args.popped.now.items c.args.node c.requires.can c.requires.none c.loop-slot.slot c.loop-slot.popped.items c.loop-slot.invariant _ refl c.copy_popped.new.popped.items c.in_ok-copy_popped.ensures (sym c.in_default.ensures) c.if-slot-eq0.false
