use Rattle.std.proofs.Common.{arith, refl, sym}
use Rattle.cedar_scan.specs.Automata.{slot_of_path}
use Rattle.cedar_scan.proofs.StepLemmas.{found_cost, found_slot, goes_down, goes_on, root_cost, root_slot}
use Rattle.cedar_scan.proofs.step.step.Goals as goal

pub returns-in-Some-clause-goes : goal.returns-in-Some-clause-goes
returns-in-Some-clause-goes g c = λ u node at.
    found_slot (g.T.Placed.tree c.args.trie.now) (slot_of_path c.args.states.now) c.args.states.now c.args.from c.args.label c.args.ticks.now c.loop-child.ticks u c.requires node at c.loop-child.slot (c.loop-child.invariant u node at) c.in-Some.child (sym c.in-Some.ensures)

pub returns-in-Some-clause-cost : goal.returns-in-Some-clause-cost
returns-in-Some-clause-cost g c = λ u node at.
    let t = g.T.Placed.tree c.args.trie.now in
    let slots = slot_of_path c.args.states.now in
    let cost = found_cost t slots c.args.states.now c.args.from c.args.label c.args.ticks.now c.loop-child.ticks u c.requires node at c.loop-child.slot (c.loop-child.invariant u node at) c.in-Some.child (sym c.in-Some.ensures) in
    let tick = c.tick.ensures in
    omega (arith, cost, tick)

pub returns-then-slot-eq0-clause-goes : goal.returns-then-slot-eq0-clause-goes
returns-then-slot-eq0-clause-goes g c = λ u node at.
    root_slot (g.T.Placed.tree c.args.trie.now) (slot_of_path c.args.states.now) c.args.states.now c.args.from c.args.label c.args.ticks.now c.loop-child.ticks u c.requires node at c.loop-child.slot (c.loop-child.invariant u node at) c.if-slot-eq0.true (sym c.in_default.ensures)

pub returns-then-slot-eq0-clause-cost : goal.returns-then-slot-eq0-clause-cost
returns-then-slot-eq0-clause-cost g c = λ u node at.
    let cost = root_cost (g.T.Placed.tree c.args.trie.now) (slot_of_path c.args.states.now) c.args.states.now c.args.from c.args.label c.args.ticks.now c.loop-child.ticks u c.requires node at c.loop-child.slot (c.loop-child.invariant u node at) c.if-slot-eq0.true (sym c.in_default.ensures) in
    let tick = c.tick.ensures in
    omega (arith, cost, tick)

pub loop-child-smaller : goal.loop-child-smaller
loop-child-smaller g c =
    goes_down (g.T.Placed.tree c.args.trie.now) (slot_of_path c.args.states.now) c.args.states.now c.args.from c.args.label c.args.ticks.now c.loop-child.ticks c.requires.path c.requires c.requires.node c.requires.slot
    c.loop-child.slot (c.loop-child.invariant c.requires.path c.requires.node c.requires.slot) c.if-slot-eq0.false _ refl

pub loop-child-preserved : goal.loop-child-preserved
loop-child-preserved g c = λ u node at.
    goes_on (g.T.Placed.tree c.args.trie.now) (slot_of_path c.args.states.now) c.args.states.now c.args.from c.args.label c.args.ticks.now c.loop-child.ticks u c.requires node at
    c.loop-child.slot (c.loop-child.invariant u node at) c.if-slot-eq0.false (sym c.in_default.ensures) _ _ refl c.tick.ensures
