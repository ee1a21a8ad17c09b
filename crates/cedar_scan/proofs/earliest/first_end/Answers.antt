use Rattle.std.proofs.Common.{[], arith}
use Rattle.cedar_scan.specs.Automata.{slot_of_path}
use Rattle.cedar_scan.proofs.EarliestLemmas.{none_at_first, none_ends, none_more, one_ends}
use Rattle.cedar_scan.proofs.earliest.first_end.Goals as goal

pub loop-cursor-init : goal.loop-cursor-init
loop-cursor-init g c = none_at_first (g.T.Placed.tree c.args.trie.now) (slot_of_path c.args.states.now) c.args.states.now c.args.keys.now c.requires c.args.text.now c.args.ticks.now

pub read_byte-requires-clause-cursor : goal.read_byte-requires-clause-cursor
read_byte-requires-clause-cursor g c = ([], c.loop-cursor.invariant.cursor)

pub take_found-found-requires-clause-cursor : goal.take_found-found-requires-clause-cursor
take_found-found-requires-clause-cursor g c = ([], (c.read_byte.ensures.goes [] 0 c.loop-cursor.invariant.cursor).cursor)

pub returns-then-cursor-ne0-clause-gives : goal.returns-then-cursor-ne0-clause-gives
returns-then-cursor-ne0-clause-gives g c = λ offset.
    let now = c.loop-cursor.invariant in
    let next = c.read_byte.ensures.goes [] 0 now.cursor in
    one_ends (g.T.Placed.tree c.args.trie.now) (slot_of_path c.args.states.now) c.args.states.now c.args.keys.now c.requires c.args.text.now c.args.ticks.now c.loop-cursor.cursor c.loop-cursor.ticks now c.loop-cursor-test.true c.read_byte.new.cursor
    (λ place. c.read_byte.ensures.goes [] place now.cursor) c.take_found-found.result c.take_found-found.new.cursor (c.take_found-found.ensures.gives [] 0 next.cursor) c.take_found-found.ensures.place offset

pub returns-then-cursor-ne0-clause-cost : goal.returns-then-cursor-ne0-clause-cost
returns-then-cursor-ne0-clause-cost g c =
    let now = c.loop-cursor.invariant in
    let so_far = now.cost in
    let next = (c.read_byte.ensures.goes [] 0 now.cursor).place in
    let step = c.read_byte.ensures.cost in
    let same = c.take_found-found.ensures.place in
    let one = c.take_found-found.ensures.cost in
    omega (arith, so_far, next, step, same, one)

pub loop-cursor-smaller : goal.loop-cursor-smaller
loop-cursor-smaller g c =
    let less = c.loop-cursor-test.true in
    let next = (c.read_byte.ensures.goes [] 0 c.loop-cursor.invariant.cursor).place in
    omega (arith, less, next)

pub loop-cursor-preserved : goal.loop-cursor-preserved
loop-cursor-preserved g c =
    let now = c.loop-cursor.invariant in
    none_more (g.T.Placed.tree c.args.trie.now) (slot_of_path c.args.states.now) c.args.states.now c.args.keys.now c.requires c.args.text.now c.args.ticks.now c.loop-cursor.cursor c.loop-cursor.ticks now c.loop-cursor-test.true c.read_byte.new.cursor
    (λ place. c.read_byte.ensures.goes [] place now.cursor) c.if-cursor-ne0.false _ c.read_byte.ensures.cost

pub returns-clause-gives : goal.returns-clause-gives
returns-clause-gives g c = λ offset.
    none_ends (g.T.Placed.tree c.args.trie.now) (slot_of_path c.args.states.now) c.args.states.now c.args.keys.now c.requires c.args.text.now c.args.ticks.now c.loop-cursor.cursor c.loop-cursor.ticks c.loop-cursor.invariant c.loop-cursor-test.false offset

pub returns-clause-cost : goal.returns-clause-cost
returns-clause-cost g c =
    let so_far = c.loop-cursor.invariant.cost in
    let within = c.loop-cursor.invariant.cursor.within in
    omega (arith, so_far, within)
