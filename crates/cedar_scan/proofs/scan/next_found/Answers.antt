use Rattle.std.proofs.Common.{◌∙◌, arith}
use Rattle.cedar_scan.specs.Automata.{slot_of_path}
use Rattle.cedar_scan.proofs.ScanLemmas.{given_first, scanned}
use Rattle.cedar_scan.proofs.scan.next_found.Goals as goal

pub returns-then-cursor-piece-clause-gives : goal.returns-then-cursor-piece-clause-gives
returns-then-cursor-piece-clause-gives g c = λ before offset at.
    let goes = c.loop-cursor.invariant.goes before offset at in
    scanned (g.T.Placed.tree c.args.trie.now) (slot_of_path c.args.states.now) c.args.keys.now before offset c.args.piece.now c.args.cursor.now c.loop-cursor.cursor goes.0 goes.1 c.loop-cursor-test.true c.if-cursor-piece.true

pub read_byte-requires-clause-cursor : goal.read_byte-requires-clause-cursor
read_byte-requires-clause-cursor g c = (c.requires.cursor.0, (c.loop-cursor.invariant.goes c.requires.cursor.0 0 c.requires.cursor.1).0)

pub read_byte-requires-clause-inside : goal.read_byte-requires-clause-inside
read_byte-requires-clause-inside g c =
    let within = (c.loop-cursor.invariant.goes c.requires.cursor.0 0 c.requires.cursor.1).0.within in
    let other = c.if-cursor-piece.false in
    omega (arith, within, other)

pub loop-cursor-smaller : goal.loop-cursor-smaller
loop-cursor-smaller g c =
    let at = (c.loop-cursor.invariant.goes c.requires.cursor.0 0 c.requires.cursor.1).0 in
    let within = at.within in
    let other = c.if-cursor-piece.false in
    let place = (c.read_byte.ensures.goes c.requires.cursor.0 0 at).place in
    omega (arith, within, other, place)

pub loop-cursor-preserved : goal.loop-cursor-preserved
loop-cursor-preserved g c = record {
  goes = λ before offset at.
      let goes = c.loop-cursor.invariant.goes before offset at in
      let next = c.read_byte.ensures.goes before offset goes.0 in
      (next.cursor, goes.1 ∙ next.spots);
  cost =
      let at = (c.loop-cursor.invariant.goes c.requires.cursor.0 0 c.requires.cursor.1).0 in
      let within = at.within in
      let other = c.if-cursor-piece.false in
      let place = (c.read_byte.ensures.goes c.requires.cursor.0 0 at).place in
      let so_far = c.loop-cursor.invariant.cost in
      let step = c.read_byte.ensures.cost in
      omega (arith, within, other, place, so_far, step);
}

pub take_found-requires-clause-cursor : goal.take_found-requires-clause-cursor
take_found-requires-clause-cursor g c = (c.requires.cursor.0, (c.loop-cursor.invariant.goes c.requires.cursor.0 0 c.requires.cursor.1).0)

pub returns-clause-gives : goal.returns-clause-gives
returns-clause-gives g c = λ before offset at.
    let goes = c.loop-cursor.invariant.goes before offset at in
    given_first (g.T.Placed.tree c.args.trie.now) (slot_of_path c.args.states.now) c.args.keys.now before offset c.args.piece.now c.args.cursor.now c.loop-cursor.cursor c.take_found.result c.take_found.new.cursor goes.1
    (c.take_found.ensures.gives before offset goes.0).gives
