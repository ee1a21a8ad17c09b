use Rattle.std.proofs.Common.{◌<◌, arith, inr, length, refl, sym}
use Rattle.cedar_scan.specs.Automata.{slot_of_path}
use Rattle.cedar_scan.proofs.KeywordLemmas.{ends_or_leaves, falls_paid, goes_to_child, passes_byte, slot_inside}
use Rattle.cedar_scan.proofs.leftmost.go_on.Goals as goal

pub returns-then-cursor-text : goal.returns-then-cursor-text
returns-then-cursor-text g c = ends_or_leaves (g.T.Placed.tree c.args.trie.now) (slot_of_path c.args.states.now) c.args.states.now c.args.falls.now c.args.popped.now c.requires.automaton c.args.text.now c.args.cursor.now c.leave_last.result c.leave_last.new.cursor c.args.ticks.now c.leave_last.ensures

pub child_of-requires : goal.child_of-requires
child_of-requires g c = slot_inside (g.T.Placed.tree c.args.trie.now) (slot_of_path c.args.states.now) c.args.states.now c.args.falls.now c.args.popped.now c.requires.automaton c.args.text.now c.args.cursor.now c.requires.cursor

pub returns-in-Some : goal.returns-in-Some
returns-in-Some g c =
    let within = c.requires.cursor.within in
    let other = c.if-cursor-text.false in
    let less : c.args.cursor.now.place < length c.args.text.now = omega (arith, within, other) in
    goes_to_child (g.T.Placed.tree c.args.trie.now) (slot_of_path c.args.states.now) c.args.states.now c.args.falls.now c.args.popped.now c.requires.automaton c.args.text.now c.args.cursor.now c.requires.cursor c.requires.none less c.in-Some.child (sym c.in-Some.ensures) _ refl c.args.ticks.now c.tick.new.self c.tick.ensures

pub returns-then-cursor-eq0 : goal.returns-then-cursor-eq0
returns-then-cursor-eq0 g c =
    let within = c.requires.cursor.within in
    let other = c.if-cursor-text.false in
    let less : c.args.cursor.now.place < length c.args.text.now = omega (arith, within, other) in
    passes_byte (g.T.Placed.tree c.args.trie.now) (slot_of_path c.args.states.now) c.args.states.now c.args.falls.now c.args.popped.now c.requires.automaton c.args.text.now c.args.cursor.now c.requires.cursor c.requires.none less (sym c.in_default.ensures) c.if-cursor-eq0.true _ refl c.args.ticks.now c.tick.new.self c.tick.ensures

pub fall-requires-clause-stops : goal.fall-requires-clause-stops
fall-requires-clause-stops g c =
    let within = c.requires.cursor.within in
    let other = c.if-cursor-text.false in
    inr (omega (arith, within, other), sym c.in_default.ensures)

pub returns : goal.returns
returns g c =
    let one = c.tick.ensures in
    falls_paid (g.T.Placed.tree c.args.trie.now) (slot_of_path c.args.states.now) c.args.states.now c.args.falls.now c.args.popped.now c.requires.automaton c.args.text.now c.args.cursor.now c.fall.new.cursor c.args.ticks.now c.tick.new.self (omega (arith, one)) c.fall.ensures
