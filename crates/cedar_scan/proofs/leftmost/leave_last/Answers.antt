use Rattle.std.proofs.Common.{◌≤◌, arith, inl, length, refl}
use Rattle.cedar_scan.specs.Automata.{slot_of_path}
use Rattle.cedar_scan.proofs.KeywordLemmas.{all_given}
use Rattle.cedar_scan.proofs.leftmost.leave_last.Goals as goal

pub returns-then-cursor-eq0 : goal.returns-then-cursor-eq0
returns-then-cursor-eq0 g c =
    let end = c.requires.end in
    let past : length c.args.text.now ≤ c.args.cursor.now.place = omega (arith, end) in
    (all_given (g.T.Placed.tree c.args.trie.now) (slot_of_path c.args.states.now) c.args.states.now c.args.falls.now c.args.popped.now c.requires.automaton c.args.text.now c.args.cursor.now c.requires.cursor c.requires.none past c.if-cursor-eq0.true, refl, refl)

pub fall-requires-clause-stops : goal.fall-requires-clause-stops
fall-requires-clause-stops g c = let end = c.requires.end in inl (omega (arith, end))
