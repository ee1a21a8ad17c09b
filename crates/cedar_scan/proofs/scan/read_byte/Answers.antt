use Rattle.std.proofs.Common.{◌^◌, ◌<◌, arith}
use Rattle.cedar_scan.specs.Automata.{slot_of_path}
use Rattle.cedar_scan.proofs.ScanLemmas.{advances, state_inside, state_small, step_costs, step_from}
use Rattle.cedar_scan.proofs.scan.read_byte.Goals as goal

pub step-cursor-requires : goal.step-cursor-requires
step-cursor-requires g c =
    step_from (g.T.Placed.tree c.args.trie.now) (slot_of_path c.args.states.now) c.args.states.now c.args.keys.now c.requires.automaton c.requires.cursor.0 c.args.piece.now c.args.cursor.now c.requires.cursor.1

pub offset_bounds-states-cursor : goal.offset_bounds-states-cursor
offset_bounds-states-cursor g c =
    let small : c.step-cursor.result < 2 ^ 30 =
    state_small (g.T.Placed.tree c.args.trie.now) (slot_of_path c.args.states.now) c.args.states.now c.args.keys.now c.requires.automaton c.requires.cursor.0 c.args.piece.now c.args.cursor.now c.requires.cursor.1 _ c.step-cursor.result c.step-cursor.ensures.goes in
    omega (arith, small)

pub bounds-states-cursor : goal.bounds-states-cursor
bounds-states-cursor g c =
    state_inside (g.T.Placed.tree c.args.trie.now) (slot_of_path c.args.states.now) c.args.states.now c.args.keys.now c.requires.automaton c.requires.cursor.0 c.args.piece.now c.args.cursor.now c.requires.cursor.1 _ c.step-cursor.result c.step-cursor.ensures.goes

pub returns-clause-goes : goal.returns-clause-goes
returns-clause-goes g c = λ before offset at.
    advances (g.T.Placed.tree c.args.trie.now) (slot_of_path c.args.states.now) c.args.states.now c.args.keys.now c.requires.automaton before c.args.piece.now c.args.cursor.now at c.requires.inside c.requires.none c.step-cursor.result c.step-cursor.ensures.goes offset

pub returns-clause-cost : goal.returns-clause-cost
returns-clause-cost g c =
    step_costs (g.T.Placed.tree c.args.trie.now) (slot_of_path c.args.states.now) c.args.states.now c.args.keys.now c.requires.automaton c.requires.cursor.0 c.args.piece.now c.args.cursor.now c.requires.cursor.1 _ c.step-cursor.result _ _ 0 0 c.step-cursor.ensures.goes c.step-cursor.ensures.cost
