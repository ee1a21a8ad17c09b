use Rattle.std.proofs.Common.{refl}
use Rattle.cedar_scan.specs.Automata.{slot_of_path}
use Rattle.cedar_scan.proofs.KeywordLemmas.{deep_within, fall_inside, falls_from}
use Rattle.cedar_scan.proofs.leftmost.fall.Goals as goal

pub bounds-falls-cursor : goal.bounds-falls-cursor
bounds-falls-cursor g c = fall_inside (g.T.Placed.tree c.args.trie.now) (slot_of_path c.args.states.now) c.args.states.now c.args.falls.now c.args.popped.now c.requires.automaton c.args.text.now c.args.cursor.now c.requires.cursor

pub overflow_sub-cursor : goal.overflow_sub-cursor
overflow_sub-cursor g c = deep_within (g.T.Placed.tree c.args.trie.now) (slot_of_path c.args.states.now) c.args.states.now c.args.falls.now c.args.popped.now c.requires.automaton c.args.text.now c.args.cursor.now c.requires.cursor c.requires.other

pub returns : goal.returns
returns g c = falls_from (g.T.Placed.tree c.args.trie.now) (slot_of_path c.args.states.now) c.args.states.now c.args.falls.now c.args.popped.now c.requires.automaton c.args.text.now c.args.cursor.now c.requires.cursor c.requires.none c.requires.other c.requires.stops _ refl
