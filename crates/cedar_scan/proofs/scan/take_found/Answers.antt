use Rattle.std.proofs.Common.{FitsSigned, refl, rules, w32}
use Rattle.std.proofs.lemmas.Int.{to_z-of_z}
use Rattle.cedar_scan.specs.Automata.{slot_of_path}
use Rattle.cedar_scan.specs.Listed.{listed_at}
use Rattle.cedar_scan.proofs.ScanLemmas.{gives}
use Rattle.cedar_scan.proofs.scan.take_found.Goals as goal

pub returns-clause-gives : goal.returns-clause-gives
returns-clause-gives g c = λ before offset at.
    let fits : FitsSigned w32 (listed_at c.args.keys.now c.args.cursor.now.pending).value = search rules in
    gives (g.T.Placed.tree c.args.trie.now) (slot_of_path c.args.states.now) c.args.states.now c.args.keys.now c.requires.automaton before c.args.piece.now c.args.cursor.now at c.requires.some offset _ _ refl
    (to_z-of_z w32 (listed_at c.args.keys.now c.args.cursor.now.pending).value fits) refl refl refl
