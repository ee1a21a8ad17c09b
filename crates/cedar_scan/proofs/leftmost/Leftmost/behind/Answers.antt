use Rattle.std.proofs.Common.{◌≤◌, ◌∙◌, arith, length}
use Rattle.cedar_scan.specs.Automata.{slot_of_path}
use Rattle.cedar_scan.proofs.KeywordLemmas.{at_position, position_left, position_tests}
use Rattle.cedar_scan.proofs.ResumedLemmas.{keywords_start}
use Rattle.cedar_scan.proofs.leftmost.Leftmost.behind.Goals as goal

pub invariant_of-result : goal.invariant_of-result
invariant_of-result g c =
    let text = c.args.text.now in
    let start = c.min.result in
    let low = c.min.ensures in
    let inside : start ≤ length text = omega (arith, low) in
    (c.requires, at_position (g.T.Placed.tree c.args.trie.now) (slot_of_path c.args.states.now) c.args.states.now c.args.falls.now c.args.popped.now c.requires text start inside)

pub returns-clause-rest : goal.returns-clause-rest
returns-clause-rest g c =
    let t = g.T.Placed.tree c.args.trie.now in
    let text = c.args.text.now in
    let start = c.min.result in
    let low = c.min.ensures in
    let inside : start ≤ length text = omega (arith, low) in
    position_left t (slot_of_path c.args.states.now) c.args.states.now c.args.falls.now c.args.popped.now c.requires text start inside ∙ keywords_start t text c.args.place start low

pub returns-clause-steps : goal.returns-clause-steps
returns-clause-steps g c =
    let text = c.args.text.now in
    let start = c.min.result in
    let low = c.min.ensures in
    let inside : start ≤ length text = omega (arith, low) in
    position_tests (g.T.Placed.tree c.args.trie.now) (slot_of_path c.args.states.now) c.args.states.now c.args.falls.now c.args.popped.now c.requires text start inside c.args.place low
