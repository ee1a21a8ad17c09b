use Rattle.std.proofs.Common.{◌<◌, ◌^◌, ◌∙◌, [], ap, arith, length, rules}
use Rattle.std.proofs.lemmas.List.{length-drop}
use Rattle.cedar_scan.specs.Earliest.{earliest_from}
use Rattle.cedar_scan.proofs.ResumedLemmas.{earliest_start, rest_of}
use Rattle.cedar_scan.proofs.earliest.Earliest.behind.Goals as goal

pub invariant_of-result : goal.invariant_of-result
invariant_of-result g c =
    let text = c.args.text.now in
    let start = c.min-offset.result in
    let low = c.min-offset.ensures in
    let long = ap length (rest_of text start) ∙ length-drop start text in
    let short : length text < 2 ^ 64 = search rules in
    (c.requires, omega (arith, low, long, short))

pub returns-clause-rest : goal.returns-clause-rest
returns-clause-rest g c =
    let t = g.T.Placed.tree c.args.trie.now in
    let text = c.args.text.now in
    let start = c.min-offset.result in
    ap (earliest_from t [] start) (rest_of text start) ∙ earliest_start t text c.args.place start c.min-offset.ensures

pub returns-clause-steps : goal.returns-clause-steps
returns-clause-steps g c =
    let text = c.args.text.now in
    let start = c.min-offset.result in
    let low = c.min-offset.ensures in
    let long = ap length (rest_of text start) ∙ length-drop start text in
    omega (arith, low, long)
