use Rattle.std.proofs.Common.{◌≡◌, ◌∙◌, ◌-◌, ◌<◌, ◌^◌, ap, arith, drop, length, rules, take}
use Rattle.std.proofs.lemmas.List.{length-drop, take_all}
use Rattle.cedar_words.specs.Tokens.{tokens_behind}
use Rattle.cedar_words.proofs.TokenLemmas.{tokens_within}
use Rattle.cedar_words.proofs.segments.segment_from.Goals as goal

pub invariant_of-result : goal.invariant_of-result
invariant_of-result g c =
    let text = c.args.text.now in
    let start = c.min-start.result in
    let low = c.min-start.ensures in
    let left = length-drop start text in
    let all : take (length text - start) (drop start text) ≡ drop start text = take_all (length text - start) (drop start text) (omega (arith, left)) in
    let bytes = ap length all ∙ left in
    let short : length text < 2 ^ 64 = search rules in
    omega (arith, low, bytes, short)

pub returns : goal.returns
returns g c =
    let t = c.args.trie.now.state.tree in
    let text = c.args.text.now in
    let start = c.min-start.result in
    let left = length-drop start text in
    let all : take (length text - start) (drop start text) ≡ drop start text = take_all (length text - start) (drop start text) (omega (arith, left)) in
    ap (λ rest. tokens_behind t 0 start rest) all ∙ tokens_within t text c.args.place start c.min-start.ensures
