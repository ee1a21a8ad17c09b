use Rattle.std.proofs.Common.{◌≡◌, ◌∙◌, List, ap, ap₂, length, subst}
use Rattle.std.specs.Prelude.{IfOk, ltb}
use Rattle.cedar_words.specs.Words.{Spot, spots_from}
use Rattle.device_lines.proofs.Writing.{writes_same}
use Rattle.word_lists.specs.Texts.{body_of, spot_lines}
use Rattle.word_lists.proofs.scan.write_matches.Goals as goal

pub returns-clause-any : goal.returns-clause-any
returns-clause-any g c =
    let spots : c.matches.result ≡ spots_from c.args.trie.now.state.tree 0 (body_of c.args.line.now) = c.matches.ensures ∙ ap (spots_from c.args.trie.now.state.tree 0) c.body-text.ensures.body in
    subst (λ (found : List Spot). IfOk c.write_spots.result (λ any. any ≡ ltb 0 (length found))) spots c.write_spots.ensures.any

pub returns-clause-writes : goal.returns-clause-writes
returns-clause-writes g c =
    let spots : c.matches.result ≡ spots_from c.args.trie.now.state.tree 0 (body_of c.args.line.now) = c.matches.ensures ∙ ap (spots_from c.args.trie.now.state.tree 0) c.body-text.ensures.body in
    writes_same (ap₂ (spot_lines c.args.number) c.body-text.ensures.body spots) c.write_spots.ensures.writes
