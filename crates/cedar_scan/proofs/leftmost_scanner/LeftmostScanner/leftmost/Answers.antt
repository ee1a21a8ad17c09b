use Rattle.std.proofs.Common.{◌∙◌, ap}
use Rattle.cedar_scan.specs.Preferred.{leftmost}
use Rattle.cedar_scan.specs.Scanners.{LeftmostKeys}
use Rattle.cedar_scan.proofs.PreferredLemmas.{keywords_are_leftmost}
use Rattle.cedar_scan.proofs.leftmost_scanner.LeftmostScanner.leftmost.Goals as goal

pub returns-clause-rest : goal.returns-clause-rest
returns-clause-rest g c =
    let s = c.self.inside in
    let text = c.args.text.now in
    c.new.ensures.rest ∙ keywords_are_leftmost s.keys.kind (g.T.Placed.tree s.keys.trie.now) text
    ∙ ap (λ (k : LeftmostKeys). leftmost k.kind k.tree text) c.self.view_is
