use Rattle.std.proofs.Common.{◌≡◌}
use Rattle.std.proofs.lemmas.Result.{err_from_is_err_and}
use Rattle.cedar_scan.specs.Words.{leftmost}
use Rattle.cedar_replies.proofs.CollectLemmas.{refused, some_text}
use Rattle.cedar_replies.proofs.texts.first_beginnings.Goals as goal

pub returns-in_err-collect_beginnings : goal.returns-in_err-collect_beginnings
returns-in_err-collect_beginnings g c =
    let p = err_from_is_err_and c.from_residual-in_err-collect_beginnings.result c.from_residual-in_err-collect_beginnings.ensures.1 in
    let some = some_text c.args.text.now c.is_empty.result c.is_empty.ensures c.if-is_empty.false in
    refused c.from_residual-in_err-collect_beginnings.result p.0 (λ found. found.items ≡ leftmost c.args.kind c.args.trie.now.state.tree c.args.text.now) c.args.text.now p.1 p.2 some
