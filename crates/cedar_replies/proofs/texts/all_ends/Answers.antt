use Rattle.std.proofs.Common.{◌≡◌}
use Rattle.std.proofs.lemmas.Result.{err_from_is_err_and}
use Rattle.cedar_scan.specs.Words.{overlapping}
use Rattle.cedar_replies.proofs.CollectLemmas.{refused, some_text}
use Rattle.cedar_replies.proofs.texts.all_ends.Goals as goal

pub returns-in_err-collect_ends : goal.returns-in_err-collect_ends
returns-in_err-collect_ends g c =
    let p = err_from_is_err_and c.from_residual-in_err-collect_ends.result c.from_residual-in_err-collect_ends.ensures.1 in
    let some = some_text c.args.text.now c.is_empty.result c.is_empty.ensures c.if-is_empty.false in
    refused c.from_residual-in_err-collect_ends.result p.0 (λ found. found.items ≡ overlapping c.args.trie.now.state.tree c.args.text.now) c.args.text.now p.1 p.2 some
