use Rattle.std.proofs.Common.{◌≡◌, map}
use Rattle.cedarwood.specs.Queries.{walk}
use Rattle.cedar_replies.proofs.CollectLemmas.{some_collected, some_if_not_empty}
use Rattle.cedar_replies.proofs.reply.entries.Goals as goal

pub returns : goal.returns
returns g c =
    let all = walk c.args.trie.now.state.tree in
    some_collected c.some_entries.result (λ found. map (λ e. (e.0.items, e.1)) found.items ≡ all) all c.some_entries.ensures
    (some_if_not_empty all c.is_empty.result c.is_empty.ensures c.if-is_empty.false)
