use Rattle.std.proofs.Common.{map, option_map, string_bytes}
use Rattle.cedarwood.specs.Queries.{walk}
use Rattle.cedar_replies.specs.Replies.{AreTexts}
use Rattle.cedar_replies.proofs.CollectLemmas.{some_collected, some_if_not_empty}
use Rattle.cedar_replies.proofs.reply.text_entries.Goals as goal

pub returns : goal.returns
returns g c =
    let all = walk c.args.trie.now.state.tree in
    some_collected c.some_texts.result (λ found. AreTexts (map (option_map (λ e. (string_bytes e.0, e.1))) found.items) all) all c.some_texts.ensures
    (some_if_not_empty all c.is_empty.result c.is_empty.ensures c.if-is_empty.false)
