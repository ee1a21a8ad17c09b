use Rattle.std.proofs.Common.{◌<◌, length, sym, subst, ◌∙◌}
use Rattle.cedarwood.specs.Queries.{predict}
use Rattle.cedar_replies.proofs.CollectLemmas.{no_first, some_first, some_listed}
use Rattle.cedar_replies.proofs.reply.predictions.Goals as goal

pub returns-then-is_some : goal.returns-then-is_some
returns-then-is_some g c =
    let below = c.common_prefix_predict_iter_bytes in
    let found = c.common_prefix_predict_bytes in
    let some : 0 < length below.result = some_first below.result c.next.new.self c.next.result (sym c.if-is_some.ensures) c.next.ensures.steps in
    some_listed found.result (predict c.args.trie.now.state.tree c.args.query.now) found.ensures.found found.ensures.refused (subst (λ xs. 0 < length xs) below.ensures some)

pub returns : goal.returns
returns g c =
    let below = c.common_prefix_predict_iter_bytes in
    c.new.ensures.items ∙ sym (no_first below.result c.next.new.self c.next.result (sym c.if-is_some.ensures) c.next.ensures.steps) ∙ below.ensures
