use Rattle.std.proofs.Common.{◌<◌, length, sym, subst, ◌∙◌}
use Rattle.cedarwood.specs.Queries.{front}
use Rattle.cedar_replies.proofs.CollectLemmas.{no_first, some_first, some_listed}
use Rattle.cedar_replies.proofs.reply.prefixes.Goals as goal

pub returns-then-is_some : goal.returns-then-is_some
returns-then-is_some g c =
    let fronts = c.common_prefix_iter_bytes in
    let found = c.common_prefix_search_bytes in
    let some : 0 < length fronts.result.rest = some_first fronts.result.rest c.next.new.self.rest c.next.result (sym c.if-is_some.ensures) c.next.ensures.steps in
    some_listed found.result (front c.args.trie.now.state.tree c.args.query.now) found.ensures.found found.ensures.refused (subst (λ xs. 0 < length xs) fronts.ensures.rest some)

pub returns : goal.returns
returns g c =
    let fronts = c.common_prefix_iter_bytes in
    c.new.ensures.items ∙ sym (no_first fronts.result.rest c.next.new.self.rest c.next.result (sym c.if-is_some.ensures) c.next.ensures.steps) ∙ fronts.ensures.rest
