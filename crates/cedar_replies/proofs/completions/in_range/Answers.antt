use Rattle.std.proofs.Common.{List, map, subst}
use Rattle.cedarwood.specs.Queries.{Entry}
use Rattle.cedar_replies.specs.Replies.{CollectsAscending}
use Rattle.cedar_replies.proofs.EndLemmas.{same_range}
use Rattle.cedar_replies.proofs.completions.in_range.Goals as goal

pub returns-in-Ok : goal.returns-in-Ok
returns-in-Ok g c =
    let s = c.args.trie.now.state in
    subst (λ (es : List Entry). CollectsAscending c.collect_range.result (λ v. map (λ e. (e.0.items, e.1)) v.items) s.ordered es)
    (same_range s.tree c.args.ends.now c.in-Ok.range c.in-Ok.ensures) c.collect_range.ensures
