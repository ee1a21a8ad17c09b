use Rattle.std.proofs.Common.{◌≡◌, List, map, subst}
use Rattle.cedarwood.specs.Queries.{Entry}
use Rattle.cedar_replies.specs.Replies.{Collects}
use Rattle.cedar_replies.proofs.completions.collect_accepted.Goals as goal

pub returns : goal.returns
returns g c =
    subst (λ (es : List Entry). Collects c.collect_matching.result (λ found. map (λ e. (e.0.items, e.1)) found.items ≡ es)) c.cursor_matching.ensures.left c.collect_matching.ensures
