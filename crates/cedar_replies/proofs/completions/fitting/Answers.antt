use Rattle.std.proofs.Common.{◌≡◌, ℕ, Bool, List, map, subst}
use Rattle.std.specs.Prelude.{filter}
use Rattle.cedarwood.specs.Queries.{walk}
use Rattle.cedar_replies.specs.Replies.{Collects}
use Rattle.cedar_replies.proofs.completions.fitting.Goals as goal

pub returns-in-Ok : goal.returns-in-Ok
returns-in-Ok g c =
    let made = c.in-Ok.ensures.made in (
      made.1,
      subst (λ (accepts : List ℕ → Bool). Collects c.collect_accepted.result (λ found. map (λ e. (e.0.items, e.1)) found.items ≡ filter (λ e. accepts e.0) (walk c.args.trie.now.state.tree))) made.0 c.collect_accepted.ensures,
    )

pub returns-in-Err : goal.returns-in-Err
returns-in-Err g c = c.in-Err.ensures.refused.1
