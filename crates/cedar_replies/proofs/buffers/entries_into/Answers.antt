use Rattle.std.proofs.Common.{◌≡◌, map, subst}
use Rattle.cedar_replies.specs.Replies.{CollectsSome}
use Rattle.cedar_replies.proofs.buffers.entries_into.Goals as goal

pub returns : goal.returns
returns g c = subst (λ es. CollectsSome c.collect_into.result (λ found. map (λ e. (e.0.items, e.1)) found.items ≡ es) es) c.entries_with_prefix_bytes.ensures c.collect_into.ensures
