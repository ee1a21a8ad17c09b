use Rattle.std.proofs.Common.{IfOk, List, sym, subst}
use Rattle.cedarwood.specs.Queries.{Entry}
use Rattle.cedar_complete.specs.Ends.{IsHeadOf}
use Rattle.last_entries.specs.Nearness.{entry_told}
use Rattle.cedar_replies.specs.Completions.{entries_between_ends, first_of_list}
use Rattle.cedar_replies.specs.Replies.{CollectsAscending}
use Rattle.cedar_replies.proofs.EndLemmas.{first_told, same_range}
use Rattle.cedar_replies.proofs.completions.first_at.Goals as goal

pub returns-in-Ok : goal.returns-in-Ok
returns-in-Ok g c =
    let s = c.args.trie.now.state in
    let es : List Entry = entries_between_ends s.tree c.args.ends.now in
    let found = c.first_in.ensures in
    let same = same_range s.tree c.args.ends.now c.in-Ok.range c.in-Ok.ensures in
    let at = subst (λ (xs : List Entry). IfOk c.first_in.result (λ x. IsHeadOf xs (entry_told x))) same found.found in
    subst (λ r. CollectsAscending r entry_told s.ordered (first_of_list es)) (sym c.where_ascending.ensures)
    (first_told entry_told es s.ordered c.first_in.result at found.order found.refused)
