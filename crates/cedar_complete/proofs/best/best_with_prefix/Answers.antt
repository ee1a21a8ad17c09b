use Rattle.std.proofs.Common.{◌≡◌, IfOk, List, map, subst}
use Rattle.best_few.specs.Orders.{best, found_entry}
use Rattle.cedar_tree.specs.Queries.{Entry}
use Rattle.cedar_complete.proofs.best.best_with_prefix.Goals as goal

pub returns : goal.returns
returns g c =
    subst (λ (entries : List Entry). IfOk c.best_entries.result (λ found. map (found_entry {A = g.row.B.Denot}) found.items ≡ best c.args.order c.args.most entries))
    c.entries_with_prefix_bytes.ensures
    c.best_entries.ensures
