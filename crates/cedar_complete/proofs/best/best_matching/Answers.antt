use Rattle.std.proofs.Common.{◌≡◌, IfOk, List, map, subst}
use Rattle.best_few.specs.Orders.{best, found_entry}
use Rattle.cedar_tree.specs.Queries.{Entry}
use Rattle.cedar_complete.proofs.best.best_matching.Goals as goal

pub returns : goal.returns
returns g c =
    subst (λ (left : List Entry). IfOk c.best_of.result (λ found. map (found_entry {A = g.row.B.Denot}) found.items ≡ best c.args.order c.args.most left))
    c.cursor_matching.ensures.left
    c.best_of.ensures
