use Rattle.std.proofs.Common.{rules, subst, ℕ, List, ℤ, Vec, ◌≡◌, FitsSigned, to_z, of_z, w32}
use Rattle.std.proofs.lemmas.Int.{to_z-of_z}
use Rattle.best_few.specs.Words.{heap_items}
use Rattle.best_few.specs.Orders.{KeepsOneMore}
use Rattle.best_few.proofs.HeapLemmas.{one_more}
use Rattle.best_few.proofs.few.keep.Goals as goal

pub returns-clause-one : goal.returns-clause-one
returns-clause-one g c =
    let fits : FitsSigned w32 c.args.number = search rules in
    let number : to_z w32 (of_z w32 c.args.number) ≡ c.args.number = to_z-of_z w32 c.args.number fits in
    let item : ℤ × Vec ℕ g.row.A.Denot = (to_z w32 (of_z w32 c.args.number), c.in_ok-copy.copy) in
    subst (λ (n : ℤ). KeepsOneMore (heap_items c.args.kept.now) (c.args.key.now, n) (heap_items c.push.new.self)) number
    (subst (λ (k : List ℕ). KeepsOneMore (heap_items c.args.kept.now) (k, to_z w32 (of_z w32 c.args.number)) (heap_items c.push.new.self)) c.in_ok-copy.ensures.items
    (one_more item (heap_items c.args.kept.now) (heap_items c.push.new.self) c.in_ok-push.ensures.permutation))
