use Rattle.std.proofs.Common.{rules, subst, sym, ℕ, ℤ, List, Vec, ◌<◌, length, ◌≡◌, FitsSigned, to_z, of_z, w32}
use Rattle.std.specs.Prelude.{IsSome}
use Rattle.std.proofs.lemmas.Int.{to_z-of_z}
use Rattle.best_few.specs.Orders.{found_entry, KeepsBest, PrecedesLast}
use Rattle.best_few.specs.Words.{heap_items, heap_len}
use Rattle.best_few.proofs.HeapLemmas.{replaced_top, some_precede}
use Rattle.best_few.proofs.few.replace_last.Goals as goal

pub returns-clause-best : goal.returns-clause-best
returns-clause-best g c =
    let old = heap_items c.args.kept.now in
    let new = heap_items c.push.new.self in
    let long : length old ≡ heap_len c.args.kept.now = search rules in
    let asked : 0 < length old = some_precede old (c.args.key.now, c.args.number) c.requires.last in
    let some : IsSome c.pop.result = search rules in
    let fits : FitsSigned w32 c.args.number = search rules in
    let number : to_z w32 (of_z w32 c.args.number) ≡ c.args.number = to_z-of_z w32 c.args.number fits in
    let item : ℤ × Vec ℕ g.row.A.Denot = (to_z w32 (of_z w32 c.args.number), c.in_ok-copy.copy) in
    let same = c.in_ok-copy.ensures.items in
    let before : PrecedesLast (found_entry item) old = subst (λ (k : List ℕ). PrecedesLast (k, to_z w32 (of_z w32 c.args.number)) old) (sym same) (subst (λ (n : ℤ). PrecedesLast (c.args.key.now, n) old) (sym number) c.requires.last) in
    subst (λ (n : ℤ). KeepsBest (heap_len c.args.kept.now) old (c.args.key.now, n) new) number
    (subst (λ (k : List ℕ). KeepsBest (heap_len c.args.kept.now) old (k, to_z w32 (of_z w32 c.args.number)) new) same
    (subst (λ (n : ℕ). KeepsBest n old (found_entry item) new) long
    (replaced_top old (heap_items c.pop.new.self) new item c.pop.result some c.pop.ensures.top c.pop.ensures.permutation c.pop.ensures.below_top c.requires.heap before c.in_ok-push.ensures.permutation)))
