use Rattle.std.proofs.Common.{rules, subst, ℤ, ◌≡◌, ◌<◌, length, arith, OnOk, FitsSigned, to_z, of_z, w32}
use Rattle.std.proofs.lemmas.Int.{to_z-of_z}
use Rattle.best_few.specs.Orders.{FollowsAll, KeepsOneMore}
use Rattle.best_few.specs.Words.{heap_items, heap_len}
use Rattle.best_few.proofs.HeapLemmas.{on_ok_then, one_more_is_best, rest_is_best}
use Rattle.best_few.proofs.few.offer.Goals as goal

pub returns-then-len-most-clause-best : goal.returns-then-len-most-clause-best
returns-then-len-most-clause-best g c =
    let long : length (heap_items c.args.kept.now) ≡ heap_len c.args.kept.now = search rules in
    let less : heap_len c.args.kept.now < c.args.most = search rules in
    let fits : FitsSigned w32 c.args.number = search rules in
    let number : to_z w32 (of_z w32 c.args.number) ≡ c.args.number = to_z-of_z w32 c.args.number fits in
    let one = subst (λ (n : ℤ). OnOk c.keep.result (KeepsOneMore (heap_items c.args.kept.now) (c.args.key.now, n) (heap_items c.keep.new.kept))) number c.keep.ensures.one in
    on_ok_then c.keep.result one (one_more_is_best c.args.most (heap_items c.args.kept.now) (c.args.key.now, c.args.number) (heap_items c.keep.new.kept) (omega (arith, long, less)))

pub returns-clause-best : goal.returns-clause-best
returns-clause-best g c =
    let long : length (heap_items c.args.kept.now) ≡ heap_len c.args.kept.now = search rules in
    let full : heap_len c.args.kept.now ≡ c.args.most = search rules in
    let behind : FollowsAll (c.args.key.now, c.args.number) (heap_items c.args.kept.now) = search rules in
    rest_is_best c.args.most (heap_items c.args.kept.now) (c.args.key.now, c.args.number) (omega (arith, long, full)) behind
