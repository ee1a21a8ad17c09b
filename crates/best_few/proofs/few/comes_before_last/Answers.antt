use Rattle.std.proofs.Common.{rules, ◌<◌, length}
use Rattle.best_few.specs.Words.{heap_items}
use Rattle.best_few.proofs.HeapLemmas.{told_of_top}
use Rattle.best_few.proofs.few.comes_before_last.Goals as goal

pub returns-in-Some : goal.returns-in-Some
returns-in-Some g c =
    let some : 0 < length (heap_items c.args.kept.now) = search rules in
    λ heap. told_of_top c.in-Some.field-0.now (heap_items c.args.kept.now) (c.args.key.now, c.args.number) c.comes_before.result some c.in-Some.ensures.lookup (c.in-Some.ensures.greatest heap) (search rules)
