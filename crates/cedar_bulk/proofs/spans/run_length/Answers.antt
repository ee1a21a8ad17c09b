use Rattle.std.proofs.Common.{◌<◌, ◌-◌, arith, length, subst, sym, List}
use Rattle.cedar_model.specs.Queries.{Entry}
use Rattle.cedar_bulk.specs.Sorted.{entries_by, run}
use Rattle.cedar_bulk.proofs.BulkLemmas.Runs.{run_bounds}
use Rattle.cedar_bulk.proofs.BulkLemmas.Spans.{as_many}
use Rattle.cedar_bulk.proofs.spans.run_length.Goals as goal

pub returns-then-has_first_label-clause-count : goal.returns-then-has_first_label-clause-count
returns-then-has_first_label-clause-count g c =
    let items = g.K.AsSlice.items in
    let es : List Entry = entries_by items c.args.pairs.now in
    let r = c.requires in
    let b = run_bounds c.args.depth c.args.label es r.lists.0 r.lists.1 r.first (subst (λ n. 0 < n) (sym (as_many items c.args.pairs.now)) r.some) in
    let told : length c.args.pairs.now - 1 < run c.args.depth c.args.label es = c.has_first_label.ensures.0 c.if-has_first_label.true in
    omega (arith, told, b.1, as_many items c.args.pairs.now)
