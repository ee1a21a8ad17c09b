use Rattle.std.proofs.Common.{◌≡◌, ◌<◌, ◌-◌, ◌∙◌, ap, arith, refl, sym, length, length-set, List}
use Rattle.cedar_bulk.specs.Spans.{Part, parts_of}
use Rattle.cedar_bulk.proofs.BulkLemmas.MovedSpans.{many_parts, moved, moved_all, moved_none, moved_on}
use Rattle.cedar_bulk.proofs.spans.move_spans.Goals as goal

pub loop-index-init : goal.loop-index-init
loop-index-init g c =
    let all : List Part = parts_of g.K.AsSlice.items c.args.pending.now.items in
    (refl, omega arith, c.requires, sym (moved_none c.args.first c.args.base all) ∙ ap (λ m. moved c.args.first m c.args.base all) (omega arith))

pub loop-index-preserved : goal.loop-index-preserved
loop-index-preserved g c =
    let items = g.K.AsSlice.items in
    let i = c.loop-index.invariant in
    let all : List Part = parts_of items c.args.pending.now.items in
    let inside : c.loop-index.index < length c.loop-index.pending.items = omega (arith, c.loop-index-test.true, c.len-index-end.ensures, i.0) in
    let many : length c.loop-index.pending.items ≡ length all = i.0 ∙ sym (many_parts items c.args.pending.now.items) in (
      length-set c.loop-index.pending.items c.loop-index.index _ ∙ i.0,
      omega (arith, i.1),
      omega (arith, inside, i.0),
      moved_on items c.loop-index.pending.items all c.args.first c.loop-index.index c.args.base c.index_mut-span.result.now i.1 inside many i.3 c.index_mut-span.ensures.value,
    )

pub returns : goal.returns
returns g c =
    let items = g.K.AsSlice.items in
    let i = c.loop-index.invariant in
    let all : List Part = parts_of items c.args.pending.now.items in
    let many : length all ≡ length c.args.pending.now.items = many_parts items c.args.pending.now.items in
    i.3 ∙ moved_all c.args.first (c.loop-index.index - c.args.first) c.args.base all (omega (arith, many, i.1, i.2, c.loop-index-test.false, c.len-index-end.ensures))
