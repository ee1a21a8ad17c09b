use Rattle.std.proofs.Common.{◌≡◌, ◌<◌, ◌-◌, ◌∙◌, arith, ap, drop, get_or, length, subst, sym, List}
use Rattle.cedar_model.specs.Queries.{Entry}
use Rattle.cedar_bulk.specs.Sorted.{entries_by, run}
use Rattle.cedar_bulk.specs.Spans.{first_label, IsDeeper, IsTreeOfSpan, Lists}
use Rattle.cedar_bulk.proofs.BulkLemmas.OnePair.{first_then, lists_on}
use Rattle.cedar_bulk.proofs.BulkLemmas.Runs.{run_bounds}
use Rattle.cedar_bulk.proofs.BulkLemmas.Spans.{as_many}
use Rattle.cedar_bulk.proofs.spans.go_on_alike.Goals as goal

pub returns-then-key-depth : goal.returns-then-key-depth
returns-then-key-depth g c = λ told. absurd (cc)

pub has_first_label-requires : goal.has_first_label-requires
has_first_label-requires g c =
    let items = g.K.AsSlice.items in
    let d = c.args.depth in
    let p = get_or c.args.pairs.now 0 c.index-pairs-0.result in
    let e : Entry = (items p.0, p.1) in
    let all : List Entry = entries_by items c.args.pairs.now in
    let rest : List Entry = entries_by items (drop 1 c.args.pairs.now) in
    let tree = c.requires.tree in
    let first = first_then items c.args.pairs.now c.index-pairs-0.result c.requires.some in
    let long : d < length e.0 = omega (arith, ap length (sym c.as_slice-key.ensures), c.if-key-depth.false) in
    let label : get_or c.as_slice-key.result.now d 0 ≡ first_label d all = ap (λ xs. get_or xs d 0) c.as_slice-key.ensures ∙ sym (ap (first_label d) first) in
    let lists : Lists d all tree.0.children = subst (λ xs. Lists d xs tree.0.children) (sym first) (lists_on d e rest tree.0 (subst (λ xs. IsTreeOfSpan d xs tree.0) first tree.1) long) in
    record { lists = (tree.0.children, lists); first = sym label; inside = omega (arith, c.requires.some) }

pub returns : goal.returns
returns g c = λ told.
    let items = g.K.AsSlice.items in
    let d = c.args.depth in
    let p = get_or c.args.pairs.now 0 c.index-pairs-0.result in
    let e : Entry = (items p.0, p.1) in
    let all : List Entry = entries_by items c.args.pairs.now in
    let rest : List Entry = entries_by items (drop 1 c.args.pairs.now) in
    let tree = c.requires.tree in
    let first = first_then items c.args.pairs.now c.index-pairs-0.result c.requires.some in
    let long : d < length e.0 = omega (arith, ap length (sym c.as_slice-key.ensures), c.if-key-depth.false) in
    let label : get_or c.as_slice-key.result.now d 0 ≡ first_label d all = ap (λ xs. get_or xs d 0) c.as_slice-key.ensures ∙ sym (ap (first_label d) first) in
    let last : length c.args.pairs.now - 1 < run d (get_or c.as_slice-key.result.now d 0) all = c.has_first_label.ensures.0 told in
    let lists : Lists d all tree.0.children = subst (λ xs. Lists d xs tree.0.children) (sym first) (lists_on d e rest tree.0 (subst (λ xs. IsTreeOfSpan d xs tree.0) first tree.1) long) in
    let many = as_many items c.args.pairs.now in
    let b = run_bounds d (get_or c.as_slice-key.result.now d 0) all tree.0.children lists (sym label) (omega (arith, many, c.requires.some)) in
    let whole : run d (get_or c.as_slice-key.result.now d 0) all ≡ length all = omega (arith, last, b.1, many) in
    (subst (IsDeeper d) (sym first) long, subst (λ l. run d l all ≡ length all) label whole)
