use Rattle.std.proofs.Common.{◌<◌, ◌∙◌, inl, rules, sym, ap, subst, length, [], ◌∷◌}
use Rattle.cedar_bulk.specs.Sorted.{entries_by}
use Rattle.cedar_bulk.specs.Spans.{part_of, parts_of}
use Rattle.cedar_bulk.proofs.BulkLemmas.OnePair.{tree_some}
use Rattle.cedar_bulk.proofs.BulkLemmas.Pending.{parts_last}
use Rattle.cedar_bulk.proofs.BulkLemmas.Spans.{as_many}
use Rattle.cedar_bulk.proofs.sorted.fill_next.Goals as goal

pub go_on_alike-requires : goal.go_on_alike-requires
go_on_alike-requires g c =
    let items = g.K.AsSlice.items in
    let t = c.requires.tree in
    record { some = subst (λ n. 0 < n) (as_many items c.args.span.pairs.now) (tree_some c.args.span.depth (entries_by items c.args.span.pairs.now) t.0 t.1); tree = t }

pub fill_alike-requires : goal.fill_alike-requires
fill_alike-requires g c =
    let r = c.requires in
    let items = g.K.AsSlice.items in
    let some : 0 < length c.args.span.pairs.now = subst (λ n. 0 < n) (as_many items c.args.span.pairs.now) (tree_some c.args.span.depth (entries_by items c.args.span.pairs.now) r.tree.0 r.tree.1) in
    (search rules, (r.bare, (r.not_root, (some, (c.go_on_alike.ensures c.if-go_on_alike.true, r.tree)))))

pub fill_span-requires : goal.fill_span-requires
fill_span-requires g c =
    let r = c.requires in
    (search rules, (r.bare, (r.tree.0, r.tree.1, λ z. absurd (r.not_root z))))

pub returns-then-go_on_alike-clause-spans : goal.returns-then-go_on_alike-clause-spans
returns-then-go_on_alike-clause-spans g c = λ t h.
    let items = g.K.AsSlice.items in
    (part_of items c.in_ok-child.child ∷ [], parts_last items c.args.pending.now.items c.in_ok-child.child, c.in_ok-child.ensures.spans t h)

pub returns-clause-spans : goal.returns-clause-spans
returns-clause-spans g c = λ t h.
    let items = g.K.AsSlice.items in
    let made = c.in_ok-fill_span.ensures.spans t h in
    (made.0, ap (parts_of items) (sym c.pop.ensures.items) ∙ made.1, made.2)

pub returns-then-go_on_alike-clause-packs : goal.returns-then-go_on_alike-clause-packs
returns-then-go_on_alike-clause-packs g c = λ t h. inl c.in_ok-child.ensures.alone
