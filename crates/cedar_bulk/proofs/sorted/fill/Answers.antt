use Rattle.std.proofs.Common.{◌≡◌, ◌+◌, ◌<◌, arith, rules, ap, refl, inl, inr, length, List, []}
use Rattle.cedar_model.specs.Tree.{none}
use Rattle.cedar_model.specs.Queries.{Entry, prefixes_forest}
use Rattle.cedar_bulk.specs.Sorted.{entries_by}
use Rattle.cedar_bulk.specs.Spans.{parts_of}
use Rattle.cedar_model.specs.Meaning.Family.{base_of}
use Rattle.cedar_table.specs.Table.Views.{cells, fields}
use Rattle.cedar_model.specs.Table.TableFields.{size_of}
use Rattle.cedar_model.proofs.UpdateLemmas.BlocksMade.{made_then}
use Rattle.cedar_bulk.proofs.BulkLemmas.NodeByNode.{filling_started, if_err, on_ok, some_prefix}
use Rattle.cedar_bulk.proofs.BulkLemmas.PackedBlocks.{packed_ends, packed_started}
use Rattle.cedar_model.proofs.UpdateLemmas.StepAnswers.{refused_as}
use Rattle.cedar_bulk.proofs.sorted.fill.Goals as goal

pub fill_span-requires : goal.fill_span-requires
fill_span-requires g c =
    let t = c.requires.tree in
    let inside : 0 < size_of (fields c.args.table.now) = omega (arith, c.requires.one) in
    (search rules, (record { sound = c.requires.new; node_in = inside; node = (none, record { holds = c.requires.empty; ascending = λ _. tt; path = []; at = (tt, refl) }, refl); leaf = c.requires.root_base }, (t.0, t.1, λ _. t.2)))

pub returns-in_err-fill_span-clause-refused : goal.returns-in_err-fill_span-clause-refused
returns-in_err-fill_span-clause-refused g c =
    refused_as c.from_residual.result c.in_err-fill_span.field-0.0 _ c.from_residual.ensures.1
    (elim c.in_err-fill_span.ensures.refused [
      | inl m ↦ inl m
      | inr s ↦ inr (s.0, λ t tree number. let some = some_prefix t.number t.children tree.some number in omega (arith, some, s.1.0, s.1.1.active, c.requires.one))
    ])

pub fill_pending-requires : goal.fill_pending-requires
fill_pending-requires g c =
    let t = c.requires.tree in
    let e = c.in_ok-fill_span.ensures in (
      search rules,
      (
        t.0.children,
        1 + length (prefixes_forest t.0.children),
        filling_started g.row.SLOTS (fields c.args.table.now) (fields c.fill_span.new.table) t.0 0 (entries_by g.K.AsSlice.items c.args.pairs.now) (parts_of g.K.AsSlice.items c.new-pending.result.items) (parts_of g.K.AsSlice.items c.fill_span.new.pending.items) e.blocks.0 e.sound c.requires.empty t.1 t.2
            (e.fills t.0 t.1) (e.spans t.0 t.1) (ap (parts_of g.K.AsSlice.items) c.new-pending.ensures.items) c.requires.one (e.blocks.2 refl) e.blocks.3,
      ),
    )

pub returns-clause-filled : goal.returns-clause-filled
returns-clause-filled g c =
    let e = c.in_ok-fill_span.ensures in
    on_ok c.fill_pending.result c.fill_pending.ensures.filled
    (λ later t tree number. later t.children (1 + length (prefixes_forest t.children))
    (filling_started g.row.SLOTS (fields c.args.table.now) (fields c.fill_span.new.table) t 0 (entries_by g.K.AsSlice.items c.args.pairs.now) (parts_of g.K.AsSlice.items c.new-pending.result.items) (parts_of g.K.AsSlice.items c.fill_span.new.pending.items) e.blocks.0 e.sound c.requires.empty tree number
    (e.fills t tree) (e.spans t tree) (ap (parts_of g.K.AsSlice.items) c.new-pending.ensures.items) c.requires.one (e.blocks.2 refl) e.blocks.3))

pub returns-clause-refused : goal.returns-clause-refused
returns-clause-refused g c =
    let e = c.in_ok-fill_span.ensures in
    let whole = c.requires.new.limit.power in
    if_err c.fill_pending.result c.fill_pending.ensures.refused
    (λ error why. elim why [
      | inl m ↦ inl m
      | inr s ↦ inr (
        s.0,
        λ t tree number.
            let less = s.1 t.children (1 + length (prefixes_forest t.children))
            (filling_started g.row.SLOTS (fields c.args.table.now) (fields c.fill_span.new.table) t 0 (entries_by g.K.AsSlice.items c.args.pairs.now) (parts_of g.K.AsSlice.items c.new-pending.result.items) (parts_of g.K.AsSlice.items c.fill_span.new.pending.items) e.blocks.0 e.sound c.requires.empty tree number
            (e.fills t tree) (e.spans t tree) (ap (parts_of g.K.AsSlice.items) c.new-pending.ensures.items) c.requires.one (e.blocks.2 refl) e.blocks.3) in
            omega (arith, less, whole.1),
      )
    ])

pub returns-clause-blocks : goal.returns-clause-blocks
returns-clause-blocks g c =
    let e = c.in_ok-fill_span.ensures in
    let p = c.fill_pending.ensures in
    (e.blocks.0 + p.blocks.0, made_then e.blocks.0 p.blocks.0 (fields c.args.table.now) (fields c.fill_span.new.table) (fields c.fill_pending.new.table) e.blocks.3 p.blocks.1)

pub returns-clause-packs : goal.returns-clause-packs
returns-clause-packs g c =
    let items = g.K.AsSlice.items in
    let e = c.in_ok-fill_span.ensures in
    let nothing = ap (parts_of items) c.new-pending.ensures.items in
    let one : (fields c.fill_span.new.table).places.blocks.active ≡ 1 = omega (arith, c.requires.one, e.blocks.2 refl, e.blocks.3.active) in
    on_ok c.fill_pending.result c.fill_pending.ensures.packs
    (λ later t tree number.
    let most = 1 + length (prefixes_forest t.children) in
    let es : List Entry = entries_by items c.args.pairs.now in
    let begun = filling_started g.row.SLOTS (fields c.args.table.now) (fields c.fill_span.new.table) t 0 es (parts_of items c.new-pending.result.items) (parts_of items c.fill_span.new.pending.items) e.blocks.0 e.sound c.requires.empty tree number
    (e.fills t tree) (e.spans t tree) nothing c.requires.one (e.blocks.2 refl) e.blocks.3 in
    packed_ends (fields c.fill_pending.new.table) t.children
    (later t.children most begun
    (packed_started g.row.SLOTS (fields c.fill_span.new.table) t 0 es (parts_of items c.new-pending.result.items) (parts_of items c.fill_span.new.pending.items) most (base_of (cells c.fill_span.new.table) 0) begun one tree (e.spans t tree) nothing)))
