use Rattle.std.proofs.Common.{◌≡◌, ◌<◌, ◌≤◌, ◌∙◌, arith, inl, inr, refl, rules, sym, ap, subst, drop, length, List, map}
use Rattle.std.specs.Prelude.{IfSome, true}
use Rattle.cedar_model.specs.Tree.{none}
use Rattle.cedar_model.specs.Queries.{Entry}
use Rattle.cedar_model.specs.Edit.NodeEdits.{Above}
use Rattle.cedar_bulk.specs.Sorted.{entries_by, Fills, slot_labels}
use Rattle.cedar_bulk.specs.SortedMarks.{KeepsOwn}
use Rattle.cedar_bulk.specs.Spans.{based_at, Covers, Lists, parts_of}
use Rattle.cedar_model.specs.Meaning.StandsFor.{labels}
use Rattle.cedar_table.specs.Table.Views.{cells, fields}
use Rattle.cedar_model.specs.Table.TableFields.{size_of}
use Rattle.cedar_model.specs.Meaning.WellFormed.{is_value}
use Rattle.cedar_bulk.proofs.BulkLemmas.MovedSpans.{covers_moved, front_inside, spans_moved}
use Rattle.cedar_bulk.proofs.BulkLemmas.PackedBlocks.{one_or_several}
use Rattle.cedar_bulk.proofs.BulkLemmas.Spans.{as_many, back_is, below_is, bit_is}
use Rattle.cedar_slots.specs.Views.{places_of}
use Rattle.cedar_model.proofs.UpdateLemmas.BlocksMade.{made_none, same_slots}
use Rattle.cedar_bulk.proofs.sorted.fill_span.Goals as goal

pub split_at-requires : goal.split_at-requires
split_at-requires g c =
    let items = g.K.AsSlice.items in
    let t = c.requires.tree in
    let count = bit_is c.from-skipped.result c.is_some.result c.number_at-number.result c.from-skipped.ensures c.is_some.ensures in
    let k = below_is c.args.span.depth (entries_by items c.args.span.pairs.now) t.0 c.number_at-number.result c.from-skipped.result t.1 c.number_at-number.ensures count in
    subst (λ n. c.from-skipped.result ≤ n) (as_many items c.args.span.pairs.now) k.few

pub list_spans-requires : goal.list_spans-requires
list_spans-requires g c =
    let items = g.K.AsSlice.items in
    let t = c.requires.tree in
    let d = c.args.span.depth in
    let skipped = c.from-skipped.result in
    let es : List Entry = entries_by items c.args.span.pairs.now in
    let count = bit_is skipped c.is_some.result c.number_at-number.result c.from-skipped.ensures c.is_some.ensures in
    let k = below_is d es t.0 c.number_at-number.result skipped t.1 c.number_at-number.ensures count in
    let below : entries_by items c.split_at.result.1.now ≡ drop skipped es = ap (entries_by items) c.split_at.ensures.back ∙ back_is items skipped c.args.span.pairs.now in
    (t.0.children, subst (λ xs. Lists d xs t.0.children) (sym below) k.lists)

pub split_at-requires-2 : goal.split_at-requires-2
split_at-requires-2 g c =
    let items = g.K.AsSlice.items in
    let t = c.requires.tree in
    let d = c.args.span.depth in
    let number = c.number_at-number.result in
    let skipped = c.from-skipped.result in
    let es : List Entry = entries_by items c.args.span.pairs.now in
    let count = bit_is skipped c.is_some.result number c.from-skipped.ensures c.is_some.ensures in
    let k = below_is d es t.0 number skipped t.1 c.number_at-number.ensures count in
    let below : entries_by items c.split_at.result.1.now ≡ drop skipped es = ap (entries_by items) c.split_at.ensures.back ∙ back_is items skipped c.args.span.pairs.now in
    let listed : c.as_slice-listed.result.now ≡ slot_labels number (labels t.0.children) = c.as_slice-listed.ensures.value ∙ c.in_ok-list_spans.ensures.labels t.0.children (subst (λ xs. Lists d xs t.0.children) (sym below) k.lists) in
    subst (λ xs. skipped ≤ length xs) (sym listed) k.wanted_more

pub fill_node-requires : goal.fill_node-requires
fill_node-requires g c =
    let items = g.K.AsSlice.items in
    let t = c.requires.tree in
    let d = c.args.span.depth in
    let number = c.number_at-number.result in
    let skipped = c.from-skipped.result in
    let es : List Entry = entries_by items c.args.span.pairs.now in
    let count = bit_is skipped c.is_some.result number c.from-skipped.ensures c.is_some.ensures in
    let k = below_is d es t.0 number skipped t.1 c.number_at-number.ensures count in
    let below : entries_by items c.split_at.result.1.now ≡ drop skipped es = ap (entries_by items) c.split_at.ensures.back ∙ back_is items skipped c.args.span.pairs.now in
    let listed : c.as_slice-listed.result.now ≡ slot_labels number (labels t.0.children) = c.as_slice-listed.ensures.value ∙ c.in_ok-list_spans.ensures.labels t.0.children (subst (λ xs. Lists d xs t.0.children) (sym below) k.lists) in
    let positive : c.split_at-2.result.1.now ≡ labels t.0.children = c.split_at-2.ensures.back ∙ ap (drop skipped) listed ∙ k.wanted in
    let listed_is : c.as_slice-listed.result.now ≡ slot_labels number c.split_at-2.result.1.now = listed ∙ ap (slot_labels number) (sym positive) in
    (search (rules, c.requires-raw), (record { sound = c.requires.bare.sound; node_in = c.requires.bare.node_in; not_root = λ z. k.number_is ∙ t.2 z; node = c.requires.bare.node; leaf = c.requires.bare.leaf; wanted = listed_is; some = subst (λ xs. 0 < length xs) (sym listed) k.some; few = subst (λ xs. length xs ≤ 256) (sym listed) k.most; ascends = subst (Above 0) (sym positive) k.ascends }, subst (λ o. IfSome o (λ v. is_value v ≡ true)) (sym k.number_is) t.1.values.0))

pub returns-in_err-list_spans-clause-blocks : goal.returns-in_err-list_spans-clause-blocks
returns-in_err-list_spans-clause-blocks g c = (0, omega arith, λ _. refl, made_none (fields c.args.table.now) (fields c.args.table.now) (same_slots (places_of c.args.table.now.places)))

pub move_spans-requires : goal.move_spans-requires
move_spans-requires g c =
    let items = g.K.AsSlice.items in
    let t = c.requires.tree in
    let d = c.args.span.depth in
    let skipped = c.from-skipped.result in
    let es : List Entry = entries_by items c.args.span.pairs.now in
    let count = bit_is skipped c.is_some.result c.number_at-number.result c.from-skipped.ensures c.is_some.ensures in
    let k = below_is d es t.0 c.number_at-number.result skipped t.1 c.number_at-number.ensures count in
    let below : entries_by items c.split_at.result.1.now ≡ drop skipped es = ap (entries_by items) c.split_at.ensures.back ∙ back_is items skipped c.args.span.pairs.now in
    let made = c.in_ok-list_spans.ensures.spans t.0.children (subst (λ xs. Lists d xs t.0.children) (sym below) k.lists) in
    front_inside items c.args.pending.now.items c.list_spans.new.pending.items made.0 c.len-first.result (omega (arith, c.len-first.ensures)) made.1

pub returns-clause-fills : goal.returns-clause-fills
returns-clause-fills g c = λ t h.
    let items = g.K.AsSlice.items in
    let d = c.args.span.depth in
    let number = c.number_at-number.result in
    let skipped = c.from-skipped.result in
    let es : List Entry = entries_by items c.args.span.pairs.now in
    let count = bit_is skipped c.is_some.result number c.from-skipped.ensures c.is_some.ensures in
    let k = below_is d es t number skipped h c.number_at-number.ensures count in
    let below : entries_by items c.split_at.result.1.now ≡ drop skipped es = ap (entries_by items) c.split_at.ensures.back ∙ back_is items skipped c.args.span.pairs.now in
    let listed : c.as_slice-listed.result.now ≡ slot_labels number (labels t.children) = c.as_slice-listed.ensures.value ∙ c.in_ok-list_spans.ensures.labels t.children (subst (λ xs. Lists d xs t.children) (sym below) k.lists) in
    let positive : c.split_at-2.result.1.now ≡ labels t.children = c.split_at-2.ensures.back ∙ ap (drop skipped) listed ∙ k.wanted in
    let T = cells c.args.table.now in
    let T' = cells c.fill_node.new.table in
    let size = size_of (fields c.args.table.now) in
    let size' = size_of (fields c.fill_node.new.table) in
    subst (λ o. Fills size size' T T' c.args.span.node o (labels t.children)) k.number_is
    (subst (Fills size size' T T' c.args.span.node number) positive c.in_ok-base.ensures.fills)

pub returns-clause-spans : goal.returns-clause-spans
returns-clause-spans g c = λ t h.
    let items = g.K.AsSlice.items in
    let d = c.args.span.depth in
    let number = c.number_at-number.result in
    let skipped = c.from-skipped.result in
    let es : List Entry = entries_by items c.args.span.pairs.now in
    let count = bit_is skipped c.is_some.result number c.from-skipped.ensures c.is_some.ensures in
    let k = below_is d es t number skipped h c.number_at-number.ensures count in
    let below : entries_by items c.split_at.result.1.now ≡ drop skipped es = ap (entries_by items) c.split_at.ensures.back ∙ back_is items skipped c.args.span.pairs.now in
    let made = c.in_ok-list_spans.ensures.spans t.children (subst (λ xs. Lists d xs t.children) (sym below) k.lists) in
    let moved = spans_moved items c.args.pending.now.items made.0 c.len-first.result c.in_ok-base.base (omega (arith, c.len-first.ensures)) (parts_of items c.list_spans.new.pending.items) (parts_of items c.move_spans.new.pending.items) made.1 c.move_spans.ensures in
    (map (based_at c.in_ok-base.base) made.0, moved, subst (λ b. Covers b (map (based_at c.in_ok-base.base) made.0) t.children none) c.in_ok-base.ensures.base (covers_moved c.in_ok-base.base made.0 t.children none made.2))

pub returns-clause-own : goal.returns-clause-own
returns-clause-own g c = λ t h.
    let items = g.K.AsSlice.items in
    let d = c.args.span.depth in
    let number = c.number_at-number.result in
    let skipped = c.from-skipped.result in
    let es : List Entry = entries_by items c.args.span.pairs.now in
    let count = bit_is skipped c.is_some.result number c.from-skipped.ensures c.is_some.ensures in
    let k = below_is d es t number skipped h c.number_at-number.ensures count in
    let below : entries_by items c.split_at.result.1.now ≡ drop skipped es = ap (entries_by items) c.split_at.ensures.back ∙ back_is items skipped c.args.span.pairs.now in
    let listed : c.as_slice-listed.result.now ≡ slot_labels number (labels t.children) = c.as_slice-listed.ensures.value ∙ c.in_ok-list_spans.ensures.labels t.children (subst (λ xs. Lists d xs t.children) (sym below) k.lists) in
    let positive : c.split_at-2.result.1.now ≡ labels t.children = c.split_at-2.ensures.back ∙ ap (drop skipped) listed ∙ k.wanted in
    let T' = cells c.fill_node.new.table in
    subst (λ o. KeepsOwn g.L.Layout.kind T' c.args.span.node o (labels t.children)) k.number_is
    (subst (KeepsOwn g.L.Layout.kind T' c.args.span.node number) positive c.in_ok-base.ensures.own)

pub returns-clause-packs : goal.returns-clause-packs
returns-clause-packs g c = λ t h.
    let items = g.K.AsSlice.items in
    let d = c.args.span.depth in
    let number = c.number_at-number.result in
    let skipped = c.from-skipped.result in
    let es : List Entry = entries_by items c.args.span.pairs.now in
    let count = bit_is skipped c.is_some.result number c.from-skipped.ensures c.is_some.ensures in
    let k = below_is d es t number skipped h c.number_at-number.ensures count in
    let below : entries_by items c.split_at.result.1.now ≡ drop skipped es = ap (entries_by items) c.split_at.ensures.back ∙ back_is items skipped c.args.span.pairs.now in
    let listed : c.as_slice-listed.result.now ≡ slot_labels number (labels t.children) = c.as_slice-listed.ensures.value ∙ c.in_ok-list_spans.ensures.labels t.children (subst (λ xs. Lists d xs t.children) (sym below) k.lists) in
    let same : slot_labels number (labels t.children) ≡ slot_labels t.number (labels t.children) = ap (λ o. slot_labels o (labels t.children)) k.number_is in
    let some : 0 < length (slot_labels t.number (labels t.children)) = subst (λ xs. 0 < length xs) same k.some in
    elim (one_or_several t.number (labels t.children) some) [
      | inl one ↦ inl (c.in_ok-base.ensures.alone (ap length (listed ∙ same) ∙ one))
      | inr several ↦ inr several
    ]
