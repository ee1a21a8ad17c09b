use Rattle.std.proofs.Common.{◌≡◌, ◌*◌, ◌<◌, arith, rules, refl, ap, subst, inl, inr, length, List, Result, Ok, Err, [], ◌∷◌, ◌++◌}
use Rattle.std.specs.Prelude.{IfOk, OnOk, option_to_list}
use Rattle.cedar_slots.specs.declared.shortage.Shortage.{Shortage}
use Rattle.cedar_bulk.specs.Packed.{Packed}
use Rattle.cedar_bulk.specs.Spans.{Filling, Part, part_of, parts_of, work}
use Rattle.cedar_table.specs.Table.Views.{fields}
use Rattle.cedar_model.proofs.UpdateLemmas.StepAnswers.{refused_as}
use Rattle.cedar_bulk.proofs.BulkLemmas.NodeByNode.{filling_on, filling_refused, if_err, next_span}
use Rattle.cedar_bulk.proofs.BulkLemmas.OneKey.{less_without}
use Rattle.cedar_bulk.proofs.BulkLemmas.PackedBlocks.{packed_on, packed_without}
use Rattle.cedar_bulk.proofs.BulkLemmas.Spans.{as_many}
use Rattle.cedar_bulk.proofs.sorted.fill_turn.Goals as goal

-- what three clauses say of a result, put together
if_ok_by : {X : Type 0} (r : Result X Shortage) {P O : Type 0} {Q R : X → Type 0} → OnOk r P → OnOk r O → IfOk r Q → (P → O → (x : X) → Q x → R x) → IfOk r R
if_ok_by (Ok x) p o q f = f p o x q
if_ok_by (Err e) p o q f = tt

pub returns-in_err-fill_tail-clause-refused : goal.returns-in_err-fill_tail-clause-refused
returns-in_err-fill_tail-clause-refused g c =
    refused_as c.from_residual.result c.in_err-fill_tail.field-0.0 _ c.from_residual.ensures.1
    (elim c.in_err-fill_tail.ensures.refused [
      | inl m ↦ inl m
      | inr s ↦ inr (s.0, λ f most h. s.1 (parts_of g.K.AsSlice.items c.args.pending.now.items) f most h)
    ])

pub returns-then-span-eq1-clause-turn : goal.returns-then-span-eq1-clause-turn
returns-then-span-eq1-clause-turn g c = λ f most h.
    let items = g.K.AsSlice.items in
    let ps : List Part = parts_of items c.args.pending.now.items in
    let s : Part = part_of items c.args.span in
    let is = ap (parts_of items) c.pop.ensures.items in
    let many : length s.entries ≡ length c.args.span.pairs.now = as_many items c.args.span.pairs.now in
    let some : 0 < length s.entries = omega (arith, many, c.if-span-eq1.true) in (
      subst (λ xs. Filling g.row.SLOTS (fields c.fill_tail.new.table) xs f most) is (c.in_ok-fill_tail.ensures.filled ps f most h),
      subst (λ xs. work xs < work (ps ++ s ∷ [])) is (less_without ps s some),
    )

pub returns-then-span-eq1-clause-packs : goal.returns-then-span-eq1-clause-packs
returns-then-span-eq1-clause-packs g c = λ f most h p.
    let items = g.K.AsSlice.items in
    let ps : List Part = parts_of items c.args.pending.now.items in
    let is = ap (parts_of items) c.pop.ensures.items in
    subst (λ xs. Packed (fields c.fill_tail.new.table) xs f) is
    (packed_without g.row.SLOTS (fields c.args.table.now) (fields c.fill_tail.new.table) ps (part_of items c.args.span) f most h p c.in_ok-fill_tail.ensures.packs)

pub fill_next-requires : goal.fill_next-requires
fill_next-requires g c =
    let items = g.K.AsSlice.items in
    let r = c.requires.filling in
    let next = next_span g.row.SLOTS (fields c.args.table.now) (parts_of items c.args.pending.now.items) (part_of items c.args.span) r.0 r.1 r.2 in
    (search (rules, c.requires-raw), (record { sound = r.2.table; node_in = next.inside; node = next.node; leaf = next.leaf }, (next.not_root, (next.tree.0, next.tree.1))))

pub returns-clause-turn : goal.returns-clause-turn
returns-clause-turn g c =
    let items = g.K.AsSlice.items in
    let e = c.fill_next.ensures in
    if_ok_by c.fill_next.result e.fills e.own e.spans
    (λ fills own next spans. λ f most h.
    filling_on g.row.SLOTS (fields c.args.table.now) (fields c.fill_next.new.table) (parts_of items c.args.pending.now.items) (part_of items c.args.span) (parts_of items (c.fill_next.new.pending.items ++ option_to_list next)) f most e.blocks.0 e.sound h fills spans e.blocks.1 e.blocks.2 refl own)

pub returns-clause-packs : goal.returns-clause-packs
returns-clause-packs g c =
    let items = g.K.AsSlice.items in
    let e = c.fill_next.ensures in
    if_ok_by c.fill_next.result e.fills e.packs e.spans
    (λ fills packs next spans. λ f most h p.
    packed_on g.row.SLOTS (fields c.args.table.now) (fields c.fill_next.new.table) (parts_of items c.args.pending.now.items) (part_of items c.args.span) f most h p (parts_of items (c.fill_next.new.pending.items ++ option_to_list next)) e.blocks.0 fills spans e.blocks.1 e.blocks.2 packs)

pub returns-clause-refused : goal.returns-clause-refused
returns-clause-refused g c =
    let items = g.K.AsSlice.items in
    if_err c.fill_next.result c.fill_next.ensures.refused
    (λ error p. elim p [
      | inl m ↦ inl m
      | inr s ↦ inr (
        s.0,
        λ f most h.
            let all : 256 * (fields c.args.table.now).places.blocks.active ≡ g.row.SLOTS = omega (arith, s.1.0, s.1.1.active) in
            filling_refused g.row.SLOTS (fields c.args.table.now) (parts_of items c.args.pending.now.items) (part_of items c.args.span) f most h all,
      )
    ])
