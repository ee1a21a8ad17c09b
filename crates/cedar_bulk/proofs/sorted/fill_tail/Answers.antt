use Rattle.std.proofs.Common.{◌≡◌, ◌+◌, ◌<◌, ◌≤◌, ◌∙◌, arith, rules, refl, sym, ap, subst, get_or, length, FitsSigned, of_z, to_z, w32, Some, None, [], ◌∷◌}
use Rattle.std.specs.Prelude.{IfSome, true}
use Rattle.std.proofs.lemmas.Int.{to_z-of_z}
use Rattle.cedar_model.specs.Queries.{Entry}
use Rattle.cedar_bulk.specs.Sorted.{entries_by, Fills}
use Rattle.cedar_bulk.specs.SortedMarks.{KeepsOwn}
use Rattle.cedar_bulk.specs.Spans.{IsTreeOfSpan, Part, part_of}
use Rattle.cedar_model.specs.Meaning.Family.{below}
use Rattle.cedar_model.specs.Meaning.WellFormed.{is_value}
use Rattle.cedar_table.specs.Table.Views.{cells, fields}
use Rattle.cedar_model.specs.Table.TableFields.{size_of}
use Rattle.cedar_model.proofs.UpdateLemmas.BlocksMade.{made_then}
use Rattle.cedar_model.proofs.UpdateLemmas.Frame.{settings_then}
use Rattle.cedar_model.proofs.UpdateLemmas.StepAnswers.{refused_as}
use Rattle.cedar_bulk.proofs.BulkLemmas.OneKey.{single, tail_begins, tail_ends, tail_goes_on, tail_label, tail_node, tail_packs, tail_refused}
use Rattle.cedar_bulk.proofs.BulkLemmas.OnePair.{ends_here}
use Rattle.cedar_bulk.proofs.sorted.fill_tail.Goals as goal

pub loop-depth-init : goal.loop-depth-init
loop-depth-init g c = tail_begins g.row.SLOTS (fields c.args.table.now) (part_of g.K.AsSlice.items c.args.span)

pub name_alone-requires : goal.name_alone-requires
name_alone-requires g c =
    let items = g.K.AsSlice.items in
    let r = c.requires.filling in
    let s : Part = part_of items c.args.span in
    let d = c.loop-depth.depth in
    let p = get_or c.args.span.pairs.now 0 c.index-span-0.result in
    let e : Entry = (items p.0, p.1) in
    let one = ap (entries_by items) (single c.args.span.pairs.now c.index-span-0.result c.requires.one) in
    let next = tail_node g.row.SLOTS (fields c.args.table.now) (fields c.loop-depth.table) s c.loop-depth.node d e one c.loop-depth.invariant r.0 r.1 r.2 r.3 in
    let long : d < length e.0 = omega (arith, ap length (sym c.as_slice-key.ensures), c.loop-depth-test.true) in
    let positive : 0 < get_or c.as_slice-key.result.now d 0 = subst (λ xs. 0 < get_or xs d 0) (sym c.as_slice-key.ensures) (tail_label g.row.SLOTS (fields c.args.table.now) (fields c.loop-depth.table) s c.loop-depth.node d e one c.loop-depth.invariant next long) in
    (search rules, (record { sound = (c.loop-depth.invariant.filling r.0 r.1 r.2 r.3).table; node_in = next.inside; node = next.node; leaf = next.leaf }, (next.not_root, positive)))

pub returns-in_err-node-clause-refused : goal.returns-in_err-node-clause-refused
returns-in_err-node-clause-refused g c =
    let items = g.K.AsSlice.items in
    let s : Part = part_of items c.args.span in
    let d = c.loop-depth.depth in
    let p = get_or c.args.span.pairs.now 0 c.index-span-0.result in
    let e : Entry = (items p.0, p.1) in
    let one = ap (entries_by items) (single c.args.span.pairs.now c.index-span-0.result c.requires.one) in
    let r = c.in_err-node.ensures in
    refused_as c.from_residual.result c.in_err-node.field-0.0 _ c.from_residual.ensures.1
    (tail_refused g.row.SLOTS (fields c.args.table.now) (fields c.loop-depth.table) s c.loop-depth.node d e one c.loop-depth.invariant (fields c.name_alone.new.table) c.in_err-node.field-0.0 r.blocks.0 r.blocks.2 r.blocks.3 r.refused)

pub returns-in_err-node-clause-blocks : goal.returns-in_err-node-clause-blocks
returns-in_err-node-clause-blocks g c =
    let i = c.loop-depth.invariant in
    let b = c.in_err-node.ensures.blocks in
    (i.blocks.0 + b.0, made_then i.blocks.0 b.0 (fields c.args.table.now) (fields c.loop-depth.table) (fields c.name_alone.new.table) i.blocks.1 b.3)

pub returns-in_err-node-clause-root_check : goal.returns-in_err-node-clause-root_check
returns-in_err-node-clause-root_check g c = c.in_err-node.ensures.root_check ∙ c.loop-depth.invariant.root_check

pub returns-in_err-node-clause-settings : goal.returns-in_err-node-clause-settings
returns-in_err-node-clause-settings g c = settings_then (fields c.args.table.now) (fields c.loop-depth.table) (fields c.name_alone.new.table) c.loop-depth.invariant.settings c.in_err-node.ensures.settings

pub loop-depth-preserved : goal.loop-depth-preserved
loop-depth-preserved g c =
    let items = g.K.AsSlice.items in
    let s : Part = part_of items c.args.span in
    let d = c.loop-depth.depth in
    let p = get_or c.args.span.pairs.now 0 c.index-span-0.result in
    let e : Entry = (items p.0, p.1) in
    let one = ap (entries_by items) (single c.args.span.pairs.now c.index-span-0.result c.requires.one) in
    let long : d < length e.0 = omega (arith, ap length (sym c.as_slice-key.ensures), c.loop-depth-test.true) in
    let r = c.in_ok-node.ensures in
    let same : get_or c.as_slice-key.result.now d 0 ≡ get_or e.0 d 0 = ap (λ xs. get_or xs d 0) c.as_slice-key.ensures in
    let T = cells c.loop-depth.table in
    let T' = cells c.name_alone.new.table in
    tail_goes_on g.row.SLOTS (fields c.args.table.now) (fields c.loop-depth.table) s c.loop-depth.node d e one c.loop-depth.invariant (fields c.name_alone.new.table) c.in_ok-node.node r.blocks.0 long r.sound
    (subst (λ l. Fills (size_of (fields c.loop-depth.table)) (size_of (fields c.name_alone.new.table)) T T' c.loop-depth.node None (l ∷ [])) same r.fills) (r.slot ∙ ap (below T' c.loop-depth.node) same)
    r.blocks.1 r.blocks.3 r.alone refl r.root_check r.settings

pub fill_node-requires : goal.fill_node-requires
fill_node-requires g c =
    let items = g.K.AsSlice.items in
    let s : Part = part_of items c.args.span in
    let d = c.loop-depth.depth in
    let p = get_or c.args.span.pairs.now 0 c.index-span-0.result in
    let e : Entry = (items p.0, p.1) in
    let one = ap (entries_by items) (single c.args.span.pairs.now c.index-span-0.result c.requires.one) in
    let r = c.requires.filling in
    let next = tail_node g.row.SLOTS (fields c.args.table.now) (fields c.loop-depth.table) s c.loop-depth.node d e one c.loop-depth.invariant r.0 r.1 r.2 r.3 in
    let short : length e.0 ≤ d = omega (arith, ap length (sym c.as_slice-key.ensures), c.loop-depth-test.false) in
    let k = ends_here d e next.tree.0 (subst (λ es. IsTreeOfSpan d es next.tree.0) one next.tree.1) short in
    let fits : FitsSigned w32 p.1 = search rules in
    let value : is_value (to_z w32 (of_z w32 p.1)) ≡ true = ap is_value (to_z-of_z w32 p.1 fits) ∙ subst (λ o. IfSome o (λ v. is_value v ≡ true)) k.number next.tree.1.values.0 in
    (search rules, (record { sound = (c.loop-depth.invariant.filling r.0 r.1 r.2 r.3).table; node_in = next.inside; not_root = λ z. absurd (next.not_root z); node = next.node; leaf = next.leaf; wanted = refl; some = omega arith; few = omega arith; ascends = tt }, value))

pub returns-in_err-fill_node-clause-refused : goal.returns-in_err-fill_node-clause-refused
returns-in_err-fill_node-clause-refused g c =
    let items = g.K.AsSlice.items in
    let s : Part = part_of items c.args.span in
    let d = c.loop-depth.depth in
    let p = get_or c.args.span.pairs.now 0 c.index-span-0.result in
    let e : Entry = (items p.0, p.1) in
    let one = ap (entries_by items) (single c.args.span.pairs.now c.index-span-0.result c.requires.one) in
    let r = c.in_err-fill_node.ensures in
    refused_as c.from_residual-in_err-fill_node.result c.in_err-fill_node.field-0.0 _ c.from_residual-in_err-fill_node.ensures.1
    (tail_refused g.row.SLOTS (fields c.args.table.now) (fields c.loop-depth.table) s c.loop-depth.node d e one c.loop-depth.invariant (fields c.fill_node.new.table) c.in_err-fill_node.field-0.0 r.blocks.0 r.blocks.2 r.blocks.4 r.refused)

pub returns-in_err-fill_node-clause-blocks : goal.returns-in_err-fill_node-clause-blocks
returns-in_err-fill_node-clause-blocks g c =
    let i = c.loop-depth.invariant in
    let b = c.in_err-fill_node.ensures.blocks in
    (i.blocks.0 + b.0, made_then i.blocks.0 b.0 (fields c.args.table.now) (fields c.loop-depth.table) (fields c.fill_node.new.table) i.blocks.1 b.4)

pub returns-in_err-fill_node-clause-root_check : goal.returns-in_err-fill_node-clause-root_check
returns-in_err-fill_node-clause-root_check g c = c.in_err-fill_node.ensures.root_check ∙ c.loop-depth.invariant.root_check

pub returns-in_err-fill_node-clause-settings : goal.returns-in_err-fill_node-clause-settings
returns-in_err-fill_node-clause-settings g c = settings_then (fields c.args.table.now) (fields c.loop-depth.table) (fields c.fill_node.new.table) c.loop-depth.invariant.settings c.in_err-fill_node.ensures.settings

pub returns-clause-filled : goal.returns-clause-filled
returns-clause-filled g c =
    let items = g.K.AsSlice.items in
    let s : Part = part_of items c.args.span in
    let d = c.loop-depth.depth in
    let p = get_or c.args.span.pairs.now 0 c.index-span-0.result in
    let e : Entry = (items p.0, p.1) in
    let one = ap (entries_by items) (single c.args.span.pairs.now c.index-span-0.result c.requires.one) in
    let short : length e.0 ≤ d = omega (arith, ap length (sym c.as_slice-key.ensures), c.loop-depth-test.false) in
    let r = c.in_ok-fill_node.ensures in
    let fits : FitsSigned w32 p.1 = search rules in
    let same = to_z-of_z w32 p.1 fits in
    let T = cells c.loop-depth.table in
    let T' = cells c.fill_node.new.table in
    tail_ends g.row.SLOTS (fields c.args.table.now) (fields c.loop-depth.table) s c.loop-depth.node d e one c.loop-depth.invariant (fields c.fill_node.new.table) r.blocks.0 short r.sound
    (subst (λ v. Fills (size_of (fields c.loop-depth.table)) (size_of (fields c.fill_node.new.table)) T T' c.loop-depth.node (Some v) []) same r.fills)
    (subst (λ v. KeepsOwn g.L.Layout.kind T' c.loop-depth.node (Some v) []) same r.own) r.blocks.1 r.blocks.4 refl

pub returns-clause-packs : goal.returns-clause-packs
returns-clause-packs g c =
    let items = g.K.AsSlice.items in
    let s : Part = part_of items c.args.span in
    let p = get_or c.args.span.pairs.now 0 c.index-span-0.result in
    let one = ap (entries_by items) (single c.args.span.pairs.now c.index-span-0.result c.requires.one) in
    let r = c.in_ok-fill_node.ensures in
    tail_packs g.row.SLOTS (fields c.args.table.now) (fields c.loop-depth.table) s c.loop-depth.node c.loop-depth.depth (items p.0, p.1) one c.loop-depth.invariant (fields c.fill_node.new.table) r.blocks.0 r.fills.keeps r.blocks.1 r.blocks.4 (r.alone refl)

pub returns-clause-blocks : goal.returns-clause-blocks
returns-clause-blocks g c =
    let i = c.loop-depth.invariant in
    let b = c.in_ok-fill_node.ensures.blocks in
    (i.blocks.0 + b.0, made_then i.blocks.0 b.0 (fields c.args.table.now) (fields c.loop-depth.table) (fields c.fill_node.new.table) i.blocks.1 b.4)

pub returns-clause-root_check : goal.returns-clause-root_check
returns-clause-root_check g c = c.in_ok-fill_node.ensures.root_check ∙ c.loop-depth.invariant.root_check

pub returns-clause-settings : goal.returns-clause-settings
returns-clause-settings g c = settings_then (fields c.args.table.now) (fields c.loop-depth.table) (fields c.fill_node.new.table) c.loop-depth.invariant.settings c.in_ok-fill_node.ensures.settings
