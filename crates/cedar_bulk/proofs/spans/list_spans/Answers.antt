use Rattle.std.proofs.Common.{◌≡◌, ℕ, suc, ◌<◌, ◌∙◌, arith, sym, ap, subst, drop, take, length, List, [], ◌∷◌, ◌++◌}
use Rattle.std.proofs.lemmas.List.{drop-drop}
use Rattle.std.specs.Int.Bits.{xor_zero_l}
use Rattle.cedar_model.specs.Queries.{Entry}
use Rattle.cedar_bulk.specs.Sorted.{entries_by, run}
use Rattle.cedar_bulk.specs.Spans.{first_label, IsDeeper, Lists, Part, parts_of}
use Rattle.cedar_bulk.proofs.BulkLemmas.Pending.{parts_last}
use Rattle.cedar_bulk.proofs.BulkLemmas.Spans.{deeper_at, front_is, part_is, part_none, part_some, push_begins, push_ends, push_on_at, Pushed, Scan, scan_begins, scan_ends, scan_on_at, scan_room_at}
use Rattle.cedar_bulk.proofs.spans.list_spans.Goals as goal

pub loop-start-init : goal.loop-start-init
loop-start-init g c = λ f k. (
  scan_begins c.args.depth (entries_by g.K.AsSlice.items c.args.pairs.now) f c.args.number c.begin_labels.new.wanted.items c.begin_labels.ensures k,
  push_begins c.args.depth (entries_by g.K.AsSlice.items c.args.pairs.now) f 0 (parts_of g.K.AsSlice.items c.args.pending.now.items) k,
)

pub run_length-count-requires-clause-lists : goal.run_length-count-requires-clause-lists
run_length-count-requires-clause-lists g c =
    let f = c.requires in
    let s = (c.loop-start.invariant f.0 f.1).0 in
    (s.todo, subst (λ xs. Lists c.args.depth xs s.todo) (sym (part_is g.K.AsSlice.items c.args.pairs.now c.loop-start.start)) s.lists)

pub push-requires : goal.push-requires
push-requires g c =
    let items = g.K.AsSlice.items in
    let es : List Entry = entries_by items c.args.pairs.now in
    let i : ℕ = c.loop-start.start in
    let f = c.requires in
    let room : length c.loop-start.wanted.items < 256 = scan_room_at c.args.depth f.0 c.args.number c.loop-start.wanted.items (drop i es) (part_some items c.args.pairs.now i c.loop-start-test.true) (c.loop-start.invariant f.0 f.1).0 in
    (omega arith, room)

pub depth_below-requires : goal.depth_below-requires
depth_below-requires g c =
    let items = g.K.AsSlice.items in
    let es : List Entry = entries_by items c.args.pairs.now in
    let i : ℕ = c.loop-start.start in
    let f = c.requires in
    subst (IsDeeper c.args.depth) (sym (part_is items c.args.pairs.now i))
    (deeper_at c.args.depth f.0 0 (parts_of items c.args.pending.now.items) (parts_of items c.loop-start.pending.items) (drop i es) (part_some items c.args.pairs.now i c.loop-start-test.true) (c.loop-start.invariant f.0 f.1).1)

pub loop-start-preserved : goal.loop-start-preserved
loop-start-preserved g c = λ f k.
    let items = g.K.AsSlice.items in
    let es : List Entry = entries_by items c.args.pairs.now in
    let i : ℕ = c.loop-start.start in
    let d = c.args.depth in
    let old : List Part = parts_of items c.args.pending.now.items in
    let before : List Part = parts_of items c.loop-start.pending.items in
    let after : List Part = parts_of items c.push-in-loop-start.new.self.items in
    let count = c.run_length-count.result in
    let some = part_some items c.args.pairs.now i c.loop-start-test.true in
    let invariant = c.loop-start.invariant f k in
    let part = part_is items c.args.pairs.now i in
    let label : c.first_label_at-label.result ≡ first_label d (drop i es) = c.first_label_at-label.ensures ∙ ap (first_label d) part in
    let run_is : count ≡ run d c.first_label_at-label.result (drop i es) = c.run_length-count.ensures.count ∙ ap (run d c.first_label_at-label.result) part in
    let scanned = scan_on_at d f c.args.number c.loop-start.wanted.items c.push.new.self.items (drop i es) c.first_label_at-label.result count some invariant.0 label run_is c.push.ensures.items in
    let depth : c.depth_below.result ≡ suc d = omega (arith, c.depth_below.ensures) in
    let added : after ≡ before ++ _ ∷ [] = ap (parts_of items) c.in_ok-push.ensures.items ∙ parts_last items c.loop-start.pending.items _ in
    let more = push_on_at d f 0 old before after (drop i es) _ c.first_label_at-label.result count some invariant.1
    label run_is added (c.from.ensures ∙ sym (xor_zero_l c.first_label_at-label.result)) depth (front_is items count _ ∙ ap (take count) part) in
    (subst (λ xs. Scan d xs f c.args.number c.push.new.self.items) (drop-drop count i es) scanned.1, subst (λ xs. Pushed d xs f 0 old after) (drop-drop count i es) more.1)

pub returns-clause-labels : goal.returns-clause-labels
returns-clause-labels g c = λ f k.
    let items = g.K.AsSlice.items in
    scan_ends c.args.depth f c.args.number c.loop-start.wanted.items
    (subst (λ xs. Scan c.args.depth xs f c.args.number c.loop-start.wanted.items) (part_none items c.args.pairs.now c.loop-start.start c.loop-start-test.false) (c.loop-start.invariant f k).0)

pub returns-clause-spans : goal.returns-clause-spans
returns-clause-spans g c = λ f k.
    let items = g.K.AsSlice.items in
    push_ends c.args.depth f 0 (parts_of items c.args.pending.now.items) (parts_of items c.loop-start.pending.items)
    (subst (λ xs. Pushed c.args.depth xs f 0 (parts_of items c.args.pending.now.items) (parts_of items c.loop-start.pending.items)) (part_none items c.args.pairs.now c.loop-start.start c.loop-start-test.false) (c.loop-start.invariant f k).1)
