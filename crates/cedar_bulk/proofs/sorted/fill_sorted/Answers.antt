use Rattle.std.proofs.Common.{◌≡◌, ℕ, ◌+◌, ◌<◌, ◌≤◌, ◌∙◌, arith, rules, refl, sym, subst, inl, inr, length, List, [], ◌∷◌}
use Rattle.std.specs.Prelude.{ℤ}
use Rattle.cedar_model.specs.Tree.{empty_tree, none, Tree}
use Rattle.cedar_model.specs.Queries.{asc, Entry, prefixes}
use Rattle.cedar_model.specs.Meaning.StandsFor.{HoldsTree}
use Rattle.cedar_bulk.specs.Sorted.{entries_by}
use Rattle.cedar_bulk.specs.Packed.{IsPacked}
use Rattle.cedar_bulk.specs.SortedMarks.{SortedMarks}
use Rattle.cedar_model.specs.Edit.Steps.{MakesBlocks, SameModes}
use Rattle.cedar_model.specs.Meaning.Marks.{marks}
use Rattle.cedar_model.specs.Meaning.WellFormed.{IsWellFormed, tree_of}
use Rattle.cedar_slots.specs.Views.{places_of}
use Rattle.cedar_table.specs.Table.Views.{cells, fields}
use Rattle.cedar_model.specs.Table.TableFields.{size_of}
use Rattle.cedar_model.proofs.UpdateLemmas.BlocksMade.{made_none, same_slots}
use Rattle.cedar_model.proofs.UpdateLemmas.Erasure.{root_field}
use Rattle.cedar_bulk.proofs.BulkLemmas.NodeByNode.{filling_ends}
use Rattle.cedar_bulk.proofs.BulkLemmas.Spans.{as_many}
use Rattle.cedar_bulk.proofs.BulkLemmas.SortedTree.{no_marks, no_pairs, some_pairs, sorted_done, whole_span}
use Rattle.cedar_model.proofs.UpdateLemmas.StepAnswers.{refused_as}
use Rattle.cedar_bulk.proofs.sorted.fill_sorted.Goals as goal

no_pair : {K : Type 0} (bytes : K → List ℕ) (ps : List (K × ℤ)) → length ps ≡ 0 → asc (entries_by bytes ps) ≡ empty_tree
no_pair bytes [] e = refl
no_pair bytes (p ∷ ps) e = absurd (omega (arith, e))

some_entries : {K : Type 0} (bytes : K → List ℕ) (ps : List (K × ℤ)) → 0 < length ps → 0 < length (entries_by bytes ps)
some_entries bytes ps some = omega (arith, as_many bytes ps)

pub returns-then-is_empty-clause-tree : goal.returns-then-is_empty-clause-tree
returns-then-is_empty-clause-tree g c =
    let nothing = no_pairs c.args.pairs.now c.is_empty.result c.is_empty.ensures c.if-is_empty.true in
    c.requires.empty ∙ sym (no_pair g.K.AsSlice.items c.args.pairs.now nothing)

pub returns-then-is_empty-clause-blocks : goal.returns-then-is_empty-clause-blocks
returns-then-is_empty-clause-blocks g c = (0, omega arith, made_none (fields c.args.table.now) (fields c.args.table.now) (same_slots (places_of c.args.table.now.places)))

pub fill-requires : goal.fill-requires
fill-requires g c =
    let some = some_pairs c.args.pairs.now c.is_empty.result c.is_empty.ensures c.if-is_empty.false in
    let k = whole_span (entries_by g.K.AsSlice.items c.args.pairs.now) (some_entries g.K.AsSlice.items c.args.pairs.now some) c.requires.keys c.requires.ascending c.requires.values in
    let t : Tree = asc (entries_by g.K.AsSlice.items c.args.pairs.now) in
    let holds : HoldsTree (size_of (fields c.args.table.now)) (cells c.args.table.now) none = subst (λ (u : Tree). HoldsTree (size_of (fields c.args.table.now)) (cells c.args.table.now) u.children) c.requires.empty c.requires.well_formed.stands in
    (search rules, (c.requires.well_formed.table, (c.requires.root_base, (holds, (c.requires.one, (t, k.0, k.1))))))

pub returns-in_err-fill-clause-refused : goal.returns-in_err-fill-clause-refused
returns-in_err-fill-clause-refused g c =
    let some = some_pairs c.args.pairs.now c.is_empty.result c.is_empty.ensures c.if-is_empty.false in
    let k = whole_span (entries_by g.K.AsSlice.items c.args.pairs.now) (some_entries g.K.AsSlice.items c.args.pairs.now some) c.requires.keys c.requires.ascending c.requires.values in
    refused_as c.from_residual.result c.in_err-fill.field-0.0 _ c.from_residual.ensures.1
    (elim c.in_err-fill.ensures.refused [
      | inl m ↦ inl m
      | inr s ↦ inr (s.0, s.1 (asc (entries_by g.K.AsSlice.items c.args.pairs.now)) k.0 k.1)
    ])

-- the table that was filled, once it is said to have as many keys as there are pairs
done : (g : _) (c : goal.After-set_entries g) → IsWellFormed g.row.SLOTS (fields c.set_entries.new.self) × (tree_of (fields c.set_entries.new.self) ≡ asc (entries_by g.K.AsSlice.items c.args.pairs.now))
    × SortedMarks g.L.Layout.kind (asc (entries_by g.K.AsSlice.items c.args.pairs.now)) (marks (fields c.set_entries.new.self))
done g c =
    let some = some_pairs c.args.pairs.now c.is_empty.result c.is_empty.ensures c.if-is_empty.false in
    let e = c.in_ok-fill.ensures in
    let es : List Entry = entries_by g.K.AsSlice.items c.args.pairs.now in
    let k = whole_span es (some_entries g.K.AsSlice.items c.args.pairs.now some) c.requires.keys c.requires.ascending c.requires.values in
    let t : Tree = asc es in
    let filled = e.filled t k.0 k.1 in
    let root = root_field g.row.SLOTS (fields c.args.table.now) (fields c.fill.new.table) c.requires.well_formed.table filled.table e.root_check c.requires.well_formed.root_check in
    subst (λ T. IsWellFormed g.row.SLOTS T × (tree_of T ≡ t) × SortedMarks g.L.Layout.kind t (marks T)) (sym c.set_entries.ensures)
    (sorted_done g.row.SLOTS (fields c.fill.new.table) es (length c.args.pairs.now) (1 + length (prefixes t)) (sym (as_many g.K.AsSlice.items c.args.pairs.now)) c.requires.keys c.requires.ascending c.requires.values root filled)

pub returns-clause-well_formed : goal.returns-clause-well_formed
returns-clause-well_formed g c = (done g c).0

pub returns-clause-tree : goal.returns-clause-tree
returns-clause-tree g c = (done g c).1

pub returns-clause-marks : goal.returns-clause-marks
returns-clause-marks g c = (done g c).2

pub returns-then-is_empty-clause-marks : goal.returns-then-is_empty-clause-marks
returns-then-is_empty-clause-marks g c =
    let nothing = no_pairs c.args.pairs.now c.is_empty.result c.is_empty.ensures c.if-is_empty.true in
    no_marks g.row.SLOTS (fields c.args.table.now) (asc (entries_by g.K.AsSlice.items c.args.pairs.now)) c.requires.well_formed c.requires.empty (no_pair g.K.AsSlice.items c.args.pairs.now nothing)

pub returns-clause-blocks : goal.returns-clause-blocks
returns-clause-blocks g c =
    let some = some_pairs c.args.pairs.now c.is_empty.result c.is_empty.ensures c.if-is_empty.false in
    let e = c.in_ok-fill.ensures in
    let es : List Entry = entries_by g.K.AsSlice.items c.args.pairs.now in
    let k = whole_span es (some_entries g.K.AsSlice.items c.args.pairs.now some) c.requires.keys c.requires.ascending c.requires.values in
    let t : Tree = asc es in
    let most = (filling_ends g.row.SLOTS (fields c.fill.new.table) t.children (1 + length (prefixes t)) (e.filled t k.0 k.1)).1 in
    subst (λ T. (n : ℕ) × (n ≤ length (prefixes t)) × MakesBlocks n (fields c.args.table.now) T) (sym c.set_entries.ensures)
    (e.blocks.0, omega (arith, most, e.blocks.1.active, c.requires.one), record { active = e.blocks.1.active; capacity = e.blocks.1.capacity })

pub returns-clause-modes : goal.returns-clause-modes
returns-clause-modes g c = subst (SameModes (fields c.args.table.now)) (sym c.set_entries.ensures) (record { ordered = c.in_ok-fill.ensures.settings.ordered; max_trial = c.in_ok-fill.ensures.settings.max_trial })

pub returns-then-is_empty-clause-packed : goal.returns-then-is_empty-clause-packed
returns-then-is_empty-clause-packed g c =
    let nothing = no_pairs c.args.pairs.now c.is_empty.result c.is_empty.ensures c.if-is_empty.true in
    let fits : IsPacked empty_tree (fields c.args.table.now) = omega (arith, c.requires.one) in
    subst (λ (t : Tree). IsPacked t (fields c.args.table.now)) (sym (no_pair g.K.AsSlice.items c.args.pairs.now nothing)) fits

pub returns-clause-packed : goal.returns-clause-packed
returns-clause-packed g c =
    let some = some_pairs c.args.pairs.now c.is_empty.result c.is_empty.ensures c.if-is_empty.false in
    let es : List Entry = entries_by g.K.AsSlice.items c.args.pairs.now in
    let k = whole_span es (some_entries g.K.AsSlice.items c.args.pairs.now some) c.requires.keys c.requires.ascending c.requires.values in
    subst (IsPacked (asc es)) (sym c.set_entries.ensures) (c.in_ok-fill.ensures.packs (asc es) k.0 k.1)
