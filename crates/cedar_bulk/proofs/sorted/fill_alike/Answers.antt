use Rattle.std.proofs.Common.{◌≡◌, suc, ◌<◌, ◌∙◌, arith, rules, refl, sym, ap, subst, Some, None, [], ◌∷◌}
use Rattle.std.specs.Prelude.{bit_xor}
use Rattle.cedar_bulk.specs.Sorted.{entries_by, Fills}
use Rattle.cedar_model.specs.Meaning.Family.{base_of}
use Rattle.cedar_model.specs.Meaning.StandsFor.{labels}
use Rattle.cedar_table.specs.Table.Views.{cells, fields}
use Rattle.cedar_model.specs.Table.TableFields.{size_of}
use Rattle.cedar_model.proofs.UpdateLemmas.StepAnswers.{on_refusal}
use Rattle.cedar_bulk.proofs.BulkLemmas.OnePair.{alike_below, covers_same}
use Rattle.cedar_bulk.proofs.sorted.fill_alike.Goals as goal

pub name_alone-requires : goal.name_alone-requires
name_alone-requires g c =
    let r = c.requires in
    let k = alike_below c.args.span.depth (entries_by g.K.AsSlice.items c.args.span.pairs.now) r.tree.0 r.tree.1 r.alike in
    (search rules, (r.bare, (r.not_root, subst (λ l. 0 < l) (sym c.first_label_at-label.ensures) k.positive)))

pub returns-in_err-node-clause-blocks : goal.returns-in_err-node-clause-blocks
returns-in_err-node-clause-blocks g c =
    let b = c.in_err-node.ensures.blocks in
    (b.0, b.1, on_refusal c.from_residual.result _ b.2, b.3)

pub depth_below-requires : goal.depth_below-requires
depth_below-requires g c = c.requires.alike.0

pub returns-clause-fills : goal.returns-clause-fills
returns-clause-fills g c = λ t h.
    let k = alike_below c.args.span.depth (entries_by g.K.AsSlice.items c.args.span.pairs.now) t h c.requires.alike in
    let label : labels t.children ≡ c.first_label_at-label.result ∷ [] = k.label ∙ ap (λ l. l ∷ []) (sym c.first_label_at-label.ensures) in
    let T = cells c.args.table.now in
    let T' = cells c.name_alone.new.table in
    let size = size_of (fields c.args.table.now) in
    let size' = size_of (fields c.name_alone.new.table) in
    subst (λ o. Fills size size' T T' c.args.span.node o (labels t.children)) (sym k.number)
    (subst (Fills size size' T T' c.args.span.node None) (sym label) c.in_ok-node.ensures.fills)

pub returns-clause-own : goal.returns-clause-own
returns-clause-own g c = λ t h. λ reduced v some short.
    let k = alike_below c.args.span.depth (entries_by g.K.AsSlice.items c.args.span.pairs.now) t h c.requires.alike in
    let both : None ≡ Some v = sym k.number ∙ some in absurd cc

pub returns-clause-spans : goal.returns-clause-spans
returns-clause-spans g c = λ t h.
    let k = alike_below c.args.span.depth (entries_by g.K.AsSlice.items c.args.span.pairs.now) t h c.requires.alike in
    let base = base_of (cells c.name_alone.new.table) c.args.span.node in
    let depth : c.depth_below.result ≡ suc c.args.span.depth = omega (arith, c.depth_below.ensures) in
    covers_same base _ _ t.children (c.in_ok-node.ensures.slot ∙ ap (bit_xor base) c.first_label_at-label.ensures) depth refl (k.covers base)
