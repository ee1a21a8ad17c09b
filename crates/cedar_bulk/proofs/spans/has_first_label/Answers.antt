use Rattle.std.proofs.Common.{◌≡◌, ◌<◌, ◌∙◌, ℕ, List, ap, get_or, length, subst, sym}
use Rattle.std.specs.Prelude.{ℤ}
use Rattle.std.proofs.lemmas.List.{get_or-map}
use Rattle.cedar_model.specs.Queries.{Entry}
use Rattle.cedar_bulk.specs.Sorted.{entries_by, label_of}
use Rattle.cedar_bulk.proofs.BulkLemmas.Runs.{run_inside, run_tells}
use Rattle.cedar_bulk.proofs.BulkLemmas.Spans.{as_many}
use Rattle.std.proofs.lemmas.Bool.{eqb-true, eq-eqb}
use Rattle.cedar_bulk.proofs.spans.has_first_label.Goals as goal

pub returns : goal.returns
returns g c =
    let items = g.K.AsSlice.items in
    let d = c.args.depth in
    let l = c.args.label in
    let i : ℕ = c.args.index in
    let es : List Entry = entries_by items c.args.pairs.now in
    let p = c.index-pairs-index.result in
    let e : Entry = (items p.0, p.1) in
    let r = c.requires in
    let inside : i < length es = subst (λ n. i < n) (sym (as_many items c.args.pairs.now)) r.inside in
    let there : get_or es i e ≡ e = get_or-map (λ (q : _ × ℤ). (items q.0, q.1)) c.args.pairs.now i p e r.inside ∙ ap (λ (q : _ × ℤ). (items q.0, q.1)) (sym c.index-pairs-index.is) in
    let label : c.label_at.result ≡ label_of d (get_or es i e) = c.label_at.ensures ∙ ap (label_of d) (sym there) in (
      λ t. run_tells d l es r.lists.0 i e r.lists.1 r.first inside (sym label ∙ eqb-true c.label_at.result l t),
      λ h. eq-eqb c.label_at.result l (label ∙ run_inside d l es i e h),
    )
