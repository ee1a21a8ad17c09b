use Rattle.std.proofs.Common.{◌≡◌, ◌∙◌, ap, refl, sym}
use Rattle.std.specs.List.{slice_get}
use Rattle.cedarwood.specs.Layouts.{default_layout, reduced_layout}
use Rattle.either_layout.specs.Layouts.{layout_for}
use Rattle.either_layout.specs.Loads.{names_reduced_layout}
use Rattle.either_layout.proofs.EitherLemmas.{loads_either, refused_either}
use Rattle.either_layout.proofs.any.AnyCedar.load_any.Goals as goal

pub returns-in-Ok-clause-loads : goal.returns-in-Ok-clause-loads
returns-in-Ok-clause-loads c =
    let named = names_reduced_layout (slice_get c.args.bytes.now 13) in
    let same : reduced_layout ≡ layout_for named = ap layout_for (sym c.if-is_reduced.true ∙ c.names_reduced-is_reduced.ensures) in
    let loads = c.in-Ok.ensures.loads in
    (loads.0, loads_either c.args.memory_limit _ _ _ _ named reduced_layout same c.in-Ok.cedar _ refl loads.1)

pub returns-in-Err-clause-loads : goal.returns-in-Err-clause-loads
returns-in-Err-clause-loads c =
    let named = names_reduced_layout (slice_get c.args.bytes.now 13) in
    let same : reduced_layout ≡ layout_for named = ap layout_for (sym c.if-is_reduced.true ∙ c.names_reduced-is_reduced.ensures) in
    let loads = c.in-Err.ensures.loads in
    (loads.0, refused_either c.args.memory_limit _ _ _ _ named reduced_layout same c.in-Err.error loads.1)

pub returns-in-Ok-clause-layout : goal.returns-in-Ok-clause-layout
returns-in-Ok-clause-layout c =
    let named = names_reduced_layout (slice_get c.args.bytes.now 13) in
    let same : reduced_layout ≡ layout_for named = ap layout_for (sym c.if-is_reduced.true ∙ c.names_reduced-is_reduced.ensures) in
    same

pub returns-in-Ok-load_bytes-clause-loads : goal.returns-in-Ok-load_bytes-clause-loads
returns-in-Ok-load_bytes-clause-loads c =
    let named = names_reduced_layout (slice_get c.args.bytes.now 13) in
    let same : default_layout ≡ layout_for named = ap layout_for (sym c.if-is_reduced.false ∙ c.names_reduced-is_reduced.ensures) in
    let loads = c.in-Ok-load_bytes.ensures.loads in
    (loads.0, loads_either c.args.memory_limit _ _ _ _ named default_layout same c.in-Ok-load_bytes.cedar _ refl loads.1)

pub returns-in-Err-load_bytes-clause-loads : goal.returns-in-Err-load_bytes-clause-loads
returns-in-Err-load_bytes-clause-loads c =
    let named = names_reduced_layout (slice_get c.args.bytes.now 13) in
    let same : default_layout ≡ layout_for named = ap layout_for (sym c.if-is_reduced.false ∙ c.names_reduced-is_reduced.ensures) in
    let loads = c.in-Err-load_bytes.ensures.loads in
    (loads.0, refused_either c.args.memory_limit _ _ _ _ named default_layout same c.in-Err-load_bytes.error loads.1)

pub returns-in-Ok-load_bytes-clause-layout : goal.returns-in-Ok-load_bytes-clause-layout
returns-in-Ok-load_bytes-clause-layout c =
    let named = names_reduced_layout (slice_get c.args.bytes.now 13) in
    let same : default_layout ≡ layout_for named = ap layout_for (sym c.if-is_reduced.false ∙ c.names_reduced-is_reduced.ensures) in
    same
