use Rattle.std.proofs.Common.{ap, refl, sym}
use Rattle.cedarwood.specs.Layouts.{default_layout, reduced_layout}
use Rattle.either_layout.specs.Layouts.{layout_for}
use Rattle.either_layout.proofs.EitherLemmas.{loads_either, refused_either}
use Rattle.either_layout.proofs.any.AnyCedar.load_as.Goals as goal

pub returns-in-Ok-clause-loads : goal.returns-in-Ok-clause-loads
returns-in-Ok-clause-loads g c =
    loads_either c.args.memory_limit _ _ _ _ c.args.is_reduced reduced_layout (ap layout_for (sym c.if-is_reduced.true)) c.in-Ok.cedar _ refl c.in-Ok.ensures.loads

pub returns-in-Err-clause-loads : goal.returns-in-Err-clause-loads
returns-in-Err-clause-loads g c =
    refused_either c.args.memory_limit _ _ _ _ c.args.is_reduced reduced_layout (ap layout_for (sym c.if-is_reduced.true)) c.in-Err.error c.in-Err.ensures.loads

pub returns-in-Ok-load_from_reader_with_limit-clause-loads : goal.returns-in-Ok-load_from_reader_with_limit-clause-loads
returns-in-Ok-load_from_reader_with_limit-clause-loads g c =
    loads_either c.args.memory_limit _ _ _ _ c.args.is_reduced default_layout (ap layout_for (sym c.if-is_reduced.false)) c.in-Ok-load_from_reader_with_limit.cedar _ refl
    c.in-Ok-load_from_reader_with_limit.ensures.loads

pub returns-in-Err-load_from_reader_with_limit-clause-loads : goal.returns-in-Err-load_from_reader_with_limit-clause-loads
returns-in-Err-load_from_reader_with_limit-clause-loads g c =
    refused_either c.args.memory_limit _ _ _ _ c.args.is_reduced default_layout (ap layout_for (sym c.if-is_reduced.false)) c.in-Err-load_from_reader_with_limit.error
    c.in-Err-load_from_reader_with_limit.ensures.loads

pub returns-in-Ok-clause-told : goal.returns-in-Ok-clause-told
returns-in-Ok-clause-told g c = c.in-Ok.ensures.told

pub returns-in-Err-clause-told : goal.returns-in-Err-clause-told
returns-in-Err-clause-told g c = c.in-Err.ensures.told

pub returns-in-Ok-load_from_reader_with_limit-clause-told : goal.returns-in-Ok-load_from_reader_with_limit-clause-told
returns-in-Ok-load_from_reader_with_limit-clause-told g c = c.in-Ok-load_from_reader_with_limit.ensures.told

pub returns-in-Err-load_from_reader_with_limit-clause-told : goal.returns-in-Err-load_from_reader_with_limit-clause-told
returns-in-Err-load_from_reader_with_limit-clause-told g c = c.in-Err-load_from_reader_with_limit.ensures.told

pub returns-in-Ok-clause-layout : goal.returns-in-Ok-clause-layout
returns-in-Ok-clause-layout g c = ap layout_for (sym c.if-is_reduced.true)

pub returns-in-Ok-load_from_reader_with_limit-clause-layout : goal.returns-in-Ok-load_from_reader_with_limit-clause-layout
returns-in-Ok-load_from_reader_with_limit-clause-layout g c = ap layout_for (sym c.if-is_reduced.false)
