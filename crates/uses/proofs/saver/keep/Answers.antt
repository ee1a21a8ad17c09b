use Rattle.std.proofs.Common.{subst}
use Rattle.cedarwood.specs.Words.{IsSavedAt, path_calls, table_bytes}
use Rattle.cedarwood.specs.declared.persistence.outcome.Saved.TheVariants.{Placed}
use Rattle.uses.proofs.saver.keep.Goals as goal

pub returns-in-Ok-Placed : goal.returns-in-Ok-Placed
returns-in-Ok-Placed g c =
    let path = c.args.path.now in
    let bytes = table_bytes 1 c.args.words.now.table in
    let calls = c.in-Ok-Placed.calls in
    let placed : IsSavedAt path bytes (Placed calls) = subst (λ saved. IsSavedAt path bytes saved) c.in-Ok-Placed.field-0-is c.in-Ok-Placed.ensures.saved in
    record {
      placed = placed;
      stays = λ before. (c.whole_files_are_safe.ensures before path bytes (path_calls calls)).placed placed;
    }
