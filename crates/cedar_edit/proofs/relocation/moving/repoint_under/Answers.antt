use Rattle.std.proofs.Common.{rules}
use Rattle.cedar_table.specs.Table.Views.{cells, fields}
use Rattle.cedar_model.specs.Relocation.Renaming.{Always}
use Rattle.cedar_model.proofs.UpdateLemmas.Frame.{frame_same}
use Rattle.cedar_model.proofs.RelocationLemmas.Repointed.{repointed_nothing}
use Rattle.cedar_edit.proofs.relocation.moving.repoint_under.Goals as goal

pub repoint-requires : goal.repoint-requires
repoint-requires g c =
    (search rules, record { sound = c.requires.sound; from_in = c.requires.from_in; not_root = c.requires.not_root; to_in = c.requires.to_in; node = c.requires.node (λ e. c.if-label-ne0.true e) })

pub returns-else-label-ne0-clause-repointed : goal.returns-else-label-ne0-clause-repointed
returns-else-label-ne0-clause-repointed g c = repointed_nothing (cells c.args.table.now) c.args.from c.args.to Always (c.requires.alone (search rules))

pub returns-else-label-ne0-clause-frame : goal.returns-else-label-ne0-clause-frame
returns-else-label-ne0-clause-frame g c = frame_same (fields c.args.table.now)
