use Rattle.std.proofs.Common.{◌<◌, arith, length}
use Rattle.cedar_model.specs.Meaning.Family.{owned_slots}
use Rattle.cedar_table.specs.Table.Views.{cells}
use Rattle.cedar_model.proofs.RelocationLemmas.Conflict.{owned_at_most}
use Rattle.cedar_table.proofs.table.Table.all_labels_of.Goals as goal

pub unreachable-requires : goal.unreachable-requires
unreachable-requires g c =
    let n = c.requires.node in
    let more : 256 < length (owned_slots n.head n.labels) = c.in-None.ensures n.head n.labels n.family in
    omega (arith, more, owned_at_most _ (cells c.args.self.now) c.args.node n.head n.labels n.family)
