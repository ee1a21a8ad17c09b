use Rattle.std.proofs.Common.{ap, arith}
use Rattle.cedar_slots.specs.declared.records.NInfoRecord.{NInfoRecord}
use Rattle.cedar_slots.specs.Slots.{blank_info}
use Rattle.cedar_table.proofs.table.Table.child.Goals as goal

pub returns : goal.returns
returns g c =
    ap (λ (n : NInfoRecord). n.child) (c.at.ensures blank_info)

pub at-requires : goal.at-requires
at-requires g c = omega (arith, c.requires, c.args.self.now.places.blocks.ready, c.args.self.now.places.infos_ready)
