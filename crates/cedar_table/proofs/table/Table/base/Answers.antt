use Rattle.std.proofs.Common.{◌∙◌, ap, arith, rules, w32, ℤ, FitsSigned}
use Rattle.std.proofs.lemmas.Int.{to_z-of_z}
use Rattle.cedar_slots.specs.declared.records.NodeRecord.{NodeRecord}
use Rattle.cedar_slots.specs.Slots.{blank_node}
use Rattle.cedar_table.proofs.table.Table.base.Goals as goal

pub at-requires : goal.at-requires
at-requires g c = omega (arith, c.requires, c.args.self.now.places.blocks.ready, c.args.self.now.places.nodes_ready)

pub returns : goal.returns
returns g c =
    let r : ℤ = c.at.result.base in
    let fits : FitsSigned w32 r = search rules in
    to_z-of_z w32 r fits ∙ ap (λ (n : NodeRecord). n.base) (c.at.ensures blank_node)
