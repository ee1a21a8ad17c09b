use Rattle.std.proofs.Common.{◌∙◌, ap, bit_xor}
use Rattle.cedar_model.specs.Meaning.Family.{below}
use Rattle.cedar_table.specs.Table.Views.{cells}
use Rattle.cedar_table.proofs.table.Table.child_slot.Goals as goal

pub returns : goal.returns
returns g c = ap (λ b. bit_xor b c.from.result) c.base_of.ensures ∙ ap (below (cells c.args.self.now) c.args.node) c.from.ensures
