use Rattle.std.proofs.Common.{◌∙◌, ap, bit_xor, rules}
use Rattle.cedar_model.specs.Meaning.Family.{below}
use Rattle.cedar_table.specs.Table.Views.{cells}
use Rattle.cedar_table.proofs.table.Table.slot_below.Goals as goal

pub node_base-requires : goal.node_base-requires
node_base-requires g c = (search rules, (c.requires.node_in, c.requires.says))

pub returns : goal.returns
returns g c = ap (λ b. bit_xor b c.from.result) c.node_base.ensures ∙ ap (below (cells c.args.self.now) c.args.node) c.from.ensures
