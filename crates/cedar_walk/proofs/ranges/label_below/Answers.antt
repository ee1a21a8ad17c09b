use Rattle.std.proofs.Common.{◌<◌, arith, rules, subst, sym}
use Rattle.std.specs.Prelude.{bit_xor}
use Rattle.cedar_table.specs.Table.Views.{fields}
use Rattle.cedar_walk.proofs.WalkLemmas.NextNode.{node_inside}
use Rattle.cedar_walk.proofs.WalkLemmas.Ranges.{label_is}
use Rattle.cedar_walk.proofs.ranges.label_below.Goals as goal

pub base_of-requires : goal.base_of-requires
base_of-requires g c =
    let a = c.requires.at in
    (search rules, node_inside _ (fields c.args.table.now) c.requires.well_formed a.0 c.args.above a.2)

pub overflow_cast-result : goal.overflow_cast-result
overflow_cast-result g c =
    let a = c.requires.at in
    let label = label_is _ (fields c.args.table.now) c.requires.well_formed a.0 a.1 c.args.above c.args.node a.2 a.3 in
    let small : bit_xor c.base_of.result c.args.node < 256 = subst (λ b. bit_xor b c.args.node < 256) (sym c.base_of.ensures) (subst (λ x. x < 256) (sym label.0) label.1) in
    omega (arith, small)
