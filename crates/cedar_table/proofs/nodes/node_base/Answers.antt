use Rattle.std.proofs.Common.{ap}
use Rattle.cedar_model.specs.Meaning.Family.{base_in}
use Rattle.cedar_table.proofs.nodes.node_base.Goals as goal

pub returns-in-AtBase : goal.returns-in-AtBase
returns-in-AtBase g c = ap base_in c.in-AtBase.ensures

pub returns-in-OwnNumber : goal.returns-in-OwnNumber
returns-in-OwnNumber g c = ap base_in c.in-OwnNumber.ensures

pub returns-in-Nothing : goal.returns-in-Nothing
returns-in-Nothing g c = ap base_in c.in-Nothing.ensures
