use Rattle.cedar_format.proofs.Passing.{tables_pass}
use Rattle.cedar_format.proofs.laws.well_formed_tables_pass.Goals as goal

pub returns : goal.returns
returns c = tables_pass
