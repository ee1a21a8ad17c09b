use Rattle.cedar_format.proofs.OneTable.{one_formed_table}
use Rattle.cedar_format.proofs.laws.one_table_for_its_bytes.Goals as goal

pub returns : goal.returns
returns c = one_formed_table
