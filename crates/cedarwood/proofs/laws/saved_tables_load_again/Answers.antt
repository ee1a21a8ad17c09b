use Rattle.cedarwood.proofs.LoadLemmas.{own_file_loads}
use Rattle.cedarwood.proofs.laws.saved_tables_load_again.Goals as goal

pub returns : goal.returns
returns c = own_file_loads
