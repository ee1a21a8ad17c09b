use Rattle.cedarwood.proofs.LoadLemmas.{loaded_saves_again}
use Rattle.cedarwood.proofs.laws.loaded_files_save_again.Goals as goal

pub returns : goal.returns
returns c = loaded_saves_again
