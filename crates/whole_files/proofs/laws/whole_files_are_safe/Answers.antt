use Rattle.whole_files.proofs.Placing.{safe}
use Rattle.whole_files.proofs.laws.whole_files_are_safe.Goals as goal

pub returns : goal.returns
returns c = safe
