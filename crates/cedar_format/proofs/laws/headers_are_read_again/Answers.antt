use Rattle.cedar_format.proofs.Passing.{read_again}
use Rattle.cedar_format.proofs.laws.headers_are_read_again.Goals as goal

pub returns : goal.returns
returns c = read_again
