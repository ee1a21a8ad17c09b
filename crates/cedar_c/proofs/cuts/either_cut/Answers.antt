use Rattle.std.proofs.Common.{rules}
use Rattle.cedar_c.proofs.cuts.either_cut.Goals as goal

pub returns-else-by_characters : goal.returns-else-by_characters
returns-else-by_characters g c = rw c.if-by_characters.false (search rules)
