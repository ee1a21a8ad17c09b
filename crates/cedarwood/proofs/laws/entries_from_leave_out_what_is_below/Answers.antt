use Rattle.std.proofs.Common.{sym}
use Rattle.cedar_tree.specs.Queries.{walk}
use Rattle.cedar_tree.proofs.WalkLemmas.{walk_ascends}
use Rattle.cedarwood.proofs.RangeLawLemmas.{split_at}
use Rattle.cedarwood.proofs.laws.entries_from_leave_out_what_is_below.Goals as goal

pub returns : goal.returns
returns c = λ tree key ascends. sym (split_at key (walk tree) (walk_ascends tree ascends))
