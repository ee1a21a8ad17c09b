use Rattle.std.proofs.Common.{subst}
use Rattle.cedar_tree.specs.Queries.{node_at, walk}
use Rattle.cedar_model.specs.Meaning.WellFormed.{tree_of}
use Rattle.cedar_walk.specs.Visits.{ComesToFirst}
use Rattle.cedarwood.specs.Dictionary.{Dictionary}
use Rattle.cedarwood.proofs.MemoryLemmas.{table_fits}
use Rattle.cedarwood.proofs.queries.walked.TrieWalked.first_numbered.Goals as goal

pub first_numbered-requires : goal.first_numbered-requires
first_numbered-requires g c = (search table_fits, c.self.invariant)

pub returns : goal.returns
returns g c = subst (λ (d : Dictionary). ComesToFirst d.table c.args.query.now (walk (node_at (tree_of d.table) c.args.query.now)) c.first_numbered.result) c.self.view_is c.first_numbered.ensures
