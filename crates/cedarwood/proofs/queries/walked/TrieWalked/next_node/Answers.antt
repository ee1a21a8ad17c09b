use Rattle.std.proofs.Common.{ℕ, List, subst, sym}
use Rattle.cedar_model.specs.Meaning.WellFormed.{cells_in}
use Rattle.cedar_walk.specs.Visits.{GoesToNode, IsBelow}
use Rattle.cedarwood.specs.Dictionary.{Dictionary}
use Rattle.cedarwood.proofs.MemoryLemmas.{table_fits}
use Rattle.cedarwood.proofs.queries.walked.TrieWalked.next_node.Goals as goal

pub node_after-requires : goal.node_after-requires
node_after-requires g c = (search table_fits, (c.self.invariant, subst (λ (d : Dictionary). (start : List ℕ) × IsBelow (cells_in d.table) start c.args.depth c.args.node) (sym c.self.view_is) c.requires.below))

pub returns : goal.returns
returns g c = subst (λ (d : Dictionary). GoesToNode d.table c.args.depth c.args.node c.node_after.result) c.self.view_is c.node_after.ensures
