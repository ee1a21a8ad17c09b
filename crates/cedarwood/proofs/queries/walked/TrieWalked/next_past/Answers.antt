use Rattle.std.proofs.Common.{ℕ, List, subst, sym}
use Rattle.cedar_model.specs.Meaning.WellFormed.{cells_in}
use Rattle.cedar_walk.specs.Visits.{IsBelow, SkipsToNode}
use Rattle.cedarwood.specs.Dictionary.{Dictionary}
use Rattle.cedarwood.proofs.MemoryLemmas.{table_fits}
use Rattle.cedarwood.proofs.queries.walked.TrieWalked.next_past.Goals as goal

pub node_past-requires : goal.node_past-requires
node_past-requires g c = (search table_fits, (c.self.invariant, subst (λ (d : Dictionary). (start : List ℕ) × IsBelow (cells_in d.table) start c.args.depth c.args.node) (sym c.self.view_is) c.requires.below))

pub returns : goal.returns
returns g c = subst (λ (d : Dictionary). SkipsToNode d.table c.args.depth c.args.node c.node_past.result) c.self.view_is c.node_past.ensures
