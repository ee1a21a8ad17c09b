use Rattle.std.proofs.Common.{◌≡◌, IfSome, subst}
use Rattle.cedar_walk.specs.declared.visits.Numbered.{Numbered}
use Rattle.cedar_walk.specs.Pending.{IsPending}
use Rattle.cedarwood.specs.Dictionary.{Dictionary}
use Rattle.cedarwood.proofs.MemoryLemmas.{table_fits}
use Rattle.cedarwood.proofs.queries.walked.TrieWalked.first_with_pending.Goals as goal

pub returns-clause-kept : goal.returns-clause-kept
returns-clause-kept g c =
    subst (λ (d : Dictionary). IfSome c.first_with_pending.result (λ (next : Numbered). IsPending d.table c.first_with_pending.new.siblings next.depth next.slot)) c.self.view_is c.first_with_pending.ensures.kept

pub first_with_pending-requires : goal.first_with_pending-requires
first_with_pending-requires g c = (search table_fits, c.self.invariant)
