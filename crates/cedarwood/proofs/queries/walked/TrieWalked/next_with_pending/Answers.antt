use Rattle.std.proofs.Common.{◌≡◌, ℕ, List, [], IfSome, MatchOption, subst, sym}
use Rattle.cedar_tree.specs.Walks.{visited_entries}
use Rattle.cedar_model.specs.Meaning.WellFormed.{cells_in}
use Rattle.cedar_walk.specs.declared.visits.Numbered.{Numbered}
use Rattle.cedar_walk.specs.Pending.{IsPending}
use Rattle.cedar_walk.specs.Visits.{ComesToNumber, IsBelow, IsNumberedBelow, left_at}
use Rattle.cedarwood.specs.Dictionary.{Dictionary}
use Rattle.cedarwood.proofs.MemoryLemmas.{table_fits}
use Rattle.cedarwood.proofs.queries.walked.TrieWalked.next_with_pending.Goals as goal

pub numbered_after_with_pending-requires : goal.numbered_after_with_pending-requires
numbered_after_with_pending-requires g c =
    let below = subst (λ (d : Dictionary). (start : List ℕ) × IsNumberedBelow d.table start c.args.depth c.args.node) (sym c.self.view_is) c.requires.below in
    let kept = subst (λ (d : Dictionary). IsPending d.table c.args.siblings.now c.args.depth c.args.node) (sym c.self.view_is) c.requires.kept in
    (search table_fits, (c.self.invariant, (below, kept)))

pub returns-clause-found : goal.returns-clause-found
returns-clause-found g c =
    subst (λ (d : Dictionary). (start : List ℕ) → IsBelow (cells_in d.table) start c.args.depth c.args.node → MatchOption c.numbered_after_with_pending.result (visited_entries (left_at d.table start c.args.depth c.args.node) ≡ []) (ComesToNumber d.table start (visited_entries (left_at d.table start c.args.depth c.args.node))))
    c.self.view_is c.numbered_after_with_pending.ensures.found

pub returns-clause-kept : goal.returns-clause-kept
returns-clause-kept g c =
    subst (λ (d : Dictionary). IfSome c.numbered_after_with_pending.result (λ (next : Numbered). IsPending d.table c.numbered_after_with_pending.new.siblings next.depth next.slot)) c.self.view_is c.numbered_after_with_pending.ensures.kept
