use Rattle.std.proofs.Common.{◌≡◌, ℕ, List, [], MatchOption, subst, sym}
use Rattle.cedar_tree.specs.Walks.{visited_entries}
use Rattle.cedar_model.specs.Meaning.WellFormed.{cells_in}
use Rattle.cedar_walk.specs.Visits.{ComesToNumber, IsBelow, IsNumberedBelow, left_at}
use Rattle.cedarwood.specs.Dictionary.{Dictionary}
use Rattle.cedarwood.proofs.MemoryLemmas.{table_fits}
use Rattle.cedarwood.proofs.queries.walked.TrieWalked.next_numbered.Goals as goal

pub numbered_after-requires : goal.numbered_after-requires
numbered_after-requires g c =
    (search table_fits, (c.self.invariant, subst (λ (d : Dictionary). (start : List ℕ) × IsNumberedBelow d.table start c.args.depth c.args.node) (sym c.self.view_is) c.requires.below))

pub returns : goal.returns
returns g c =
    subst (λ (d : Dictionary). (start : List ℕ) → IsBelow (cells_in d.table) start c.args.depth c.args.node → MatchOption c.numbered_after.result (visited_entries (left_at d.table start c.args.depth c.args.node) ≡ []) (ComesToNumber d.table start (visited_entries (left_at d.table start c.args.depth c.args.node))))
    c.self.view_is c.numbered_after.ensures
