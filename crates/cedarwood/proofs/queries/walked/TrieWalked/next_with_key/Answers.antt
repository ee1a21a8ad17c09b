use Rattle.std.proofs.Common.{◌≡◌, ℕ, length, List, [], IfOk, MatchOption, Option, subst, sym}
use Rattle.std.specs.Prelude.{OnErr, vec_capacity}
use Rattle.cedar_tree.specs.Walks.{visited_entries}
use Rattle.cedar_model.specs.Meaning.WellFormed.{cells_in}
use Rattle.cedar_walk.specs.declared.visits.Numbered.{Numbered}
use Rattle.cedar_walk.specs.Keys.{KeyGoesOn, NextKeyOutgrows}
use Rattle.cedar_walk.specs.Visits.{ComesToNumber, IsBelow, IsNumberedBelow, left_at}
use Rattle.cedarwood.specs.Dictionary.{Dictionary}
use Rattle.cedarwood.proofs.MemoryLemmas.{table_fits}
use Rattle.cedarwood.proofs.queries.walked.TrieWalked.next_with_key.Goals as goal

pub numbered_after_with_key-requires : goal.numbered_after_with_key-requires
numbered_after_with_key-requires g c =
    (search table_fits, (c.self.invariant, (subst (λ (d : Dictionary). (start : List ℕ) × IsNumberedBelow d.table start c.args.depth c.args.node) (sym c.self.view_is) c.requires.below, c.requires.room)))

pub returns-clause-found : goal.returns-clause-found
returns-clause-found g c =
    subst (λ (d : Dictionary). IfOk c.numbered_after_with_key.result (λ (found : Option Numbered). (start : List ℕ) → IsBelow (cells_in d.table) start c.args.depth c.args.node
    → MatchOption found (visited_entries (left_at d.table start c.args.depth c.args.node) ≡ []) (ComesToNumber d.table start (visited_entries (left_at d.table start c.args.depth c.args.node)))))
    c.self.view_is c.numbered_after_with_key.ensures.found

pub returns-clause-key : goal.returns-clause-key
returns-clause-key g c =
    subst (λ (d : Dictionary). IfOk c.numbered_after_with_key.result (λ (found : Option Numbered). MatchOption found (c.numbered_after_with_key.new.key.items ≡ c.args.key.now.items) (KeyGoesOn d.table c.args.depth c.args.node c.args.key.now.items c.numbered_after_with_key.new.key.items)))
    c.self.view_is c.numbered_after_with_key.ensures.key

pub returns-clause-full : goal.returns-clause-full
returns-clause-full g c =
    subst (λ (d : Dictionary). OnErr c.numbered_after_with_key.result (NextKeyOutgrows d.table c.args.depth c.args.node (length c.args.key.now.items) (vec_capacity c.args.key.now)))
    c.self.view_is c.numbered_after_with_key.ensures.full
