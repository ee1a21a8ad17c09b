use Rattle.std.proofs.Common.{◌≡◌, [], MatchOption, subst, sym, true}
use Rattle.cedar_walk.specs.Ranges.{entries_since}
use Rattle.cedar_walk.specs.Visits.{ComesToNumber}
use Rattle.cedar_model.specs.Meaning.WellFormed.{tree_of}
use Rattle.cedarwood.specs.Dictionary.{Dictionary}
use Rattle.cedarwood.proofs.MemoryLemmas.{table_fits}
use Rattle.cedarwood.proofs.queries.walked.TrieWalked.first_since.Goals as goal

pub first_since-requires : goal.first_since-requires
first_since-requires g c =
    (search table_fits, (c.self.invariant, subst (λ (d : Dictionary). d.table.ordered ≡ true) (sym c.self.view_is) c.requires.ordered))

pub returns : goal.returns
returns g c =
    subst (λ (d : Dictionary). MatchOption c.first_since.result (entries_since (tree_of d.table) c.args.key.now ≡ []) (ComesToNumber d.table [] (entries_since (tree_of d.table) c.args.key.now)))
    c.self.view_is c.first_since.ensures
