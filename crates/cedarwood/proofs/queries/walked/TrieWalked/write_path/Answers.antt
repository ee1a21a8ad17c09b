use Rattle.std.proofs.Common.{◌≡◌, ◌-◌, ◌++◌, ℕ, List, length, subst, sym, take}
use Rattle.cedar_model.specs.Meaning.WellFormed.{cells_in}
use Rattle.cedar_walk.specs.Visits.{IsBelow, path_to}
use Rattle.cedarwood.specs.Dictionary.{Dictionary}
use Rattle.cedarwood.proofs.MemoryLemmas.{table_fits}
use Rattle.cedarwood.proofs.queries.walked.TrieWalked.write_path.Goals as goal

pub write_path-requires : goal.write_path-requires
write_path-requires g c =
    (search table_fits, (c.self.invariant, (subst (λ (d : Dictionary). (start : List ℕ) × IsBelow (cells_in d.table) start c.args.depth c.args.node) (sym c.self.view_is) c.requires.below, c.requires.room)))

pub returns : goal.returns
returns g c =
    subst (λ (d : Dictionary). c.write_path.new.key ≡ take (length c.args.key.now - c.args.depth) c.args.key.now ++ path_to d.table c.args.depth c.args.node)
    c.self.view_is c.write_path.ensures
