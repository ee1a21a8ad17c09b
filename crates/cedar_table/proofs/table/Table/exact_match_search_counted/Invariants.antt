use Rattle.std.proofs.Common.{◌≡◌, ◌+◌, ◌<◌, drop, length}
use Rattle.cedar_model.specs.Tree.{Tree, number_at}
use Rattle.cedar_model.specs.Meaning.StandsFor.{Stands}
use Rattle.cedar_model.specs.Meaning.WellFormed.{tree_of}
use Rattle.cedar_table.specs.Table.Views.{cells, fields}
use Rattle.cedar_model.specs.Table.TableFields.{size_of}
use Rattle.cedar_table.proofs.table.Table.exact_match_search_counted.Given as goal

-- the node represents what the labels so far lead to, after one comparison for each
abbrev pub invariant-loop-rest : goal.invariant-loop-rest
invariant-loop-rest g l =
    (l.ticks + length l.rest ≡ l.initial.ticks + length l.key) × (l.node < size_of (fields l.self))
    × ((u : Tree) × Stands (size_of (fields l.self)) (cells l.self) l.node u × (number_at (tree_of (fields l.self)) l.key ≡ number_at u l.rest))

abbrev pub decreases-loop-rest : goal.decreases-loop-rest
decreases-loop-rest g l = length l.rest

abbrev pub invariant-loop-label : goal.invariant-loop-label
invariant-loop-label g l =
    (l.ticks ≡ l.initial.ticks + l.label-index) × (l.node < size_of (fields l.self))
    × ((u : Tree) × Stands (size_of (fields l.self)) (cells l.self) l.node u × (number_at (tree_of (fields l.self)) l.key ≡ number_at u (drop l.label-index l.label-items)))
