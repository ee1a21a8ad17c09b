use Rattle.std.proofs.Common.{◌≡◌, ◌++◌, map, take}
use Rattle.cedar_tree.specs.Queries.{prefixes_forest}
use Rattle.plain_tree.specs.Children.{forest_of}
use Rattle.plain_tree.specs.Listing.{paths_of}
use Rattle.plain_tree.proofs.node.+prefixes_into.Given as goal

abbrev pub invariant-loop-child : goal.invariant-loop-child
invariant-loop-child g l =
    paths_of l.paths.items ≡ paths_of l.initial.paths.items ++ map (λ p. l.path ++ p) (prefixes_forest (forest_of (take l.child-index l.child-items)))
