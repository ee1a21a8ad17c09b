use Rattle.std.proofs.Common.{◌≡◌, ◌++◌, map, take}
use Rattle.cedar_tree.specs.Queries.{walk_forest}
use Rattle.plain_tree.specs.Children.{forest_of}
use Rattle.plain_tree.specs.Listing.{beneath, vector_entries}
use Rattle.plain_tree.proofs.node.+walk_into.Given as goal

abbrev pub invariant-loop-child : goal.invariant-loop-child
invariant-loop-child g l =
    vector_entries l.entries.items ≡ vector_entries l.initial.entries.items ++ map (beneath l.path) (walk_forest (forest_of (take l.child-index l.child-items)))
