use Rattle.std.proofs.Common.{◌≡◌, ◌-◌, length, map, take, nat_eq}
use Rattle.std.specs.List.{starts_with, filter}
use Rattle.plain_tree.specs.Listing.{vector_entries}
use Rattle.plain_tree.proofs.tree.PlainTree.predict.Given as goal

abbrev pub invariant-loop-path : goal.invariant-loop-path
invariant-loop-path g l =
    l.found.items ≡ map (λ e. (e.1, length e.0 - length l.query)) (filter (λ e. starts_with nat_eq e.0 l.query) (vector_entries (take l.path-index l.path-items)))
