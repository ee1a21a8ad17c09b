-- The words that the contracts of this crate cite, from one place.
pub use Rattle.cedar_tree.specs.Edits.{HasPath, with_number, without_leaf, without_number}
pub use Rattle.cedar_tree.specs.Queries.{found_at, front, node_at, walk}
pub use Rattle.cedar_tree.specs.StepLaws.{CutEndsAbove, CutForgetsLeaf, CutLeafChangesItsNode}
pub use Rattle.cedar_tree.specs.StepLaws.{CutNumberChangesItsNode, CutTakesLeaf, LeafHasPath}
pub use Rattle.cedar_tree.specs.StepLaws.{LeafIsBare, LeafKeepsAscending, LeafKeepsNumbers}
pub use Rattle.cedar_tree.specs.StepLaws.{PutAddsLeaf, WalkGoesDown, WalkGoesRight}
pub use Rattle.cedar_tree.specs.StepLaws.{WalkVisitsPredicted}
pub use Rattle.cedar_tree.specs.Tree.{cut, empty_tree, has_label, is_bare, IsAscending}
pub use Rattle.cedar_tree.specs.Tree.{IsSoundBelow, none, put, subtree, Tree}
pub use Rattle.cedar_tree.specs.Walks.{behind, forwards, front_from, node_up, tree_visits}
pub use Rattle.cedar_tree.specs.Walks.{visited_entries, visits_after, visits_left}
pub use Rattle.std.specs.List.{cons_option}
