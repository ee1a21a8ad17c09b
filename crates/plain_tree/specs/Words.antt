-- The words that the contracts of this crate cite, from one place.
pub use Rattle.cedar_tree.specs.Queries.{exact, front, predict, prefixes, slots_of_tree, walk}
pub use Rattle.cedar_tree.specs.Stored.{coded_tree}
pub use Rattle.cedar_tree.specs.Tree.{cut, empty_tree, is_bare, number_at, put, Tree}
pub use Rattle.plain_tree.specs.Children.{forest_of, most_le-node_count, node_count, place_of}
pub use Rattle.plain_tree.specs.Listing.{beneath, paths_of, vector_entries}
pub use Rattle.std.proofs.Common.{arith}
pub use Rattle.std.specs.Coded.{coded_ℕ, coded×}
