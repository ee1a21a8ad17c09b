-- What is in a tree, key by key, and what a put and a cut change of it.
pub mod Built
pub mod Changes
pub mod Counts
pub mod Extensions
pub mod Keys
pub mod Leaves
pub mod Pairs
pub mod Prefixes
pub mod Steps
