-- Searches and walks.
pub mod Batch
pub mod Lanes
pub mod NextFront
pub mod NextNode
pub mod NextNumber
pub mod Prefixed
pub mod Since
pub mod Ranges
pub mod Last
pub mod Keys
pub mod Waiting
