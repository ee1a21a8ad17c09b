-- What a test of slots and blocks has read.
pub mod Cycle
pub mod ListsRead
pub mod Outcome
pub mod PlacesRead
pub mod RingRead
