pub mod Loading
pub mod PlaceChecks
pub mod TreeWalk
pub mod Words
