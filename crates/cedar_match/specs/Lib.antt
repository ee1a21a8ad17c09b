pub mod Matching
pub mod TableNodes
pub mod Words
