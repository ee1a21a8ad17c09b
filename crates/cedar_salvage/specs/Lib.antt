pub mod Openings
pub mod Restoring
pub mod Whole
pub mod Words
