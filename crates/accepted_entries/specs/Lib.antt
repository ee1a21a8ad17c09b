pub mod Accepted
pub mod Bounds
pub mod Words
