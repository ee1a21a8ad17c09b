pub mod Tries
pub mod Words
