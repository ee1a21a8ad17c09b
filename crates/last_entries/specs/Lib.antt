pub mod Nearness
pub mod Words
