pub mod Lives
pub mod Runs
pub mod Steps
pub mod Words
