pub mod Counts
pub mod Keywords
pub mod Opened
pub mod Pages
pub mod Parts
pub mod Saves
pub mod Suggestions
pub mod Words
