pub mod Texts
pub mod Completions
pub mod Replies
pub mod Words
