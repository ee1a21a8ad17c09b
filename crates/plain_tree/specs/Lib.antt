pub mod Children
pub mod Listing
pub mod Words
