pub mod Builds
pub mod Ends
pub mod Layouts
pub mod Loads
pub mod Words
