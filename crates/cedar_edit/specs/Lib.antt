pub mod Asked
pub mod Changes
pub mod Step
pub mod Words
