pub mod Changes
pub mod Finding
pub mod Keeping
pub mod Looking
pub mod Openings
pub mod Restoring
