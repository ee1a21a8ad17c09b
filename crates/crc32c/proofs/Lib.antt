pub mod Last
pub mod Linear
