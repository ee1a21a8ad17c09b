pub mod Appending
pub mod Opening
pub mod Withdrawing
pub mod Working
