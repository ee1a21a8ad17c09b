pub mod Beside
pub mod Placing
pub mod Syncs
