pub mod WatchedDevice
pub mod Lines
pub mod Written
pub mod Words
