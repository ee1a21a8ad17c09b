pub mod Bytes
pub mod Figures
pub mod Filling
pub mod Writing
