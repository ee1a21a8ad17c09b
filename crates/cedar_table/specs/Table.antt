-- A table and its parts as their fields.
pub mod Nodes
pub mod Parts
pub mod Room
pub mod Views
