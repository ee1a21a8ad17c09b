-- Changes of a node, and of a key.
pub mod Asked
pub mod KeyWalk
pub mod NodeEdits
pub mod Own
pub mod Packing
pub mod Steps
pub mod Trims
