-- Where free slots are found, and the blocks that are made.
pub mod FirstBlock
pub mod Growth
pub mod PlaceSearch
pub mod Tried
