-- The lists of blocks, and what the blocks count.
pub mod BlockMoved
pub mod FreeCounts
pub mod LinkedBlocks
pub mod ThreeLists
