-- A table made of sorted pairs.
pub mod BareNode
pub mod FilledNode
pub mod InnerKeys
pub mod LabelByLabel
pub mod LastLabel
pub mod MovedSpans
pub mod NodeByNode
pub mod OneAfterAnother
pub mod OneKey
pub mod OnePair
pub mod PackedBlocks
pub mod Pending
pub mod Runs
pub mod SlotsOfNumbers
pub mod SortedTree
pub mod Spans
