-- Rings of free slots, after a turn, with a slot out or in.
pub mod FreshBlock
pub mod InBlock
pub mod LinkRead
pub mod LinkedSlots
pub mod Ring
pub mod SlotTaken
pub mod SlotWritten
