-- Slots as functions of their numbers: what calls on free slots say of them.
pub mod FirstSlots
pub mod HeldSlots
pub mod PlacesFound
pub mod RecordWritten
