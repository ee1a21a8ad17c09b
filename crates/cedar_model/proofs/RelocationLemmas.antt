-- Sets of slots that move.
pub mod CarriedNode
pub mod CarriedTree
pub mod Conflict
pub mod KeptSlot
pub mod LongerChain
pub mod Movable
pub mod MovedAround
pub mod OneSlot
pub mod OneTurn
pub mod PlacesFirst
pub mod Repointed
pub mod SetMoved
pub mod SlotBySlot
pub mod WantedLabels
