mod LabelLemmas
pub mod RoomLemmas
mod SamePlaces
mod SearchLemmas
