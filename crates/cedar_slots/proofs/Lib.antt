pub mod Blanks
pub mod Casts
pub mod ListsLemmas
pub mod PlacementLemmas
pub mod RingsLemmas
