-- What the slots of a table represent.
pub mod Family
pub mod Laws
pub mod Marks
pub mod Reading
pub mod StandsFor
pub mod WellFormed
