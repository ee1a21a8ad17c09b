-- Sets of slots that move.
pub mod Asked
pub mod Renaming
pub mod Reserved
pub mod Wanted
