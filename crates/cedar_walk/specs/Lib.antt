-- How far walks that are under way are in a table.
pub mod Asked
pub mod Batch
pub mod Fronts
pub mod Visits
pub mod Words
pub mod Ranges
pub mod RangePlaces
pub mod Ends
pub mod Keys
pub mod Pending
