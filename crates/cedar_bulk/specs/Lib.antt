-- Tables made of sorted pairs.
pub mod Asked
pub mod Packed
pub mod Sorted
pub mod SortedMarks
pub mod Spans
pub mod Steps
pub mod Words
