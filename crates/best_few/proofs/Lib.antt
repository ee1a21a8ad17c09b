pub mod HeapLemmas
pub mod OrderLemmas
pub mod TurnLemmas
