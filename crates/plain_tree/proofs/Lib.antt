pub mod ChildrenLemmas
pub mod ListingLemmas
pub mod QueryLemmas
