pub mod AcceptLemmas
pub mod BoundLemmas
pub mod FrontLemmas
