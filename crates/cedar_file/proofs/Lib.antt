pub mod ChecksLemmas
pub mod LoadLemmas
pub mod TreeLemmas
