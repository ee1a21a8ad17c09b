pub mod EndLemmas
pub mod NearLemmas
pub mod PathLemmas
