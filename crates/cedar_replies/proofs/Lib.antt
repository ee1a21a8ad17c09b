pub mod BatchLemmas
mod TextLemmas
pub mod CollectLemmas
pub mod FewCutsLemmas
mod EmptyTextLemmas
mod EndLemmas
