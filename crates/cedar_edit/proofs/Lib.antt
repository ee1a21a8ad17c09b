mod LeafLemmas
mod PackingLemmas
mod PutLemmas
pub mod StepLemmas
mod WantedRoom
