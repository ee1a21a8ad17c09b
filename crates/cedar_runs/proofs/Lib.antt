mod LifeLemmas
mod RunLemmas
mod StepLemmas
