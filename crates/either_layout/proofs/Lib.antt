pub mod EitherLemmas
