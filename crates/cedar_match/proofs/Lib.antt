pub mod MatchLemmas
pub mod TableLemmas
