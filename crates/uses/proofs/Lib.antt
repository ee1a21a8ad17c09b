pub mod CountLemmas
pub mod PageLemmas
pub mod KeywordLemmas
pub mod PartLemmas
pub mod TermLemmas
pub mod SuggestionLemmas
