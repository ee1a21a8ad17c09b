pub mod EntryRangeLemmas
pub mod SpanLemmas
