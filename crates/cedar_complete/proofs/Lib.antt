pub mod RangeEndLemmas
pub mod WithinLemmas
