pub mod DecodingLemmas
pub mod EncodingLemmas
