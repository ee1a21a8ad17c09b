pub mod DigitLemmas
pub mod PairLemmas
