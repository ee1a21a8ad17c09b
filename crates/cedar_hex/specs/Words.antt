-- The words that the contracts of this crate cite, from one place.
pub use Rattle.hex.specs.Hex.{decode_of, decode_pairs, encode_lower, hex_digit_value, lower_digits}
pub use Rattle.std.specs.Result.{result_ok}
