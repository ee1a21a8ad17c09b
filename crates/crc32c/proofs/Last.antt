-- The last value of the register is the sum.
use Rattle.std.specs.Prelude.{bit_xor, fold}
use Rattle.std.proofs.Common.{◌≡◌, ℕ, ◌<◌, ◌%◌, ◌^◌, List, sym, ◌∙◌, ap, arith}
use Rattle.std.proofs.Math.Nat.{mod-eq_of_lt}
use Rattle.std.proofs.lemmas.Nat.{xor_of_32}
use Rattle.crc32c.specs.Sums.{after_byte, crc32c}

pub last_is_sum : (register : ℕ) (bytes : List ℕ) → register < 2 ^ 32 → register ≡ fold after_byte 0xffffffff bytes → bit_xor register 0xffffffff ≡ crc32c bytes
unfolding crc32c
last_is_sum register bytes low is =
    sym (mod-eq_of_lt (xor_of_32 register 0xffffffff low (omega arith))) ∙ ap (λ r. bit_xor r 0xffffffff % 2 ^ 32) is
