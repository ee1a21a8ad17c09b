-- A number in four bytes is read back.
use Rattle.std.specs.Prelude.{◌%◌, ◌/◌}
use Rattle.std.proofs.Common.{◌≡◌, ℕ, ◌+◌, ◌*◌, ◌<◌, List, arith}
use Rattle.crc32c.specs.Sums.{crc32c}

pub told_length : (n : ℕ) → n < 4294967296 → n % 256 + 256 * (n / 256 % 256) + 65536 * (n / 65536 % 256) + 16777216 * (n / 16777216 % 256) ≡ n
told_length n short = omega (arith, short)

-- a sum has four bytes
pub sum_below : (bytes : List ℕ) → crc32c bytes < 4294967296
unfolding crc32c
sum_below bytes = omega arith
