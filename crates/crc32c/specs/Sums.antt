-- CRC-32C (Castagnoli), bit by bit. The bytes are read as a polynomial over two elements, the lowest bit of each byte first; the sum is the
-- remainder by a generator of degree 32, with the first 32 bits and the remainder turned over.
use Rattle.std.specs.Prelude.{ℕ, zero, suc, ◌/◌, ◌%◌, ◌^◌, ◌==◌, cond, List, fold, bit_xor}

-- the generator's coefficients below the highest, that of the power 31 in the lowest bit
abbrev pub generator : ℕ
generator = 0x82f63b78

-- what is added if the bit that leaves the register is set
unfoldable pub feedback : ℕ → ℕ
feedback register = cond (register % 2 == 1) generator 0

-- the register after one more bit
unfoldable pub after_bit : ℕ → ℕ
after_bit register = bit_xor (register / 2) (feedback register)

-- the register after n more bits
unfoldable pub after_bits : ℕ → ℕ → ℕ
after_bits zero register = register
after_bits (suc n) register = after_bits n (after_bit register)

-- the register after one more byte
unfoldable pub after_byte : ℕ → ℕ → ℕ
after_byte register byte = after_bits 8 (bit_xor register byte)

-- the sum of some bytes, a number of 32 bits
unfoldable pub crc32c : List ℕ → ℕ
crc32c bytes = bit_xor (fold after_byte 0xffffffff bytes) 0xffffffff % 2 ^ 32
