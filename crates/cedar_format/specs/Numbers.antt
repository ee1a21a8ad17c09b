-- The bytes of a number, the lowest first; a signed one is in two's complement.
use Rattle.std.specs.Prelude.{◌≡◌, ℕ, ℤ, List, length, refl, FitsSigned}
use Rattle.std.specs.Int.{w16, w32, w64, cast_unsigned, to_le_bytes}

-- the bytes of an unsigned number of 16 bits
unfoldable pub u16_bytes : ℕ → List ℕ
u16_bytes n = to_le_bytes w16 n

-- the bytes of an unsigned number of 64 bits
unfoldable pub u64_bytes : ℕ → List ℕ
u64_bytes n = to_le_bytes w64 n

-- the bytes of a signed number of 16 bits
unfoldable pub i16_bytes : ℤ → List ℕ
i16_bytes z = to_le_bytes w16 (cast_unsigned w16 z)

-- the bytes of a signed number of 32 bits
unfoldable pub i32_bytes : ℤ → List ℕ
i32_bytes z = to_le_bytes w32 (cast_unsigned w32 z)

-- an unsigned number of 16 bits has two bytes
pub length-u16_bytes : (n : ℕ) → length (u16_bytes n) ≡ 2
unfolding u16_bytes
length-u16_bytes n = refl

-- an unsigned number of 64 bits has eight bytes
pub length-u64_bytes : (n : ℕ) → length (u64_bytes n) ≡ 8
unfolding u64_bytes
length-u64_bytes n = refl

-- a signed number of 16 bits has two bytes
pub length-i16_bytes : (z : ℤ) → length (i16_bytes z) ≡ 2
unfolding i16_bytes
length-i16_bytes z = refl

-- a signed number of 32 bits has four bytes
pub length-i32_bytes : (z : ℤ) → length (i32_bytes z) ≡ 4
unfolding i32_bytes
length-i32_bytes z = refl

-- a signed number of 16 bits
abbrev pub IsI16 : ℤ → Type 0
IsI16 z = FitsSigned w16 z

-- a signed number of 32 bits
abbrev pub IsI32 : ℤ → Type 0
IsI32 z = FitsSigned w32 z
