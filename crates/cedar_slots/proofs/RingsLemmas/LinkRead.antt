-- A link that is read: how a number from 0 down names a slot.
use Rattle.std.proofs.Common.{◌≡◌, ◌-ℤ◌, ◌<◌, ◌≤ℤ◌, ◌^◌, ℕ, ℤ, arith, Fits, FitsSigned, of_z, pos, to_z, unsigned_abs, w32, w64}
use Rattle.std.proofs.lemmas.Int.{ints}
use lib.Dec.{T}
use lib.Signed.{non_neg}

-- z, turned round, is the number n
pub record Turned (z : ℤ) (n : ℕ) : Type 0 where
  pub small : n < 2 ^ 32
  pub is : to_z w64 (of_z w64 (pos 0 -ℤ to_z w64 (of_z w64 z))) ≡ pos n

pub turned_fits : (z : ℤ) → FitsSigned w32 z → FitsSigned w64 (pos 0 -ℤ to_z w64 (of_z w64 z))
turned_fits z fits = omega (arith, ints)

pub turned : (z : ℤ) → FitsSigned w32 z → z ≤ℤ pos 0 → Turned z (unsigned_abs z)
turned z fits below = record { small = omega (arith, ints); is = omega (arith, ints) }

pub turned_natural : (z : ℤ) (n : ℕ) → Turned z n → T (non_neg (to_z w64 (of_z w64 (pos 0 -ℤ to_z w64 (of_z w64 z))))) × Fits w64 (unsigned_abs (to_z w64 (of_z w64 (pos 0 -ℤ to_z w64 (of_z w64 z)))))
turned_natural z n turned = rw turned.is (tt, record { fits = omega (arith, turned.small) })
