-- A signed number that was cast to its bits and back, as each test of one reads it. An answer that names these needs no search
-- among all that is known at its place.
use Rattle.std.proofs.Common.{◌≡◌, ◌<◌, ◌<ℤ◌, ◌≤ℤ◌, ◌^◌, ◌∙◌, ℕ, ℤ, Bool, FitsSigned, ap, arith, false, of_z, pos, subst, sym, to_z, true, unsigned_abs}
use Rattle.std.proofs.lemmas.Int.{ints, to_z-of_z, to_z_pos}
use lib.Signed.{le_z, lt_z}
use mir.Syntax.{Width}
use mir.Val.{hbits}

negative : (y : ℤ) → le_z (pos 0) y ≡ false → y <ℤ pos 0
negative y h = omega (arith, ints)

at_least : (y k : ℤ) → lt_z y k ≡ false → k ≤ℤ y
at_least y k h = omega (arith, ints)

natural : (y : ℤ) → lt_z y (pos 0) ≡ false → y ≡ pos (unsigned_abs y)
natural y h = omega (arith, ints)

module _ (w : Width) (z : ℤ) (fits : FitsSigned w z) where
  stays : to_z w (of_z w z) ≡ z
  stays = to_z-of_z w z fits

  pub cast_negative : le_z (pos 0) (to_z w (of_z w z)) ≡ false → z <ℤ pos 0
  cast_negative h = negative z (subst (λ y. le_z (pos 0) y ≡ false) stays h)

  pub cast_least : (k : ℤ) → lt_z (to_z w (of_z w z)) k ≡ false → k ≤ℤ z
  cast_least k h = at_least z k (subst (λ y. lt_z y k ≡ false) stays h)

  pub cast_most : (k : ℤ) → lt_z k (to_z w (of_z w z)) ≡ false → z ≤ℤ k
  cast_most k h = at_least k z (subst (λ y. lt_z k y ≡ false) stays h)

  pub cast_natural : lt_z (to_z w (of_z w z)) (pos 0) ≡ false → z ≡ pos (unsigned_abs (to_z w (of_z w z)))
  cast_natural h = sym stays ∙ natural (to_z w (of_z w z)) h

  pub cast_is : (n : ℕ) → z ≡ pos n → unsigned_abs (to_z w (of_z w z)) ≡ n
  cast_is n is = ap unsigned_abs (stays ∙ is)

  pub not_negative : (n : ℕ) → z ≡ pos n → lt_z (to_z w (of_z w z)) (pos 0) ≡ true → ⊥
  not_negative n is h = let less : lt_z (pos n) (pos 0) ≡ true = subst (λ y. lt_z y (pos 0) ≡ true) (stays ∙ is) h in absurd (omega (arith, ints, less))

  -- what has the bits of a small natural is that natural
  pub bits_of : (n : ℕ) → n < 2 ^ hbits w → of_z w z ≡ n → z ≡ pos n
  bits_of n small same = sym stays ∙ ap (to_z w) same ∙ to_z_pos w n small

pub cast_within : (w : Width) (a b : ℤ) → FitsSigned w a → FitsSigned w b → lt_z (to_z w (of_z w b)) (to_z w (of_z w a)) ≡ false → a ≤ℤ b
cast_within w a b first second h = cast_most w a first b (subst (λ y. lt_z y (to_z w (of_z w a)) ≡ false) (to_z-of_z w b second) h)

-- equal bits, equal numbers
pub same_bits : (w : Width) (a b : ℤ) → FitsSigned w a → FitsSigned w b → of_z w a ≡ of_z w b → a ≡ b
same_bits w a b first second same = sym (to_z-of_z w a first) ∙ ap (to_z w) same ∙ to_z-of_z w b second
