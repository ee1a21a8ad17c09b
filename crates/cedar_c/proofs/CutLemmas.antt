-- Tokens written into the first elements of a buffer.
use Rattle.std.proofs.Common.{◌≡◌, ℕ, zero, suc, ◌<◌, ◌≤◌, List, [], ◌∷◌, ◌++◌, length, map, take, drop, set, get_or, refl, ap, arith}
use Rattle.cedar_words.specs.Words.{Token}
use Rattle.cedar_c.specs.Scans.{found_token}
use Rattle.cedar_c.specs.declared.scans.Found.{Found}

-- one more is written
pub token_written : (tokens : List Token) (xs : List Found) (at : ℕ) (d : Token) → at < length tokens → length tokens ≤ length xs
    → set (map found_token (take at tokens) ++ drop at xs) at (found_token (get_or tokens at d)) ≡ map found_token (take (suc at) tokens) ++ drop (suc at) xs
token_written [] xs at d low room = absurd (omega (arith, low))
token_written (t ∷ tokens) [] at d low room = absurd (omega (arith, room))
token_written (t ∷ tokens) (x ∷ xs) zero d low room = refl
token_written (t ∷ tokens) (x ∷ xs) (suc at) d low room = ap (λ l. found_token t ∷ l) (token_written tokens xs at d (omega (arith, low)) (omega (arith, room)))
