-- The register of a sum of two is the sum of their registers: so a byte may be taken at once, and eight of them side by side.
use Rattle.std.proofs.Common.{◌≡◌, inl, inr, ℕ, zero, suc, ◌+◌, ◌*◌, ◌/◌, ◌%◌, ◌^◌, ◌<◌, Bool, true, ◌&&◌, List, [], ◌∷◌, get_or, length, nat_eq, refl, sym, ◌∙◌, ap, arith}
use Rattle.std.specs.Prelude.{bit_xor, ◌==◌, cond, fold}
use Rattle.std.proofs.Math.Nat.{mod-eq_of_lt, mul_assoc, pow-suc}
use Rattle.std.specs.Int.Bits.{xor_assoc, xor_shifted, xor_zero_r}
use Rattle.std.proofs.lemmas.Nat.{xor_comm, xor_mod, xor_shr}
use Rattle.std.proofs.lemmas.Bool.{and_parts, cases_eq, eqb-true}
use Rattle.crc32c.specs.Sums.{after_bit, after_bits, after_byte, feedback, generator}

-- ---- two registers at once

-- four, two and two
swapped : (a b c d : ℕ) → bit_xor (bit_xor a b) (bit_xor c d) ≡ bit_xor (bit_xor a c) (bit_xor b d)
swapped a b c d =
    xor_assoc a b (bit_xor c d)
    ∙ ap (bit_xor a) (sym (xor_assoc b c d) ∙ ap (λ x. bit_xor x d) (xor_comm b c) ∙ xor_assoc c b d)
    ∙ sym (xor_assoc a c (bit_xor b d))

-- what is carried goes by the lowest bit
abbrev by_bit : ℕ → ℕ
by_bit bit = cond (bit == 1) generator 0

by_bits : (a b : ℕ) → a < 2 → b < 2 → by_bit (bit_xor a b) ≡ bit_xor (by_bit a) (by_bit b)
by_bits zero zero low high = refl
by_bits zero (suc zero) low high = refl
by_bits (suc zero) zero low high = refl
by_bits (suc zero) (suc zero) low high = refl
by_bits (suc (suc a)) b low high = absurd (omega (arith, low))
by_bits zero (suc (suc b)) low high = absurd (omega (arith, high))
by_bits (suc zero) (suc (suc b)) low high = absurd (omega (arith, high))

carried_both : (a b : ℕ) → feedback (bit_xor a b) ≡ bit_xor (feedback a) (feedback b)
unfolding feedback
carried_both a b = ap by_bit (xor_mod a b 1) ∙ by_bits (a % 2) (b % 2) (omega arith) (omega arith)

bit_of_both : (a b : ℕ) → after_bit (bit_xor a b) ≡ bit_xor (after_bit a) (after_bit b)
unfolding after_bit
bit_of_both a b =
    (λ i. bit_xor (xor_shr a b 1 i) (carried_both a b i))
    ∙ swapped (a / 2) (b / 2) (feedback a) (feedback b)

pub bits_of_both : (n a b : ℕ) → after_bits n (bit_xor a b) ≡ bit_xor (after_bits n a) (after_bits n b)
unfolding after_bits
bits_of_both zero a b = refl
bits_of_both (suc n) a b = ap (after_bits n) (bit_of_both a b) ∙ bits_of_both n (after_bit a) (after_bit b)

-- ---- what has left nothing yet

even_bit : (m : ℕ) → after_bit (m * 2) ≡ m
unfolding after_bit feedback
even_bit m =
    let half : m * 2 / 2 ≡ m = omega arith in
    let even : m * 2 % 2 ≡ 0 = omega arith in
    (λ i. bit_xor (half i) (by_bit (even i))) ∙ xor_zero_r m

pub high_bits : (n m : ℕ) → after_bits n (m * 2 ^ n) ≡ m
unfolding after_bits
high_bits zero m = omega arith
high_bits (suc n) m =
    let double : m * 2 ^ suc n ≡ m * 2 ^ n * 2 = ap (λ p. m * p) (pow-suc 2 n) ∙ sym (mul_assoc m (2 ^ n) 2) in
    ap (λ x. after_bits n (after_bit x)) double ∙ ap (after_bits n) (even_bit (m * 2 ^ n)) ∙ high_bits n m

-- ---- a byte at once

pub byte_at_once : (register byte : ℕ) → byte < 256 → after_byte register byte ≡ bit_xor (register / 2 ^ 8) (after_bits 8 (bit_xor register byte % 256))
unfolding after_byte
byte_at_once register byte low =
    let x = bit_xor register byte in
    let split : x ≡ bit_xor (x / 256 * 2 ^ 8) (x % 256) = omega arith ∙ sym (xor_shifted (x / 256) 8 (x % 256) (omega arith)) in
    let small : byte / 2 ^ 8 ≡ 0 = omega (arith, low) in
    let high : x / 256 ≡ register / 2 ^ 8 = xor_shr register byte 8 ∙ ap (bit_xor (register / 2 ^ 8)) small ∙ xor_zero_r (register / 2 ^ 8) in
    ap (after_bits 8) split ∙ bits_of_both 8 (x / 256 * 2 ^ 8) (x % 256)
    ∙ ap (λ y. bit_xor y (after_bits 8 (x % 256))) (high_bits 8 (x / 256) ∙ high)

-- ---- bytes side by side

bits_more : (m n register : ℕ) → after_bits n (after_bits m register) ≡ after_bits (m + n) register
unfolding after_bits
bits_more zero n register =
    let count : n ≡ zero + n = omega arith in
    ap (λ k. after_bits k register) count
bits_more (suc m) n register =
    let count : suc (m + n) ≡ suc m + n = omega arith in
    bits_more m n (after_bit register) ∙ ap (λ k. after_bits k register) count

-- what bytes make of one register doesn't depend on what else there is
bytes_of_both : (x y : ℕ) (bytes : List ℕ) → fold after_byte (bit_xor x y) bytes ≡ bit_xor (after_bits (length bytes * 8) x) (fold after_byte y bytes)
unfolding after_bits after_byte
bytes_of_both x y [] = refl
bytes_of_both x y (byte ∷ rest) =
    let first : after_byte (bit_xor x y) byte ≡ bit_xor (after_bits 8 x) (after_byte y byte) =
    ap (after_bits 8) (xor_assoc x y byte) ∙ bits_of_both 8 x (bit_xor y byte) in
    let count : 8 + length rest * 8 ≡ suc (length rest) * 8 = omega arith in
    ap (λ r. fold after_byte r rest) first
    ∙ bytes_of_both (after_bits 8 x) (after_byte y byte) rest
    ∙ ap (λ t. bit_xor t (fold after_byte (after_byte y byte) rest)) (bits_more 8 (length rest * 8) x ∙ ap (λ k. after_bits k x) count)

-- the first byte and the register's lowest one leave their part, and the others go on with the rest of the register
pub first_apart : (register byte : ℕ) (rest : List ℕ) → byte < 256 →
    fold after_byte register (byte ∷ rest) ≡ bit_xor (after_bits (8 + length rest * 8) (bit_xor register byte % 256)) (fold after_byte (register / 2 ^ 8) rest)
first_apart register byte rest low =
    let place = bit_xor register byte % 256 in
    let parts : after_byte register byte ≡ bit_xor (after_bits 8 place) (register / 2 ^ 8) =
    byte_at_once register byte low ∙ xor_comm (register / 2 ^ 8) (after_bits 8 place) in
    ap (λ r. fold after_byte r rest) parts
    ∙ bytes_of_both (after_bits 8 place) (register / 2 ^ 8) rest
    ∙ ap (λ t. bit_xor t (fold after_byte (register / 2 ^ 8) rest)) (bits_more 8 (length rest * 8) place)

-- a byte and nothing in the register
byte_alone : (byte : ℕ) (rest : List ℕ) → byte < 256 → fold after_byte 0 (byte ∷ rest) ≡ bit_xor (after_bits (8 + length rest * 8) byte) (fold after_byte 0 rest)
byte_alone byte rest low =
    first_apart 0 byte rest low
    ∙ ap (λ place. bit_xor (after_bits (8 + length rest * 8) place) (fold after_byte 0 rest)) (mod-eq_of_lt low)

pub four_alone : (e f g h : ℕ) → e < 256 → f < 256 → g < 256 → h < 256 →
    fold after_byte 0 (e ∷ f ∷ g ∷ h ∷ []) ≡ bit_xor (after_bits 32 e) (bit_xor (after_bits 24 f) (bit_xor (after_bits 16 g) (after_bits 8 h)))
four_alone e f g h e-low f-low g-low h-low =
    byte_alone e (f ∷ g ∷ h ∷ []) e-low
    ∙ ap (bit_xor (after_bits 32 e)) (byte_alone f (g ∷ h ∷ []) f-low
    ∙ ap (bit_xor (after_bits 24 f)) (byte_alone g (h ∷ []) g-low
    ∙ ap (bit_xor (after_bits 16 g)) (byte_alone h [] h-low ∙ xor_zero_r (after_bits 8 h))))

-- the register's four bytes go with the first four
pub eight_at_once : (r a b c d e f g h : ℕ) → r < 2 ^ 32 → a < 256 → b < 256 → c < 256 → d < 256 → e < 256 → f < 256 → g < 256 → h < 256 →
    fold after_byte r (a ∷ b ∷ c ∷ d ∷ e ∷ f ∷ g ∷ h ∷ [])
    ≡ bit_xor (after_bits 64 (bit_xor r a % 256)) (bit_xor (after_bits 56 (bit_xor (r / 2 ^ 8) b % 256))
    (bit_xor (after_bits 48 (bit_xor (r / 2 ^ 16) c % 256)) (bit_xor (after_bits 40 (bit_xor (r / 2 ^ 24) d % 256))
    (bit_xor (after_bits 32 e) (bit_xor (after_bits 24 f) (bit_xor (after_bits 16 g) (after_bits 8 h)))))))
eight_at_once r a b c d e f g h r-low a-low b-low c-low d-low e-low f-low g-low h-low =
    let two : r / 2 ^ 8 / 2 ^ 8 ≡ r / 2 ^ 16 = omega arith in
    let three : r / 2 ^ 16 / 2 ^ 8 ≡ r / 2 ^ 24 = omega arith in
    let none : r / 2 ^ 24 / 2 ^ 8 ≡ 0 = omega (arith, r-low) in
    let last = e ∷ f ∷ g ∷ h ∷ [] in
    let fourth =
    first_apart (r / 2 ^ 24) d last d-low
    ∙ ap (λ x. bit_xor (after_bits 40 (bit_xor (r / 2 ^ 24) d % 256)) (fold after_byte x last)) none
    ∙ ap (bit_xor (after_bits 40 (bit_xor (r / 2 ^ 24) d % 256))) (four_alone e f g h e-low f-low g-low h-low) in
    let third =
    first_apart (r / 2 ^ 16) c (d ∷ last) c-low
    ∙ ap (λ x. bit_xor (after_bits 48 (bit_xor (r / 2 ^ 16) c % 256)) (fold after_byte x (d ∷ last))) three
    ∙ ap (bit_xor (after_bits 48 (bit_xor (r / 2 ^ 16) c % 256))) fourth in
    let second =
    first_apart (r / 2 ^ 8) b (c ∷ d ∷ last) b-low
    ∙ ap (λ x. bit_xor (after_bits 56 (bit_xor (r / 2 ^ 8) b % 256)) (fold after_byte x (c ∷ d ∷ last))) two
    ∙ ap (bit_xor (after_bits 56 (bit_xor (r / 2 ^ 8) b % 256))) third in
    first_apart r a (b ∷ c ∷ d ∷ last) a-low ∙ ap (bit_xor (after_bits 64 (bit_xor r a % 256))) second

pub eight_of : (r : ℕ) (bytes : List ℕ) → r < 2 ^ 32 → length bytes ≡ 8 → ((i : ℕ) → get_or bytes i 0 < 256) →
    fold after_byte r bytes
    ≡ bit_xor (after_bits 64 (bit_xor r (get_or bytes 0 0) % 256)) (bit_xor (after_bits 56 (bit_xor (r / 2 ^ 8) (get_or bytes 1 0) % 256))
    (bit_xor (after_bits 48 (bit_xor (r / 2 ^ 16) (get_or bytes 2 0) % 256)) (bit_xor (after_bits 40 (bit_xor (r / 2 ^ 24) (get_or bytes 3 0) % 256))
    (bit_xor (after_bits 32 (get_or bytes 4 0)) (bit_xor (after_bits 24 (get_or bytes 5 0)) (bit_xor (after_bits 16 (get_or bytes 6 0)) (after_bits 8 (get_or bytes 7 0))))))))
eight_of r (a ∷ b ∷ c ∷ d ∷ e ∷ f ∷ g ∷ h ∷ []) r-low is low =
    eight_at_once r a b c d e f g h r-low (low 0) (low 1) (low 2) (low 3) (low 4) (low 5) (low 6) (low 7)
eight_of r [] r-low is low = absurd (omega (arith, is))
eight_of r (a ∷ []) r-low is low = absurd (omega (arith, is))
eight_of r (a ∷ b ∷ []) r-low is low = absurd (omega (arith, is))
eight_of r (a ∷ b ∷ c ∷ []) r-low is low = absurd (omega (arith, is))
eight_of r (a ∷ b ∷ c ∷ d ∷ []) r-low is low = absurd (omega (arith, is))
eight_of r (a ∷ b ∷ c ∷ d ∷ e ∷ []) r-low is low = absurd (omega (arith, is))
eight_of r (a ∷ b ∷ c ∷ d ∷ e ∷ f ∷ []) r-low is low = absurd (omega (arith, is))
eight_of r (a ∷ b ∷ c ∷ d ∷ e ∷ f ∷ g ∷ []) r-low is low = absurd (omega (arith, is))
eight_of r (a ∷ b ∷ c ∷ d ∷ e ∷ f ∷ g ∷ h ∷ i ∷ rest) r-low is low = absurd (omega (arith, is))

-- ---- the table, at each of its places by computing

unfoldable pub agree_below : (ℕ → ℕ) → (ℕ → ℕ) → ℕ → Bool
agree_below f g zero = true
agree_below f g (suc n) = nat_eq (f n) (g n) && agree_below f g n

pub agree_at : (f g : ℕ → ℕ) (n : ℕ) → agree_below f g n ≡ true → (k : ℕ) → k < n → f k ≡ g k
unfolding agree_below
agree_at f g zero h k low = absurd (omega (arith, low))
agree_at f g (suc n) h k low =
    let both = and_parts (nat_eq (f n) (g n)) (agree_below f g n) h in
    elim (cases_eq k n) [ inl same ↦ ap f same ∙ eqb-true (f n) (g n) both.0 ∙ ap g (sym same) | inr other ↦ agree_at f g n both.1 k (omega (arith, low, other)) ]
